-- `dumachik::mfl_profile` meets its contract: what is given and a refusal's place are below 2^32, so the word can be told. Assumes nothing.
use mathlib.Core.Path.{◌∙◌, ap, sym, subst}
use Rattle.reading.specs.Answer.{Answer}
use Rattle.profiling.specs.Profile.{Yes}
use Rattle.read_profile.specs.Answers.{yes_as_zero}
use Rattle.words.specs.Word.{word, Below}
use Rattle.dumachik.proofs.Below.{profile_below}
use Rattle.dumachik.proofs.mfl_profile.Goals as goal

pub word_of-requires : goal.word_of-requires
word_of-requires c =
    let a = c.args in
    subst (λ (x : Answer Yes). Below (yes_as_zero x)) (sym c.profile_under.ensures) (profile_below a.ceiling a.text.now)

pub returns : goal.returns
returns c = c.word_of.ensures ∙ ap (λ (x : Answer Yes). word (yes_as_zero x)) c.profile_under.ensures
