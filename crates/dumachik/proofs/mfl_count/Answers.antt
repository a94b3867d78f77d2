-- `dumachik::mfl_count` meets its contract: what is given and a refusal's place are below 2^32, so the word can be told. Assumes nothing.
use mathlib.Core.Path.{◌∙◌, ap, sym, subst}
use Rattle.words.specs.Word.{word, Below}
use Rattle.dumachik.proofs.Below.{count-below}
use Rattle.dumachik.proofs.mfl_count.Goals as goal

pub word_of-requires : goal.word_of-requires
word_of-requires c =
    let a = c.args in
    subst Below (sym c.count_under.ensures) (count-below a.ceiling a.text.now)

pub returns : goal.returns
returns c = c.word_of.ensures ∙ ap word c.count_under.ensures
