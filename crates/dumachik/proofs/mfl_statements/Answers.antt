-- `dumachik::mfl_statements` meets its contract: what is given and a refusal's place are below 2^32, so the word can be told. Assumes nothing.
use mathlib.Core.Path.{◌∙◌, ap, sym, subst}
use lib.ListN.{length}
use Rattle.words.specs.Word.{word, Below}
use Rattle.dumachik.proofs.Below.{statements-below}
use Rattle.dumachik.proofs.mfl_statements.Goals as goal

pub word_of-requires : goal.word_of-requires
word_of-requires c =
    let a = c.args in
    subst Below (sym c.all_numbers_under.ensures.told) (statements-below a.ceiling (length a.out.now) a.text.now)

pub returns : goal.returns
returns c = record { value = c.word_of.ensures ∙ ap word c.all_numbers_under.ensures.told; out_after = c.all_numbers_under.ensures.left }
