-- `dumachik::mfl_statement` meets its contract: what is given and a refusal's place are below 2^32, so the word can be told. Assumes nothing.
use mathlib.Core.Path.{◌∙◌, ap, sym, subst}
use native.Mathlib.Omega.{arith}
use lib.ListN.{length}
use Rattle.words.specs.Word.{word, Below}
use Rattle.dumachik.proofs.Below.{statement-below}
use Rattle.dumachik.proofs.mfl_statement.Goals as goal

pub word_of-requires : goal.word_of-requires
word_of-requires c =
    let a = c.args in
    subst Below (sym c.numbers_under.ensures.told) (statement-below a.ceiling (length a.out.now) a.text.now a.index (omega arith))

pub returns : goal.returns
returns c = record { value = c.word_of.ensures ∙ ap word c.numbers_under.ensures.told; out_after = c.numbers_under.ensures.left }
