-- `dumachik::mfl_print` meets its contract: the constants that it lends are the tables, and what is given and a refusal's place are below
-- 2^32, so the word can be told. Assumes nothing.
use mathlib.Core.Path.{refl, ◌∙◌, ap, sym, subst}
use lib.ListN.{length}
use Rattle.tokens.specs.Class.{class_of, class_table}
use Rattle.labels.specs.Label.{labels_of, keywords}
use Rattle.labels.specs.Table.{label_table, keyword_table}
use Rattle.words.specs.Word.{word, Below}
use Rattle.dumachik.proofs.Below.{print_below}
use Rattle.dumachik.proofs.mfl_print.Goals as goal

pub print_under-requires : goal.print_under-requires
unfolding class_table class_of label_table labels_of keyword_table keywords
print_under-requires c = (refl, refl, refl)

pub word_of-requires : goal.word_of-requires
word_of-requires c =
    let a = c.args in
    subst Below (sym c.print_under.ensures.told) (print_below a.ceiling (length a.out.now) a.text.now)

pub returns : goal.returns
returns c = record { value = c.word_of.ensures ∙ ap word c.print_under.ensures.told; out_after = c.print_under.ensures.left }
