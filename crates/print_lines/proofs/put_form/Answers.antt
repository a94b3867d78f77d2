-- `print_lines::put_form` meets its contract: the form's label, the operator and the mark, one behind the other. Assumes nothing.
use mathlib.Core.List.{[], ◌++◌}
use lib.ListN.{get_or}
use Rattle.labels.specs.declared.Family.TheVariants.{CovariateEffect}
use Rattle.labels.specs.Label.{labels_of}
use Rattle.print_writing.proofs.Writing.{room-before}
use Rattle.print_writing.proofs.Going.{going, further, finished, room-left, room-first}
use Rattle.lines.specs.Effects.{operator_word, optional_word, form_words}
use Rattle.print_lines.proofs.put_form.Goals as goal

pub put_all-a-requires : goal.put_all-a-requires
unfolding form_words
put_all-a-requires c =
    rw c.mode_label-label.ensures (room-before _ (get_or (labels_of CovariateEffect) (get_or c.args.effect 2 0) []) (operator_word (get_or c.args.effect 3 0) ++ optional_word (get_or c.args.effect 4 0)) c.requires.1)

pub put_operator-b-requires : goal.put_operator-b-requires
unfolding form_words
put_operator-b-requires c =
    room-first (operator_word (get_or c.args.effect 3 0)) (optional_word (get_or c.args.effect 4 0)) c.requires.1
    (further (going _ _ _) (rw c.mode_label-label.ensures at c.put_all-a.ensures))

pub put_optional-requires : goal.put_optional-requires
unfolding form_words
put_optional-requires c =
    room-left c.requires.1 (further (further (going _ _ _) (rw c.mode_label-label.ensures at c.put_all-a.ensures)) c.put_operator-b.ensures)

pub returns : goal.returns
unfolding form_words
returns c =
    finished (further (further (going _ _ _) (rw c.mode_label-label.ensures at c.put_all-a.ensures)) c.put_operator-b.ensures)
    c.put_optional.ensures
