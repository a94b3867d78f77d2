-- `print_lines::put_reason` meets its contract: its tests are the definition's. Assumes nothing.
use mathlib.Core.Path.{◌≡◌, ◌∙◌, sym}
use mathlib.Core.Bool.{true, false}
use Rattle.text.specs.Bytes.{bytes}
use Rattle.labels.specs.Word.{same_word}
use Rattle.print_writing.proofs.Writing.{room-same}
use Rattle.print_lines.proofs.Notes.{of_covariate, of_covariance, of_others}
use Rattle.print_lines.proofs.put_reason.Goals.{Else-same_word, Else-same_word-2, Then-same_word, Then-same_word-2}
use Rattle.print_lines.proofs.put_reason.Goals as goal

-- what the two tests tell of the keyword
is_covariate : (c : Then-same_word) → same_word c.args.keyword.now (bytes "COVARIATE") ≡ true
is_covariate c = sym c.same_word.ensures ∙ c.if-same_word.true

no_covariate : (c : Else-same_word) → same_word c.args.keyword.now (bytes "COVARIATE") ≡ false
no_covariate c = sym c.same_word.ensures ∙ c.if-same_word.false

is_covariance : (c : Then-same_word-2) → same_word c.args.keyword.now (bytes "COVARIANCE") ≡ true
is_covariance c = sym c.same_word-2.ensures ∙ c.if-same_word-2.true

no_covariance : (c : Else-same_word-2) → same_word c.args.keyword.now (bytes "COVARIANCE") ≡ false
no_covariance c = sym c.same_word-2.ensures ∙ c.if-same_word-2.false

pub put_all-requires : goal.put_all-requires
put_all-requires c =
    room-same _ (of_covariate _ (is_covariate (goal.at.put_all-requires c).Then-same_word)) c.requires

pub returns-then-same_word : goal.returns-then-same_word
returns-then-same_word c =
    rw (of_covariate _ (is_covariate (goal.at.returns-then-same_word c).Then-same_word)) c.put_all.ensures

pub put_all-requires-then-same_word-2 : goal.put_all-requires-then-same_word-2
put_all-requires-then-same_word-2 c =
    room-same _ (of_covariance _ (no_covariate (goal.at.put_all-requires-then-same_word-2 c).Else-same_word) (is_covariance (goal.at.put_all-requires-then-same_word-2 c).Then-same_word-2)) c.requires

pub returns-then-same_word-2 : goal.returns-then-same_word-2
returns-then-same_word-2 c =
    rw (of_covariance _ (no_covariate (goal.at.returns-then-same_word-2 c).Else-same_word) (is_covariance (goal.at.returns-then-same_word-2 c).Then-same_word-2)) c.put_all-then-same_word-2.ensures

pub put_all-requires-2 : goal.put_all-requires-2
put_all-requires-2 c =
    room-same _ (of_others _ (no_covariate (goal.at.put_all-requires-2 c).Else-same_word) (no_covariance (goal.at.put_all-requires-2 c).Else-same_word-2)) c.requires

pub returns : goal.returns
returns c =
    rw (of_others _ (no_covariate (goal.at.returns c).Else-same_word) (no_covariance (goal.at.returns c).Else-same_word-2)) c.put_all-2.ensures
