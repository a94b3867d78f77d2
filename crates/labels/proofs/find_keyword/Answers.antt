-- `labels::find_keyword` meets its contract: a word is the likely keyword, whose row is compared, or it is none.
-- Assumes nothing.
use mathlib.Core.Path.{◌≡◌, sym, ap, ◌∙◌}
use mathlib.Core.Bool.{true}
use mathlib.Core.List.{[]}
use Prim.Native.Nat.{◌<◌}
use native.Mathlib.Nat.{zero-add}
use lib.ListN.{length, get_or}
use Rattle.labels.specs.Label.{keywords}
use Rattle.labels.specs.Word.{same_word}
use Rattle.labels.specs.Table.{found_as}
use Rattle.labels.specs.Row.{label_at, row_fits}
use Rattle.labels.specs.Likely.{likely_place}
use Rattle.labels.proofs.Words.{lower_ascii}
use Rattle.labels.proofs.Tables.{held-row, lent, keywords-held}
use Rattle.labels.proofs.OneKeyword.{likely_of, likely_within, short_none, likely_some, likely_none}
use Rattle.labels.proofs.find_keyword.Goals.{After-likely-place, After-same_word}
use Rattle.labels.proofs.find_keyword.Goals as goal

-- the place is the word's likely one
place : (c : After-likely-place) → c.likely-place.result ≡ likely_of c.args.word.now
place c =
    c.likely-place.ensures ∙ ap (likely_place (length c.args.word.now)) (simp lower_ascii at c.to_ascii_lowercase.ensures.value)

-- its row
row : (c : After-likely-place)
    → let keys = c.args.keys.now in
    (row_fits keys c.likely-place.result ≡ true) × (label_at keys c.likely-place.result ≡ get_or keywords c.likely-place.result [])
row c =
    let within : c.likely-place.result < length keywords = rw c.likely-place.ensures (likely_within _ _) in
    rw (zero-add c.likely-place.result) at (held-row (lent c.requires keywords-held) c.likely-place.result within)

-- what the comparison says of the likely keyword
told : (c : After-same_word)
    → let word = c.args.word.now in
    c.same_word.result ≡ same_word word (get_or keywords (likely_of word) [])
told c =
    c.same_word.ensures ∙ rw (c.label_at-label.ensures, (row (goal.at.After-same_word c).After-likely-place).1, place (goal.at.After-same_word c).After-likely-place)

pub returns-then-word-lt3 : goal.returns-then-word-lt3
returns-then-word-lt3 c = sym (ap found_as (short_none _ c.if-word-lt3.true))

pub label_at-label-requires : goal.label_at-label-requires
label_at-label-requires c = (row (goal.at.label_at-label-requires c).After-likely-place).0

pub returns-then-same_word : goal.returns-then-same_word
returns-then-same_word c = rw (place (goal.at.returns-then-same_word c).After-likely-place) (sym (ap found_as (likely_some _ (sym (told (goal.at.returns-then-same_word c).After-same_word) ∙ c.if-same_word.true))))

pub returns : goal.returns
returns c = sym (ap found_as (likely_none _ (sym (told (goal.at.returns c).After-same_word) ∙ c.if-same_word.false)))
