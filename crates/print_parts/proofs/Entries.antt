-- The entries of a list that stays in the text, printed one after the other: the bytes of those that are left.
-- Assumes nothing.
use mathlib.Core.Path.{◌≡◌, ◌∙◌, ap}
use mathlib.Core.Bool.{true}
use mathlib.Core.List.{List, [], ◌++◌}
use Prim.Native.Nat.{ℕ, suc, ◌-◌, ◌<◌}
use native.Mathlib.Omega.{arith}
use lib.ListN.{length, length-map}
use Rattle.tokens.specs.Token.{Shape, Tokens}
use Rattle.tokens.specs.Spelling.{spell, spell_all}
use Rattle.reading.specs.Statement.{Name, Item}
use Rattle.canonical.specs.Canonical.{entry_shapes}
use Rattle.read_forms.specs.declared.Items.{Items}
use Rattle.read_forms.specs.Items.{tokens_from, name_in, entries, listed, items_in}
use Rattle.read_forms.specs.Fits.{Listed}
use Rattle.read_forms.proofs.Entries.{entries_next, listed_next, entries-length}
use Rattle.read_forms.proofs.Lists.{items_are}
use Rattle.read_checks.specs.declared.Entry as checked
use Rattle.read_checks.specs.Answers.{NextEntry, goes_on}
use Rattle.print_parts.specs.Parts.{shapes_as, behind_entry}
use Rattle.print_writing.specs.Written.{Room, Written}
use Rattle.print_writing.proofs.Going.{Going, told, further, no_more, room-first}
use Rattle.print_parts.proofs.Bytes.{entry_first}

-- the bytes of the first so many entries of tokens
abbrev pub entries_of : (Name → Shape) → ℕ → Tokens → List ℕ
entries_of e n ts = spell_all (entry_shapes (shapes_as e (entries n ts)))

pub all-entries :
    (e : Name → Shape) (s : List ℕ) (is : Items)
    → Listed s is
    → spell_all (entry_shapes (shapes_as e (items_in s is))) ≡ entries_of e is.count (tokens_from s is.first.at)
all-entries e s is l = ap (λ (xs : List Item). spell_all (entry_shapes (shapes_as e xs))) (items_are s is l)

pub no_entries : (e : Name → Shape) (n : ℕ) (ts : Tokens) → n ≡ 0 → entries_of e n ts ≡ []
unfolding entries
no_entries e n ts h = rw h

entries-many : (e : Name → Shape) (n : ℕ) (ts : Tokens) → listed n ts ≡ true → length (shapes_as e (entries n ts)) ≡ n
entries-many e n ts l = length-map (entries n ts) (λ i. e i.name) ∙ entries-length n ts l

pub how_many : (e : Name → Shape) (s : List ℕ) (is : Items) → Listed s is → length (shapes_as e (items_in s is)) ≡ is.count
how_many e s is l =
    ap (λ (xs : List Item). length (shapes_as e xs)) (items_are s is l) ∙ entries-many e is.count (tokens_from s is.first.at) l.are

-- of the bytes to be written, those of so many entries from an offset on are left
pub record Left (e : Name → Shape) (s before : List ℕ) (at : ℕ) (all now : List ℕ) (next n o : ℕ) : Type 0 where
  pub entered : listed n (tokens_from s o) ≡ true
  pub under_way : Going before at all now next (entries_of e n (tokens_from s o))

module _ {e : Name → Shape} {s before : List ℕ} {at : ℕ} {all now : List ℕ} {next n o : ℕ} (g : Left e s before at all now next n o) where
  -- no entry is left
  pub none_left : n ≡ 0 → Written before at all now next
  none_left h = no_more (told (no_entries e n (tokens_from s o) h) g.under_way)

  -- there is an entry, and the others are read from its cursor
  module _ (k : 0 < n) {i : checked.Entry} (h : NextEntry s o i) where
    abbrev others : Tokens
    others = tokens_from s (goes_on s i)

    others-listed : listed (n - 1) others ≡ true
    others-listed = listed_next k h.here g.entered

    abbrev first : List ℕ
    first = spell (e (name_in s i.name))

    -- its bytes, what stands behind it, and those of the others
    entry-by-entry : entries_of e n (tokens_from s o) ≡ first ++ (behind_entry n ++ entries_of e (n - 1) others)
    entry-by-entry =
        let xs = shapes_as e (entries (n - 1) others) in
        let m : suc (length xs) ≡ n = omega (arith, entries-many e (n - 1) others others-listed) in
        ap (λ (is : List Item). spell_all (entry_shapes (shapes_as e is))) (entries_next k h.here)
        ∙ entry_first (e (name_in s i.name)) xs
        ∙ ap (λ (m : ℕ). first ++ (behind_entry m ++ spell_all (entry_shapes xs))) m

    at_entry : Going before at all now next (first ++ (behind_entry n ++ entries_of e (n - 1) others))
    at_entry = told entry-by-entry g.under_way

    pub entry-room : Room at all → Room next (spell (e (name_in s i.name)))
    entry-room r = room-first first (behind_entry n ++ entries_of e (n - 1) others) r at_entry

    module _ {now' : List ℕ} {next' : ℕ} (w : Written now next (spell (e (name_in s i.name))) now' next') where
      pub comma-room : Room at all → Room next' (behind_entry n)
      comma-room r = room-first (behind_entry n) (entries_of e (n - 1) others) r (further at_entry w)

      pub entry-put :
          {now'' : List ℕ} {next'' : ℕ} → Written now' next' (behind_entry n) now'' next'' → Left e s before at all now'' next'' (n - 1) (goes_on s i)
      entry-put v = record { entered = others-listed; under_way = further (further at_entry w) v }
