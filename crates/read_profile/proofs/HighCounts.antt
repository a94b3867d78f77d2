-- A list is searched for a count above 10, entry by entry: what is left of it tells what the whole list has. And arguments that are no counts.
-- Assumes nothing.
use Prim.Native.Nat.{ℕ, ◌-◌, ◌<◌}
use mathlib.Core.Path.{◌≡◌, refl, ◌∙◌, ap, sym}
use mathlib.Core.Bool.{Bool, true, false, ◌||◌}
use mathlib.Core.List.{List, [], ◌∷◌}
use denote.Enum.Declared.{tag_of}
use types.Run.{OneOf, miss}
use Rattle.reading.specs.Statement.{Item}
use Rattle.text.specs.Lists.{any}
use Rattle.profiling.specs.Profile.{is_high}
use Rattle.read_forms.specs.declared.Items.{Items}
use Rattle.read_forms.specs.Items.{tokens_from, entries, listed, items_in}
use Rattle.read_forms.specs.Forms.{count_for, values_in}
use Rattle.read_forms.specs.Fits.{Listed}
use Rattle.read_forms.proofs.Entries.{entries_next, listed_next}
use Rattle.read_forms.proofs.Lists.{items_are}
use Rattle.read_checks.specs.declared.Entry.{Entry}
use Rattle.read_checks.specs.Answers.{entry_in, NextEntry, goes_on}
use Rattle.read_parts.specs.declared.Part.{Part}
use Rattle.read_parts.specs.declared.Part.TheVariants.{Absent, Modes, Counts, N, Operand, Name, Values, Op, Omitted}
use Rattle.read_parts.specs.contracts.Part.{the_type}
use Rattle.read_profile.specs.Answers.{high_part}

abbrev any_high : List Item → Bool
any_high is = any is_high (values_in is)

abbrev high_at : List ℕ → ℕ → ℕ → Bool
high_at s n o = any_high (entries n (tokens_from s o))

-- what is left of the list of `n₀` entries at `o₀` is `n` entries at `o`
pub record Left (s : List ℕ) (n₀ o₀ n o : ℕ) : Type 0 where
  pub entered : listed n (tokens_from s o) ≡ true
  pub same : high_at s n o ≡ high_at s n₀ o₀

pub listed_high : (s : List ℕ) (is : Items) → Listed s is → high_at s is.count is.first.at ≡ any_high (items_in s is)
listed_high s is l = ap any_high (sym (items_are s is l))

module _ {s : List ℕ} {n₀ o₀ n o : ℕ} (l : Left s n₀ o₀ n o) where
  -- nothing is left
  pub left-none : n ≡ 0 → false ≡ high_at s n₀ o₀
  unfolding entries
  left-none e = sym (ap (λ (k : ℕ). any_high (entries k (tokens_from s o))) e) ∙ l.same

  -- there is an entry, and the others are read from its cursor
  module _ (k : 0 < n) {r : Entry} (h : NextEntry s o r) where
    told : is_high (count_for (entry_in s r)) || high_at s (n - 1) (goes_on s r) ≡ high_at s n₀ o₀
    told = sym (ap any_high (entries_next k h.here)) ∙ l.same

    -- its count is above 10
    pub left-high : is_high (count_for (entry_in s r)) ≡ true → true ≡ high_at s n₀ o₀
    left-high e = sym (ap (λ (t : Bool). t || high_at s (n - 1) (goes_on s r)) e) ∙ told

    -- it is not
    pub left-next : is_high (count_for (entry_in s r)) ≡ false → Left s n₀ o₀ (n - 1) (goes_on s r)
    left-next e =
        record {
          entered = listed_next k h.here l.entered;
          same = sym (ap (λ (t : Bool). t || high_at s (n - 1) (goes_on s r)) e) ∙ told;
        }

-- an argument that is no counts
pub no_counts : (s : List ℕ) (p : Part) → OneOf (0 ∷ 1 ∷ 3 ∷ 4 ∷ 5 ∷ 6 ∷ 7 ∷ 8 ∷ []) (tag_of the_type p) → false ≡ high_part s p
no_counts s Absent k = refl
no_counts s (Modes f m) k = refl
no_counts s (Counts c) k = absurd (miss (0 ∷ 1 ∷ 3 ∷ 4 ∷ 5 ∷ 6 ∷ 7 ∷ 8 ∷ []) 2 tt k)
no_counts s N k = refl
no_counts s (Operand p) k = refl
no_counts s (Name n) k = refl
no_counts s (Values is) k = refl
no_counts s (Op op) k = refl
no_counts s Omitted k = refl
