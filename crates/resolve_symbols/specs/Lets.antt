-- Document 01, Resolving: "Collect every LET; the key ignores ASCII case." LETs as they stand in a run of numbers, four for each: the offset
-- and the length of its key, the cursor from which its first value is read, and how many values there are.
use Rattle.std.specs.Prelude.{ℕ, zero, suc, ◌+◌, ◌*◌, ◌≤◌, ◌<◌, Bool, cond, List, [], ◌∷◌, ◌++◌, ◌≡◌, length, get_or, drop}
use Rattle.std.proofs.Math.Option.{Option, some, none}
use Rattle.tokens.specs.Next.{cursor}
use Rattle.labels.specs.Word.{same_word}
use Rattle.text.specs.Lists.{any}
use Rattle.resolving.specs.Symbols.{Definition, definition}
use Rattle.read_forms.specs.declared.Name.{Name}
use Rattle.read_forms.specs.declared.Items.{Items}
use Rattle.read_forms.specs.Items.{name_in, items_in}
use Rattle.read_forms.specs.Fits.{InText, Listed}

module _ (l : List ℕ) where
  abbrev pub key_at : ℕ → Name
  key_at k = record { offset = get_or l (4 * k) 0; length = get_or l (4 * k + 1) 0 }

  abbrev pub values_at : ℕ → Items
  values_at k = record { first = cursor (get_or l (4 * k + 2) 0); count = get_or l (4 * k + 3) 0 }

module _ (s l : List ℕ) where
  abbrev pub definition_at : ℕ → Definition
  definition_at k = definition (name_in s (key_at l k)) (items_in s (values_at l k))

  -- the first so many
  unfoldable pub definitions_in : ℕ → List Definition
  definitions_in zero = []
  definitions_in (suc n) = definitions_in n ++ definition_at n ∷ []

  -- the last of them that a word is the key of, ignoring case
  unfoldable pub last_let : ℕ → List ℕ → Option ℕ
  last_let zero w = none
  last_let (suc n) w = cond (same_word w (definition_at n).key) (some n) (last_let n w)

-- one of them has a key, ignoring case
abbrev pub has_key : List Definition → List ℕ → Bool
has_key ds w = any (λ d. same_word d.key w) ds

-- so many LETs stand in the run: each key lies in the text, and each list of values can be read again
pub record LetsFit (s l : List ℕ) (n : ℕ) : Type 0 where
  pub room : 4 * n ≤ length l
  pub few : n ≤ 256
  pub keys : (k : ℕ) → k < n → InText s (key_at l k)
  pub values : (k : ℕ) → k < n → Listed s (values_at l k)

-- a LET was put behind the first n: the run has them all, and is as it was behind the new one
pub record LetPut (s before after : List ℕ) (n : ℕ) (d : Definition) : Type 0 where
  pub size : length after ≡ length before
  pub fit : LetsFit s after (n + 1)
  pub definitions : definitions_in s after (n + 1) ≡ definitions_in s before n ++ d ∷ []
  pub behind : drop (4 * (n + 1)) after ≡ drop (4 * (n + 1)) before
