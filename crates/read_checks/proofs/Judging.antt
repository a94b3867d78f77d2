-- A list is judged entry by entry: what is left of it from an offset on decides what the whole list does.
-- Assumes nothing.
use Rattle.std.specs.Prelude.{Option as Option·rust, Some, None, Result, Ok, Err}
use mathlib.Core.Path.{◌≡◌, refl, ◌∙◌, ap, sym}
use mathlib.Core.Bool.{Bool, true, false, cond, ◌&&◌, true≢false}
use mathlib.Core.List.{List, [], ◌∷◌}
use mathlib.Core.Option.{Option, some, none}
use Prim.Native.Nat.{ℕ, ◌-◌, ◌<◌}
use lib.Dec.{leb}
use Rattle.counts.specs.Count.{count_of, value, whole}
use Rattle.labels.specs.Table.{found_as}
use Rattle.reading.specs.Statement.{Name, a_word, a_number, Item}
use Rattle.reading.specs.Answer.{Answer, accepted, refused, ◌>>=◌}
use Rattle.reading.specs.Argument.{counted, count_at, count_list}
use Rattle.read_forms.specs.declared.Refusal.{Refusal}
use Rattle.read_forms.specs.declared.Kind as kinds
use Rattle.read_forms.specs.declared.Kind.TheVariants as kind
use Rattle.read_forms.specs.Items.{tokens_from, name_in, kind_as, entries, listed}
use Rattle.read_forms.specs.Forms.{count_or0, values_in}
use Rattle.read_forms.proofs.Entries.{entries_next, listed_next}
use Rattle.read_checks.specs.declared.Entry as checked
use Rattle.read_forms.specs.Faults.{refused_by, answered}
use Rattle.read_checks.specs.Answers.{of_word, entry_in, NextEntry, goes_on}

-- Whether a list is in order.
abbrev pub Checked : Type 0
Checked = Result Unit Refusal

-- a list, judged by `j`, is in order with the values `v`, or is refused
abbrev pub Judged : (List Item → Answer (List ℕ)) → (List Item → List ℕ) → List Item → Checked → Type 0
Judged j v is r = j is ≡ answered (λ (_ : Unit). v is) r

-- what is left of the list of `n₀` entries at `o₀` is `n` entries at `o`
pub record Left (j : List Item → Answer (List ℕ)) (v : List Item → List ℕ) (s : List ℕ) (n₀ o₀ n o : ℕ) : Type 0 where
  pub entered : listed n (tokens_from s o) ≡ true
  pub whole : (r : Checked) → Judged j v (entries n (tokens_from s o)) r → Judged j v (entries n₀ (tokens_from s o₀)) r

module _ {j : List Item → Answer (List ℕ)} {v : List Item → List ℕ} {s : List ℕ} {n₀ o₀ n o : ℕ} (l : Left j v s n₀ o₀ n o) where
  -- nothing is left
  pub left-none : n ≡ 0 → Judged j v [] (Ok tt) → Judged j v (entries n₀ (tokens_from s o₀)) (Ok tt)
  unfolding entries
  left-none e h = l.whole (Ok tt) (rw e h)

  -- there is an entry
  module _ (k : 0 < n) {i : checked.Entry} (h : NextEntry s o i) where
    -- that is refused
    pub left-refused :
        (r : Refusal)
        → ((is : List Item) → j (entry_in s i ∷ is) ≡ refused_by r)
        → Judged j v (entries n₀ (tokens_from s o₀)) (Err r)
    left-refused r f = l.whole (Err r) (ap j (entries_next k h.here) ∙ f (entries (n - 1) (tokens_from s (goes_on s i))))

    -- that is in order
    pub left-next :
        ((is : List Item) (r : Checked) → Judged j v is r → Judged j v (entry_in s i ∷ is) r) → Left j v s n₀ o₀ (n - 1) (goes_on s i)
    left-next f =
        record {
          entered = listed_next k h.here l.entered;
          whole = λ r g. l.whole r (rw (entries_next k h.here) (f (entries (n - 1) (tokens_from s (goes_on s i))) r g));
        }

-- one value more in front of those of an answer
pub checked_more :
    (m : ℕ) (a : Answer (List ℕ)) (ms : List ℕ) (r : Checked)
    → a ≡ answered (λ (_ : Unit). ms) r
    → (a >>= λ xs. accepted (m ∷ xs)) ≡ answered (λ (_ : Unit). m ∷ ms) r
checked_more m a ms (Ok _) e = rw e
checked_more m a ms (Err r) e = rw e

-- a count, from its judgement
a_count : (m : Name) (o : Option·rust ℕ) (n : ℕ) → accepted n ≡ counted m o → Some n ≡ o
a_count m None n e = cc
a_count m (Some v) n e = cc

-- what a look-up found
pub found_some : (o : Option ℕ) (i : ℕ) → Some i ≡ found_as o → o ≡ some i
found_some none i e = cc
found_some (some k) i e = cc

pub found_none : (o : Option ℕ) → None ≡ found_as o → o ≡ none
found_none none e = refl
found_none (some k) e = cc

-- a count under a limit is the same 32-bit number
pub counted-value :
    (limit : ℕ) (w : List ℕ) (n : ℕ)
    → Some n ≡ count_of limit w
    → count_of limit w ≡ Some (count_or0 (count_of 4294967295 w))
unfolding count_of
counted-value limit w n e = go (whole w) (leb (value w) 4294967295) (leb (value w) limit) e
  where
    go :
        (a b c : Bool)
        → Some n ≡ cond (a && b && c) (Some (value w)) None
        → cond (a && b && c) (Some (value w)) None
        ≡ Some (count_or0 (cond (a && b && b) (Some (value w)) None))
    go true true true e = refl
    go true true false e = cc
    go true false c e = cc
    go false b c e = cc

-- an entry that is no word is a number
number-kind : (k : kinds.Kind) → of_word k ≡ false → kind_as k ≡ a_number
number-kind kind.Word e = absurd (true≢false e)
number-kind kind.Number e = refl

word-kind : (k : kinds.Kind) → of_word k ≡ true → kind_as k ≡ a_word
word-kind kind.Word e = refl
word-kind kind.Number e = absurd (true≢false (sym e))

module _ (limit o : ℕ) (s : List ℕ) (i : checked.Entry) where
  pub count_fine :
      (n : ℕ)
      → of_word i.kind ≡ false
      → accepted n ≡ count_at limit (name_in s i.name)
      → (is : List Item) (r : Checked)
      → Judged (count_list limit o) values_in is r
      → Judged (count_list limit o) values_in (entry_in s i ∷ is) r
  unfolding count_list count_at
  count_fine n k e is r h =
      let v = a_count (name_in s i.name) (count_of limit (name_in s i.name).spelling) n e in
      rw (number-kind i.kind k, counted-value limit (name_in s i.name).spelling n v)
      (checked_more (count_or0 (count_of 4294967295 (name_in s i.name).spelling)) (count_list limit o is) (values_in is) r h)

  pub count-refused :
      (r : Refusal)
      → of_word i.kind ≡ false
      → refused_by r ≡ count_at limit (name_in s i.name)
      → (is : List Item)
      → count_list limit o (entry_in s i ∷ is) ≡ refused_by r
  unfolding count_list
  count-refused r k e is = rw (number-kind i.kind k, ← e)

  -- a word in an array of counts
  pub count_word : of_word i.kind ≡ true → (is : List Item) → count_list limit o (entry_in s i ∷ is) ≡ refused 9 o
  unfolding count_list
  count_word k is = rw (word-kind i.kind k)
