-- Filling an array with a list's entries, one after the other.
-- Assumes nothing.
use Rattle.std.specs.Prelude.{Option, Some, None, unwrap_or}
use mathlib.Core.Path.{◌≡◌, refl, ◌∙◌, ap, sym}
use mathlib.Core.Bool.{true}
use mathlib.Core.List.{List, [], ◌∷◌, ◌++◌, map}
use Prim.Native.Nat.{ℕ, ◌+◌, ◌≤◌, ◌<◌}
use native.Mathlib.Numerals.{add-one}
use native.Mathlib.Omega.{arith}
use lib.ListN.{length, take, drop, set, length-drop, length-set}
use lib.Seq.{take-suc-set, length-take-le}
use Rattle.tokens.specs.Token.{Tokens}
use Rattle.reading.specs.Statement.{Item}
use Rattle.read_forms.specs.declared.Name.{Name}
use Rattle.read_forms.specs.declared.Kind.{Kind}
use Rattle.read_forms.specs.declared.Kind.TheVariants.{Word, Number}
use Rattle.read_forms.specs.declared.Items.{Items}
use Rattle.read_forms.specs.Forms.{count_or0}
use Rattle.read_forms.specs.Items.{tokens_from, kind_as, Entered, entries, after_entries, listed, items_in}
use Rattle.read_forms.proofs.Entries.{entries-ahead, after_ahead, next-listed, entries-more, after_more}
-- resolve_operands names it here
use Rattle.read_forms.proofs.Entries.{first-listed}
use Rattle.read_forms.proofs.Lists.{items_are}
use Rattle.read_forms.specs.Fits.{InText, Listed}
use Rattle.read_checks.specs.declared.Entry as checked
use Rattle.read_checks.specs.Answers.{entry_in, NextEntry, goes_on}
use Rattle.read_lists.specs.Lists.{kind_for, item_for}

pub map-append : {A B : Type 0} (f : A → B) (xs ys : List A) → map f (xs ++ ys) ≡ map f xs ++ map f ys
map-append f [] ys = refl
map-append f (x ∷ xs) ys = ap (λ l. f x ∷ l) (map-append f xs ys)

-- a count, or 0
pub or0 : (o : Option ℕ) → unwrap_or o 0 ≡ count_or0 o
or0 None = refl
or0 (Some v) = refl

-- a name's bytes are as many as it says
pub own-length : (s : List ℕ) (n : Name) → InText s n → length (take n.length (drop n.offset s)) ≡ n.length
own-length s n h = length-take-le n.length (drop n.offset s) (simp length-drop (omega arith))

-- an entry is told by its kind and its name
kind-own : (k : Kind) → kind_for (kind_as k) ≡ k
kind-own Word = refl
kind-own Number = refl

pub own-item : (s : List ℕ) (r : checked.Entry) → InText s r.name → item_for (entry_in s r) ≡ record { kind = r.kind; name = r.name }
own-item s r h = rw (kind-own r.kind, own-length s r.name h)

-- So many entries of a list were read, and the next one stands at an offset.
pub record Come (s : List ℕ) (is : Items) (i at : ℕ) : Type 0 where
  pub here : after_entries i (tokens_from s is.first.at) ≡ tokens_from s at
  pub most : i ≤ is.count

module _ (s : List ℕ) (is : Items) (i o : ℕ) (l : Listed s is) (g : Come s is i o) (h : i < is.count) where
  -- there is a next one
  pub next-stands : listed 1 (tokens_from s o) ≡ true
  next-stands = sym (ap (listed 1) g.here) ∙ next-listed i is.count (tokens_from s is.first.at) l.are h

  abbrev all : Tokens
  all = tokens_from s is.first.at

  those_listed : listed i all ≡ true
  those_listed = first-listed i is.count all l.are g.most

  module _ (p : ℕ) {x : Item} (e : Entered (tokens_from s o) x (tokens_from s p)) where
    -- it comes behind those that were read
    pub entries-on : entries (i + 1) (tokens_from s is.first.at) ≡ entries i (tokens_from s is.first.at) ++ x ∷ []
    unfolding entries
    entries-on = rw add-one (entries-more i all those_listed ∙ rw g.here (ap (λ (ys : List Item). entries i all ++ ys) (entries-ahead e 0)))

    pub come-on : Come s is (i + 1) p
    unfolding after_entries
    come-on = record { here = rw add-one (after_more i all those_listed ∙ ap (after_entries 1) g.here ∙ after_ahead e 0); most = omega arith }

-- the whole list was read
pub come_last : (s : List ℕ) (is : Items) (i o : ℕ) → Listed s is → Come s is i o → is.count ≤ i → entries i (tokens_from s is.first.at) ≡ items_in s is
come_last s is i o l g h =
    let e : i ≡ is.count = omega (arith, g.most) in
    ap (λ (k : ℕ). entries k (tokens_from s is.first.at)) e ∙ sym (items_are s is l)

-- What each entry that was read is taken for stands in the array.
pub record Gone {A : Type 0} (f : Item → A) (s : List ℕ) (is : Items) (xs : List A) (i at : ℕ) : Type 0 where
  pub size : length xs ≡ 64
  pub come : Come s is i at
  pub filled : take i xs ≡ map f (entries i (tokens_from s is.first.at))

-- one more
pub one_more :
    {A : Type 0} (f : Item → A) (s : List ℕ) (is : Items) (xs : List A) (i o : ℕ) (r : checked.Entry) (x : A)
    → Listed s is
    → Gone f s is xs i o
    → i < is.count
    → NextEntry s o r
    → f (entry_in s r) ≡ x
    → Gone f s is (set xs i x) (i + 1) (goes_on s r)
one_more {A} f s is xs i o r x l g h t q =
    let T = tokens_from s is.first.at in
    record {
      size = length-set xs i x ∙ g.size;
      come = come-on s is i o l g.come h (goes_on s r) t.here;
      filled =
          ap (λ (k : ℕ). take k (set xs i x)) (add-one i)
          ∙ take-suc-set xs i x (omega (arith, g.size, l.few))
          ∙ ap (λ (ns : List A). ns ++ x ∷ []) g.filled
          ∙ ap (λ (y : A). map f (entries i T) ++ y ∷ []) (sym q)
          ∙ sym (map-append f (entries i T) (entry_in s r ∷ []))
          ∙ ap (map f) (sym (entries-on s is i o l g.come h (goes_on s r) t.here));
    }

-- nothing read yet
pub none_come : (s : List ℕ) (is : Items) → Come s is 0 is.first.at
unfolding after_entries
none_come s is = record { here = refl; most = omega arith }

pub none_gone : {A : Type 0} (f : Item → A) (s : List ℕ) (is : Items) (xs : List A) → length xs ≡ 64 → Gone f s is xs 0 is.first.at
unfolding entries
none_gone f s is xs e = record { size = e; come = none_come s is; filled = refl }

-- all of them
pub all_gone :
    {A : Type 0} (f : Item → A) (s : List ℕ) (is : Items) (xs : List A) (i o : ℕ)
    → Listed s is
    → Gone f s is xs i o
    → is.count ≤ i
    → take is.count xs ≡ map f (items_in s is)
all_gone {A} f s is xs i o l g h =
    let e : is.count ≡ i = omega (arith, g.come.most) in
    ap (λ (k : ℕ). take k xs) e ∙ g.filled ∙ ap (map f) (come_last s is i o l g.come h)
