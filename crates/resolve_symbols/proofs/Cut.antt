-- A list whose cursor is cut to the text has the same entries.
-- Assumes nothing.
use mathlib.Core.Path.{◌≡◌, refl, ◌∙◌, ap}
use mathlib.Core.Bool.{Bool, true, false, ◌&&◌, cond}
use mathlib.Core.List.{List, []}
use Prim.Native.Nat.{ℕ, ◌≤◌, min}
use native.Mathlib.Nat.{min-eq_left, min-eq_right}
use native.Mathlib.Omega.{arith}
use borrow.Author.Tests.{leb-true, leb-false}
use lib.Dec.{leb}
use lib.ListN.{length, drop_of_length-le}
use Rattle.tokens.specs.Token.{Tokens}
use Rattle.tokens.specs.Lex.{tokens_after}
use Rattle.tokens.specs.Next.{cursor}
use Rattle.read_forms.specs.declared.Items.{Items}
use Rattle.read_forms.specs.Items.{tokens_from, entries, listed, items_in}
use Rattle.read_forms.specs.Fits.{Listed}

-- past the text there are no tokens, as there are none at its end
tokens_cut : (s : List ℕ) (o : ℕ) → tokens_from s (min o (length s)) ≡ tokens_from s o
unfolding tokens_after
tokens_cut s o = by_end (leb o (length s)) refl
  where
    by_end : (t : Bool) → leb o (length s) ≡ t → tokens_from s (min o (length s)) ≡ tokens_from s o
    by_end true e = rw (min-eq_left (leb-true o (length s) e))
    by_end false e =
        let h : length s ≤ o = omega (arith, leb-false o (length s) e) in
        let k : length s ≤ length s = omega arith in
        rw (min-eq_right h, drop_of_length-le s h, drop_of_length-le s k)

abbrev cut_items : List ℕ → Items → Items
cut_items s is = record { first = cursor (min is.first.at (length s)); count = is.count }

pub items_cut : (s : List ℕ) (is : Items) → items_in s (cut_items s is) ≡ items_in s is
unfolding items_in
items_cut s is = ap (λ (ts : Tokens). cond (listed is.count ts && leb is.count 64) (entries is.count ts) []) (tokens_cut s is.first.at)

pub listed_cut : (s : List ℕ) (is : Items) → Listed s is → Listed s (cut_items s is)
listed_cut s is l = record { are = ap (listed is.count) (tokens_cut s is.first.at) ∙ l.are; few = l.few }
