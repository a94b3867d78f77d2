-- Statements are the same exactly where they are equal. So where each stands as often in one list as in another, the lists are permuted.
-- Assumes nothing.
use mathlib.Core.Path.{◌≡◌, refl, sym, ◌∙◌, ap, ap₂}
use mathlib.Core.Bool.{Bool, true, ◌&&◌, false≢true}
use mathlib.Core.List.{List, [], ◌∷◌}
use Rattle.text.proofs.Tests.{halves}
use Rattle.reading.specs.Statement.{Statement}
use Rattle.text.specs.Lists.{same_bytes}
use Rattle.resolving_laws.specs.Same.{occurrences, same_list, same_statement, statement_words}
use Rattle.text.proofs.Permuted.{Permuted}
use Rattle.text.proofs.Often.{often_permuted, permuted_often}
use Rattle.resolving_laws.proofs.Entries.{bytes-equal, bytes_self}
use Rattle.resolving_laws.proofs.FromWords.{from_words, statement_from}

-- Lists are the same where they are equal, if their elements are.

module _ {A : Type 0} (same : A → A → Bool) where
  pub list_equal : ((x y : A) → same x y ≡ true → x ≡ y) → (l m : List A) → same_list same l m ≡ true → l ≡ m
  list_equal h [] [] e = refl
  list_equal h [] (y ∷ m) e = absurd (false≢true e)
  list_equal h (x ∷ l) [] e = absurd (false≢true e)
  list_equal h (x ∷ l) (y ∷ m) e =
      let k = halves (same x y) (same_list same l m) e in
      ap₂ ◌∷◌ (h x y k.0) (list_equal h l m k.1)

  pub list_self : ((x : A) → same x x ≡ true) → (l : List A) → same_list same l l ≡ true
  list_self h [] = refl
  list_self h (x ∷ l) = ap₂ ◌&&◌ (h x) (list_self h l)

-- Statements.

pub same-equal : (s t : Statement) → same_statement s t ≡ true → s ≡ t
unfolding same_statement
same-equal s t e =
    sym (from_words s)
    ∙ ap
    statement_from
    (list_equal (same_list same_bytes) (list_equal same_bytes bytes-equal) (statement_words s) (statement_words t) e)
    ∙ from_words t

pub same_self : (s : Statement) → same_statement s s ≡ true
unfolding same_statement
same_self s = list_self (same_list same_bytes) (list_self same_bytes bytes_self) (statement_words s)

pub as_often_permuted : (ss ts : List Statement) → ((s : Statement) → occurrences s ss ≡ occurrences s ts) → Permuted ss ts
as_often_permuted ss ts h = often_permuted same_statement same-equal same_self ss ts h

pub permuted_as_often : {ss ts : List Statement} → Permuted ss ts → (s : Statement) → occurrences s ss ≡ occurrences s ts
permuted_as_often p s = permuted_often same_statement same-equal same_self p s
