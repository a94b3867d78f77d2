-- Each form of argument is read again from its tokens.
-- Assumes nothing.
use Prim.Native.Nat.{ℕ, ◌+◌, ◌≤◌, ◌<◌}
use native.Mathlib.Omega.{arith}
use mathlib.Core.Path.{◌≡◌, refl, ◌∙◌, ap}
use mathlib.Core.Bool.{true}
use mathlib.Core.List.{List, [], ◌∷◌, ◌++◌, append_assoc}
use borrow.Author.Tests.{lt-ltb}
use lib.ListN.{length, length-append}
use Rattle.tokens.specs.Token.{Shape, word, number, mark}
use Rattle.tokens.specs.Spelling.{is_word, is_number}
use Rattle.reading.specs.Statement.{Item}
use Rattle.reading.specs.Answer.{accepted}
use Rattle.reading.specs.Argument.{Arg, star, plus, symbol, single, array, range_of}
use Rattle.reading.specs.Syntax.{Call, argument, argument_read, array_open, item, item_read, name, turn}
use Rattle.reading.specs.Read.{inside, read_from}
use Rattle.canonical.specs.Canonical.{sign, entry_shapes, bracketed, bare_one}
use Rattle.canonical_laws.specs.Forgotten.{flat}
use Rattle.canonical_laws.specs.Printed.{Entry, word_entry, number_entry, Entries, no_entry, one_more, bare_arg, Printed}
use Rattle.canonical_laws.proofs.Spelled.{none-spelled, one-spelled, sign-spelled, bracketed-spelled}

module _ (limit n : ℕ) (c : Call) where
  -- an entry of an array, the first one too, and all that are left
  entry_read :
      {x : Shape} {i : Item} (is : List Item) (rest : List Shape)
      → Entry x i
      → length is < 64
      → read_from limit 0 n (inside (item c 0 is)) (flat (x ∷ rest)) ≡ read_from limit 0 n (inside (item_read c 0 (is ++ i ∷ []))) (flat rest)
  unfolding read_from turn
  entry_read is rest (word_entry e) h = simp (lt-ltb (length is) 64 h)
  entry_read is rest (number_entry e) h = simp (lt-ltb (length is) 64 h)

  first_read :
      {x : Shape} {xs : List Shape} {i : Item} {is : List Item} (rest : List Shape)
      → Entries (x ∷ xs) (i ∷ is)
      → read_from limit 0 n (inside (array_open c 0)) (flat (entry_shapes (x ∷ xs) ++ rest))
      ≡ read_from limit 0 n (inside (item c 0 [])) (flat (entry_shapes (x ∷ xs) ++ rest))
  unfolding read_from turn
  first_read rest (one_more (word_entry e) no_entry) = refl
  first_read rest (one_more (word_entry e) (one_more f r)) = refl
  first_read rest (one_more (number_entry e) no_entry) = refl
  first_read rest (one_more (number_entry e) (one_more f r)) = refl

  entries-read :
      {x : Shape} {xs : List Shape} {i : Item} {is : List Item} (js : List Item) (rest : List Shape)
      → Entries (x ∷ xs) (i ∷ is)
      → length js + length (i ∷ is) ≤ 64
      → read_from limit 0 n (inside (item c 0 js)) (flat (entry_shapes (x ∷ xs) ++ sign "]" ∷ rest))
      ≡ read_from limit 0 n (inside (argument_read c (array 0 (js ++ i ∷ is)))) (flat rest)
  unfolding read_from turn
  entries-read js rest (one_more e no_entry) h = entry_read js (sign "]" ∷ rest) e (omega arith)
  entries-read js rest (one_more {i} e (one_more {x = y} {i = j} {xs = ys} {is = ks} f r)) h =
      entry_read js (sign "," ∷ entry_shapes (y ∷ ys) ++ sign "]" ∷ rest) e (omega arith)
      ∙ entries-read (js ++ i ∷ []) rest (one_more f r) (omega (arith, length-append js (i ∷ [])))
      ∙ ap (λ (l : List Item). read_from limit 0 n (inside (argument_read c (array 0 l))) (flat rest)) (append_assoc js (i ∷ []) (j ∷ ks))

  array-read :
      {xs : List Shape} {is : List Item} (rest : List Shape)
      → Entries xs is
      → length is ≤ 64
      → read_from limit 0 n (inside (argument c)) (flat (bracketed xs ++ rest))
      ≡ read_from limit 0 n (inside (argument_read c (array 0 is))) (flat rest)
  unfolding read_from turn
  array-read rest no_entry h = refl
  array-read rest (one_more {x} {xs} e r) h =
      ap (λ (l : List Shape). read_from limit 0 n (inside (array_open c 0)) (flat l))
      (append_assoc (entry_shapes (x ∷ xs)) (sign "]" ∷ []) rest)
      ∙ first_read (sign "]" ∷ rest) (one_more e r)
      ∙ entries-read [] rest (one_more e r) (omega arith)

module _ {limit : ℕ} where
  -- `*`, `+`, a symbol, and a word or number alone
  pub star-printed : Printed limit (sign "*" ∷ []) (star 0)
  unfolding read_from turn
  star-printed = record { spelled = one-spelled refl; read = λ n c m rest e. refl }

  pub plus-printed : Printed limit (sign "+" ∷ []) (plus 0)
  unfolding read_from turn
  plus-printed = record { spelled = one-spelled refl; read = λ n c m rest e. refl }

  pub symbol-printed : {w : List ℕ} → is_word w ≡ true → Printed limit (sign "@" ∷ word w ∷ []) (symbol 0 (name 0 w))
  unfolding read_from turn
  symbol-printed h =
      record { spelled = sign-spelled "@" none-spelled refl (one-spelled h); read = λ n c m rest e. refl }

  pub single-printed : {x : Shape} {i : Item} → Entry x i → Printed limit (x ∷ []) (single i)
  unfolding read_from turn
  single-printed (word_entry h) = record { spelled = one-spelled h; read = λ n c m rest e. refl }
  single-printed (number_entry h) = record { spelled = one-spelled h; read = λ n c m rest e. simp e }

  -- a range of two numbers that make one
  pub range-printed :
      {v w : List ℕ} {a : Arg}
      → is_number v ≡ true
      → is_number w ≡ true
      → range_of limit (name 0 v) (name 0 w) ≡ accepted a
      → Printed limit (number v ∷ sign "." ∷ number w ∷ []) a
  unfolding read_from turn
  range-printed g h r =
      record { spelled = sign-spelled "." (one-spelled g) refl (one-spelled h); read = λ n c m rest e. simp r }

  -- An array, and a list that is bare where it has one entry.
  pub array-printed : {xs : List Shape} {is : List Item} → Entries xs is → length is ≤ 64 → Printed limit (bracketed xs) (array 0 is)
  array-printed r h = record { spelled = bracketed-spelled r; read = λ n c m rest e. array-read limit n c (mark m ∷ rest) r h }

  pub bare-printed : {xs : List Shape} {is : List Item} → Entries xs is → length is ≤ 64 → Printed limit (bare_one xs) (bare_arg is)
  bare-printed no_entry h = array-printed no_entry h
  bare-printed (one_more e no_entry) h = single-printed e
  bare-printed (one_more e (one_more f r)) h = array-printed (one_more e (one_more f r)) h
