-- What no arm takes is an argument of a wrong kind, refused at its place.
-- Assumes nothing.
use mathlib.Core.Path.{◌≡◌, refl}
use mathlib.Core.List.{List, [], ◌∷◌}
use mathlib.Core.Option.{some}
use Prim.Native.Nat.{ℕ}
use denote.Enum.Declared.{tag_of}
use types.Run.{OneOf, miss}
use Rattle.labels.specs.declared.Family.{Family}
use Rattle.reading.specs.Statement.{a_word, a_number}
use Rattle.reading.specs.Answer.{refused}
use Rattle.reading.specs.Argument.{place_of, modes_of, counts_of, operand_of, items_of}
use Rattle.reading.specs.Feature.{operator_of, name_of}
use Rattle.read_forms.specs.declared.Arg.{Arg}
use Rattle.read_forms.specs.declared.Arg.TheVariants.{Star, Plus, Symbol, Word, Number, Range, Array}
use Rattle.read_forms.specs.Forms.{arg_in}
use Rattle.read_forms.specs.contracts.Arg.{the_type}

module _ (s : List ℕ) where
  pub no_modes : (f : Family) (a : Arg) → OneOf (1 ∷ 2 ∷ 4 ∷ 5 ∷ []) (tag_of the_type a) → modes_of f (arg_in s a) ≡ refused 9 (place_of (arg_in s a))
  unfolding modes_of arg_in place_of
  no_modes f (Star o) k = absurd (miss (1 ∷ 2 ∷ 4 ∷ 5 ∷ []) 0 tt k)
  no_modes f (Plus o) k = refl
  no_modes f (Symbol o n) k = refl
  no_modes f (Word n) k = absurd (miss (1 ∷ 2 ∷ 4 ∷ 5 ∷ []) 3 tt k)
  no_modes f (Number n) k = refl
  no_modes f (Range o a b) k = refl
  no_modes f (Array o is) k = absurd (miss (1 ∷ 2 ∷ 4 ∷ 5 ∷ []) 6 tt k)

  pub no_counts : (limit : ℕ) (a : Arg) → OneOf (0 ∷ 1 ∷ 2 ∷ 3 ∷ []) (tag_of the_type a) → counts_of limit (arg_in s a) ≡ refused 9 (place_of (arg_in s a))
  unfolding counts_of arg_in place_of
  no_counts limit (Star o) k = refl
  no_counts limit (Plus o) k = refl
  no_counts limit (Symbol o n) k = refl
  no_counts limit (Word n) k = refl
  no_counts limit (Number n) k = absurd (miss (0 ∷ 1 ∷ 2 ∷ 3 ∷ []) 4 tt k)
  no_counts limit (Range o a b) k = absurd (miss (0 ∷ 1 ∷ 2 ∷ 3 ∷ []) 5 tt k)
  no_counts limit (Array o is) k = absurd (miss (0 ∷ 1 ∷ 2 ∷ 3 ∷ []) 6 tt k)

  pub no_operand : (a : Arg) → OneOf (1 ∷ 5 ∷ []) (tag_of the_type a) → operand_of (arg_in s a) ≡ refused 9 (place_of (arg_in s a))
  unfolding operand_of arg_in place_of
  no_operand (Star o) k = absurd (miss (1 ∷ 5 ∷ []) 0 tt k)
  no_operand (Plus o) k = refl
  no_operand (Symbol o n) k = absurd (miss (1 ∷ 5 ∷ []) 2 tt k)
  no_operand (Word n) k = absurd (miss (1 ∷ 5 ∷ []) 3 tt k)
  no_operand (Number n) k = absurd (miss (1 ∷ 5 ∷ []) 4 tt k)
  no_operand (Range o a b) k = refl
  no_operand (Array o is) k = absurd (miss (1 ∷ 5 ∷ []) 6 tt k)

  pub no_items : (a : Arg) → OneOf (0 ∷ 1 ∷ 2 ∷ 5 ∷ []) (tag_of the_type a) → items_of (arg_in s a) ≡ refused 9 (place_of (arg_in s a))
  unfolding items_of arg_in place_of
  no_items (Star o) k = refl
  no_items (Plus o) k = refl
  no_items (Symbol o n) k = refl
  no_items (Word n) k = absurd (miss (0 ∷ 1 ∷ 2 ∷ 5 ∷ []) 3 tt k)
  no_items (Number n) k = absurd (miss (0 ∷ 1 ∷ 2 ∷ 5 ∷ []) 4 tt k)
  no_items (Range o a b) k = refl
  no_items (Array o is) k = absurd (miss (0 ∷ 1 ∷ 2 ∷ 5 ∷ []) 6 tt k)

  pub no_word : (a : Arg) → OneOf (0 ∷ 1 ∷ 2 ∷ 4 ∷ 5 ∷ 6 ∷ []) (tag_of the_type a) → name_of a_word (arg_in s a) ≡ refused 9 (place_of (arg_in s a))
  unfolding name_of arg_in place_of
  no_word (Star o) k = refl
  no_word (Plus o) k = refl
  no_word (Symbol o n) k = refl
  no_word (Word n) k = absurd (miss (0 ∷ 1 ∷ 2 ∷ 4 ∷ 5 ∷ 6 ∷ []) 3 tt k)
  no_word (Number n) k = refl
  no_word (Range o a b) k = refl
  no_word (Array o is) k = refl

  pub no_number : (a : Arg) → OneOf (0 ∷ 1 ∷ 2 ∷ 3 ∷ 5 ∷ 6 ∷ []) (tag_of the_type a) → name_of a_number (arg_in s a) ≡ refused 9 (place_of (arg_in s a))
  unfolding name_of arg_in place_of
  no_number (Star o) k = refl
  no_number (Plus o) k = refl
  no_number (Symbol o n) k = refl
  no_number (Word n) k = refl
  no_number (Number n) k = absurd (miss (0 ∷ 1 ∷ 2 ∷ 3 ∷ 5 ∷ 6 ∷ []) 4 tt k)
  no_number (Range o a b) k = refl
  no_number (Array o is) k = refl

  pub no_operator : (a : Arg) → OneOf (2 ∷ 3 ∷ 4 ∷ 5 ∷ 6 ∷ []) (tag_of the_type a) → operator_of (some (arg_in s a)) ≡ refused 9 (place_of (arg_in s a))
  unfolding operator_of arg_in place_of
  no_operator (Star o) k = absurd (miss (2 ∷ 3 ∷ 4 ∷ 5 ∷ 6 ∷ []) 0 tt k)
  no_operator (Plus o) k = absurd (miss (2 ∷ 3 ∷ 4 ∷ 5 ∷ 6 ∷ []) 1 tt k)
  no_operator (Symbol o n) k = refl
  no_operator (Word n) k = refl
  no_operator (Number n) k = refl
  no_operator (Range o a b) k = refl
  no_operator (Array o is) k = refl
