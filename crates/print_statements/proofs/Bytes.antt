-- The bytes of a statement are those of its keyword and of its parts.
-- Assumes nothing.
use mathlib.Core.Path.{◌≡◌, refl, ◌∙◌, ap, sym}
use mathlib.Core.Bool.{Bool, true, false, false≢true}
use mathlib.Core.List.{List, [], ◌∷◌, ◌++◌, append_assoc, append-nil}
use Prim.Native.Nat.{ℕ}
use lib.ListN.{get_or}
use Rattle.text.specs.Bytes.{bytes}
use Rattle.tokens.specs.Token.{Shape, word}
use Rattle.tokens.specs.Spelling.{spell_all}
use Rattle.labels.specs.Label.{keywords}
use Rattle.reading.specs.Statement.{Name}
use Rattle.reading.specs.Parts.{Part}
use Rattle.canonical.specs.Canonical.{
  sign,
  name_shape,
  argument_shapes,
  question_mark,
  call_shapes,
  part_shapes,
  parts_shapes,
  taken_shapes,
  statement_shapes,
}
use Rattle.read_forms.specs.declared.Statement.{Statement}
use Rattle.read_forms.specs.Forms.{statement_in}
use Rattle.print_parts.proofs.Bytes.{spell_one, spell-name}
use Rattle.tokens.proofs.Spelling.{spell-append}
use Rattle.read_parts.specs.declared.Part as form
use Rattle.read_parts.specs.declared.Part.TheVariants as variant
use Rattle.read_parts.specs.declared.Parts.{Parts}
use Rattle.read_parts.specs.Apart.{apart, is_written}
use Rattle.read_parts.specs.Meaning.{part_in, parts_in}
use Rattle.read_parts.proofs.Meaning.{taken}
use Rattle.print_statements.specs.Bytes.{head_of, behind, shapes_in, some_shapes, bytes_of}

-- a keyword with its `?` and its `(`, the arguments, and the `)`
pub call_bytes :
    (k : List ℕ) (m : Bool) (xs : List (List Shape))
    → spell_all (call_shapes k m xs) ≡ head_of k m ++ (spell_all (argument_shapes xs) ++ bytes ")")
call_bytes k m xs =
    spell-append (word k ∷ question_mark m ++ sign "(" ∷ argument_shapes xs) (sign ")" ∷ [])
    ∙ ap (λ (l : List ℕ). (k ++ l) ++ bytes ")") (spell-append (question_mark m) (sign "(" ∷ argument_shapes xs))
    ∙ simp append_assoc

-- an argument, and those behind it
pub first-argument :
    (a : List Shape) (bs : List (List Shape)) → spell_all (argument_shapes (a ∷ bs)) ≡ spell_all a ++ spell_all (behind bs)
first-argument a [] = sym (append-nil (spell_all a))
first-argument a (b ∷ bs) = spell-append a (sign "," ∷ argument_shapes (b ∷ bs))

behind_more : (xs ys : List (List Shape)) → spell_all (behind (xs ++ ys)) ≡ spell_all (behind xs) ++ spell_all (behind ys)
behind_more [] ys = refl
behind_more (x ∷ xs) ys =
    ap (λ (l : List ℕ). bytes "," ++ l)
    (first-argument x (xs ++ ys)
    ∙ ap (λ (l : List ℕ). spell_all x ++ l) (behind_more xs ys)
    ∙ sym (append_assoc (spell_all x) (spell_all (behind xs)) (spell_all (behind ys)))
    ∙ ap (λ (l : List ℕ). l ++ spell_all (behind ys)) (sym (first-argument x xs)))

-- a part that is always printed is one argument
first_more :
    (s : List ℕ) (p : form.Part) (ys : List (List Shape))
    → is_written p ≡ true
    → spell_all (argument_shapes (shapes_in s p ++ ys)) ≡ spell_all (argument_shapes (shapes_in s p)) ++ spell_all (behind ys)
first_more s variant.Absent ys e = absurd (false≢true e)
first_more s (variant.Modes f m) ys e = first-argument _ ys
first_more s (variant.Counts c) ys e = first-argument _ ys
first_more s variant.N ys e = first-argument _ ys
first_more s (variant.Operand p) ys e = first-argument _ ys
first_more s (variant.Name n) ys e = first-argument _ ys
first_more s (variant.Values is) ys e = first-argument _ ys
first_more s (variant.Op op) ys e = absurd (false≢true e)
first_more s variant.Omitted ys e = absurd (false≢true e)

all_more : (ps qs : List Part) → parts_shapes (ps ++ qs) ≡ parts_shapes ps ++ parts_shapes qs
all_more [] qs = refl
all_more (p ∷ ps) qs =
    ap (λ (l : List (List Shape)). part_shapes p ++ l) (all_more ps qs) ∙ sym (append_assoc (part_shapes p) (parts_shapes ps) (parts_shapes qs))

-- a name alone
pub name-alone : (n : Name) → spell_all (name_shape n ∷ []) ≡ n.spelling
name-alone n = spell_one (name_shape n) ∙ spell-name n

-- a part behind its `,`, or none
pub no_shapes : (xs : List (List Shape)) → some_shapes xs ≡ false → spell_all (behind xs) ≡ []
no_shapes [] e = refl
no_shapes (x ∷ xs) e = absurd (false≢true (sym e))

pub some_shapes_lem : (xs : List (List Shape)) → some_shapes xs ≡ true → spell_all (behind xs) ≡ bytes "," ++ spell_all (argument_shapes xs)
some_shapes_lem [] e = absurd (false≢true e)
some_shapes_lem (x ∷ xs) e = refl

module _ (s : List ℕ) (r : Parts) where
  -- the parts of a form, one behind the other
  abbrev pub fourth : List ℕ
  fourth = spell_all (behind (shapes_in s r.fourth)) ++ bytes ")"

  abbrev pub third : List ℕ
  third = spell_all (behind (shapes_in s r.third)) ++ fourth

  abbrev pub second : List ℕ
  second = spell_all (behind (shapes_in s r.second)) ++ third

  abbrev pub first : List ℕ
  first = spell_all (argument_shapes (shapes_in s r.first)) ++ second

  abbrev pub pieces : List ℕ
  pieces = head_of (get_or keywords r.keyword []) r.optional ++ first

  pub parts_bytes : is_written r.first ≡ true → bytes_of s r ≡ pieces
  unfolding parts_in
  parts_bytes w =
      call_bytes (get_or keywords r.keyword []) r.optional (parts_shapes (parts_in s r).arguments)
      ∙ ap (λ (l : List ℕ). head_of (get_or keywords r.keyword []) r.optional ++ l)
      (rw (
        all_more (part_in s r.first) (part_in s r.second ++ (part_in s r.third ++ part_in s r.fourth)),
        all_more (part_in s r.second) (part_in s r.third ++ part_in s r.fourth),
        all_more (part_in s r.third) (part_in s r.fourth),
        first_more s r.first (shapes_in s r.second ++ (shapes_in s r.third ++ shapes_in s r.fourth)) w,
        behind_more (shapes_in s r.second) (shapes_in s r.third ++ shapes_in s r.fourth),
        behind_more (shapes_in s r.third) (shapes_in s r.fourth),
      )
      (simp append_assoc))

-- A statement's bytes are those of its parts.
pub statement-bytes : (s : List ℕ) (st : Statement) → spell_all (statement_shapes (statement_in s st)) ≡ bytes_of s (apart st)
unfolding statement_shapes
statement-bytes s st = ap (λ p. spell_all (taken_shapes p)) (sym (taken s st).mean)
