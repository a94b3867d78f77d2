-- How long the ground COVARIATEs of groups can be: short enough that their indexes can be told.
-- Assumes nothing.
use Prim.Native.Nat.{ℕ, zero, suc, ◌+◌, ◌*◌, ◌≤◌}
use native.Mathlib.Omega.{arith}
use mathlib.Core.Path.{◌≡◌, ◌∙◌, ap}
use mathlib.Core.Bool.{true}
use mathlib.Core.List.{List, [], ◌∷◌, ◌++◌}
use lib.ListN.{length, get_or, length-append}
use Rattle.text.specs.Bytes.{bytes}
use Rattle.tokens.specs.Token.{Shape}
use Rattle.tokens.specs.Spelling.{spell_all}
use Rattle.labels.specs.declared.Family.TheVariants.{CovariateEffect}
use Rattle.reading.specs.Statement.{modes, Operator, multiply, add, Statement}
use Rattle.reading.specs.Parts.{parts_of, feature_parts}
use Rattle.canonical.specs.Canonical.{sign, keyword_at, modes_shapes, operand_shapes, operator_shapes, argument_shapes, statement_shapes}
use Rattle.tokens.proofs.Spelling.{spell-append}
use Rattle.print_statements.specs.Bytes.{head_of}
use Rattle.print_statements.proofs.Bytes.{call_bytes, name-alone}
use Rattle.canonical.specs.Lines.{joint_of, piece_of, rest_of}
use Rattle.resolving.specs.Context.{Context, covariates}
use Rattle.resolving.specs.Brought.{plain_name, listed}
use Rattle.resolving.specs.Ground.{Group, operator_as, is_optional, ground_covariate}
use Rattle.text.proofs.All.{All, finished, also}
use Rattle.resolve_grounding.proofs.Sizes.{variables_short}

-- an argument, and those behind it
argument-size :
    (x y : List Shape) (zs : List (List Shape))
    → length (spell_all (argument_shapes (x ∷ y ∷ zs))) ≡ length (spell_all x) + (1 + length (spell_all (argument_shapes (y ∷ zs))))
argument-size x y zs =
    ap length (spell-append x (sign "," ∷ argument_shapes (y ∷ zs)))
    ∙ length-append (spell_all x) (spell_all (sign "," ∷ argument_shapes (y ∷ zs)))
    ∙ omega arith

-- three arguments and an operator, of which only `+` is printed
arguments-size :
    (x y z : List Shape) (op : Operator)
    → length (spell_all (argument_shapes (x ∷ y ∷ z ∷ (operator_shapes op ++ []))))
    ≤ length (spell_all x) + length (spell_all y) + length (spell_all z) + 4
arguments-size x y z multiply = omega (arith, argument-size x y (z ∷ []), argument-size y z [])
arguments-size x y z add =
    omega (
      arith,
      argument-size x y (z ∷ (sign "+" ∷ []) ∷ []),
      argument-size y z ((sign "+" ∷ []) ∷ []),
      argument-size z (sign "+" ∷ []) [],
    )

-- A group's statement is one of names and modes, with one name more and an operator.
module _
    (c : Context)
    (own : (i : ℕ) → length (get_or c.parameters i []) ≤ 32)
    (other : (i : ℕ) → length (get_or (covariates c) i []) ≤ 32) where
  pub group-short : (g : Group) (fs : List ℕ) → length fs ≤ 8 → length (spell_all (statement_shapes (ground_covariate c g fs))) ≤ 9000
  unfolding statement_shapes parts_of feature_parts
  group-short g fs few =
      let head = head_of (keyword_at 5) (is_optional g.optional) in
      let x = operand_shapes (listed c.parameters (g.parameter ∷ [])) in
      let y = operand_shapes (listed (covariates c) (g.covariate ∷ [])) in
      let z = modes_shapes CovariateEffect (modes fs) in
      let all = x ∷ y ∷ z ∷ (operator_shapes (operator_as g.operator) ++ []) in
      omega (
        arith,
        variables_short c.parameters own (g.parameter ∷ []) (omega arith) CovariateEffect (modes fs) few 5 (is_optional g.optional) true,
        length-append head (spell_all x ++ (bytes "," ++ (spell_all z ++ bytes ")"))),
        length-append (spell_all x) (bytes "," ++ (spell_all z ++ bytes ")")),
        length-append (spell_all z) (bytes ")"),
        other g.covariate,
        ap length (name-alone (plain_name (get_or (covariates c) g.covariate []))),
        arguments-size x y z (operator_as g.operator),
        ap length (call_bytes (keyword_at 5) (is_optional g.optional) all),
        length-append head (spell_all (argument_shapes all) ++ bytes ")"),
        length-append (spell_all (argument_shapes all)) (bytes ")"),
      )

-- Statements one behind the other.

joint_size : (n : ℕ) → length (joint_of n) ≤ 1
joint_size zero = omega arith
joint_size (suc n) = omega arith

pub pieces_short :
    (n : ℕ) {xs : List Statement}
    → All (λ x. length (spell_all (statement_shapes x)) ≤ 9000) xs
    → length (rest_of n xs) ≤ 9001 * length xs
pieces_short n finished = omega arith
pieces_short n (also {x} {l} h r) =
    omega (
      arith,
      h,
      pieces_short (suc n) r,
      joint_size n,
      length-append (joint_of n) (spell_all (statement_shapes x)),
      length-append (piece_of n x) (rest_of (suc n) l),
    )
