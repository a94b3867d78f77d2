-- The bytes of a group's ground statement, piece by piece.
-- Assumes nothing.
use Prim.Native.Nat.{ℕ}
use mathlib.Core.Path.{◌≡◌, refl, ◌∙◌, ap}
use mathlib.Core.Bool.{Bool}
use mathlib.Core.List.{List, [], ◌∷◌, ◌++◌, append_assoc, append-nil}
use lib.ListN.{get_or}
use borrow.Author.Tests.{eq-eqb, ne_eqb}
use Rattle.text.specs.Bytes.{bytes}
use Rattle.tokens.specs.Token.{Shape}
use Rattle.tokens.specs.Spelling.{spell_all}
use Rattle.labels.specs.declared.Family.TheVariants.{CovariateEffect}
use Rattle.labels.specs.Label.{keywords}
use Rattle.reading.specs.Statement.{modes}
use Rattle.reading.specs.Parts.{parts_of, feature_parts}
use Rattle.canonical.specs.Canonical.{name_shape, modes_shapes, operator_shapes, call_shapes, statement_shapes}
use Rattle.resolving.specs.Brought.{plain_name}
use Rattle.resolving.specs.Context.{Context, covariates}
use Rattle.resolving.specs.Ground.{is_optional, operator_as}
use Rattle.print_statements.specs.Bytes.{head_of, behind}
use Rattle.print_statements.proofs.Bytes.{call_bytes, first-argument, name-alone}
use Rattle.resolve_grounding.specs.Groups.{group_statement, sign_bytes}

-- the operator: nothing, or `,` and `+`
pub no_sign : (o : ℕ) → o ≡ 0 → sign_bytes o ≡ []
no_sign o e = simp (eq-eqb o 0 e)

pub plus-sign : (o : ℕ) → (o ≡ 0 → ⊥) → sign_bytes o ≡ bytes "," ++ bytes "+"
plus-sign o n = simp (ne_eqb o 0 n)

-- three arguments, and those behind them
three_bytes :
    (k : List ℕ) (m : Bool) (a b f : List Shape) (more : List (List Shape))
    → spell_all (call_shapes k m (a ∷ b ∷ f ∷ more))
    ≡ head_of k m ++ (spell_all a ++ (bytes "," ++ (spell_all b ++ (bytes "," ++ (spell_all f ++ (spell_all (behind more) ++ bytes ")"))))))
three_bytes k m a b f more =
    call_bytes k m (a ∷ b ∷ f ∷ more)
    ∙ ap (λ (l : List ℕ). head_of k m ++ (l ++ bytes ")"))
    (first-argument a (b ∷ f ∷ more)
    ∙ ap (λ (l : List ℕ). spell_all a ++ (bytes "," ++ l))
    (first-argument b (f ∷ more) ∙ ap (λ (l : List ℕ). spell_all b ++ (bytes "," ++ l)) (first-argument f more)))
    ∙ simp append_assoc

pub group-bytes :
    (c : Context) (p v : ℕ) (fs : List ℕ) (o m : ℕ)
    → spell_all (statement_shapes (group_statement c p v fs o m))
    ≡ head_of (get_or keywords 5 []) (is_optional m)
    ++ (get_or c.parameters p []
    ++ (bytes "," ++ (get_or (covariates c) v [] ++ (bytes "," ++ (spell_all (modes_shapes CovariateEffect (modes fs)) ++ (sign_bytes o ++ bytes ")"))))))
unfolding statement_shapes parts_of feature_parts
group-bytes c p v fs o m =
    let own = plain_name (get_or c.parameters p []) in
    let other = plain_name (get_or (covariates c) v []) in
    three_bytes (get_or keywords 5 []) (is_optional m) (name_shape own ∷ []) (name_shape other ∷ []) (modes_shapes CovariateEffect (modes fs))
    (operator_shapes (operator_as o) ++ [])
    ∙ rw (name-alone own, name-alone other, append-nil (operator_shapes (operator_as o))) refl
