-- How the reading of arguments goes on from one to the next, and where it ends.
-- Assumes nothing.
use mathlib.Core.Path.{◌≡◌, refl, ap, sym}
use mathlib.Core.Bool.{true, false}
use mathlib.Core.List.{List, [], ◌∷◌, ◌++◌}
use Prim.Native.Nat.{ℕ, ◌≤◌}
use native.Mathlib.Omega.{arith}
use Rattle.reading.specs.Statement.{Name}
use Rattle.reading.specs.Argument as argument
use Rattle.reading.specs.Syntax.{more, feature_made, closed, comma, empty, wrong}
use Rattle.reading.specs.Syntax as syntax
use Rattle.read_forms.specs.declared.Arg.{Arg}
use Rattle.read_forms.specs.declared.Args.{Args}
use Rattle.read_forms.specs.Forms.{arg_in}
use Rattle.read_arguments.specs.Answers.{step_in}
use Rattle.read_syntax.specs.declared.Head.{Head}
use Rattle.read_syntax.specs.declared.Head.TheVariants as head
use Rattle.read_syntax.specs.declared.Opened.{Opened}
use Rattle.read_syntax.specs.declared.CallRead.{CallRead}
use Rattle.std.specs.Prelude.{Result, Ok, Err}
use Rattle.read_forms.specs.declared.Refusal.{Refusal}
use Rattle.read_syntax.specs.Answers.{call_of, call_made, takes_one, misplaced, OpenedFurther, call_then, CallFurther}
use Rattle.read_syntax.proofs.Held.{Holds, held_build}

pub call_further : (s : List ℕ) (o p : ℕ) (r : Result CallRead Refusal) → o ≤ p → CallFurther s p r → CallFurther s o r
unfolding CallFurther
call_further s o p (Ok c) q f = (omega (arith, f.0), f.1, f.2)
call_further s o p (Err r) q f = f

pub opened-further : (s : List ℕ) (o p : ℕ) (r : Result Opened Refusal) → o ≤ p → OpenedFurther s p r → OpenedFurther s o r
unfolding OpenedFurther
opened-further s o p (Ok c) q f = (omega (arith, f.0), f.1)
opened-further s o p (Err r) q f = f

-- a mark that is not allowed ends the reading
pub misplaced_then :
    (limit o p n : ℕ) (s : List ℕ) (r : Refusal)
    → r ≡ misplaced p
    → ((k : Name) → step_in limit s (wrong p) n ≡ call_then limit s k (Err r)) × CallFurther s o (Err r)
unfolding call_then CallFurther
misplaced_then limit o p n s r e = ((λ k. ap (λ (q : Refusal). call_then limit s k (Err q)) (sym e)), tt)

module _ (s : List ℕ) (k : Name) where
  -- a `,` behind an argument: a LET has no second one
  pub comma-one :
      (o : ℕ) (h : Head) (ys : List argument.Arg) (a : argument.Arg) → takes_one h ≡ true → comma o (call_of s k h ys) a ≡ wrong o
  comma-one o (head.Feature m) ys a e = cc
  comma-one o (head.Let n) ys a e = refl

  pub comma-more :
      (o : ℕ) (h : Head) (ys : List argument.Arg) (a : argument.Arg)
      → takes_one h ≡ false
      → comma o (call_of s k h ys) a ≡ more (syntax.argument (call_of s k h (ys ++ a ∷ [])))
  comma-more o (head.Feature m) ys a e = refl
  comma-more o (head.Let n) ys a e = cc

  -- a `)` behind an argument: what is held makes the statement
  pub closed-made :
      (limit : ℕ) (h : Head) (xs : Args) (x : Arg) (ys : List argument.Arg)
      → Holds s xs (ys ++ arg_in s x ∷ [])
      → (takes_one h ≡ true → ys ≡ [])
      → closed limit (call_of s k h ys) (arg_in s x) ≡ call_made limit s k h xs
  unfolding Holds closed
  closed-made limit (head.Feature m) xs x ys q e = ap feature_made (held_build limit s xs k m (ys ++ arg_in s x ∷ []) q)
  closed-made limit (head.Let n) xs x [] q e = rw q.1
  closed-made limit (head.Let n) xs x (y ∷ later) q e = let z : y ∷ later ≡ [] = e refl in cc

  -- a `)` in the place of an argument: of a LET's, of a feature's first, and of a later one
  pub empty-one : (limit o : ℕ) (h : Head) (ys : List argument.Arg) → takes_one h ≡ true → empty limit o (call_of s k h ys) ≡ wrong o
  empty-one limit o (head.Feature m) ys e = cc
  empty-one limit o (head.Let n) ys e = refl

  pub empty-none :
      (limit o : ℕ) (h : Head) (xs : Args) (ys : List argument.Arg)
      → Holds s xs ys
      → takes_one h ≡ false
      → xs.count ≡ 0
      → empty limit o (call_of s k h ys) ≡ call_made limit s k h xs
  unfolding Holds
  empty-none limit o (head.Feature m) xs [] q e z = ap feature_made (held_build limit s xs k m [] q)
  empty-none limit o (head.Feature m) xs (a ∷ []) q e z = absurd (omega (arith, q.0))
  empty-none limit o (head.Feature m) xs (a ∷ b ∷ []) q e z = absurd (omega (arith, q.0))
  empty-none limit o (head.Feature m) xs (a ∷ b ∷ c ∷ []) q e z = absurd (omega (arith, q.0))
  empty-none limit o (head.Feature m) xs (a ∷ b ∷ c ∷ d ∷ []) q e z = absurd (omega (arith, q.0))
  empty-none limit o (head.Feature m) xs (a ∷ b ∷ c ∷ d ∷ f ∷ fs) q e z = absurd (omega arith)
  empty-none limit o (head.Let n) xs ys q e z = cc

  pub empty_some :
      (limit o : ℕ) (h : Head) (xs : Args) (ys : List argument.Arg)
      → Holds s xs ys
      → (xs.count ≡ 0 → ⊥)
      → empty limit o (call_of s k h ys) ≡ wrong o
  unfolding Holds
  empty_some limit o (head.Feature m) xs [] q z = absurd (z q)
  empty_some limit o (head.Feature m) xs (a ∷ later) q z = refl
  empty_some limit o (head.Let n) xs ys q z = refl
