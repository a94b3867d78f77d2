-- What lies further on than one offset lies further on than an earlier one.
-- Assumes nothing.
use mathlib.Core.List.{List}
use Prim.Native.Nat.{ℕ, ◌≤◌}
use native.Mathlib.Omega.{arith}
use Rattle.std.specs.Prelude.{Result, Ok, Err}
use Rattle.read_forms.specs.declared.Refusal.{Refusal}
use Rattle.read_arguments.specs.declared.ArgRead.{ArgRead}
use Rattle.read_arguments.specs.declared.ArgRead.TheVariants.{Arg, Close}
use Rattle.read_arguments.specs.Answers.{ArgFurther}

pub further : (s : List ℕ) (o p : ℕ) (r : Result ArgRead Refusal) → o ≤ p → ArgFurther s p r → ArgFurther s o r
unfolding ArgFurther
further s o p (Ok (Arg a n)) h f = (omega (arith, f.0), f.1, f.2)
further s o p (Ok (Close q n)) h f = (omega (arith, f.0), f.1)
further s o p (Err r) h f = f
