-- A count that is looked for, and its refusal where there is none. Assumes nothing.
use Rattle.std.specs.Prelude.{Option, Some, None, ok_or}
use mathlib.Core.Path.{◌≡◌, refl}
use Prim.Native.Nat.{ℕ}
use Rattle.reading.specs.Statement.{Name}
use Rattle.reading.specs.Argument.{counted}
use Rattle.read_forms.specs.declared.Fault.TheVariants.{BadCount}
use Rattle.read_forms.specs.Faults.{answered, same}

pub count_told : (n : Name) (o : Option ℕ) → answered same (ok_or o (record { fault = BadCount; place = n.place })) ≡ counted n o
count_told n None = refl
count_told n (Some v) = refl
