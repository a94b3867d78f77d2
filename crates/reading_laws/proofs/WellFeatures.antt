-- A feature of well formed arguments is well formed: so is each part that an argument is taken for.
-- Assumes nothing.
use Prim.Native.Nat.{ℕ}
use mathlib.Core.Path.{◌≡◌, refl}
use mathlib.Core.Bool.{Bool, true}
use mathlib.Core.List.{List}
use Rattle.text.specs.Lists.{all}
use Rattle.text.proofs.Tests.{and_left, and_right, both}
use Rattle.reading.specs.Statement.{Name}
use Rattle.reading.specs.Parts.{Part}
use Rattle.reading.specs.Argument.{Arg}
use Rattle.reading.specs.Feature.{build_feature}
use Rattle.reading_laws.specs.WellFormed.{well_part, well_feature, well_arg, Gives}
use Rattle.reading_laws.specs.Taken.{Others, over, next, left_out, multiplied, meant, added, Taken, first}
use Rattle.reading_laws.proofs.Giving.{gives_more}
use Rattle.reading_laws.proofs.WellArguments.{part_well}
use Rattle.reading_laws.proofs.Parts.{build_taken}

module _ (limit : ℕ) where
  others_well : {bs : List Arg} {ps : List Part} → Others limit bs ps → all (well_arg limit) bs ≡ true → all (well_part limit) ps ≡ true
  others_well over w = refl
  others_well (next {a} {bs} h t) w =
      both (part_well h (and_left (well_arg limit a) (all (well_arg limit) bs) w))
      (others_well t (and_right (well_arg limit a) (all (well_arg limit) bs) w))
  others_well left_out w = refl
  others_well multiplied w = refl
  others_well meant w = refl
  others_well added w = refl

  taken_well : {bs : List Arg} {ps : List Part} → Taken limit bs ps → all (well_arg limit) bs ≡ true → all (well_part limit) ps ≡ true
  taken_well (first h t) w = others_well (next h t) w

  -- The feature of a keyword and well formed arguments is well formed.
  pub build_well :
      (k : Name) (m : Bool) (args : List Arg)
      → all (well_arg limit) args ≡ true
      → Gives (λ f. well_feature limit f ≡ true) (build_feature limit k m args)
  build_well k m args w = gives_more (build_taken limit k m args) λ f b. both (taken_well b.2.arguments w) (b.2.together w)
