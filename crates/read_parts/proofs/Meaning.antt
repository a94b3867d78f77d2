-- The parts of a form are those of the statement that it stands for; the first is always printed, the keyword is one of the table, and lists
-- stand in the first two alone.
-- Assumes nothing.
use Prim.Native.Nat.{ℕ, ◌<◌}
use mathlib.Core.Path.{◌≡◌, refl}
use mathlib.Core.Bool.{true}
use mathlib.Core.List.{List}
use lib.Dec.{lit<}
use lib.ListN.{length}
use Rattle.labels.specs.Label.{keywords}
use Rattle.reading.specs.Parts.{feature_parts, parts_of}
use Rattle.read_forms.specs.declared.TransitCounts.TheVariants as transits
use Rattle.std.specs.Prelude.{Some, None}
use Rattle.read_forms.specs.declared.Feature.TheVariants.{
  Absorption,
  Elimination,
  Peripherals,
  Transits,
  Lagtime,
  Covariate,
  Allometry,
  DirectEffect,
  EffectComp,
  IndirectEffect,
  Metabolite,
  Iiv,
  Iov,
  Covariance,
}
use Rattle.read_forms.specs.declared.Statement.{Statement}
use Rattle.read_forms.specs.declared.Statement.TheVariants as statement
use Rattle.read_forms.specs.Forms.{transits_in, some_in, feature_in, statement_in}
use Rattle.read_parts.specs.Apart.{feature_apart, apart, is_written, no_counts, is_plain}
use Rattle.read_parts.specs.Meaning.{parts_in}

-- What is said of every form.
pub record Taken (s : List ℕ) (st : Statement) : Type 0 where
  pub mean : parts_in s (apart st) ≡ parts_of (statement_in s st)
  pub written : is_written (apart st).first ≡ true
  pub known : (apart st).keyword < length keywords
  pub second : no_counts (apart st).second ≡ true
  pub third : is_plain (apart st).third ≡ true
  pub fourth : is_plain (apart st).fourth ≡ true

pub taken : (s : List ℕ) (st : Statement) → Taken s st
unfolding parts_in apart feature_apart statement_in feature_in parts_of feature_parts transits_in some_in keywords
taken s (statement.Let n is) = record { mean = refl; written = refl; known = lit< tt; second = refl; third = refl; fourth = refl }
taken s (statement.Feature (Absorption m)) = record { mean = refl; written = refl; known = lit< tt; second = refl; third = refl; fourth = refl }
taken s (statement.Feature (Elimination m)) = record { mean = refl; written = refl; known = lit< tt; second = refl; third = refl; fourth = refl }
taken s (statement.Feature (Peripherals c None)) = record { mean = refl; written = refl; known = lit< tt; second = refl; third = refl; fourth = refl }
taken s (statement.Feature (Peripherals c (Some k))) = record { mean = refl; written = refl; known = lit< tt; second = refl; third = refl; fourth = refl }
taken s (statement.Feature (Transits transits.N None)) = record { mean = refl; written = refl; known = lit< tt; second = refl; third = refl; fourth = refl }
taken s (statement.Feature (Transits transits.N (Some d))) = record { mean = refl; written = refl; known = lit< tt; second = refl; third = refl; fourth = refl }
taken s (statement.Feature (Transits (transits.Counts c) None)) = record { mean = refl; written = refl; known = lit< tt; second = refl; third = refl; fourth = refl }
taken s (statement.Feature (Transits (transits.Counts c) (Some d))) = record { mean = refl; written = refl; known = lit< tt; second = refl; third = refl; fourth = refl }
taken s (statement.Feature (Lagtime m)) = record { mean = refl; written = refl; known = lit< tt; second = refl; third = refl; fourth = refl }
taken s (statement.Feature (Covariate o p c e op)) = record { mean = refl; written = refl; known = lit< tt; second = refl; third = refl; fourth = refl }
taken s (statement.Feature (Allometry n None)) = record { mean = refl; written = refl; known = lit< tt; second = refl; third = refl; fourth = refl }
taken s (statement.Feature (Allometry n (Some r))) = record { mean = refl; written = refl; known = lit< tt; second = refl; third = refl; fourth = refl }
taken s (statement.Feature (DirectEffect m)) = record { mean = refl; written = refl; known = lit< tt; second = refl; third = refl; fourth = refl }
taken s (statement.Feature (EffectComp m)) = record { mean = refl; written = refl; known = lit< tt; second = refl; third = refl; fourth = refl }
taken s (statement.Feature (IndirectEffect m p)) = record { mean = refl; written = refl; known = lit< tt; second = refl; third = refl; fourth = refl }
taken s (statement.Feature (Metabolite m)) = record { mean = refl; written = refl; known = lit< tt; second = refl; third = refl; fourth = refl }
taken s (statement.Feature (Iiv o p e)) = record { mean = refl; written = refl; known = lit< tt; second = refl; third = refl; fourth = refl }
taken s (statement.Feature (Iov o p e)) = record { mean = refl; written = refl; known = lit< tt; second = refl; third = refl; fourth = refl }
taken s (statement.Feature (Covariance o l p)) = record { mean = refl; written = refl; known = lit< tt; second = refl; third = refl; fourth = refl }
