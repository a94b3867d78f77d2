-- What is known at each stage where the ground statements of what stays are written already; and what is answered of it.
use Rattle.std.specs.Prelude.{ℕ, ◌≤◌, ◌<◌, List, map, ◌≡◌, length, take}
use Rattle.reading.specs.Statement.{Statement}
use Rattle.reading.specs.Answer.{Answer}
use Rattle.print_writing.specs.Written.{Written}
use Rattle.canonical.specs.Lines.{rest_of}
use Rattle.text.specs.Lists.{gather}
use Rattle.resolving.specs.Context.{Context}
use Rattle.resolving.specs.Symbols.{Meaning}
use Rattle.resolving.specs.Brought.{Brought, bring, each_from}
use Rattle.resolving.specs.Merging.{merged}
use Rattle.resolving.specs.Ground.{staying}
use Rattle.resolving.specs.Resolve as definition
use Rattle.resolve_merging.specs.Packing.{effect_of}
use Rattle.resolve_groups.specs.Known.{GroupsKnown}
use Rattle.resolve_statements.specs.declared.Tally.{Tally}
use Rattle.std.specs.Prelude as prelude
use Rattle.resolve_settling.specs.Answers.{Resolved, Answers}
use Rattle.resolve_settling.specs.Stages.{Tallied, BroughtThere}

-- `made` has the ground statements of what stays, as far as there is room for them
pub record StaysWritten (c : Context) (t : Tally) (dropped work made : List ℕ) : Type 0 where
  pub statements : List Statement
  pub look : Meaning
  pub there : BroughtThere (each_from (bring c look) 0 statements) t dropped work
  pub before : List ℕ
  pub text : Written before 0 (rest_of 0 (gather staying there.what)) made t.ground

-- the merged effects stand from 0 on, and their groups are listed
pub record EffectsGrouped (c : Context) (t : Tally) (dropped work listed : List ℕ) (count groups : ℕ) (made : List ℕ) : Type 0 where
  pub what : List Brought
  pub tallied : Tallied what t dropped
  pub effects : map effect_of (take count work) ≡ merged what
  pub room : count ≤ length work
  pub known : GroupsKnown c work listed count groups
  pub before : List ℕ
  pub text : Written before 0 (rest_of 0 (gather staying what)) made t.ground

-- an answer, or none, and then nothing was put out
unfoldable pub AttemptAs : Answer definition.Resolved → List ℕ → ℕ → List (List ℕ) → List ℕ → List (List ℕ) → List ℕ → prelude.Option Resolved → Type 0
AttemptAs a made room notes ground' notes' work' (prelude.Some r) = Answers a made room notes ground' notes' work' r
AttemptAs a made room notes ground' notes' work' prelude.None = (ground' ≡ made) × (notes' ≡ notes)

-- there is none only where what is made has less room than a ground text may need
unfoldable pub Roomy : List ℕ → prelude.Option Resolved → Type 0
Roomy made (prelude.Some r) = Unit {0}
Roomy made prelude.None = length made < 16384
