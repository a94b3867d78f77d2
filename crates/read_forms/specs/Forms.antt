-- What a form means: the argument or the statement of the definition of reading that it stands for in a text.
use Rattle.std.specs.Prelude.{ℕ, ◌-◌, List, ◌∷◌, map, take, replicate, Option as Option·rust, Some, None}
use Rattle.std.proofs.Math.Option.{Option, some, none}
use Rattle.counts.specs.Count.{count_of}
use Rattle.labels.specs.declared.Family.{Family}
use Rattle.labels.specs.Word.{find}
use Rattle.labels.specs.Label.{labels_of}
use Rattle.reading.specs.Statement.{Name, a_word, a_number, Item}
use Rattle.reading.specs.Statement as statement
use Rattle.read_packs.specs.Packs.{places}
use Rattle.reading.specs.Argument as argument
use Rattle.read_forms.specs.declared.Arg.{Arg}
use Rattle.read_forms.specs.declared.Arg.TheVariants.{Star, Plus, Symbol, Word, Number, Range, Array}
use Rattle.read_forms.specs.declared.Args.{Args}
use Rattle.read_forms.specs.declared.Modes.{Modes}
use Rattle.read_forms.specs.declared.Modes.TheVariants as modes
use Rattle.read_forms.specs.declared.Counts.{Counts}
use Rattle.read_forms.specs.declared.Counts.TheVariants as counts
use Rattle.read_forms.specs.declared.TransitCounts.{TransitCounts}
use Rattle.read_forms.specs.declared.TransitCounts.TheVariants as transits
use Rattle.read_forms.specs.declared.Operand.{Operand}
use Rattle.read_forms.specs.declared.Operand.TheVariants as operand
use Rattle.read_forms.specs.declared.CovariateOp.{CovariateOp}
use Rattle.read_forms.specs.declared.CovariateOp.TheVariants.{Multiply, Add}
use Rattle.read_forms.specs.declared.Feature.{Feature}
use Rattle.read_forms.specs.declared.Feature.TheVariants.{
  Absorption,
  Elimination,
  Peripherals,
  Transits,
  Lagtime,
  Covariate,
  Allometry,
  DirectEffect,
  EffectComp,
  IndirectEffect,
  Metabolite,
  Iiv,
  Iov,
  Covariance,
}
use Rattle.read_forms.specs.declared.Statement.{Statement}
use Rattle.read_forms.specs.declared.Statement.TheVariants as statements
use Rattle.read_forms.specs.declared.Name as form
use Rattle.read_forms.specs.declared.Items.{Items}
use Rattle.read_forms.specs.Items.{name_in, items_in}

unfoldable pub arg_in : List ℕ → Arg → argument.Arg
arg_in s (Star o) = argument.star o
arg_in s (Plus o) = argument.plus o
arg_in s (Symbol o n) = argument.symbol o (name_in s n)
arg_in s (Word n) = argument.single (record { kind = a_word; name = name_in s n })
arg_in s (Number n) = argument.single (record { kind = a_number; name = name_in s n })
arg_in s (Range o a b) = argument.range o a b
arg_in s (Array o is) = argument.array o (items_in s is)

-- the arguments; those after the fourth, which no feature takes, stand as `*`
unfoldable pub args_in : List ℕ → Args → List argument.Arg
args_in s xs =
    take xs.count
    (arg_in s xs.first
    ∷ arg_in s xs.second
    ∷ arg_in s xs.third
    ∷ arg_in s xs.fourth
    ∷ replicate (xs.count - 4) (argument.star 0))

-- the place of each entry in a family, all of them being labels of it
abbrev pub place_or0 : Option ℕ → ℕ
place_or0 none = 0
place_or0 (some i) = i

abbrev pub place_for : Family → Item → ℕ
place_for f i = place_or0 (find i.name.spelling (labels_of f))

abbrev pub places_in : Family → List Item → List ℕ
places_in f is = map (place_for f) is

unfoldable pub modes_in : Modes → statement.Modes
modes_in modes.Wildcard = statement.all_modes
modes_in (modes.List n) = statement.modes (places n)

-- each entry as a 32-bit number, all of them being counts
abbrev pub count_or0 : Option·rust ℕ → ℕ
count_or0 None = 0
count_or0 (Some v) = v

abbrev pub count_for : Item → ℕ
count_for i = count_or0 (count_of 4294967295 i.name.spelling)

abbrev pub values_in : List Item → List ℕ
values_in is = map count_for is

unfoldable pub counts_in : List ℕ → Counts → statement.Counts
counts_in s (counts.Single v) = statement.count v
counts_in s (counts.Range a b) = statement.range a b
counts_in s (counts.List is) = statement.counts (values_in (items_in s is))

unfoldable pub transits_in : List ℕ → TransitCounts → statement.TransitCounts
transits_in s transits.N = statement.estimated
transits_in s (transits.Counts c) = statement.counted (counts_in s c)

unfoldable pub operand_in : List ℕ → Operand → statement.Operand
operand_in s operand.Wildcard = statement.everyone
operand_in s (operand.Symbol n) = statement.symbol (name_in s n)
operand_in s (operand.Names is) = statement.names (map (λ i. i.name) (items_in s is))

abbrev pub op_as : CovariateOp → statement.Operator
op_as Multiply = statement.multiply
op_as Add = statement.add

-- what may be left out, by what it stands for
unfoldable pub some_in : {A B : Type 0} → (A → B) → Option·rust A → Option B
some_in f None = none
some_in f (Some a) = some (f a)

-- What the names and the lists of a form mean, wherever they stand. Lists stand in the first two arguments alone.
pub record Meanings : Type 0 where
  pub name : form.Name → Name
  pub counts : Counts → statement.Counts
  pub transits : TransitCounts → statement.TransitCounts
  pub first : Operand → statement.Operand
  pub second : Operand → statement.Operand
  pub values : Items → List Item

abbrev pub feature_by : Meanings → Feature → statement.Feature
feature_by x (Absorption m) = statement.Absorption (modes_in m)
feature_by x (Elimination m) = statement.Elimination (modes_in m)
feature_by x (Peripherals c k) = statement.Peripherals (x.counts c) (some_in modes_in k)
feature_by x (Transits c d) = statement.Transits (x.transits c) (some_in modes_in d)
feature_by x (Lagtime m) = statement.Lagtime (modes_in m)
feature_by x (Covariate o p c e op) = statement.Covariate o (x.first p) (x.second c) (modes_in e) (op_as op)
feature_by x (Allometry c r) = statement.Allometry (x.name c) (some_in x.name r)
feature_by x (DirectEffect m) = statement.DirectEffect (modes_in m)
feature_by x (EffectComp m) = statement.EffectComp (modes_in m)
feature_by x (IndirectEffect m p) = statement.IndirectEffect (modes_in m) (modes_in p)
feature_by x (Metabolite m) = statement.Metabolite (modes_in m)
feature_by x (Iiv o p e) = statement.Iiv o (x.first p) (modes_in e)
feature_by x (Iov o p e) = statement.Iov o (x.first p) (modes_in e)
feature_by x (Covariance o l p) = statement.Covariance o (modes_in l) (x.second p)

abbrev pub statement_by : Meanings → Statement → statement.Statement
statement_by x (statements.Let n is) = statement.Let (x.name n) (x.values is)
statement_by x (statements.Feature f) = statement.feature (feature_by x f)

-- in a text
abbrev pub in_text : List ℕ → Meanings
in_text s = record {
  name = name_in s;
  counts = counts_in s;
  transits = transits_in s;
  first = operand_in s;
  second = operand_in s;
  values = items_in s;
}

unfoldable pub feature_in : List ℕ → Feature → statement.Feature
feature_in s f = feature_by (in_text s) f

unfoldable pub statement_in : List ℕ → Statement → statement.Statement
statement_in s (statements.Let n is) = statement.Let (name_in s n) (items_in s is)
statement_in s (statements.Feature f) = statement.feature (feature_in s f)
