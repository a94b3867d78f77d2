-- docs/CALLS.md, The program `ground`: "an effect a line, `PARAMETER COVARIATE FORM OPERATOR` and `optional` or `mandatory`, as
-- `CL WT lin * optional`, in the order of the call".
use Rattle.std.specs.Prelude.{ℕ, cond, List, [], ◌++◌, eqb, get_or}
use Rattle.text.specs.Bytes.{bytes}
use Rattle.text.specs.Lists.{gather}
use Rattle.labels.specs.declared.Family.TheVariants.{CovariateEffect}
use Rattle.labels.specs.Label.{labels_of}
use Rattle.resolving.specs.Context.{Context, covariates}
use Rattle.resolving.specs.Effects.{Effect}

-- "operator (0 `*`, 1 `+`), optional (0 or 1)", each with what stands around it
unfoldable pub operator_word : ℕ → List ℕ
operator_word op = cond (eqb op 1) (bytes " + ") (bytes " * ")

unfoldable pub optional_word : ℕ → List ℕ
optional_word o = cond (eqb o 1) (bytes "optional\n") (bytes "mandatory\n")

-- the form by its label, and all that follows it
unfoldable pub form_words : Effect → List ℕ
form_words e = get_or (labels_of CovariateEffect) e.form [] ++ (operator_word e.operator ++ optional_word e.optional)

-- "parameter and covariate, each the index of its name's first entry in its list"
unfoldable pub effect_line : Context → Effect → List ℕ
effect_line c e =
    get_or c.parameters e.parameter [] ++ (bytes " " ++ (get_or (covariates c) e.covariate [] ++ (bytes " " ++ form_words e)))

unfoldable pub effect_lines : Context → List Effect → List ℕ
effect_lines c es = gather (effect_line c) es
