-- A term in one number: optional 1 bit, operator 1, form 3, covariate 6, parameter 6 (its effect), explicit 1, statement 8.
use Rattle.std.specs.Prelude.{ℕ, ◌+◌, ◌*◌, ◌/◌, ◌%◌, eqb}
use Rattle.resolving.specs.Effects.{Effect}
use Rattle.resolving.specs.Ground.{Group}
use Rattle.resolving_laws.specs.Flat.{Term, term}

abbrev pub effect_of : ℕ → Effect
effect_of w =
    record {
      parameter = w / 2048 % 64;
      covariate = w / 32 % 64;
      form = w / 4 % 8;
      operator = w / 2 % 2;
      optional = w % 2;
    }

abbrev pub term_of : ℕ → Term
term_of w = term (w / 262144) (eqb (w / 131072 % 2) 1) (effect_of w)

-- a term's effect, and its pair
abbrev pub bare : ℕ → ℕ
bare w = w % 131072

abbrev pub pair_of : ℕ → ℕ
pair_of w = w / 32 % 4096

-- the effect without its form, as a number that stands for its group; and the form
abbrev pub group_number : ℕ → ℕ
group_number w = w / 32 % 4096 * 32 + w % 4

abbrev pub group_as : ℕ → Group
group_as g = record { parameter = g / 2048 % 64; covariate = g / 32 % 64; operator = g / 2 % 2; optional = g % 2 }

abbrev pub form_number : ℕ → ℕ
form_number w = w / 4 % 8
