-- Document 01, The calls offered: "An effect is five numbers". The record that stands for an effect of the definition, and for a packed one.
use Rattle.std.specs.Prelude.{ℕ}
use Rattle.resolving.specs.Effects as definition
use Rattle.resolve_merging.specs.Packing.{effect_of}
use Rattle.resolve_records.specs.declared.Effect.{Effect}

abbrev pub record_of : definition.Effect → Effect
record_of e =
    record {
      parameter = e.parameter;
      covariate = e.covariate;
      form = e.form;
      operator = e.operator;
      optional = e.optional;
    }

abbrev pub unpacked : ℕ → Effect
unpacked n = record_of (effect_of n)
