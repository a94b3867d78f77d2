-- Which terms a pass leaves out: those that an explicit one overrides; optional ones that are mandatory too.
pub data Pass : Type 0 where
  Overridden : Pass
  AlsoMandatory : Pass
