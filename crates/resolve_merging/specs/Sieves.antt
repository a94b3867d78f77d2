-- Which terms a pass leaves out: those that an explicit one overrides; optional ones that are mandatory too; repeats.
pub data Pass : Type 0 where
  Overridden : Pass
  AlsoMandatory : Pass
  Repeated : Pass
