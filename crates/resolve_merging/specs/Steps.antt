-- What a term makes of its pair's number: 0; 1, if it is explicit; one flag more, if it is mandatory.
pub data Step : Type 0 where
  Clear : Step
  Explicit : Step
  Mandatory : Step
