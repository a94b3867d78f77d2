-- How code works: the effects of all statements in one run, each with its statement's index and whether that is explicit.
use Rattle.std.specs.Prelude.{ℕ, suc, Bool, cond, not, ◌&&◌, List, [], ◌∷◌, ◌++◌, map, ltb}
use Rattle.std.proofs.Math.Option.{Option, some, none}
use Rattle.text.specs.Lists.{any}
use Rattle.resolving.specs.Effects.{Effect}
use Rattle.resolving.specs.Brought.{Brought, defining, dropped, stays, brings}
use Rattle.resolving.specs.Merging.{same_pair, forces_with}

pub record Term : Type 0 where
  pub statement : ℕ
  pub explicit : Bool
  pub effect : Effect

abbrev pub term : ℕ → Bool → Effect → Term
term i x e = record { statement = i; explicit = x; effect = e }

abbrev pub terms_from : ℕ → List Brought → List Term
terms_from i [] = []
terms_from i (defining ∷ bs) = terms_from (suc i) bs
terms_from i (dropped ∷ bs) = terms_from (suc i) bs
terms_from i (stays f ∷ bs) = terms_from (suc i) bs
terms_from i (brings x es ∷ bs) = map (term i x) es ++ terms_from (suc i) bs

-- whether a term loses to an explicit one of the run
abbrev pub overridden_among : List Term → Term → Bool
overridden_among ts t = not t.explicit && any (λ u. u.explicit && same_pair t.effect u.effect) ts

-- whether a term of an earlier statement forces the pair that this one forces
abbrev pub forced_before : List Term → Term → Bool
forced_before seen t = any (λ u. ltb u.statement t.statement && forces_with u.effect t.effect) seen

abbrev pub forced_after : List Term → List Term → Option ℕ
forced_after seen [] = none
forced_after seen (t ∷ ts) = cond (forced_before seen t) (some t.statement) (forced_after (t ∷ seen) ts)
