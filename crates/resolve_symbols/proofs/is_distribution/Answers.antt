-- `resolve_symbols::is_distribution` meets its contract: the words are the definition's. Assumes nothing.
use mathlib.Core.List.{[], ◌∷◌}
use Rattle.text.specs.Lists.{same_bytes}
use Rattle.resolving.specs.Builtins.{distribution_roles}
use Rattle.resolve_symbols.proofs.Tests.{any_of}
use Rattle.resolve_symbols.proofs.is_distribution.Goals as goal

pub returns : goal.returns
returns c =
    any_of (same_bytes c.args.role.now) distribution_roles
    (c.same_bytes.result
    ∷ c.same_bytes-2.result
    ∷ c.same_bytes-3.result
    ∷ c.same_bytes-4.result
    ∷ c.same_bytes-5.result
    ∷ c.same_bytes-6.result
    ∷ c.same_bytes-7.result
    ∷ [])
    (simp (
      c.same_bytes.ensures,
      c.same_bytes-2.ensures,
      c.same_bytes-3.ensures,
      c.same_bytes-4.ensures,
      c.same_bytes-5.ensures,
      c.same_bytes-6.ensures,
      c.same_bytes-7.ensures,
    ))

pub same_bytes-requires : goal.same_bytes-requires
same_bytes-requires c = tt

pub same_bytes-requires-2 : goal.same_bytes-requires-2
same_bytes-requires-2 c = tt

pub same_bytes-requires-3 : goal.same_bytes-requires-3
same_bytes-requires-3 c = tt

pub same_bytes-requires-4 : goal.same_bytes-requires-4
same_bytes-requires-4 c = tt

pub same_bytes-requires-5 : goal.same_bytes-requires-5
same_bytes-requires-5 c = tt

pub same_bytes-requires-6 : goal.same_bytes-requires-6
same_bytes-requires-6 c = tt

pub same_bytes-requires-7 : goal.same_bytes-requires-7
same_bytes-requires-7 c = tt
