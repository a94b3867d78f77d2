-- Resolving statements in any order: it is refused or not alike, the effects are the same, each as often, and the ground texts are of one
-- length.
-- Assumes nothing.
use mathlib.Core.List.{List}
use Rattle.reading.specs.Statement.{Statement}
use Rattle.resolving.specs.Context.{Context}
use Rattle.resolving.specs.Symbols.{defines}
use Rattle.resolving.specs.Brought.{Brought, bring}
use Rattle.resolving.specs.Merging.{effects_in, forced_again}
use Rattle.resolving.specs.Resolve.{Resolved, merge_and_ground, resolve}
use Rattle.resolving_laws.specs.Alike.{Alike, both}
use Rattle.resolving_laws.specs.Claims.{SameLength}
use Rattle.text.proofs.Permuted.{Permuted, length_permuted, map_permuted, gather_permuted}
use Rattle.resolving_laws.proofs.Answering.{bind_alike, up_to_alike, once_alike, each-permuted}
use Rattle.resolving_laws.proofs.SymbolLaws.{with_symbols_alike}
use Rattle.resolving_laws.proofs.MergingLaws.{merged_permuted, forced_permuted}
use Rattle.resolving_laws.proofs.GroundSize.{ground-count, ground-length}

pub record Likewise (r s : Resolved) : Type 0 where
  pub permuted : Permuted r.effects s.effects
  pub same_length : SameLength r s

ground_permuted : (c : Context) {bs ds : List Brought} → Permuted bs ds → Alike Likewise (merge_and_ground c bs) (merge_and_ground c ds)
unfolding merge_and_ground
ground_permuted c {bs} {ds} p =
    let m = merged_permuted p in
    up_to_alike
    (once_alike
    (up_to_alike
    (up_to_alike (both (record { permuted = m; same_length = ground-length c p m })) 16384 _ _ (ground-length c p m))
    256 _ _ (ground-count c p m))
    17 (forced_again bs) (forced_again ds) (forced_permuted p))
    2048 _ _ (length_permuted (gather_permuted effects_in p))

pub resolve_permuted :
    (c : Context) {ss ts : List Statement} → Permuted ss ts → Alike Likewise (resolve c ss) (resolve c ts)
unfolding resolve
resolve_permuted c {ss} {ts} p =
    with_symbols_alike c (map_permuted defines p) _ _
    (λ look. bind_alike (merge_and_ground c) (merge_and_ground c) (each-permuted (bring c look) p 0 0) (λ bs ds q. ground_permuted c q))
