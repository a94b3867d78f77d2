-- Settling and resolving: what they take, and what they tell.
-- Assumes nothing.
use Prim.Native.Nat.{◌≤◌}
use mathlib.Core.Path.{◌≡◌, ◌∙◌, ap}
use mathlib.Core.Bool.{false}
use mathlib.Core.List.{List}
use mathlib.Core.Option.{none}
use lib.ListN.{length}
use borrow.Author.Tests.{le-ltb}
use Rattle.reading.specs.Statement.{Statement}
use Rattle.reading.specs.Answer.{Answer, accepted, ◌>>=◌}
use Rattle.canonical.specs.Canonical.{canonical}
use Rattle.text.specs.Lists.{gather, again}
use Rattle.resolving.specs.Context.{Context}
use Rattle.resolving.specs.Symbols.{lets, same_key, look_up}
use Rattle.resolving.specs.Brought.{Brought, bring, each_from}
use Rattle.resolving.specs.Merging.{effects_in, forced_again, merged}
use Rattle.resolving.specs.Ground.{ground}
use Rattle.resolving.specs.Resolve.{Resolved, merge_and_ground, resolve, outcome}
use Rattle.text.proofs.All.{All}
use Rattle.resolving_laws.proofs.Passed.{once-passed, up_to-passed}
use Rattle.reading.proofs.Answers.{bind_passed}
use Rattle.resolving_laws.proofs.SymbolLaws.{is_let, without-lets}

pub record Settles (c : Context) (bs : List Brought) : Type 0 where
  pub few : length (gather effects_in bs) ≤ 2048
  pub peace : forced_again bs ≡ none
  pub count : length (ground c bs (merged bs)) ≤ 256
  pub size : length (canonical (ground c bs (merged bs))) ≤ 16384

settles : (c : Context) (bs : List Brought) → Settles c bs → merge_and_ground c bs ≡ accepted (outcome c bs)
unfolding merge_and_ground
settles c bs s =
    simp (
      le-ltb 2048 (length (gather effects_in bs)) s.few,
      s.peace,
      le-ltb 256 (length (ground c bs (merged bs))) s.count,
      le-ltb 16384 (length (canonical (ground c bs (merged bs)))) s.size,
    )

pub record SettledAs (c : Context) (bs : List Brought) (r : Resolved) : Type 0 where
  pub held : Settles c bs
  pub equals : r ≡ outcome c bs

pub settled_as : (c : Context) (bs : List Brought) (r : Resolved) → merge_and_ground c bs ≡ accepted r → SettledAs c bs r
unfolding merge_and_ground
settled_as c bs r e =
    let a = up_to-passed 2048 _ _ e in
    let b = once-passed 17 (forced_again bs) _ a.1 in
    let d = up_to-passed 256 _ _ b.1 in
    let f = up_to-passed 16384 _ _ d.1 in
    let q = f.1 in
    record { held = record { few = a.0; peace = b.0; count = d.0; size = f.0 }; equals = cc }

-- Resolving, opened once: what it tells of statements that resolve, and what it takes of statements that are no LETs.
pub record ResolvedAs (c : Context) (ss : List Statement) (r : Resolved) : Type 0 where
  pub brought : List Brought
  pub each : each_from (bring c (look_up c (lets ss))) 0 ss ≡ accepted brought
  pub settled : SettledAs c brought r

pub resolved_as : (c : Context) (ss : List Statement) (r : Resolved) → resolve c ss ≡ accepted r → ResolvedAs c ss r
unfolding resolve
resolved_as c ss r e =
    let a = once-passed 13 (again same_key (lets ss)) _ e in
    let b = bind_passed (each_from (bring c (look_up c (lets ss))) 0 ss) (merge_and_ground c) a.1 in
    record { brought = b.value; each = b.is; settled = settled_as c b.value r b.next }

pub resolves_as :
    (c : Context) (ss : List Statement) (bs : List Brought)
    → All (λ s. is_let s ≡ false) ss
    → each_from (bring c (look_up c (lets ss))) 0 ss ≡ accepted bs
    → Settles c bs
    → resolve c ss ≡ accepted (outcome c bs)
unfolding resolve
resolves_as c ss bs h e s =
    without-lets c h (λ look. each_from (bring c look) 0 ss >>= merge_and_ground c)
    ∙ ap (λ (a : Answer (List Brought)). a >>= merge_and_ground c) e
    ∙ settles c bs s
