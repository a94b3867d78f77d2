-- Where the ground statements of what stays are written already: merged effects and their groups, and answers of what that comes to.
-- Assumes nothing.
use Prim.Native.Nat.{ℕ, ◌-◌, ◌≤◌}
use native.Mathlib.Omega.{arith}
use mathlib.Core.Path.{◌≡◌, ◌∙◌, ap, sym, subst}
use mathlib.Core.List.{List, map}
use lib.ListN.{length, take, drop, length-drop}
use lib.Seq.{take_all}
use Rattle.reading.specs.Answer.{Answer}
use Rattle.resolving.specs.Context.{Context}
use Rattle.resolving.specs.Effects.{Effect}
use Rattle.resolving.specs.Resolve.{Resolved}
use Rattle.text.proofs.All.{All}
use Rattle.resolve_merging.specs.Packing.{effect_of}
use Rattle.resolve_merging.specs.Outcomes.{Settles, Groups, GroupsStand, GroupsListed}
use Rattle.resolve_merging.specs.declared.ForcedAgain.{ForcedAgain}
use Rattle.std.specs.Prelude as prelude
use Rattle.resolve_merging.proofs.Answers.{merged-plain, groups-stand}
use Rattle.resolve_groups.specs.Known.{Entered, GroupsKnown}
use Rattle.resolve_groups.proofs.Groups.{buffer_known, few-known}
use Rattle.resolve_statements.specs.declared.Tally.{Tally}
use Rattle.std.specs.Prelude as prelude
use Rattle.resolve_settling.specs.Answers as answers
use Rattle.resolve_settling.specs.Attempts.{StaysWritten, EffectsGrouped, AttemptAs}
use Rattle.resolve_settling.proofs.Grounds.{Unforced, merged-entered}
use Rattle.resolve_settling.proofs.Settling.{unforced}

module _ {c : Context} {t : Tally} {ds work made : List ℕ} (x : StaysWritten c t ds work made) (low : t.terms ≤ 2048) {work' : List ℕ} {r : prelude.Result ℕ ForcedAgain}
    (s : Settles t.terms work work' r) (m : ℕ) (h : r ≡ prelude.Ok m) where
  abbrev right : Unforced x.there.what (map effect_of (take m work'))
  right = unforced x.there low s m h

  abbrev most : m ≤ t.terms
  most = (merged-plain s h).0

  -- each merged effect has a parameter and a covariate of the context
  abbrev entered : All (Entered c) (map effect_of (take m work'))
  entered =
      subst (All (Entered c)) (sym right.are) (merged-entered c x.look x.statements x.there.what x.there.brought right.peace)

  -- few effects, whose groups are listed by scans
  unfoldable pub few_grounding :
      {listed : List ℕ} {k : ℕ}
      → GroupsListed (map effect_of (take m work')) listed k
      → t.terms ≤ 32
      → 2048 ≤ length work
      → 128 ≤ length listed
      → EffectsGrouped c t ds work' listed m k made
  few_grounding g few room wide = record {
    what = x.there.what;
    tallied = x.there.tallied;
    effects = right.are;
    room = omega (arith, most, low, room, s.kept.size);
    known = few-known g entered (omega (arith, most, few)) wide;
    before = x.before;
    text = x.text;
  }

  -- any number of them, whose groups stand behind them, in a part that goes to the buffer's end
  unfoldable pub many_grounding :
      {work'' : List ℕ} {g : prelude.Option ℕ} {k : ℕ}
      → Groups m work' work'' g
      → g ≡ prelude.Some k
      → 6656 ≤ length work
      → EffectsGrouped c t ds work'' (take (length work'' - 6144) (drop 6144 work'')) m k made
  many_grounding {work''} {k = k} q o wide =
      let e : map effect_of (take m work'') ≡ map effect_of (take m work') = ap (λ (l : List ℕ). map effect_of l) q.effects in
      let room : 6656 ≤ length work'' = omega (arith, wide, s.kept.size, q.kept.size) in
      record {
        what = x.there.what;
        tallied = x.there.tallied;
        effects = e ∙ right.are;
        room = omega (arith, most, low, room);
        known =
            subst (λ (l : List ℕ). GroupsKnown c work'' l m k)
            (sym (take_all (length work'' - 6144) (drop 6144 work'') (omega (arith, length-drop 6144 work''))))
            (buffer_known (subst (λ (l : List Effect). GroupsStand l work'' k) (sym e) (groups-stand q o)) (subst (All (Entered c)) (sym e) entered)
            room);
        before = x.before;
        text = x.text;
      }

-- an answer for another that is equal
pub same-few :
    (a b : Answer Resolved) (g : List ℕ) (e : ℕ) (n : List (List ℕ)) (g' : List ℕ) (n' : List (List ℕ)) (w' : List ℕ) (r : prelude.Option answers.Resolved)
    → b ≡ a
    → AttemptAs a g e n g' n' w' r
    → AttemptAs b g e n g' n' w' r
same-few a b g e n g' n' w' r h x = subst (λ (y : Answer Resolved). AttemptAs y g e n g' n' w' r) (sym h) x
