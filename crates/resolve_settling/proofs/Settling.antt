-- What the statements bring, merged and grouped: each fault, and that there is none; and what is known once all were taken.
-- Assumes nothing.
use Prim.Native.Nat.{ℕ, suc, ◌≤◌, ◌<◌}
use native.Mathlib.Omega.{arith}
use mathlib.Core.Path.{◌≡◌, ◌∙◌, ap, sym}
use mathlib.Core.List.{List, [], ◌∷◌, map}
use lib.ListN.{length, take, drop, length-map}
use lib.Seq.{take-append_seam}
use Rattle.reading.specs.Answer.{Answer, accepted, refused}
use Rattle.reading.specs.Statement.{Statement}
use Rattle.reading.proofs.Answers.{value_of}
use Rattle.print_writing.specs.Written.{Written}
use Rattle.print_writing.proofs.Writing.{patch_front, length-patch}
use Rattle.text.specs.Lists.{gather}
use Rattle.resolving.specs.Context.{Context}
use Rattle.resolving.specs.Effects.{Effect}
use Rattle.resolving.specs.Brought.{Brought, defining, dropped, stays, brings, each_from}
use Rattle.resolving.specs.Merging.{effects_in}
use Rattle.resolving.specs.Ground.{groups, staying}
use Rattle.resolving.specs.Resolve.{merge_and_ground}
use Rattle.resolving_laws.specs.Flat.{terms_from}
use Rattle.resolve_merging.specs.Packing.{effect_of, term_of}
use Rattle.resolve_merging.specs.Outcomes.{Settles, Groups}
use Rattle.resolve_merging.specs.declared.ForcedAgain.{ForcedAgain}
use Rattle.std.specs.Prelude as prelude
use Rattle.resolve_merging.proofs.Answers.{merged-answer, refused-answer, groups-over}
use Rattle.resolve_statements.specs.declared.Tally.{Tally}
use Rattle.resolve_statements.specs.Tallies.{notes_from, AllBrings}
use Rattle.resolve_statements.proofs.Adding.{first_of}
use Rattle.resolve_settling.specs.Stages.{grounded, BroughtThere}
use Rattle.resolve_settling.proofs.Grounds.{over-merged, forced-merged, peace-merged, forced_told, Unforced, merged-told, terms-many, many-grounded, statements-many}

-- Merging and grouping.

module _ {a : Answer (List Brought)} {t : Tally} {ds work : List ℕ} (b : BroughtThere a t ds work) where
  many-terms : t.terms ≡ length (gather effects_in b.what)
  many-terms = b.many ∙ terms-many 0 b.what

  pub over-brought : (c : Context) → 2048 < t.terms → merge_and_ground c b.what ≡ refused 18 0
  over-brought c h = over-merged c b.what (omega (arith, many-terms))

  module _ (few : t.terms ≤ 2048) {work' : List ℕ} {r : prelude.Result ℕ ForcedAgain} (s : Settles t.terms work work' r) where
    few-effects : length (gather effects_in b.what) ≤ 2048
    few-effects = omega (arith, many-terms)

    pub forced-brought : (c : Context) (i : ℕ) → r ≡ prelude.Err (record { statement = i }) → merge_and_ground c b.what ≡ refused 17 i
    forced-brought c i h = forced-merged c b.what few-effects i (forced_told b.what i (refused-answer s b.what (b.terms few) h))

    module _ (m : ℕ) (h : r ≡ prelude.Ok m) where
      pub unforced : Unforced b.what (map effect_of (take m work'))
      unforced = merged-told b.what (map effect_of (take m work')) (merged-answer s b.what (b.terms few) h)

      pub on-merged : (c : Context) → merge_and_ground c b.what ≡ grounded c b.what
      on-merged c = peace-merged c b.what few-effects unforced.peace

      pub over-grouped : (c : Context) {work'' : List ℕ} {g : prelude.Option ℕ} → Groups m work' work'' g → g ≡ prelude.None → merge_and_ground c b.what ≡ refused 18 0
      over-grouped c q k =
          on-merged c
          ∙ many-grounded c b.what
          (omega (
            arith,
            groups-over q k,
            ap (λ (l : List Effect). length (groups l)) unforced.are,
            statements-many c b.what,
          ))

-- All statements were taken.

each-many : {A B : Type 0} (f : A → Answer B) (i : ℕ) (xs : List A) (ys : List B) → each_from f i xs ≡ accepted ys → length ys ≡ length xs
each-many f i [] ys e = ap length (value_of (sym e))
each-many f i (x ∷ xs) ys e =
    let y = first_of f i x xs ys e in
    ap length y.are ∙ ap suc (each-many f (suc i) xs y.others y.each)

stay_most : (bs : List Brought) → length (gather staying bs) ≤ length bs
stay_most [] = omega arith
stay_most (defining ∷ bs) = omega (arith, stay_most bs)
stay_most (dropped ∷ bs) = omega (arith, stay_most bs)
stay_most (stays f ∷ bs) = omega (arith, stay_most bs)
stay_most (brings x es ∷ bs) = omega (arith, stay_most bs)

notes-most : (i : ℕ) (bs : List Brought) → length (notes_from i bs) ≤ length bs
notes-most i [] = omega arith
notes-most i (defining ∷ bs) = omega (arith, notes-most (suc i) bs)
notes-most i (dropped ∷ bs) = omega (arith, notes-most (suc i) bs)
notes-most i (stays f ∷ bs) = omega (arith, notes-most (suc i) bs)
notes-most i (brings x es ∷ bs) = omega (arith, notes-most (suc i) bs)

-- what was written from 0 on, where there is room, stands there
pub front_stands : {before bs after : List ℕ} {r : ℕ} → Written before 0 bs after r → length bs ≤ length before → take r after ≡ bs
front_stands {before} {bs} {after} {r} w h =
    let e : r ≡ length bs = omega (arith, w.next) in
    ap (λ (k : ℕ). take k after) e
    ∙ ap (λ (l : List ℕ). take (length bs) l) (w.bytes ∙ patch_front before bs h)
    ∙ take-append_seam bs (drop (length bs) before)

module _ (f : Statement → Answer Brought) (ss : List Statement) {ts ds ts' ds' : List ℕ} {u : Tally} (b : AllBrings (each_from f 0 ss) ts ds u ts' ds')
    (few : length ss ≤ 256) (wide : length ds ≡ 256) (room : 2048 ≤ length ts) where
  pub all_there : BroughtThere (each_from f 0 ss) u ds' ts'
  all_there =
      let d = b.added in
      let count : length b.what ≡ length ss = each-many f 0 ss b.what b.brought in
      let many : length d.numbers ≡ length (terms_from 0 b.what) = sym (length-map d.numbers term_of) ∙ ap length d.mean in
      record {
        what = b.what;
        brought = b.brought;
        tallied =
            record {
              stays = d.stays;
              noted = front_stands d.dropped (omega (arith, few, wide, count, notes-most 0 b.what));
              held =
                  omega (
                    arith,
                    few,
                    wide,
                    count,
                    notes-most 0 b.what,
                    d.dropped.next,
                    ap length d.dropped.bytes,
                    length-patch 0 ds (notes_from 0 b.what),
                  );
              marked =
                  omega (
                    arith,
                    few,
                    wide,
                    count,
                    notes-most 0 b.what,
                    d.dropped.next,
                    ap length d.dropped.bytes,
                    length-patch 0 ds (notes_from 0 b.what),
                  );
              few = omega (arith, few, count, d.stays, stay_most b.what);
              small = b.small;
            };
        many = omega (arith, d.terms.next, many);
        terms =
            λ h.
            ap (λ (l : List ℕ). map term_of l) (front_stands d.terms (omega (arith, h, room, d.terms.next))) ∙ d.mean;
      }
