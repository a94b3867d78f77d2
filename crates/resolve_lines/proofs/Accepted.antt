-- What Resolve's outputs hold of a text that resolves: as much as it tells, in a context that was checked; and what is written of it.
-- Assumes nothing.
use mathlib.Core.Path.{◌≡◌, refl, ◌∙◌, ap, sym, subst}
use mathlib.Core.Bool.{Bool, true, false, cond, ◌||◌}
use mathlib.Core.List.{List, [], ◌∷◌, ◌++◌, map}
use Prim.Native.Nat.{ℕ, ◌≤◌}
use native.Mathlib.Omega.{arith}
use borrow.Author.Tests.{ltb-false}
use lib.Dec.{ltb}
use lib.ListN.{length, take, drop, length-append, length-map}
use Rattle.std.proofs.lemmas.List.{length-take}
use Rattle.text.specs.Bytes.{bytes}
use Rattle.text.proofs.Tests.{or_left, or_right}
use Rattle.reading.specs.Statement.{Statement}
use Rattle.reading.specs.Answer.{Answer, accepted, refused, ◌>>=◌}
use Rattle.reading.specs.Read.{read_text}
use Rattle.reading.proofs.Answers.{not-refused}
use Rattle.reading_laws.proofs.Joining.{accepted-short}
use Rattle.resolving.specs.Effects.{Effect}
use Rattle.resolving.specs.Resolve.{Note, Resolved, ground_text, resolve}
use Rattle.resolving.specs.Given.{is_context, context_in, resolve_text}
use Rattle.resolving.specs.Handed.{is_run, given_in, is_handed, handed_context, resolve_handed}
use Rattle.resolving.specs.Call.{
  Lengths,
  effect_numbers,
  note_numbers,
  exceeds,
  lengths_in,
  lengths_of,
  room_for,
  output_of,
  resolving_call,
  working_length,
}
use Rattle.claims.specs.Claims.{full_size}
use Rattle.claims.proofs.FullSize.{resolved_fits}
use Rattle.print_writing.specs.Written.{Written}
use Rattle.lines.specs.Line.{refusal_line}
use Rattle.lines.specs.Effects.{effect_lines}
use Rattle.lines.specs.Notes.{note_lines}
use Rattle.lines.specs.Ground.{resolved_lines, ground_lines}
use Rattle.print_lines.specs.declared.Asked.{Asked}
use Rattle.print_lines.specs.declared.Asked.TheVariants.{Ground, Effects, Notes}
use Rattle.print_lines.specs.Given.{effect_in, note_in}
use Rattle.print_lines.specs.Asked.{asked_as, Bounded, lines_in}

-- the call's answer is the definition's, whatever the outputs
call_accepted : (limit : ℕ) (b l s : List ℕ) (n : Lengths) (w : ℕ) (x : Resolved) → resolving_call limit b l s n w ≡ accepted x → resolve_handed limit b l s ≡ accepted x
unfolding resolving_call
call_accepted limit b l s n w x e = by-work (ltb w working_length) (resolve_handed limit b l s) refl e
  where
    by-room : (t : Bool) (y : Resolved) → cond t (refused 19 0) (accepted y) ≡ accepted x → accepted y ≡ accepted x
    by-room true y k = absurd (not-refused k)
    by-room false y k = k

    by-work : (t : Bool) (a : Answer Resolved) → resolve_handed limit b l s ≡ a → cond t (refused 19 0) (room_for n a) ≡ accepted x → resolve_handed limit b l s ≡ accepted x
    by-work true a h k = absurd (not-refused k)
    by-work false (accepted y) h k = h ∙ by-room (exceeds n (lengths_in y)) y k
    by-work false (refused i p) h k = absurd (not-refused k)

-- a text that resolves was read, in a context that is one
record Resolving (limit : ℕ) (b l s : List ℕ) (x : Resolved) : Type 0 where
  handed : is_handed b l ≡ true
  short : length s ≤ 16384
  fits : exceeds full_size (lengths_in x) ≡ false

handed-accepted : (limit : ℕ) (b l s : List ℕ) (x : Resolved) → resolve_handed limit b l s ≡ accepted x → Resolving limit b l s x
unfolding resolve_handed resolve_text is_handed
handed-accepted limit b l s x e = by_cases (is_run l) (is_context (given_in b l)) (read_text limit s) refl refl refl e
  where
    by_cases : (t u : Bool) (a : Answer (List Statement)) → is_run l ≡ t → is_context (given_in b l) ≡ u → read_text limit s ≡ a
        → cond t (a >>= (λ ss. cond u (resolve (context_in (given_in b l)) ss) (refused 12 0))) (a >>= (λ ss. refused 12 0)) ≡ accepted x
        → Resolving limit b l s x
    by_cases true true (accepted ss) h k r q =
        record {
          handed = rw (h, k);
          short = accepted-short limit s ss r;
          fits = resolved_fits limit (given_in b l) s x (rw (r, k) q);
        }
    by_cases true false (accepted ss) h k r q = absurd (not-refused q)
    by_cases true u (refused i p) h k r q = absurd (not-refused q)
    by_cases false u (accepted ss) h k r q = absurd (not-refused q)
    by_cases false u (refused i p) h k r q = absurd (not-refused q)

-- the front of an output
take_front : {A : Type 0} (xs ys : List A) → take (length xs) (xs ++ ys) ≡ xs
take_front [] ys = refl
take_front (x ∷ xs) ys = ap (λ l. x ∷ l) (take_front xs ys)

effects-again : (es : List Effect) → map effect_in (map effect_numbers es) ≡ es
effects-again [] = refl
effects-again (e ∷ es) = ap (λ l. e ∷ l) (effects-again es)

notes-again : (ns : List Note) → map note_in (map note_numbers ns) ≡ ns
notes-again [] = refl
notes-again (n ∷ ns) = ap (λ l. n ∷ l) (notes-again ns)

module _ (limit : ℕ) (b l s ground : List ℕ) (effects notes : List (List ℕ)) (lent : Lengths) (w : ℕ) (m : Lengths)
    (ground' : List ℕ) (effects' notes' : List (List ℕ)) where
  abbrev told : Answer Lengths
  told = accepted m

  -- what the call leaves
  pub record Left (a : Answer Resolved) : Type 0 where
    pub is : resolving_call limit b l s lent w ≡ a
    pub tells : told ≡ lengths_of a
    pub ground-left : ground' ≡ output_of ground_text a ground
    pub effects-left : effects' ≡ output_of (λ r. map effect_numbers r.effects) a effects
    pub notes-left : notes' ≡ output_of (λ r. map note_numbers r.notes) a notes

  module _ (x : Resolved) (e : Left (accepted x)) where
    lengths : m ≡ lengths_in x
    lengths = let q : told ≡ accepted (lengths_in x) = e.tells in cc

    ground-many : m.ground ≡ length (ground_text x)
    ground-many = ap (λ (n : Lengths). n.ground) lengths

    effects-many : m.effects ≡ length (map effect_numbers x.effects)
    effects-many = ap (λ (n : Lengths). n.effects) lengths ∙ sym (length-map x.effects effect_numbers)

    notes-many : m.notes ≡ length (map note_numbers x.notes)
    notes-many = ap (λ (n : Lengths). n.notes) lengths ∙ sym (length-map x.notes note_numbers)

    there : (m.ground ≤ length ground') × (m.effects ≤ length effects') × (m.notes ≤ length notes')
    there = (
      omega (arith, ground-many, ap length e.ground-left, length-append (ground_text x) (drop (length (ground_text x)) ground)),
      omega (arith, effects-many, ap length e.effects-left, length-append (map effect_numbers x.effects) (drop (length (map effect_numbers x.effects)) effects)),
      omega (arith, notes-many, ap length e.notes-left, length-append (map note_numbers x.notes) (drop (length (map note_numbers x.notes)) notes)),
    )

    bounded : Bounded s b l (take m.ground ground') (take m.effects effects') (take m.notes notes')
    bounded =
        let r = handed-accepted limit b l s x (call_accepted limit b l s lent w x e.is) in
        let tg = ltb 16384 (length (ground_text x)) in
        let te = ltb 2048 (length x.effects) in
        let tn = ltb 257 (length x.notes) in
        let g = ltb-false 16384 (length (ground_text x)) (or_left tg (te || tn) r.fits) in
        let rest = or_right tg (te || tn) r.fits in
        let f = ltb-false 2048 (length x.effects) (or_left te tn rest) in
        let n = ltb-false 257 (length x.notes) (or_right te tn rest) in
        record {
          handed = r.handed;
          short = r.short;
          ground-few = omega (arith, g, ground-many, length-take m.ground ground');
          effects-few = omega (arith, f, effects-many, length-map x.effects effect_numbers, length-take m.effects effects');
          notes-few = omega (arith, n, notes-many, length-map x.notes note_numbers, length-take m.notes notes');
        }

    lines_are : (q : Asked) → lines_in q s b l (take m.ground ground') (take m.effects effects') (take m.notes notes') ≡ resolved_lines (asked_as q) (handed_context b l) s x
    unfolding lines_in resolved_lines
    lines_are Ground =
        ap (λ (g : List ℕ). g ++ bytes "\n")
        (ap (λ (k : ℕ). take k ground') ground-many ∙ ap (take (length (ground_text x))) e.ground-left ∙ take_front (ground_text x) _)
    lines_are Effects =
        ap (λ (es : List (List ℕ)). effect_lines (handed_context b l) (map effect_in es))
        (ap (λ (k : ℕ). take k effects') effects-many ∙ ap (take (length (map effect_numbers x.effects))) e.effects-left ∙ take_front (map effect_numbers x.effects) _)
        ∙ ap (effect_lines (handed_context b l)) (effects-again x.effects)
    lines_are Notes =
        ap (λ (ns : List (List ℕ)). note_lines s (map note_in ns))
        (ap (λ (k : ℕ). take k notes') notes-many ∙ ap (take (length (map note_numbers x.notes))) e.notes-left ∙ take_front (map note_numbers x.notes) _)
        ∙ ap (note_lines s) (notes-again x.notes)

  pub left_bounded : (a : Answer Resolved) → Left a → Bounded s b l (take m.ground ground') (take m.effects effects') (take m.notes notes')
  left_bounded (accepted x) e = bounded x e
  left_bounded (refused k p) e = let q : told ≡ refused k p = e.tells in let z : ◌≡◌ {A = ℕ} 0 1 = cc in absurd (omega arith)

  pub left-there : (a : Answer Resolved) → Left a → (m.ground ≤ length ground') × (m.effects ≤ length effects') × (m.notes ≤ length notes')
  left-there (accepted x) e = there x e
  left-there (refused k p) e = let q : told ≡ refused k p = e.tells in let z : ◌≡◌ {A = ℕ} 0 1 = cc in absurd (omega arith)

  pub left-written : {page done : List ℕ} {r : ℕ} (q : Asked) (a : Answer Resolved) → Left a
      → Written page 0 (lines_in q s b l (take m.ground ground') (take m.effects effects') (take m.notes notes')) done r → Written page 0 (ground_lines (asked_as q) (handed_context b l) s a) done r
  unfolding ground_lines
  left-written {page} {done} {r} q (accepted x) e v = subst (λ (bs : List ℕ). Written page 0 bs done r) (lines_are x e q) v
  left-written q (refused k p) e v = let t : told ≡ refused k p = e.tells in let z : ◌≡◌ {A = ℕ} 0 1 = cc in absurd (omega arith)

-- a refusal's line
pub refused-written : {page done : List ℕ} {r k p : ℕ} (q : Asked) (b l s : List ℕ) (a : Answer Resolved)
    → refused k p ≡ lengths_of a → Written page 0 (refusal_line k p) done r → Written page 0 (ground_lines (asked_as q) (handed_context b l) s a) done r
unfolding ground_lines
refused-written {page} {done} {r} {k} {p} q b l s (accepted x) e v = let z : ◌≡◌ {A = ℕ} 0 1 = cc in absurd (omega arith)
refused-written {page} {done} {r} {k} {p} q b l s (refused i o) e v =
    let t : refusal_line k p ≡ refusal_line i o = cc in
    subst (λ (bs : List ℕ). Written page 0 bs done r) t v
