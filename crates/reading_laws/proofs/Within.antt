-- A refusal's place is no further than the text's end. Reading does not compute with places, so it stays the same where places are cut to the
-- text's size; and the places of tokens stay the same then.
-- Assumes nothing.
use Rattle.std.specs.Prelude.{Option, Some, None}
use Prim.Native.Nat.{ℕ, ◌≤◌}
use mathlib.Core.Path.{◌≡◌, refl, ◌∙◌, ap, sym, subst}
use mathlib.Core.Bool.{Bool, true, false, cond}
use mathlib.Core.List.{List}
use native.Mathlib.Nat.{le_refl}
use native.Mathlib.Omega.{arith}
use borrow.Author.Tests.{le-leb, leb-true}
use lib.Dec.{leb, ltb}
use lib.ListN.{length}
use Rattle.tokens.specs.Token.{Tokens, finish, bad, ◌▸◌}
use Rattle.tokens.specs.Lex.{tokens}
use Rattle.tokens.specs.Next.{scanned}
use Rattle.reading.specs.Answer.{refused, too_high, too_long}
use Rattle.reading.specs.Read.{between, read_from, read_scanned, read_text}
use Rattle.reading_laws.specs.Laid.{Laid, finished, strayed, laid}
use Rattle.reading_laws.specs.Moved.{move_read, move_tokens}
use Rattle.reading_laws.proofs.Laid.{tokens-laid}
use Rattle.reading_laws.proofs.Moving.{reading_moved}

-- a place, cut to a size
abbrev cut : ℕ → ℕ → ℕ
cut size p = cond (leb p size) p size

cut_within : (size p : ℕ) → p ≤ size → cut size p ≡ p
cut_within size p h = rw (le-leb p size h)

cut_most : (size p : ℕ) → cut size p ≤ size
cut_most size p = go (leb p size) refl
  where
    go : (t : Bool) → leb p size ≡ t → cond t p size ≤ size
    go true e = leb-true p size e
    go false e = le_refl size

-- the places of tokens that stand in a text are not cut
laid_cut : {text : List ℕ} {o : ℕ} {ts : Tokens} → Laid text o ts → move_tokens (cut (length text)) ts ≡ ts
laid_cut finished = refl
laid_cut {text} (strayed {p} h) = ap bad (cut_within (length text) p h)
laid_cut {text} (laid {p} l n h s r) = rw (cut_within (length text) p (omega (arith, h)), laid_cut r)

-- what a scan and what reading answer is not cut either
cut_scan : ℕ → Option ℕ → Option ℕ
cut_scan size None = None
cut_scan size (Some o) = Some (cut size o)

scan_cut : (size : ℕ) (ts : Tokens) → scanned (move_tokens (cut size) ts) ≡ cut_scan size (scanned ts)
unfolding scanned cut_scan
scan_cut size finish = refl
scan_cut size (bad o) = refl
scan_cut size (t ▸ ts) = scan_cut size ts

whole-tokens : (s : List ℕ) → move_tokens (cut (length s)) (tokens s) ≡ tokens s
whole-tokens s = laid_cut (tokens-laid s)

stray_within : (s : List ℕ) (o : ℕ) → scanned (tokens s) ≡ Some o → o ≤ length s
unfolding cut_scan
stray_within s o e =
    let same : Some o ≡ Some (cut (length s) o) = sym e ∙ sym (ap scanned (whole-tokens s)) ∙ scan_cut (length s) (tokens s) ∙ ap (cut_scan (length s)) e in
    let it : o ≡ cut (length s) o = cc in
    subst (λ (q : ℕ). q ≤ length s) (sym it) (cut_most (length s) o)

read-within : (limit : ℕ) (s : List ℕ) (k p : ℕ) → read_from limit (length s) 0 between (tokens s) ≡ refused k p → p ≤ length s
read-within limit s k p e =
    let size = length s in
    let same : refused k p ≡ refused k (cut size p) =
    sym e
    ∙ sym (ap (λ (n : ℕ). read_from limit n 0 between (tokens s)) (cut_within size size (le_refl size)))
    ∙ sym (ap (read_from limit (cut size size) 0 between) (whole-tokens s))
    ∙ reading_moved (cut size) limit size 0 between (tokens s)
    ∙ ap (move_read (cut size)) e in
    let it : p ≡ cut size p = cc in
    subst (λ (q : ℕ). q ≤ size) (sym it) (cut_most size p)

-- Whatever a text is refused by, the place lies in it or right behind it.
pub refused-within : (limit : ℕ) (s : List ℕ) (k p : ℕ) → read_text limit s ≡ refused k p → p ≤ length s
unfolding read_text
refused-within limit s k p e = go (ltb 256 limit) (ltb 16384 (length s)) (scanned (tokens s)) refl e
  where
    go :
        (h t : Bool) (c : Option ℕ)
        → scanned (tokens s) ≡ c
        → cond h too_high (cond t too_long (read_scanned limit (length s) (tokens s) c)) ≡ refused k p
        → p ≤ length s
    go true t c h e = let z : ◌≡◌ {A = ℕ} 0 p = cc in omega arith
    go false true c h e = let z : ◌≡◌ {A = ℕ} 0 p = cc in omega arith
    go false false None h e = read-within limit s k p e
    go false false (Some o) h e = let z : o ≡ p = cc in subst (λ (q : ℕ). q ≤ length s) z (stray_within s o h)
