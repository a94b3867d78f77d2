-- What the lexer's answer at an offset tells of the text's tokens: which token stands there and where the next ones start. Readers of
-- tokens need no more than these laws.
-- Assumes nothing.
use mathlib.Core.Path.{◌≡◌, refl, ◌∙◌, ap, sym, subst}
use mathlib.Core.Bool.{Bool, true, false}
use mathlib.Core.List.{List, ◌∷◌}
use Prim.Native.Nat.{ℕ, zero, suc, ◌+◌, ◌-◌, ◌<◌, ◌≤◌}
use native.Mathlib.Numerals.{add-one}
use native.Mathlib.Omega.{arith}
use borrow.Author.Tests.{leb-true, leb-false}
use lib.Dec.{leb, lit≤}
use lib.ListN.{length, take, drop, length-drop}
use lib.Seq.{drop-cons, length-take-le}
use Rattle.text.specs.Bytes.{span}
use Rattle.tokens.specs.declared.Lexed.{Lexed}
use Rattle.tokens.specs.declared.Lexed.TheVariants.{Word, Number, Mark, Bad, End}
use Rattle.tokens.specs.Class.{Class, newline, semicolon, mark, dot, blank, hash, other, hyphen, digit, letter, class_of}
use Rattle.tokens.specs.Token.{Shape, Token, finish, bad, ◌▸◌, width}
use Rattle.tokens.specs.Token as shapes
use Rattle.tokens.specs.Lex.{Front, skip, taken, wrong, in_word, number_rest, front_of, follow}
use Rattle.tokens.specs.declared.Token as kinds
use Rattle.tokens.specs.Next.{first, lexed_as, by_kind, token_at}
use Rattle.tokens.proofs.Classes.{mark_no_point, mark_large}
use Rattle.tokens.proofs.Runs.{span-most}
use Rattle.tokens.proofs.Numbers.{number-most}
use Rattle.tokens.proofs.Steps.{from, byte, front, after, token, dots_case, at_end, step}

-- a word and a number have the bytes that they are written with, and a mark is one of the large bytes
abbrev pub SpelledBy : Shape → List ℕ → Type 0
SpelledBy (shapes.word w) l = w ≡ l
SpelledBy (shapes.number w) l = w ≡ l
SpelledBy (shapes.mark m) l = 40 ≤ m

-- the bytes from one offset up to another
abbrev pub part : List ℕ → ℕ → ℕ → List ℕ
part s a e = take (e - a) (drop a s)

-- what stands at a byte takes as many more bytes as it says, and there are as many
abbrev Fits : ℕ → List ℕ → Front → Type 0
Fits b bs (skip k) = Unit {0}
Fits b bs (taken s k) = (width s ≡ suc k) × (k ≤ length bs) × SpelledBy s (b ∷ take k bs)
Fits b bs wrong = Unit {0}

front_fits : (k : Class) (b : ℕ) (bs : List ℕ) → class_of b ≡ k → Fits b bs (front_of k b bs)
unfolding front_of
front_fits newline b bs e = (refl, omega arith, lit≤ tt)
front_fits semicolon b bs e = (refl, omega arith, lit≤ tt)
front_fits mark b bs e = (simp (mark_no_point b e), omega arith, mark_large b e)
front_fits dot b bs e = dots_case (Fits b bs) bs tt (λ h. (refl, h, lit≤ tt))
front_fits blank b bs e = tt
front_fits hash b bs e = tt
front_fits other b bs e = tt
front_fits hyphen b bs e = tt
front_fits digit b bs e = (ap suc (length-take-le (number_rest bs) bs (number-most bs)), number-most bs, refl)
front_fits letter b bs e = (ap suc (length-take-le (span in_word bs) bs (span-most in_word bs)), span-most in_word bs, refl)

-- A token at an offset or after it: the tokens are it and those from a later offset on, which lies in the text.
pub record Reads (s : List ℕ) (o : ℕ) (t : Token) (n : ℕ) : Type 0 where
  pub tokens : from s o ≡ t ▸ from s n
  pub there : from s t.place ≡ t ▸ from s n
  pub ahead : o ≤ t.place
  pub wide : t.place < n
  pub within : n ≤ length s

-- What each of the lexer's answers tells.
abbrev pub Tells : List ℕ → ℕ → Lexed → Type 0
Tells s o (Word a c) = Reads s o (token a (shapes.word (part s a c.at))) c.at
Tells s o (Number a c) = Reads s o (token a (shapes.number (part s a c.at))) c.at
Tells s o (Mark m a c) = Reads s o (token a (shapes.mark m)) c.at × (40 ≤ m)
Tells s o (Bad e) = (from s o ≡ bad e) × (from s e ≡ bad e) × (o ≤ e) × (e < length s)
Tells s o End = from s o ≡ finish

-- what is told after a start is told at it, where the tokens are the same
module _ (s : List ℕ) (o p : ℕ) (e : from s o ≡ from s p) (h : o ≤ p) where
  sooner : {t : Token} {n : ℕ} → Reads s p t n → Reads s o t n
  sooner r = record { tokens = e ∙ r.tokens; there = r.there; ahead = omega (arith, r.ahead); wide = r.wide; within = r.within }

  earlier : (l : Lexed) → Tells s p l → Tells s o l
  earlier (Word a c) r = sooner r
  earlier (Number a c) r = sooner r
  earlier (Mark m a c) r = (sooner r.0, r.1)
  earlier (Bad x) r = (e ∙ r.0, r.1, omega (arith, r.2), r.3)
  earlier End r = e ∙ r

-- a token's answer, its bytes being those of the text
as_written : (s : List ℕ) (o : ℕ) (x : Shape) → Reads s o (token o x) (o + width x) → SpelledBy x (part s o (o + width x)) → Tells s o (lexed_as o x)
unfolding lexed_as
as_written s o (shapes.word w) r e = subst (λ (l : List ℕ). Reads s o (token o (shapes.word l)) (o + length w)) e r
as_written s o (shapes.number w) r e = subst (λ (l : List ℕ). Reads s o (token o (shapes.number l)) (o + length w)) e r
as_written s o (shapes.mark m) r e = (r, e)

-- what stands at the offset: something to skip, with what is told behind it, a token, or a byte that starts none
module _ (s : List ℕ) (o : ℕ) (h : o < length s) where
  spelt : (x : Shape) (k : ℕ) → width x ≡ suc k → byte s o ∷ take k (drop (o + 1) s) ≡ part s o (o + width x)
  spelt x k e =
      let n : o + width x - o ≡ suc k = omega arith in
      sym
      (ap (λ (m : ℕ). take m (drop o s)) n
      ∙ ap (take (suc k)) (drop-cons s o 0 h)
      ∙ ap (λ (m : ℕ). byte s o ∷ take k (drop m s)) (sym (add-one o))
      )

  tell_front :
      ((p : ℕ) → o < p → Tells s p (first (from s p)))
      → (f : Front)
      → from s o ≡ follow f o (after s o)
      → Fits (byte s o) (drop (o + 1) s) f
      → Tells s o (first (from s o))
  unfolding first follow
  tell_front later (skip k) e f = rw e (earlier s o (o + 1 + k) e (omega arith) (first (from s (o + 1 + k))) (later (o + 1 + k) (omega arith)))
  tell_front later (taken x k) e f =
      let n : o + 1 + k ≡ o + width x = omega (arith, f.0) in
      let r : from s o ≡ token o x ▸ from s (o + width x) = e ∙ ap (λ (m : ℕ). token o x ▸ from s m) n in
      rw e
      (as_written s o x
      (record { tokens = r; there = r; ahead = omega arith; wide = omega (arith, f.0); within = omega (arith, f.0, f.1, length-drop (o + 1) s) })
      (subst (SpelledBy x) (spelt x k f.0) f.2))
  tell_front later wrong e f = rw e (e, e, omega arith, h)

tell_end : (s : List ℕ) (o : ℕ) → length s ≤ o → Tells s o (first (from s o))
unfolding first
tell_end s o h = rw (at_end s o h) (at_end s o h)

tell_from : (n : ℕ) (s : List ℕ) (o : ℕ) → length s ≤ o + n → Tells s o (first (from s o))
tell_from zero s o h = tell_end s o (omega arith)
tell_from (suc n) s o h = go (leb (length s) o) refl (λ p l. tell_from n s p (omega arith))
  where
    go : (t : Bool) → leb (length s) o ≡ t → ((p : ℕ) → o < p → Tells s p (first (from s p))) → Tells s o (first (from s o))
    go true e later = tell_end s o (leb-true (length s) o e)
    go false e later =
        let h : o < length s = leb-false (length s) o e in
        tell_front s o h later (front s o) (step s o h) (front_fits (class_of (byte s o)) (byte s o) (drop (o + 1) s) refl)

-- the law for readers of tokens: the answer at an offset tells what it says
pub told : (s : List ℕ) (o : ℕ) (l : Lexed) → l ≡ first (from s o) → Tells s o l
told s o l e = subst (Tells s o) (sym e) (tell_from (length s) s o (omega arith))

-- What a token's kind tells.
pub data Known (s : List ℕ) (o : ℕ) (t : kinds.Token) : Type 0 where
  a_word : t.kind ≡ 0 → Reads s o (token t.start (shapes.word (part s t.start t.next.at))) t.next.at → Known s o t
  a_number : t.kind ≡ 1 → Reads s o (token t.start (shapes.number (part s t.start t.next.at))) t.next.at → Known s o t
  a_mark : 40 ≤ t.kind → Reads s o (token t.start (shapes.mark t.kind)) t.next.at → Known s o t
  a_stray : t.kind ≡ 2 → from s o ≡ bad t.start → from s t.next.at ≡ bad t.start → Known s o t
  the_end : t.kind ≡ 3 → from s o ≡ finish → t.start ≡ length s → t.next.at ≡ length s → Known s o t

known_as : (s : List ℕ) (o : ℕ) (l : Lexed) → Tells s o l → Known s o (by_kind (length s) l)
unfolding by_kind
known_as s o (Word a c) r = a_word refl r
known_as s o (Number a c) r = a_number refl r
known_as s o (Mark m a c) r = a_mark r.1 r.0
known_as s o (Bad e) r = a_stray refl r.0 r.1
known_as s o End r = the_end refl r refl refl

-- the law for readers of tokens by their kind
pub known : (s : List ℕ) (o : ℕ) (t : kinds.Token) → t ≡ token_at s o → Known s o t
known s o t e = subst (Known s o) (sym e) (known_as s o (first (from s o)) (told s o (first (from s o)) refl))

-- a token of one shape or another at an offset or after it
pub record ReadsOne (s : List ℕ) (o n : ℕ) : Type 0 where
  pub token : Token
  pub reads : Reads s o token n

module _ {s : List ℕ} {o : ℕ} {t : kinds.Token} where
  pub known-word : Known s o t → t.kind ≡ 0 → Reads s o (token t.start (shapes.word (part s t.start t.next.at))) t.next.at
  known-word (a_word e r) k = r
  known-word (a_number e r) k = absurd (omega arith)
  known-word (a_mark e r) k = absurd (omega arith)
  known-word (a_stray e r q) k = absurd (omega arith)
  known-word (the_end e r l q) k = absurd (omega arith)

  pub known-number : Known s o t → t.kind ≡ 1 → Reads s o (token t.start (shapes.number (part s t.start t.next.at))) t.next.at
  known-number (a_word e r) k = absurd (omega arith)
  known-number (a_number e r) k = r
  known-number (a_mark e r) k = absurd (omega arith)
  known-number (a_stray e r q) k = absurd (omega arith)
  known-number (the_end e r l q) k = absurd (omega arith)

  pub known-mark : Known s o t → (m : ℕ) → t.kind ≡ m → 40 ≤ m → Reads s o (token t.start (shapes.mark m)) t.next.at
  known-mark (a_word e r) m k h = absurd (omega arith)
  known-mark (a_number e r) m k h = absurd (omega arith)
  known-mark (a_mark e r) m k h = subst (λ (n : ℕ). Reads s o (token t.start (shapes.mark n)) t.next.at) k r
  known-mark (a_stray e r q) m k h = absurd (omega arith)
  known-mark (the_end e r l q) m k h = absurd (omega arith)

  pub known-end : Known s o t → t.kind ≡ 3 → from s o ≡ finish
  known-end (a_word e r) k = absurd (omega arith)
  known-end (a_number e r) k = absurd (omega arith)
  known-end (a_mark e r) k = absurd (omega arith)
  known-end (a_stray e r q) k = absurd (omega arith)
  known-end (the_end e r l q) k = r

  pub known_stray : Known s o t → t.kind ≡ 2 → from s o ≡ bad t.start
  known_stray (a_word e r) k = absurd (omega arith)
  known_stray (a_number e r) k = absurd (omega arith)
  known_stray (a_mark e r) k = absurd (omega arith)
  known_stray (a_stray e r q) k = r
  known_stray (the_end e r l q) k = absurd (omega arith)

  pub known_token : Known s o t → (t.kind ≡ 2 → ⊥) → (t.kind ≡ 3 → ⊥) → ReadsOne s o t.next.at
  known_token (a_word e r) a b = record { token = _; reads = r }
  known_token (a_number e r) a b = record { token = _; reads = r }
  known_token (a_mark e r) a b = record { token = _; reads = r }
  known_token (a_stray e r q) a b = absurd (a e)
  known_token (the_end e r l q) a b = absurd (b e)
