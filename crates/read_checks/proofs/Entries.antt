-- The entries of a list that stays in the text: what the token at an offset is as an entry, and what is left behind it.
-- Assumes nothing.
use mathlib.Core.Path.{◌≡◌, refl, ◌∙◌, ap, sym}
use mathlib.Core.Bool.{true, false≢true}
use mathlib.Core.List.{List, []}
use Prim.Native.Nat.{ℕ, ◌-◌, ◌≤◌}
use native.Mathlib.Omega.{arith}
use lib.ListN.{length}
use Rattle.tokens.specs.Token.{Shape, Tokens}
use Rattle.tokens.specs.declared.Lexed.{Lexed}
use Rattle.tokens.specs.declared.Lexed.TheVariants as lexed
use Rattle.tokens.specs.declared.Token as kinds
use Rattle.tokens.specs.Next.{first, by_kind, token_at}
use Rattle.tokens.proofs.Steps.{token, at_end}
use Rattle.tokens.proofs.Views.{Reads, Tells, told, Known, a_word, a_number, a_mark, a_stray, the_end, known}
use Rattle.read_forms.specs.declared.Items.{Items}
use Rattle.read_forms.specs.Items.{tokens_from, rest, an_entry, entry_as, entry_ahead, items_in, listed}
use Rattle.read_forms.specs.Fits.{Listed}
use Rattle.read_forms.proofs.Entries.{entries-length}
use Rattle.read_forms.proofs.Lists.{items_are}
use Rattle.read_checks.specs.declared.Entry as checked
use Rattle.read_checks.specs.Answers.{kind_of, entry_in, goes_on, NextEntry}

-- a list that has entries is not empty
pub listed_some : (s : List ℕ) (is : Items) → Listed s is → (is.count ≡ 0 → ⊥) → items_in s is ≡ [] → ⊥
listed_some s is l k e =
    k (sym (entries-length is.count (tokens_from s is.first.at) l.are) ∙ ap length (sym (items_are s is l) ∙ e))

-- the tokens after the one at an offset start where its answer says
pub behind : (s : List ℕ) (o : ℕ) (t : kinds.Token) → Known s o t → rest (tokens_from s o) ≡ tokens_from s t.next.at
behind s o t (a_word e r) = ap rest r.tokens
behind s o t (a_number e r) = ap rest r.tokens
behind s o t (a_mark e r) = ap rest r.tokens
behind s o t (a_stray e f g) = ap rest f ∙ sym g
behind s o t (the_end e f a b) = ap rest f ∙ sym (at_end s t.next.at (omega arith))

-- and that is no earlier, whatever stands there
further : (s : List ℕ) (o : ℕ) (l : Lexed) → o ≤ length s → Tells s o l → o ≤ (by_kind (length s) l).next.at
unfolding by_kind
further s o (lexed.Word a c) h r = omega (arith, r.ahead, r.wide)
further s o (lexed.Number a c) h r = omega (arith, r.ahead, r.wide)
further s o (lexed.Mark m a c) h r = omega (arith, r.0.ahead, r.0.wide)
further s o (lexed.Bad e) h r = r.2
further s o lexed.End h r = h

-- the token at an offset as an entry of a list
abbrev pub entry_by : kinds.Token → checked.Entry
entry_by t = record { kind = kind_of t.kind; name = record { offset = t.start; length = t.next.at - t.start }; next = t.next }

-- it ends behind its start, and is what `entry_at` says it is
pub record Next (s : List ℕ) (o : ℕ) (t : kinds.Token) : Type 0 where
  pub wide : t.start ≤ t.next.at
  pub entry : NextEntry s o (entry_by t)

module _ (s : List ℕ) (o : ℕ) (t : kinds.Token) where
  next_by :
      {x : Shape}
      → ((ts : Tokens) → entry_as t.start x ts ≡ an_entry (entry_in s (entry_by t)) ts)
      → Reads s o (token t.start x) t.next.at
      → Next s o t
  unfolding entry_ahead goes_on
  next_by f r =
      let n = t.next.at in
      let u = token_at s n in
      let m : n ≤ u.next.at = further s n (first (tokens_from s n)) r.within (told s n _ refl) in
      record {
        wide = omega (arith, r.wide);
        entry = record {
          inside = omega (arith, r.wide, r.within);
          here = record {
            ahead = ap entry_ahead r.tokens ∙ f (rest (tokens_from s n)) ∙ ap (an_entry (entry_in s (entry_by t))) (behind s n u (known s n u refl));
          };
          ahead = r.ahead;
          behind = omega (arith, r.wide, m);
        };
      }

  pub next_here : listed 1 (tokens_from s o) ≡ true → Known s o t → Next s o t
  unfolding listed entry_ahead
  next_here h (a_word e r) = next_by (λ ts. simp e) r
  next_here h (a_number e r) = next_by (λ ts. simp e) r
  next_here h (a_mark e r) = absurd (false≢true (sym (ap (listed 1) r.tokens) ∙ h))
  next_here h (a_stray e f g) = absurd (false≢true (sym (ap (listed 1) f) ∙ h))
  next_here h (the_end e f a b) = absurd (false≢true (sym (ap (listed 1) f) ∙ h))

-- an entry can be read wherever one stands
pub record EntryFrom (s : List ℕ) (o : ℕ) : Type 0 where
  pub found : checked.Entry
  pub next : NextEntry s o found

pub entry_from : (s : List ℕ) (o : ℕ) → listed 1 (tokens_from s o) ≡ true → EntryFrom s o
entry_from s o h =
    let t = token_at s o in
    record { found = entry_by t; next = (next_here s o t h (known s o t refl)).entry }
