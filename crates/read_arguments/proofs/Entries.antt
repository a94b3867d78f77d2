-- The entries of an array: what a word or a number makes of it.
-- Assumes nothing.
use mathlib.Core.Path.{◌≡◌, refl, ◌∙◌, ap, sym}
use mathlib.Core.Bool.{Bool, true, cond}
use mathlib.Core.List.{List, [], ◌∷◌, ◌++◌}
use Prim.Native.Nat.{ℕ, ◌≤◌, ◌<◌}
use native.Mathlib.Omega.{arith}
use borrow.Author.Tests.{lt-ltb, le-ltb}
use lib.Dec.{ltb}
use lib.ListN.{length}
use Rattle.tokens.specs.declared.Token as lexer
use Rattle.tokens.specs.Token.{Shape, word, number, mark, Tokens, finish}
use Rattle.reading.specs.Statement.{Item}
use Rattle.reading.specs.One.{halted}
use Rattle.reading.specs.Syntax.{Call, Step, more, overfull, item, item_read, turn}
use Rattle.read_forms.specs.Items.{tokens_from, rest, an_entry, entry_as, entry_ahead, Entered, entries, after_entries, listed}
use Rattle.read_forms.proofs.Entries.{entries-ahead, listed-ahead, after_ahead}
use Rattle.tokens.proofs.Steps.{token}
use Rattle.tokens.proofs.Views.{Reads, Known, a_word, a_number, a_mark, a_stray, the_end}
use Rattle.std.specs.Prelude.{Result, Ok, Err}
use Rattle.read_forms.specs.declared.Refusal.{Refusal}
use Rattle.read_arguments.specs.declared.Entry.{Entry}
use Rattle.read_arguments.specs.declared.Entry.TheVariants as answer
use Rattle.read_arguments.specs.Answers.{read_in, step_in, EntryFurther, EntryListed}
use Rattle.read_arguments.proofs.Reading.{read_token}

-- a token of a kind below two is a word or a number
pub record EntryAt (s : List ℕ) (o : ℕ) (t : lexer.Token) : Type 0 where
  pub shape : Shape
  pub entry : Item
  pub is_entry : (ts : Tokens) → entry_as t.start shape ts ≡ an_entry entry ts
  pub reads : Reads s o (token t.start shape) t.next.at

pub entry_at : {s : List ℕ} {o : ℕ} {t : lexer.Token} → Known s o t → t.kind ≤ 1 → EntryAt s o t
entry_at (a_word e r) h = record { shape = _; entry = _; is_entry = λ ts. refl; reads = r }
entry_at (a_number e r) h = record { shape = _; entry = _; is_entry = λ ts. refl; reads = r }
entry_at (a_mark e r) h = absurd (omega arith)
entry_at (a_stray e r q) h = absurd (omega arith)
entry_at (the_end e r l q) h = absurd (omega arith)

-- it is one more entry, or the 65th
pub one_more :
    (limit : ℕ) (c : Call) (p o : ℕ) (items : List Item) (x : Shape) (i : Item)
    → entry_as o x finish ≡ an_entry i finish
    → turn limit (item c p items) o x ≡ cond (ltb (length items) 64) (more (item_read c p (items ++ i ∷ []))) (overfull o)
unfolding turn
one_more limit c p o items (word w) i e = cc
one_more limit c p o items (number w) i e = cc
one_more limit c p o items (mark m) i e = let z : ◌≡◌ {A = ℕ} 0 1 = cc in absurd (omega arith)

picked : {A : Type 0} (b : Bool) {t : Bool} (x y : A) → b ≡ t → cond b x y ≡ cond t x y
picked b x y e = ap (λ (v : Bool). cond v x y) e

module _ {s : List ℕ} {o : ℕ} {t : lexer.Token} (here : EntryAt s o t) where
  -- the entry that stands here, and what is left behind the token after it
  pub entered : Entered (tokens_from s o) here.entry (rest (tokens_from s t.next.at))
  unfolding entry_ahead
  entered = record { ahead = ap entry_ahead here.reads.tokens ∙ here.is_entry (rest (tokens_from s t.next.at)) }

  pub one_entry : entries 1 (tokens_from s o) ≡ here.entry ∷ []
  unfolding entries
  one_entry = entries-ahead entered 0

  pub one-listed : listed 1 (tokens_from s o) ≡ true
  unfolding listed
  one-listed = listed-ahead entered 0

  pub behind : after_entries 1 (tokens_from s o) ≡ rest (tokens_from s t.next.at)
  unfolding after_entries
  behind = after_ahead entered 0

  pub taken :
      (limit : ℕ) (c : Call) (p : ℕ) (items : List Item)
      → length items < 64
      → read_in limit s (item c p items) o ≡ read_in limit s (item_read c p (items ++ entries 1 (tokens_from s o))) t.next.at
  taken limit c p items h =
      read_token limit s (item c p items) o _ _ here.reads
      ∙ ap (λ (x : Step). step_in limit s x t.next.at)
      (one_more limit c p t.start items here.shape here.entry (here.is_entry finish) ∙ picked _ _ _ (lt-ltb (length items) 64 h))
      ∙ ap (λ (l : List Item). read_in limit s (item_read c p (items ++ l)) t.next.at) (sym one_entry)

  pub one-too_many :
      (limit : ℕ) (c : Call) (p : ℕ) (items : List Item)
      → 64 ≤ length items
      → read_in limit s (item c p items) o ≡ halted 11 t.start
  one-too_many limit c p items h =
      read_token limit s (item c p items) o _ _ here.reads
      ∙ ap (λ (x : Step). step_in limit s x t.next.at)
      (one_more limit c p t.start items here.shape here.entry (here.is_entry finish) ∙ picked _ _ _ (le-ltb (length items) 64 h))

  pub entry-further : (ts : Tokens) (r : Result Entry Refusal) → EntryFurther s t.next.at ts r → EntryFurther s o ts r
  unfolding EntryFurther
  entry-further ts (Ok (answer.More n)) f = (omega (arith, here.reads.ahead, here.reads.wide, f.0), f.1, f.2)
  entry-further ts (Ok (answer.Done n)) f = (omega (arith, here.reads.ahead, here.reads.wide, f.0), f.1)
  entry-further ts (Err r) f = f

  pub entry_listed : (count : ℕ) (r : Result Entry Refusal) → count < 64 → EntryListed s o count r
  unfolding EntryListed
  entry_listed count (Ok (answer.More n)) h = (one-listed, h)
  entry_listed count (Ok (answer.Done n)) h = (one-listed, h)
  entry_listed count (Err r) h = tt
