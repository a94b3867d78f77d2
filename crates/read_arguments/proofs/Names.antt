-- A token's bytes as a name: the name that the definition gives it, in the text, and the one entry of a list that starts with it.
-- Assumes nothing.
use mathlib.Core.Path.{◌≡◌, ap, sym, subst}
use mathlib.Core.List.{List}
use Prim.Native.Nat.{ℕ}
use native.Mathlib.Omega.{arith}
use Rattle.tokens.specs.declared.Token as lexer
use Rattle.tokens.specs.Token.{Shape, word, number}
use Rattle.reading.specs.Statement.{a_word, a_number}
use Rattle.reading.specs.Syntax.{name}
use Rattle.read_forms.specs.declared.Name.{Name}
use Rattle.read_forms.specs.Items.{name_in, entry_ahead, entries, listed}
use Rattle.read_forms.specs.Fits.{InText, Stands}
use Rattle.tokens.proofs.Steps.{token}
use Rattle.tokens.proofs.Views.{part, Reads}
use Rattle.read_arguments.specs.Answers.{name_of}

module _ (s : List ℕ) (t : lexer.Token) {n : Name} (e : n ≡ name_of t) where
  -- the name of the definition
  pub same_name : name t.start (part s t.start t.next.at) ≡ name_in s n
  same_name = ap (name_in s) (sym e)

  pub in_text : {o : ℕ} {x : Shape} → Reads s o (token t.start x) t.next.at → InText s n
  in_text r = subst (InText s) (sym e) (omega (arith, r.wide, r.within))

  pub word_stands :
      {o : ℕ} → Reads s o (token t.start (word (part s t.start t.next.at))) t.next.at → Stands s a_word n
  unfolding entries listed entry_ahead
  word_stands r =
      subst (Stands s a_word) (sym e)
      (record {
        inside = omega (arith, r.wide, r.within);
        alone = ap (entries 1) r.there;
        one = ap (listed 1) r.there;
      })

  pub number-stands :
      {o : ℕ} → Reads s o (token t.start (number (part s t.start t.next.at))) t.next.at → Stands s a_number n
  unfolding entries listed entry_ahead
  number-stands r =
      subst (Stands s a_number) (sym e)
      (record {
        inside = omega (arith, r.wide, r.within);
        alone = ap (entries 1) r.there;
        one = ap (listed 1) r.there;
      })
