-- What is known of a form that was read from a text: its names lie in the text, and its lists can be read again.
use Rattle.std.specs.Prelude.{ℕ, ◌+◌, ◌≤◌, true, List, [], ◌∷◌, ◌≡◌, length}
use Rattle.reading.specs.Statement.{Kind, a_word, a_number}
use Rattle.read_forms.specs.declared.Name.{Name}
use Rattle.read_forms.specs.declared.Items.{Items}
use Rattle.read_forms.specs.declared.Arg.{Arg}
use Rattle.read_forms.specs.declared.Arg.TheVariants.{Star, Plus, Symbol, Word, Number, Range, Array}
use Rattle.read_forms.specs.declared.Args.{Args}
use Rattle.read_forms.specs.Items.{tokens_from, name_in, entries, listed}

-- a name's bytes lie in the text
abbrev pub InText : List ℕ → Name → Type 0
InText s n = n.offset + n.length ≤ length s

-- a list's entries are words and numbers, at most 64
pub record Listed (s : List ℕ) (is : Items) : Type 0 where
  pub are : listed is.count (tokens_from s is.first.at) ≡ true
  pub few : is.count ≤ 64

-- a word or number alone is the one entry of a list that starts with it
pub record Stands (s : List ℕ) (k : Kind) (n : Name) : Type 0 where
  pub inside : InText s n
  pub alone : entries 1 (tokens_from s n.offset) ≡ record { kind = k; name = name_in s n } ∷ []
  pub one : listed 1 (tokens_from s n.offset) ≡ true

unfoldable pub Fits : List ℕ → Arg → Type 0
Fits s (Star o) = Unit {0}
Fits s (Plus o) = Unit {0}
Fits s (Symbol o n) = InText s n
Fits s (Word n) = Stands s a_word n
Fits s (Number n) = Stands s a_number n
Fits s (Range o a b) = Unit {0}
Fits s (Array o is) = Listed s is

pub record AllFit (s : List ℕ) (xs : Args) : Type 0 where
  pub first : Fits s xs.first
  pub second : Fits s xs.second
  pub third : Fits s xs.third
  pub fourth : Fits s xs.fourth
