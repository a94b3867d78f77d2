-- What the parts of a statement are printed as, and what is known of them.
use Rattle.std.specs.Prelude.{ℕ, zero, suc, List, [], map}
use Rattle.text.specs.Bytes.{bytes}
use Rattle.tokens.specs.Token.{Shape}
use Rattle.counts.specs.Count.{count_of}
use Rattle.reading.specs.Statement.{Name, Item}
use Rattle.canonical.specs.Canonical.{count_shape}
use Rattle.read_forms.specs.Forms.{count_or0}

-- a count in a list, as what it is printed
abbrev pub number_shape : Name → Shape
number_shape n = count_shape (count_or0 (count_of 4294967295 n.spelling))

-- a list's entries, by what each is printed as
abbrev pub shapes_as : (Name → Shape) → List Item → List Shape
shapes_as f is = map (λ i. f i.name) is

-- what stands behind an entry of a list, where so many are left, itself among them
abbrev pub behind_entry : ℕ → List ℕ
behind_entry zero = []
behind_entry (suc zero) = []
behind_entry (suc (suc n)) = bytes ","
