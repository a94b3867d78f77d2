-- Texts as lists of bytes, and tests of one byte.
use Rattle.std.specs.Prelude.{ℕ, zero, suc, Bool, true, false, cond, ◌&&◌, ◌||◌, List, [], ◌∷◌, eqb, leb}
use Prim.Native.Char.{Char, code}
use Prim.Native.String.{String, [] as none, ◌∷◌ as ◌then◌}

-- the bytes of a quoted text of ASCII characters
abbrev pub bytes : String → List ℕ
bytes none = []
bytes (c then s) = code c ∷ bytes s

-- the byte is the character
abbrev pub is : Char → ℕ → Bool
is c b = eqb b (code c)

-- the byte is one of the list's
abbrev pub member_of : List ℕ → ℕ → Bool
member_of [] b = false
member_of (x ∷ xs) b = eqb b x || member_of xs b

-- the byte is one of the characters
abbrev pub among : String → ℕ → Bool
among s b = member_of (bytes s) b

-- the byte lies between two characters, both included
abbrev pub between : Char → Char → ℕ → Bool
between lo hi b = leb (code lo) b && leb b (code hi)

-- how many bytes at the front of a text pass a test, up to the first that does not
abbrev pub span : (ℕ → Bool) → List ℕ → ℕ
span p [] = 0
span p (b ∷ bs) = cond (p b) (suc (span p bs)) 0

-- every byte of a text passes a test
abbrev pub every : (ℕ → Bool) → List ℕ → Bool
every p [] = true
every p (b ∷ bs) = p b && every p bs

-- the numbers from one on, as many as the second says
abbrev pub count_up : ℕ → ℕ → List ℕ
count_up i zero = []
count_up i (suc n) = i ∷ count_up (suc i) n
