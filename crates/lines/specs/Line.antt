-- Document 01, The calls offered: "A program reads standard input and writes the canonical text and a newline, or `refused`, number and place with
-- single spaces and a newline."
use Rattle.std.specs.Prelude.{ℕ, List, ◌++◌}
use Rattle.text.specs.Bytes.{bytes}
use Rattle.counts.specs.Decimal.{digits_of}
use Rattle.reading.specs.Answer.{Answer, accepted, refused}
use Rattle.canonical.specs.Print.{print_text}
use Rattle.profiling.specs.Profile.{Yes, profile_text}

-- "`refused`, number and place with single spaces and a newline"
unfoldable pub refusal_line : ℕ → ℕ → List ℕ
refusal_line n p = bytes "refused " ++ (digits_of n ++ (bytes " " ++ (digits_of p ++ bytes "\n")))

-- "the canonical text and a newline", or a refusal's line
unfoldable pub line_of : Answer (List ℕ) → List ℕ
line_of (accepted bs) = bs ++ bytes "\n"
line_of (refused n p) = refusal_line n p

-- What `mfl` writes of a text, under a ceiling for counts.
unfoldable pub print_line : ℕ → List ℕ → List ℕ
print_line ceiling text = line_of (print_text ceiling text)

-- What `mfl --profile` writes: `ok` where the text fits.
abbrev pub okay : Answer Yes → Answer (List ℕ)
okay (accepted y) = accepted (bytes "ok")
okay (refused n p) = refused n p

unfoldable pub profile_line : ℕ → List ℕ → List ℕ
profile_line ceiling text = line_of (okay (profile_text ceiling text))
