-- What programs in other languages read off Resolve's word: a refusal's number is in bits 32 to 39, and where these are 0 the word has the three
-- lengths.
use Rattle.std.specs.Prelude.{ℕ, ◌/◌, ◌%◌, cond, eqb}
use Rattle.reading.specs.Answer.{Answer, accepted, refused}
use Rattle.resolving.specs.Call.{Lengths}

abbrev pub lengths_in : ℕ → Lengths
lengths_in w = let ground : ℕ = w % 65536 in record { ground = ground; effects = w / 65536 % 65536; notes = w / 1099511627776 }

abbrev pub resolved_in : ℕ → Answer Lengths
resolved_in w = cond (eqb (w / 4294967296 % 256) 0) (accepted (lengths_in w)) (refused (w / 4294967296 % 256) (w % 4294967296))
