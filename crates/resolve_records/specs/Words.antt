-- Resolve's answer as one 64-bit number: how many bytes the ground text has, effects and notes there are, in bits 0 to 15, 16 to 31 and from 40
-- on; or a refusal, as every call has it, its number in bits 32 to 39. Those are 0 where nothing is refused.
use Rattle.std.specs.Prelude.{ℕ, ◌+◌, ◌*◌, ◌/◌, ◌%◌, ◌≤◌}
use Rattle.reading.specs.Answer.{Answer, accepted, refused}
use Rattle.resolving.specs.Call.{Lengths}
use Rattle.words.specs.Word.{word}

abbrev pub lengths_word : Lengths → ℕ
lengths_word n = n.ground + n.effects * 65536 + n.notes * 1099511627776

abbrev pub resolved_word : Answer Lengths → ℕ
resolved_word (accepted n) = lengths_word n
resolved_word (refused k p) = word (refused k p)

-- how many effects a word tells of
abbrev pub effects_told : ℕ → ℕ
effects_told word = word / 65536 % 65536

-- what the word has room for
abbrev pub Small : Answer Lengths → Type 0
Small (accepted n) = (n.ground ≤ 16384) × ((n.effects ≤ 2048) × (n.notes ≤ 257))
Small (refused k p) = p ≤ 16384
