-- An answer as one 64-bit number, for programs in other languages: what a call gives, or a refusal's number times 2^32 and its place. What is
-- given and a place are below 2^32 (`Below`), and a number is at least 1, so the three can be told from the word (`answer_in`).
use Rattle.std.specs.Prelude.{ℕ, ◌+◌, ◌*◌, ◌/◌, ◌%◌, ◌<◌, cond, eqb}
use Rattle.reading.specs.Answer.{Answer, accepted, refused}

abbrev pub word : Answer ℕ → ℕ
word (accepted n) = n
word (refused k p) = k * 4294967296 + p

abbrev pub Below : Answer ℕ → Type 0
Below (accepted n) = n < 4294967296
Below (refused k p) = p < 4294967296

-- What is read off a word: bits 32 and up are a refusal's number, the others its place; where they are 0, the word is what is given.
abbrev pub answer_in : ℕ → Answer ℕ
answer_in w = cond (eqb (w / 4294967296) 0) (accepted w) (refused (w / 4294967296) (w % 4294967296))
