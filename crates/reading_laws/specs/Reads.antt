-- What it is for tokens to be read to their end: each token's part in it.
use Rattle.std.specs.Prelude.{ℕ, suc, ◌<◌, ◌≡◌, true, false, List, [], ◌∷◌}
use Rattle.tokens.specs.Token.{Token, Tokens, finish, ◌▸◌}
use Rattle.reading.specs.Statement.{Statement}
use Rattle.reading.specs.Answer.{Answer}
use Rattle.reading.specs.Syntax.{State, more, made, opened, turn}
use Rattle.reading.specs.Read.{is_separator, Where, between, ended, inside, prepend}

-- The tokens, after so many statements, read as these statements. The text's size has no part in it: it is only the place of a refusal.
pub data Reads (limit : ℕ) : ℕ → Where → Tokens → List Statement → Type 0 where
  over : {n : ℕ} → Reads limit n between finish []
  over_ended : {n : ℕ} → Reads limit n ended finish []
  passed :
      {n : ℕ} {t : Token} {ts : Tokens} {ss : List Statement}
      → is_separator t.shape ≡ true
      → Reads limit n between ts ss
      → Reads limit n between (t ▸ ts) ss
  passed_ended :
      {n : ℕ} {t : Token} {ts : Tokens} {ss : List Statement}
      → is_separator t.shape ≡ true
      → Reads limit n between ts ss
      → Reads limit n ended (t ▸ ts) ss
  begun :
      {n : ℕ} {t : Token} {s : State} {ts : Tokens} {ss : List Statement}
      → is_separator t.shape ≡ false
      → n < 256
      → opened t.place t.shape ≡ more s
      → Reads limit n (inside s) ts ss
      → Reads limit n between (t ▸ ts) ss
  carried :
      {n : ℕ} {t : Token} {s next : State} {ts : Tokens} {ss : List Statement}
      → turn limit s t.place t.shape ≡ more next
      → Reads limit n (inside next) ts ss
      → Reads limit n (inside s) (t ▸ ts) ss
  completed :
      {n : ℕ} {t : Token} {s : State} {x : Statement} {ts : Tokens} {ss : List Statement}
      → turn limit s t.place t.shape ≡ made x
      → Reads limit (suc n) ended ts ss
      → Reads limit n (inside s) (t ▸ ts) (x ∷ ss)

-- statements before those of an answer
abbrev pub prepend_all : List Statement → Answer (List Statement) → Answer (List Statement)
prepend_all [] r = r
prepend_all (s ∷ ss) r = prepend s (prepend_all ss r)
