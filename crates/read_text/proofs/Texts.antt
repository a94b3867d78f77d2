-- Where the statements can be read to the end, the text is read as they are.
-- Assumes nothing.
use mathlib.Core.Path.{◌≡◌, ◌∙◌, ap}
use mathlib.Core.List.{List}
use mathlib.Core.Option.{Option}
use Prim.Native.Nat.{ℕ}
use lib.ListN.{length}
use Rattle.tokens.specs.Lex.{tokens}
use Rattle.reading.specs.Statement.{Statement}
use Rattle.reading.specs.Answer.{accepted}
use Rattle.reading.specs.Read.{between, read_text}
use Rattle.reading.specs.Calls.{counted, chosen, nth_of}
use Rattle.reading_laws.specs.Admitted.{Admitted}
use Rattle.reading_laws.proofs.Scanning.{accepted-whole}
use Rattle.reading_laws.proofs.Joining.{accepted-text}
use Rattle.reading_laws.proofs.Calls.{counted-accepted}
use Rattle.read_statements.specs.Answers.{reading_at}
use Rattle.read_statements.proofs.Texts.{whole-text}
use Rattle.read_text.specs.Answers.{indexed}
use Rattle.read_text.proofs.Indexes.{indexed-accepted}

module _ (limit : ℕ) (s : List ℕ) (h : Admitted limit s) where
  -- where the statements can be read, no such byte is there
  pub counted-text : (n : ℕ) → counted 0 (reading_at limit s 0 between 0) ≡ accepted n → read_text limit s ≡ reading_at limit s 0 between 0
  counted-text n e =
      let a = counted-accepted 0 n (reading_at limit s 0 between 0) e in
      whole-text limit s h (accepted-whole limit (length s) 0 between (tokens s) a.0 a.1)

  -- the statement at an index of those that were read is that of the text
  pub indexed-text :
      (i : ℕ) (o : Option Statement) → indexed i (reading_at limit s 0 between 0) ≡ accepted o → nth_of i (read_text limit s) ≡ chosen i o
  indexed-text i o e =
      let a = indexed-accepted i o (reading_at limit s 0 between 0) e in
      ap (nth_of i) (accepted-text limit s a.0 h a.1) ∙ ap (chosen i) a.2
