-- A canonical text is read as the statements that it prints, and prints as itself, under the same ceiling: as long as it keeps within 16,384
-- bytes and 256 statements, and its statements are well formed, which those of an accepted text are.
-- Assumes nothing.
use Prim.Native.Nat.{ℕ, ◌+◌, ◌≤◌}
use native.Mathlib.Omega.{arith}
use mathlib.Core.Path.{◌≡◌, refl, ◌∙◌, ap, sym}
use mathlib.Core.Bool.{true}
use mathlib.Core.List.{List, map}
use lib.ListN.{length}
use Rattle.tokens.specs.Token.{Tokens}
use Rattle.tokens.specs.Lex.{tokens}
use Rattle.text.specs.Lists.{all}
use Rattle.token_laws.proofs.Spelled.{tokens-spelled}
use Rattle.reading.specs.Statement.{Statement}
use Rattle.reading.specs.Answer.{Answer, accepted, refused}
use Rattle.reading.specs.Read.{Where, between, ended, inside, read_from, read_text}
use Rattle.reading_laws.specs.Admitted.{Admitted}
use Rattle.reading_laws.specs.Moved.{move_read, move_tokens}
use Rattle.reading_laws.specs.Reads.{Reads, over, over_ended, passed, passed_ended, begun, carried, completed}
use Rattle.reading_laws.specs.WellFormed.{well_formed}
use Rattle.reading_laws.proofs.Moving.{reading_moved}
use Rattle.reading.proofs.Answers.{not-refused}
use Rattle.reading_laws.proofs.Joining.{text_reads, accepted-text}
use Rattle.canonical.specs.Canonical.{text_shapes, canonical}
use Rattle.canonical.specs.Print.{printed, print_text}
use Rattle.canonical_laws.specs.Forgotten.{nowhere, forget, ReadAs}
use Rattle.canonical_laws.proofs.Statements.{text-spelled, text-read}
use Rattle.canonical_laws.proofs.Forgetting.{canonical_forgets, placed-flat}

-- tokens that are accepted where their places are forgotten are accepted where they stand
module _ (limit : ℕ) (text : List ℕ) (ss : List Statement) (admitted : Admitted limit text) where
  unforgotten :
      (r : Answer (List Statement))
      → read_from limit (length text) 0 between (tokens text) ≡ r
      → move_read nowhere r ≡ accepted (map forget ss)
      → ReadAs limit text ss
  unforgotten (accepted ts) e f = record { statements = ts; read = accepted-text limit text ts admitted e; same = cc }
  unforgotten (refused n p) e f = absurd (not-refused f)

  pub forgotten_read : read_from limit 0 0 between (move_tokens nowhere (tokens text)) ≡ accepted (map forget ss) → ReadAs limit text ss
  forgotten_read e =
      unforgotten (read_from limit (length text) 0 between (tokens text)) refl
      (sym (reading_moved nowhere limit (length text) 0 between (tokens text)) ∙ e)

-- A canonical text is read as the statements that it prints.
pub rereads :
    (limit : ℕ) (ss : List Statement)
    → all (well_formed limit) ss ≡ true
    → length ss ≤ 256
    → Admitted limit (canonical ss)
    → ReadAs limit (canonical ss) ss
rereads limit ss e few admitted =
    let p = text-spelled limit ss e in
    forgotten_read limit (canonical ss) ss admitted
    (ap (λ (ts : Tokens). read_from limit 0 0 between (move_tokens nowhere ts)) (tokens-spelled 0 (text_shapes ss) p.shaped p.spaced)
    ∙ ap (read_from limit 0 0 between) (placed-flat 0 (text_shapes ss))
    ∙ text-read limit 0 ss e (omega arith)
    )

-- statements that are the same without their places print alike
prints_alike : (ts ss : List Statement) → map forget ts ≡ map forget ss → canonical ts ≡ canonical ss
prints_alike ts ss e = sym (canonical_forgets ts) ∙ ap canonical e ∙ canonical_forgets ss

-- A canonical text prints as itself.
pub prints_itself :
    (limit : ℕ) (ss : List Statement)
    → all (well_formed limit) ss ≡ true
    → length ss ≤ 256
    → Admitted limit (canonical ss)
    → print_text limit (canonical ss) ≡ accepted (canonical ss)
unfolding print_text
prints_itself limit ss e few admitted =
    let r = rereads limit ss e few admitted in
    ap printed r.read ∙ ap accepted (prints_alike r.statements ss r.same)

-- how many statements are begun but not counted yet
abbrev pending : Where → ℕ
pending between = 0
pending ended = 0
pending (inside s) = 1

reads_few :
    {limit n : ℕ} {w : Where} {ts : Tokens} {ss : List Statement} → Reads limit n w ts ss → n + pending w ≤ 256 → n + length ss ≤ 256
reads_few over h = h
reads_few over_ended h = h
reads_few (passed e r) h = reads_few r h
reads_few (passed_ended e r) h = reads_few r h
reads_few (begun e l o r) h = reads_few r (omega arith)
reads_few (carried e r) h = reads_few r h
reads_few (completed e r) h = let k = reads_few r (omega arith) in omega arith

-- An accepted text has at most 256 statements.
pub few-statements : (limit : ℕ) (text : List ℕ) (ss : List Statement) → read_text limit text ≡ accepted ss → length ss ≤ 256
few-statements limit text ss e =
    let h = reads_few (text_reads limit text ss e) (omega arith) in
    omega arith
