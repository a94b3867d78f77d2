-- Two accepted texts with a newline between them are read as the statements of the first and then those of the second, whose places lie
-- further on by the first's length and the newline: as long as the whole keeps within 16,384 bytes and 256 statements.
-- Assumes nothing.
use Rattle.std.specs.Prelude.{Option, Some, None}
use Prim.Native.Nat.{ℕ, ◌+◌, ◌≤◌}
use native.Mathlib.Omega.{arith}
use mathlib.Core.Path.{◌≡◌, refl, ◌∙◌, ap}
use mathlib.Core.Bool.{Bool, true, false, cond}
use mathlib.Core.List.{List, [], ◌∷◌, ◌++◌, map}
use borrow.Author.Tests.{ltb-false, le-ltb}
use lib.Dec.{ltb}
use lib.ListN.{length, length-map}
use Rattle.tokens.specs.Lex.{tokens}
use Rattle.tokens.specs.Next.{scanned}
use Rattle.token_laws.specs.Join.{raise}
use Rattle.token_laws.proofs.Joining.{tokens-newline}
use Rattle.reading.specs.Statement.{Statement}
use Rattle.reading.specs.Answer.{accepted, too_high, too_long}
use Rattle.reading.specs.Read.{between, read_from, read_scanned, read_text}
use Rattle.reading_laws.specs.Admitted.{Admitted}
use Rattle.reading_laws.specs.Raised.{raise_statement, raise_read}
use Rattle.reading_laws.specs.Reads.{Reads, prepend_all}
use Rattle.reading_laws.proofs.Raising.{reading_raised}
use Rattle.reading_laws.proofs.Accepting.{accepted_reads}
use Rattle.reading.proofs.Answers.{not-refused}
use Rattle.reading_laws.proofs.Scanning.{accepted-whole}
use Rattle.reading_laws.proofs.Appending.{reading_appends, accepted_after}

-- an accepted text's ceiling is not too high, the text is not too long, and its tokens are accepted
module _ (limit : ℕ) (text : List ℕ) (ss : List Statement) (e : read_text limit text ≡ accepted ss) where
  admitted_and-accepted : Admitted limit text × (read_from limit (length text) 0 between (tokens text) ≡ accepted ss)
  unfolding read_text
  admitted_and-accepted = go (ltb 256 limit) (ltb 16384 (length text)) (scanned (tokens text)) refl refl e
    where
      go :
          (h t : Bool) (s : Option ℕ)
          → ltb 256 limit ≡ h
          → ltb 16384 (length text) ≡ t
          → cond h too_high (cond t too_long (read_scanned limit (length text) (tokens text) s)) ≡ accepted ss
          → Admitted limit text × (read_from limit (length text) 0 between (tokens text) ≡ accepted ss)
      go true t s c h e = absurd (not-refused e)
      go false true s c h e = absurd (not-refused e)
      go false false None c h e =
          (record { ceiling = ltb-false 256 limit c; short = ltb-false 16384 (length text) h }, e)
      go false false (Some o) c h e = absurd (not-refused e)

  pub accepted_admitted : Admitted limit text
  accepted_admitted = admitted_and-accepted.0

  pub accepted-short : length text ≤ 16384
  accepted-short = accepted_admitted.short

  pub text-accepted : read_from limit (length text) 0 between (tokens text) ≡ accepted ss
  text-accepted = admitted_and-accepted.1

  pub text_reads : Reads limit 0 between (tokens text) ss
  text_reads = accepted_reads limit (length text) 0 between (tokens text) ss text-accepted

-- a text that is admitted is accepted where its tokens are
pub accepted-text :
    (limit : ℕ) (text : List ℕ) (ss : List Statement)
    → Admitted limit text
    → read_from limit (length text) 0 between (tokens text) ≡ accepted ss
    → read_text limit text ≡ accepted ss
unfolding read_text
accepted-text limit text ss h e =
    simp (le-ltb 256 limit h.ceiling, le-ltb 16384 (length text) h.short, accepted-whole limit (length text) 0 between (tokens text) ss e) e

-- statements before accepted ones
prepend_all_lem : (ss ts : List Statement) → prepend_all ss (accepted ts) ≡ accepted (ss ++ ts)
prepend_all_lem [] ts = refl
prepend_all_lem (s ∷ ss) ts = simp (prepend_all_lem ss ts)

-- Reading two accepted texts joined by a newline: the statements of both, the second's places moved.
pub reading_joins :
    (limit : ℕ) (a b : List ℕ) (ss ts : List Statement)
    → read_text limit a ≡ accepted ss
    → read_text limit b ≡ accepted ts
    → length (a ++ 10 ∷ b) ≤ 16384
    → length ss + length ts ≤ 256
    → read_text limit (a ++ 10 ∷ b) ≡ accepted (ss ++ map (raise_statement (length a + 1)) ts)
reading_joins limit a b ss ts p q short few =
    accepted-text limit (a ++ 10 ∷ b) (ss ++ map (raise_statement d) ts)
    (record { ceiling = (accepted_admitted limit a ss p).ceiling; short = short })
    (ap (read_from limit size 0 between) (tokens-newline a b)
    ∙ reading_appends limit (length a) size 0 (length a) between (tokens a) (raise d (tokens b)) ss (text-accepted limit a ss p)
    ∙ ap (prepend_all ss) later
    ∙ prepend_all_lem ss (map (raise_statement d) ts)
    )
  where
    d : ℕ
    d = length a + 1

    size : ℕ
    size = length (a ++ 10 ∷ b)

    raised : read_from limit (length b + d) 0 between (raise d (tokens b)) ≡ accepted (map (raise_statement d) ts)
    raised = reading_raised d limit (length b) 0 between (tokens b) ∙ ap (raise_read d) (text-accepted limit b ts q)

    later : read_from limit size (0 + length ss) between (raise d (tokens b)) ≡ accepted (map (raise_statement d) ts)
    later =
        accepted_after limit (length b + d) size 0 (0 + length ss) between (raise d (tokens b)) (map (raise_statement d) ts) raised
        (omega (arith, length-map ts (raise_statement d)))
