-- What the answers of the functions that read statements mean, as answers of the definition of reading.
use Rattle.std.specs.Prelude.{Option, Some, None, Result, Ok, Err, ℕ, suc, ◌<◌, ◌≤◌, cond, List, [], ◌≡◌, eqb, leb, length}
use Rattle.tokens.specs.declared.Token as lexer
use Rattle.tokens.specs.Next.{token_at}
use Rattle.reading.specs.Statement.{Statement}
use Rattle.reading.specs.Answer.{Answer, accepted, refused}
use Rattle.reading.specs.Read.{Where, between, prepend, read_from, read_text}
use Rattle.reading_laws.specs.Admitted.{Admitted}
use Rattle.reading.specs.One.{One, whole, halted}
use Rattle.read_forms.specs.declared.Refusal.{Refusal}
use Rattle.read_forms.specs.declared.Fault.TheVariants.{BadByte, Unexpected, TooMany}
use Rattle.read_forms.specs.Faults.{refused_by}
use Rattle.read_forms.specs.Items.{tokens_from}
use Rattle.read_forms.specs.Forms.{statement_in}
use Rattle.tokens.specs.declared.Cursor.{Cursor}
use Rattle.read_statements.specs.declared.Next.{Next}

-- the statements of a text from an offset on, after so many
abbrev pub reading_at : ℕ → List ℕ → ℕ → Where → ℕ → Answer (List Statement)
reading_at limit s n w o = read_from limit (length s) n w (tokens_from s o)

-- what comes after a statement that was read to its `)`, where so many were read before it; or its refusal
abbrev pub one_before : ℕ → ℕ → ℕ → One → Answer (List Statement)
one_before limit size n (whole s ts) = prepend s (read_from limit size (suc n) Where.ended ts)
one_before limit size n (halted k p) = refused k p

-- the first token that is no separator
pub record FirstToken (s : List ℕ) (o : ℕ) (t : lexer.Token) : Type 0 where
  pub place : ℕ
  pub stands : t ≡ token_at s place
  pub same : (limit n : ℕ) → reading_at limit s n between o ≡ reading_at limit s n between place
  pub other : t.kind ≡ 59 → ⊥
  pub ahead : o ≤ place

-- a token that is not allowed between statements, after so many of them
abbrev pub crowded_by : lexer.Token → ℕ → Refusal
crowded_by t n = record { fault = cond (eqb t.kind 2) BadByte (cond (leb 256 n) TooMany Unexpected); place = t.start }

-- what stands behind a statement, and where: from there on the next statement is sought
unfoldable pub EndedThen : ℕ → List ℕ → ℕ → ℕ → Result Cursor Refusal → Type 0
EndedThen limit s n o (Ok c) = reading_at limit s n Where.ended o ≡ reading_at limit s n between c.at
EndedThen limit s n o (Err r) = reading_at limit s n Where.ended o ≡ refused_by r

unfoldable pub EndedFurther : List ℕ → ℕ → Result Cursor Refusal → Type 0
EndedFurther s o (Ok c) = (o ≤ length s → o ≤ c.at) × (c.at ≤ length s)
EndedFurther s o (Err r) = Unit {0}

-- the next statement with what follows it, or the text's end
unfoldable pub next_then : ℕ → List ℕ → ℕ → Result (Option Next) Refusal → Answer (List Statement)
next_then limit s n (Ok (Some f)) = prepend (statement_in s f.statement) (reading_at limit s (suc n) between f.cursor.at)
next_then limit s n (Ok None) = accepted []
next_then limit s n (Err r) = refused_by r

-- it ends in the text, at an offset or behind it
unfoldable pub NextFrom : List ℕ → ℕ → Result (Option Next) Refusal → Type 0
NextFrom s o (Ok (Some f)) = (o ≤ f.cursor.at) × (f.cursor.at ≤ length s)
NextFrom s o (Ok None) = Unit {0}
NextFrom s o (Err r) = Unit {0}

unfoldable pub NextFurther : List ℕ → ℕ → ℕ → Result (Option Next) Refusal → Type 0
NextFurther s n o (Ok (Some f)) = (o < f.cursor.at) × (f.cursor.at ≤ length s) × (n < 256)
NextFurther s n o (Ok None) = Unit {0}
NextFurther s n o (Err r) = Unit {0}

-- what the refusal of a text's statements is for the whole text, where that is admitted
abbrev pub FirstFault : List ℕ → Refusal → Refusal → Type 0
FirstFault s x r =
    (limit : ℕ)
    → Admitted limit s
    → reading_at limit s 0 between 0 ≡ refused_by x
    → read_text limit s ≡ refused_by r
