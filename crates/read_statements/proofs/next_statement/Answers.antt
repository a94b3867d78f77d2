-- `read_statements::next_statement` meets its contract: the first token that is no separator starts a statement, is the text's end, or is refused.
-- Assumes nothing.
use Prim.Native.Nat.{suc}
use mathlib.Core.Path.{◌≡◌, ◌∙◌, ap, sym}
use native.Mathlib.Omega.{arith}
use lib.ListN.{length}
use Rattle.tokens.specs.Token.{word}
use Rattle.reading.specs.Statement.{Name}
use Rattle.reading.specs.Syntax.{opened}
use Rattle.reading.specs.Read.{between, read_from}
use Rattle.read_forms.specs.Items.{tokens_from, name_in}
use Rattle.tokens.proofs.Steps.{token}
use Rattle.tokens.proofs.Views.{part, Reads, Known, known, known-word, known-end}
use Rattle.read_arguments.specs.Answers.{step_in}
use Rattle.read_arguments.proofs.Names.{same_name, in_text}
use Rattle.read_statements.specs.Answers.{reading_at, one_before, next_then, NextFurther}
use Rattle.read_statements.proofs.Whole.{refused_as, first_word, between_crowded, at_finish, from_further}
use Rattle.read_statements.proofs.next_statement.Goals.{After-first_token-token, After-named-name, Else-token-ne-WORD, then-n-ge256-via-then-n-ge256, then-n-ge256-via-else-n-ge256+then-token-ne-WORD}
use Rattle.read_statements.proofs.next_statement.Goals as goal

-- what the token's kind tells
here : (d : After-first_token-token) → Known d.args.text.now d.first_token-token.ensures.place d.first_token-token.result
here d = known _ _ d.first_token-token.result d.first_token-token.ensures.stands

-- a word stands there
word_at :
    (m : Else-token-ne-WORD)
    → Reads m.args.text.now
    m.first_token-token.ensures.place
    (token m.first_token-token.result.start
    (word (part m.args.text.now
    m.first_token-token.result.start m.first_token-token.result.next.at)))
    m.first_token-token.result.next.at
word_at m = known-word (here (goal.at.Else-token-ne-WORD m).After-first_token-token) m.if-token-ne-WORD.false

word-here :
    (m : After-named-name)
    → Reads m.args.text.now
    m.first_token-token.ensures.place
    (token m.first_token-token.result.start
    (word (part m.args.text.now
    m.first_token-token.result.start m.first_token-token.result.next.at)))
    m.first_token-token.result.next.at
word-here m = word_at (goal.at.After-named-name m).Else-token-ne-WORD

-- reading from the word on is reading the statement that it opens, and then on
opened-here :
    (m : After-named-name)
    → reading_at m.args.limit
    m.args.text.now
    m.args.n
    between
    m.first_token-token.ensures.place
    ≡ one_before m.args.limit
    (length m.args.text.now)
    m.args.n
    (step_in m.args.limit
    m.args.text.now
    (opened m.named-name.result.offset (word (name_in m.args.text.now m.named-name.result).spelling))
    m.first_token-token.result.next.at)
opened-here m =
    let a = m.args in
    let s = a.text.now in
    let t = m.first_token-token.result in
    ap (read_from a.limit (length s) a.n between) (word-here m).tokens
    ∙ first_word a.limit (length s) a.n t.start (part s t.start t.next.at) (tokens_from s t.next.at) m.if-n-ge256.false
    ∙ ap (λ (k : Name). one_before a.limit (length s) a.n (step_in a.limit s (opened k.place (word k.spelling)) t.next.at))
    (same_name s t m.named-name.ensures)

pub returns-then-token-eq-END : goal.returns-then-token-eq-END
unfolding next_then NextFurther
returns-then-token-eq-END c =
    let a = c.args in
    let f = c.first_token-token.ensures in record { at_value = f.same a.limit a.n ∙ at_finish a.limit _ a.n _ c.first_token-token.result (known-end (here (goal.at.returns-then-token-eq-END c).After-first_token-token) c.if-token-eq-END.true); next_further = tt }

pub returns-then-n-ge256 : goal.returns-then-n-ge256
unfolding next_then NextFurther
returns-then-n-ge256 c =
    let a = c.args in
    let f = c.first_token-token.ensures in record {
      at_value = f.same a.limit a.n
          ∙ between_crowded a.limit _ a.n _ c.first_token-token.result (here (goal.at.returns-then-n-ge256 c).After-first_token-token) f.other c.if-token-eq-END.false
          (λ e.
          elim c.then-n-ge256.branch [
            | then-n-ge256-via-then-n-ge256 w ↦ w.if-n-ge256.true
            | then-n-ge256-via-else-n-ge256+then-token-ne-WORD w ↦ absurd (w.if-token-ne-WORD.true e)
          ])
          ∙ ap refused_as (sym c.crowded.ensures);
      next_further = tt;
    }

pub named-name-requires : goal.named-name-requires
named-name-requires c =
    let r = word_at (goal.at.named-name-requires c).Else-token-ne-WORD in
    omega (arith, r.wide)

pub statement-requires : goal.statement-requires
statement-requires c =
    let p = c.requires in
    (p.0, p.1, p.2, in_text _ c.first_token-token.result c.named-name.ensures (word_at (goal.at.statement-requires c).Else-token-ne-WORD), c.if-n-ge256.false)

pub returns : goal.returns
returns c =
    let a = c.args in
    let f = c.first_token-token.ensures in
    let r = word-here (goal.at.returns c).After-named-name in record { at_value = f.same a.limit a.n ∙ opened-here (goal.at.returns c).After-named-name ∙ c.statement.ensures.at_value; next_further = from_further a.text.now a.n a.cur.at (suc c.first_token-token.result.next.at) c.statement.result c.statement.ensures.next_from (omega (arith, f.ahead, r.ahead, r.wide)) c.if-n-ge256.false }
