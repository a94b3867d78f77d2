-- What a fault of the text, of its context, of its LETs or of a statement makes of Resolve's answer, in the order in which they are looked for.
-- Assumes nothing.
use Prim.Native.Nat.{ℕ}
use mathlib.Core.Path.{◌≡◌, refl, ◌∙◌, ap}
use mathlib.Core.Bool.{Bool, true, false, cond, ◌&&◌}
use mathlib.Core.List.{List}
use mathlib.Core.Option.{Option, some}
use Rattle.reading.specs.Statement.{Statement}
use Rattle.reading.specs.Answer.{Answer, accepted, refused, ◌>>=◌}
use Rattle.reading.specs.Read.{read_text}
use Rattle.text.specs.Lists.{again}
use Rattle.resolving.specs.Faults.{second_let, wrong_context}
use Rattle.resolving.specs.Symbols.{Meaning, lets, same_key, look_up}
use Rattle.resolving.specs.Brought.{Brought, bring, each_from}
use Rattle.resolving.specs.Resolve.{Resolved, at_most_once, merge_and_ground, resolve}
use Rattle.resolving.specs.Given.{is_context, context_in, resolve_text}
use Rattle.resolving.specs.Handed.{is_run, given_in, is_handed, handed_context, resolve_handed}
use Rattle.resolve_operands.specs.Entries.{meaning_in}
use Rattle.resolve_taking.specs.Collected.{CollectedAll}
use Rattle.resolve_taking.proofs.Meaning.{collected_meaning}

by_run : (t x : Bool) (a : Answer (List Statement)) (f : List Statement → Answer Resolved)
    → cond t (a >>= (λ ss. cond x (f ss) (refused wrong_context 0))) (a >>= (λ ss. refused wrong_context 0))
    ≡ (a >>= (λ ss. cond (t && x) (f ss) (refused wrong_context 0)))
by_run true x a f = refl
by_run false x a f = refl

module _ (limit : ℕ) (b l s : List ℕ) where
  abbrev handed : List Statement → Answer Resolved
  handed ss = cond (is_handed b l) (resolve (handed_context b l) ss) (refused wrong_context 0)

  read-handed : resolve_handed limit b l s ≡ (read_text limit s >>= handed)
  unfolding resolve_handed resolve_text is_handed handed_context
  read-handed = by_run (is_run l) (is_context (given_in b l)) (read_text limit s) (resolve (context_in (given_in b l)))

  -- the text
  pub text-refused : {k p : ℕ} → read_text limit s ≡ refused k p → resolve_handed limit b l s ≡ refused k p
  text-refused e = read-handed ∙ ap (λ (a : Answer (List Statement)). a >>= handed) e

  module _ {ss : List Statement} (e : read_text limit s ≡ accepted ss) where
    -- its context
    pub context-refused : is_handed b l ≡ false → resolve_handed limit b l s ≡ refused 12 0
    context-refused h =
        read-handed
        ∙ ap (λ (a : Answer (List Statement)). a >>= handed) e
        ∙ ap (λ (t : Bool). cond t (resolve (handed_context b l) ss) (refused wrong_context 0)) h

    on-handed : is_handed b l ≡ true → resolve_handed limit b l s ≡ resolve (handed_context b l) ss
    on-handed h =
        read-handed
        ∙ ap (λ (a : Answer (List Statement)). a >>= handed) e
        ∙ ap (λ (t : Bool). cond t (resolve (handed_context b l) ss) (refused wrong_context 0)) h

    abbrev settledBy : Meaning → Answer Resolved
    settledBy look = each_from (bring (handed_context b l) look) 0 ss >>= merge_and_ground (handed_context b l)

    -- its LETs
    pub let-refused : {i : ℕ} → is_handed b l ≡ true → again same_key (lets ss) ≡ some i → resolve_handed limit b l s ≡ refused 13 i
    unfolding resolve
    let-refused h q = on-handed h ∙ ap (λ (o : Option ℕ). at_most_once second_let o (settledBy (look_up (handed_context b l) (lets ss)))) q

    -- its statements: what they bring is merged and grounded, or one of them is refused
    pub brought-answer : {run : List ℕ} {n : ℕ} {x : Answer (List Brought)}
        → is_handed b l ≡ true
        → CollectedAll s ss run n
        → each_from (bring (handed_context b l) (meaning_in s run n (handed_context b l))) 0 ss ≡ x
        → resolve_handed limit b l s ≡ (x >>= merge_and_ground (handed_context b l))
    unfolding resolve
    brought-answer h a q =
        on-handed h
        ∙ ap (λ (o : Option ℕ). at_most_once second_let o (settledBy (look_up (handed_context b l) (lets ss)))) a.once
        ∙ ap settledBy (collected_meaning (handed_context b l) a)
        ∙ ap (λ (x : Answer (List Brought)). x >>= merge_and_ground (handed_context b l)) q

    pub statement-refused : {run : List ℕ} {n k i : ℕ}
        → is_handed b l ≡ true
        → CollectedAll s ss run n
        → each_from (bring (handed_context b l) (meaning_in s run n (handed_context b l))) 0 ss ≡ refused k i
        → resolve_handed limit b l s ≡ refused k i
    statement-refused h a q = brought-answer h a q
