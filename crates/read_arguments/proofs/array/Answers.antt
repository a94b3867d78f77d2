-- `read_arguments::array` meets its contract. The invariant: so many entries were read from the array's start, and reading it from there is reading
-- on from here with these. Assumes nothing.
use Prim.Native.Nat.{ℕ, ◌+◌}
use mathlib.Core.Path.{◌≡◌, refl, ◌∙◌, ap, sym, subst}
use mathlib.Core.Bool.{true}
use mathlib.Core.List.{List, ◌++◌}
use native.Mathlib.Numerals.{add-one}
use native.Mathlib.Omega.{arith}
use lib.Dec.{lit≤}
use lib.ListN.{length}
use Rattle.tokens.specs.Token.{Tokens}
use Rattle.tokens.specs.Next.{cursor}
use Rattle.reading.specs.Statement.{Item}
use Rattle.reading.specs.Argument as argument
use Rattle.reading.specs.Syntax.{Call, turn, array_open, item, argument_read}
use Rattle.read_forms.specs.Items.{tokens_from, entries, after_entries, listed, items_in}
use Rattle.read_forms.specs.Forms.{arg_in}
use Rattle.read_forms.specs.Fits.{Listed, Fits}
use Rattle.read_forms.proofs.Entries.{entries-more, listed_more, after_more, entries-length}
use Rattle.read_forms.proofs.Lists.{items_are}
use Rattle.tokens.proofs.Views.{Known, known, known-mark}
use Rattle.std.specs.Prelude.{Result, Ok, Err}
use Rattle.std.proofs.Common.{rules}
use Rattle.read_forms.specs.declared.Refusal.{Refusal}
use Rattle.read_arguments.specs.declared.Entry.{Entry}
use Rattle.read_arguments.specs.Answers.{read_in, arg_then, ArgFurther, entry_then, EntryFurther, EntryListed}
use Rattle.read_arguments.proofs.Reading.{read_token, not-empty}
use Rattle.read_arguments.proofs.array.Invariants.{Gone}
use Rattle.read_arguments.proofs.array.Goals.{After-token-token}
use Rattle.read_arguments.proofs.array.Goals as goal

-- one entry more, behind which the array goes on or ends
module _ (s : List ℕ) (p o n cur : ℕ) (g : Gone s p o n cur) (r : Result Entry Refusal)
    (is : (limit : ℕ) (c : Call) (q : ℕ) (items : List Item)
    → length items ≡ n
    → read_in limit s (item c q items) cur ≡ entry_then limit s c q (items ++ entries 1 (tokens_from s cur)) r)
  where
    all : listed 1 (tokens_from s cur) ≡ true → entries n (tokens_from s o) ++ entries 1 (tokens_from s cur) ≡ entries (n + 1) (tokens_from s o)
    all l =
        ap (λ (ts : Tokens). entries n (tokens_from s o) ++ entries 1 ts) (sym g.behind)
        ∙ sym (entries-more n (tokens_from s o) g.are)
        ∙ ap (λ (k : ℕ). entries k (tokens_from s o)) (sym (add-one n))

    more-listed : listed 1 (tokens_from s cur) ≡ true → listed (n + 1) (tokens_from s o) ≡ true
    more-listed l =
        ap (λ (k : ℕ). listed k (tokens_from s o)) (add-one n)
        ∙ listed_more n (tokens_from s o) g.are (ap (listed 1) g.behind ∙ l)

    on : (limit : ℕ) (c : Call) → read_in limit s (array_open c p) o ≡ entry_then limit s c p (entries n (tokens_from s o) ++ entries 1 (tokens_from s cur)) r
    on limit c = g.same limit c ∙ is limit c p (entries n (tokens_from s o)) (entries-length n (tokens_from s o) g.are)

here : (d : After-token-token) → Known d.args.text.now d.args.cur.at d.token-token.result
here d = known _ _ d.token-token.result d.token-token.ensures

pub token-token-requires : goal.token-token-requires
token-token-requires c = c.requires

pub returns-then-token-eq93 : goal.returns-then-token-eq93
unfolding turn arg_then ArgFurther arg_in Fits items_in entries listed
returns-then-token-eq93 c =
    let r = known-mark (here (goal.at.returns-then-token-eq93 c).After-token-token) 93 c.if-token-eq93.true (lit≤ tt) in record { by_index = (λ limit call. read_token limit _ (array_open call c.args.bracket) _ _ _ r); arg_further = (omega (arith, r.ahead, r.wide), r.within, record { are = refl; few = lit≤ tt }) }

pub loop-c-init : goal.loop-c-init
unfolding entries after_entries listed
loop-c-init c =
    record {
      are = refl;
      behind = refl;
      few = omega arith;
      past = omega arith;
      same = λ limit call. not-empty limit _ call c.args.bracket _ c.token-token.result (here (goal.at.loop-c-init c).After-token-token) c.if-token-eq93.false;
    }

pub read_entry-requires : goal.read_entry-requires
read_entry-requires c = c.requires

pub overflow_add-n : goal.overflow_add-n
unfolding EntryFurther
overflow_add-n c =
    let s = c.args.text.now in
    let p = c.args.bracket in
    let o = c.args.cur.at in
    let f = subst (EntryFurther s c.loop-c.from.at _) (c.in_ok-c.was ∙ ap Ok c.in-More.is) c.read_entry.ensures.entry_further in
    omega (arith, f.0, f.1, c.loop-c.invariant.few)

pub loop-c-smaller : goal.loop-c-smaller
unfolding EntryFurther
loop-c-smaller c =
    let s = c.args.text.now in
    let p = c.args.bracket in
    let o = c.args.cur.at in
    let f = subst (EntryFurther s c.loop-c.from.at _) (c.in_ok-c.was ∙ ap Ok c.in-More.is) c.read_entry.ensures.entry_further in
    omega (arith, f.0, f.1)

pub loop-c-preserved : goal.loop-c-preserved
unfolding EntryFurther EntryListed entry_then
loop-c-preserved c =
    let s = c.args.text.now in
    let p = c.args.bracket in
    let o = c.args.cur.at in
    let f = subst (EntryFurther s c.loop-c.from.at _) (c.in_ok-c.was ∙ ap Ok c.in-More.is) c.read_entry.ensures.entry_further in
    let e = subst (EntryListed s c.loop-c.from.at c.loop-c.n) (c.in_ok-c.was ∙ ap Ok c.in-More.is) c.read_entry.ensures.entry_listed in
    let g = c.loop-c.invariant in
    let n = c.loop-c.n in
    let cur = c.loop-c.from.at in
    record {
      are = more-listed s p o n cur g c.read_entry.result c.read_entry.ensures.by_index e.0;
      behind =
          ap (λ (k : ℕ). after_entries k (tokens_from s o)) (add-one n)
          ∙ after_more n (tokens_from s o) g.are
          ∙ ap (after_entries 1) g.behind
          ∙ f.2;
      few = omega (arith, f.0, g.few);
      past = omega (arith, f.0, g.past);
      same = λ limit call.
          on s p o n cur g c.read_entry.result c.read_entry.ensures.by_index limit call
          ∙ ap (entry_then limit s call p (entries c.loop-c.n (tokens_from s o) ++ entries 1 (tokens_from s c.loop-c.from.at))) (c.in_ok-c.was ∙ ap Ok c.in-More.is)
          ∙ ap (λ (items : List Item). read_in limit s (item call p items) c.in-More.c.at) (all s p o n cur g c.read_entry.result c.read_entry.ensures.by_index e.0);
    }

pub overflow_add-items : goal.overflow_add-items
unfolding EntryFurther
overflow_add-items c =
    let s = c.args.text.now in
    let p = c.args.bracket in
    let o = c.args.cur.at in
    let f = subst (EntryFurther s c.loop-c.from.at _) (c.in_ok-c.was ∙ ap Ok c.in-Done.is) c.read_entry.ensures.entry_further in
    omega (arith, f.0, f.1, c.loop-c.invariant.few)

pub returns-in-Done : goal.returns-in-Done
unfolding EntryFurther EntryListed entry_then arg_then ArgFurther arg_in Fits
returns-in-Done c =
    let s = c.args.text.now in
    let p = c.args.bracket in
    let o = c.args.cur.at in
    let f = subst (EntryFurther s c.loop-c.from.at _) (c.in_ok-c.was ∙ ap Ok c.in-Done.is) c.read_entry.ensures.entry_further in
    let e = subst (EntryListed s c.loop-c.from.at c.loop-c.n) (c.in_ok-c.was ∙ ap Ok c.in-Done.is) c.read_entry.ensures.entry_listed in
    let g = c.loop-c.invariant in
    let n = c.loop-c.n in
    let cur = c.loop-c.from.at in
    let whole : Listed s (record { first = cursor o; count = n + 1 }) =
    record { are = more-listed s p o n cur g c.read_entry.result c.read_entry.ensures.by_index e.0; few = omega (arith, e.1) } in record {
      by_index = (λ limit call.
          on s p o n cur g c.read_entry.result c.read_entry.ensures.by_index limit call
          ∙ ap (entry_then limit s call p (entries c.loop-c.n (tokens_from s o) ++ entries 1 (tokens_from s c.loop-c.from.at))) (c.in_ok-c.was ∙ ap Ok c.in-Done.is)
          ∙ ap (λ (items : List Item). read_in limit s (argument_read call (argument.array p items)) c.in-Done.c.at)
          (all s p o n cur g c.read_entry.result c.read_entry.ensures.by_index e.0 ∙ sym (items_are s _ whole)));
      arg_further = (omega (arith, f.0, g.past), f.1, whole);
    }

pub returns-in_err-c : goal.returns-in_err-c
unfolding entry_then arg_then ArgFurther
returns-in_err-c c =
    let s = c.args.text.now in
    let p = c.args.bracket in
    let o = c.args.cur.at in
    let g = c.loop-c.invariant in
    let told : c.from_residual.result ≡ Err c.in_err-c.field-0.0 = search rules in
    rw told
    (record {
      by_index = λ limit call.
          on s p o c.loop-c.n c.loop-c.from.at g c.read_entry.result c.read_entry.ensures.by_index limit call
          ∙ ap (entry_then limit s call p (entries c.loop-c.n (tokens_from s o) ++ entries 1 (tokens_from s c.loop-c.from.at))) c.in_err-c.was;
      arg_further = tt;
    })
