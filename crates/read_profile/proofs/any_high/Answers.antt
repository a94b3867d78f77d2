-- `read_profile::any_high` meets its contract. The invariant: whether what is left of the list has a count above 10 tells whether the whole list
-- has; each turn passes one entry. Assumes nothing.
use mathlib.Core.Path.{◌≡◌, refl, ◌∙◌, ap, sym}
use Prim.Native.Nat.{◌+◌, ◌-◌}
use native.Mathlib.Nat.{sub-zero}
use native.Mathlib.Omega.{arith}
use borrow.Author.Tests.{lt-ltb, le-ltb}
use Rattle.profiling.specs.Profile.{is_high}
use Rattle.read_forms.proofs.Entries.{first-listed}
use Rattle.read_profile.proofs.HighCounts.{listed_high, left-none, left-high, left-next}
use Rattle.read_profile.proofs.any_high.Goals as goal

pub loop-done-init : goal.loop-done-init
loop-done-init c = record { entered = rw sub-zero c.requires.1.are; same = rw sub-zero }

pub entry_at-entry-requires : goal.entry_at-entry-requires
entry_at-entry-requires c = (c.requires.0, first-listed 1 _ _ c.loop-done.invariant.entered (omega arith))

pub count_or_0-requires : goal.count_or_0-requires
count_or_0-requires c = c.entry_at-entry.ensures.inside

pub returns-then-count_or_0-gt-HIGHEST : goal.returns-then-count_or_0-gt-HIGHEST
returns-then-count_or_0-gt-HIGHEST c =
    left-high c.loop-done.invariant (omega arith) c.entry_at-entry.ensures (sym (ap is_high c.count_or_0.ensures) ∙ lt-ltb 10 _ c.if-count_or_0-gt-HIGHEST.true)
    ∙ listed_high _ _ c.requires.1

pub loop-done-preserved : goal.loop-done-preserved
loop-done-preserved c =
    let less : c.args.items.count - (c.loop-done._done + 1) ≡ c.args.items.count - c.loop-done._done - 1 = omega arith in
    rw (less, c.after_entry-cur.ensures)
    (left-next c.loop-done.invariant (omega arith) c.entry_at-entry.ensures
    (sym (ap is_high c.count_or_0.ensures) ∙ le-ltb 10 _ c.if-count_or_0-gt-HIGHEST.false))

pub returns : goal.returns
returns c = left-none c.loop-done.invariant (omega arith) ∙ listed_high _ _ c.requires.1
