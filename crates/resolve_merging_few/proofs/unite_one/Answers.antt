-- `resolve_merging_few::unite_one` meets its contract: the effect is a repeat, or its group is there, or is put behind the others.
-- Assumes nothing.
use native.Mathlib.Omega.{arith}
use mathlib.Core.Bool.{true, false}
use mathlib.Core.Path.{◌≡◌, refl, ◌∙◌}
use lib.ListN.{get_or}
use Rattle.read_packs.proofs.Packed.{alone}
use Rattle.resolve_merging.specs.Packing.{bare, group_number}
use Rattle.resolve_merging_few.specs.Listing.{group_in, put-before, put-there}
use Rattle.resolve_merging_few.proofs.Formed.{form-there, form_new}
use Rattle.resolve_merging_few.proofs.Listing.{behind-put}
use Rattle.resolve_merging_few.proofs.unite_one.Goals.{In-Some}
use Rattle.resolve_merging_few.proofs.unite_one.Goals as goal

-- the group that is found is the effect's
own-found : (c : In-Some)
    → let a = c.args in
    group_in a.listed.now c.in-Some.j ≡ group_number (bare (get_or a.work.now a.i 0))
own-found c =
    let f = c.in-Some.ensures in
    f.1.there f.0 ∙ c.group_of-g.ensures

pub returns-then-longer-forms : goal.returns-then-longer-forms
returns-then-longer-forms c =
    record {
      again = true;
      put =
          put-before c.in-Some.j c.in-Some.ensures.0 (own-found (goal.at.returns-then-longer-forms c).In-Some) (form-there c.with_form-longer.ensures c.if-longer-forms.true) refl;
      next = refl;
      numbers = refl;
    }

pub returns-in-Some : goal.returns-in-Some
returns-in-Some c =
    record {
      again = false;
      put =
          put-there c.in-Some.j c.with_form-longer.result c.in-Some.ensures.0 (own-found (goal.at.returns-in-Some c).In-Some)
          (form_new (c.requires.5 c.in-Some.j c.in-Some.ensures.0).snug c.with_form-longer.ensures c.if-longer-forms.false)
          c.with_form-longer.ensures
          refl;
      next = refl;
      numbers = refl;
    }

pub returns : goal.returns
returns c =
    record {
      again = false;
      put = behind-put c.group_of-g.ensures c.in_default.ensures (omega arith) (alone 0 _ refl (omega arith));
      next = refl;
      numbers = refl;
    }
