-- `print_render::print_under` meets its contract: what is kept is printed, a refusal is the text's, and all else is read twice. Assumes nothing.
use Rattle.std.specs.Prelude.{Ok, Err}
use Rattle.std.proofs.Common.{rules}
use mathlib.Core.Path.{◌≡◌, ◌∙◌, ap, subst}
use Rattle.read_forms.specs.Faults.{answered, same}
use Rattle.reading_laws.specs.Admitted.{Admitted}
use Rattle.read_forms.specs.Admission.{AdmissionAs}
use Rattle.print_render.specs.Text.{KeptAs}
use Rattle.print_render.proofs.Answering.{refused_answers}
use Rattle.print_render.proofs.Keeping.{answers_next, refused-next}
use Rattle.print_render.proofs.print_under.Goals.{In_ok-admit}
use Rattle.print_render.proofs.print_under.Goals as goal

pub returns-in_err-admit : goal.returns-in_err-admit
returns-in_err-admit c =
    let a = c.args in
    let told : c.from_residual.result ≡ Err c.in_err-admit.field-0.0 = search rules in
    rw told
    (refused_answers a.limit a.text.now a.out.now c.in_err-admit.field-0.0
    (subst (AdmissionAs a.limit a.text.now) c.in_err-admit.was c.admit.ensures))

-- the text and its ceiling are admitted
fine :
    (c : In_ok-admit)
    → let a = c.args in
    Admitted a.limit a.text.now
fine c = subst (AdmissionAs _ _) c.in_ok-admit.was c.admit.ensures

pub print_twice-requires : goal.print_twice-requires
print_twice-requires c = c.requires

pub print_kept-requires : goal.print_kept-requires
print_kept-requires c =
    let p = c.requires in
    (p.0, p.1, p.2, fine (goal.at.print_kept-requires c).In_ok-admit, c.if-out-text.false)

pub earliest-requires : goal.earliest-requires
earliest-requires c = c.requires.0

pub returns-in-Ok-Some : goal.returns-in-Ok-Some
unfolding KeptAs
returns-in-Ok-Some c = subst (KeptAs _ _ _ _) (c.in-Ok-Some.is ∙ ap Ok c.in-Ok-Some.field-0-is) c.print_kept.ensures

pub returns-in-Ok-None : goal.returns-in-Ok-None
returns-in-Ok-None c =
    let a = c.args in
    answers_next a.limit a.text.now a.out.now c.print_kept.new.out c.print_twice-in-Ok-None.new.out
    (subst (KeptAs a.limit a.text.now a.out.now c.print_kept.new.out) (c.in-Ok-None.is ∙ ap Ok c.in-Ok-None.field-0-is) c.print_kept.ensures)
    (answered same c.print_twice-in-Ok-None.result) c.print_twice-in-Ok-None.ensures

pub returns-in-Err : goal.returns-in-Err
returns-in-Err c =
    let a = c.args in
    refused-next a.limit a.text.now a.out.now c.print_kept.new.out c.in-Err.r c.earliest.result
    (subst (KeptAs a.limit a.text.now a.out.now c.print_kept.new.out) c.in-Err.is c.print_kept.ensures)
    (fine (goal.at.returns-in-Err c).In_ok-admit) c.earliest.ensures
