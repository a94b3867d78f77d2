-- `print_answers::profile_line` meets its contract. Assumes nothing.
use mathlib.Core.Path.{◌≡◌, ◌∙◌, ap, sym}
use mathlib.Core.List.{List}
use Prim.Native.Nat.{ℕ}
use Rattle.reading.specs.Answer.{Answer}
use Rattle.profiling.specs.Profile.{Yes, profile_text}
use Rattle.std.specs.Prelude.{Result}
use Rattle.read_forms.specs.declared.Refusal.{Refusal}
use Rattle.read_profile.specs.Answers.{profiled_as}
use Rattle.lines.specs.Line.{line_of, okay, profile_line}
use Rattle.print_answers.proofs.profile_line.Goals as goal

-- the profile's answer, told in another way
told : {x y : Result Unit Refusal} {a : Answer Yes} → profiled_as x ≡ a → x ≡ y → profiled_as y ≡ a
told e q = sym (ap profiled_as q) ∙ e

line : {a : Answer Yes} (limit : ℕ) (text : List ℕ) → a ≡ profile_text limit text → line_of (okay a) ≡ profile_line limit text
unfolding profile_line
line limit text e = ap (λ (x : Answer Yes). line_of (okay x)) e

pub returns-in-Ok : goal.returns-in-Ok
unfolding profiled_as line_of
returns-in-Ok c =
    let e = told c.profile_under.ensures c.in-Ok.is in record { written = rw (sym (line _ _ e)) c.put_all.ensures; answer_value = e }

pub returns-in-Err : goal.returns-in-Err
unfolding profiled_as line_of
returns-in-Err c =
    let e = told c.profile_under.ensures c.in-Err.is in record { written = rw (sym (line _ _ e)) c.put_refused.ensures; answer_value = e }
