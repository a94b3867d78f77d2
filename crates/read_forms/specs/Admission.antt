-- What is looked at before a text is read: the ceiling for counts, and then the text's length.
use Rattle.std.specs.Prelude.{ℕ, ◌≡◌, List, Result, Ok, Err}
use Rattle.reading.specs.Read.{read_text}
use Rattle.reading_laws.specs.Admitted.{Admitted}
use Rattle.read_forms.specs.declared.Refusal.{Refusal}
use Rattle.read_forms.specs.Faults.{refused_by}

abbrev pub AdmissionAs : ℕ → List ℕ → Result Unit Refusal → Type 0
AdmissionAs limit s (Ok _) = Admitted limit s
AdmissionAs limit s (Err r) = read_text limit s ≡ refused_by r
