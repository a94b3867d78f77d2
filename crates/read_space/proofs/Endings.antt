-- What a text is read as, by how its space ends.
-- Assumes nothing.
use Prim.Native.Nat.{ℕ}
use mathlib.Core.Path.{◌≡◌, ◌∙◌, ap, sym}
use mathlib.Core.List.{List}
use Rattle.reading.specs.Answer.{accepted}
use Rattle.reading.specs.Read.{read_text}
use Rattle.read_forms.specs.declared.Refusal.{Refusal}
use Rattle.std.specs.Prelude.{Result, Ok, Err}
use Rattle.read_forms.specs.Faults.{refused_by}
use Rattle.read_space.specs.declared.Space.{Space}
use Rattle.read_space.specs.Space.{ending_as, space_as, statements_in}

module _ (limit : ℕ) (s : List ℕ) (r : Space) (h : space_as s r ≡ read_text limit s) where
  pub read-accepted : r.ending ≡ Ok tt → read_text limit s ≡ accepted (statements_in s r)
  unfolding space_as
  read-accepted e = sym h ∙ ap (λ (y : Result Unit Refusal). ending_as y (statements_in s r)) e

  pub read-refused : (x : Refusal) → r.ending ≡ Err x → read_text limit s ≡ refused_by x
  unfolding space_as
  read-refused x e = sym h ∙ ap (λ (y : Result Unit Refusal). ending_as y (statements_in s r)) e
