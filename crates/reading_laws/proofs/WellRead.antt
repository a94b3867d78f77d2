-- Every statement that a text is read as is well formed.
-- Assumes nothing.
use Prim.Native.Nat.{ℕ}
use mathlib.Core.Path.{◌≡◌, refl}
use mathlib.Core.Bool.{true}
use mathlib.Core.List.{List}
use Rattle.tokens.specs.Token.{Tokens}
use Rattle.tokens.specs.Spelling.{is_shape}
use Rattle.token_laws.specs.Shaped.{all_shapes}
use Rattle.text.specs.Lists.{all}
use Rattle.token_laws.proofs.Shapes.{tokens_shapes}
use Rattle.text.proofs.Tests.{and_left, and_right, both}
use Rattle.reading.specs.Statement.{Statement}
use Rattle.reading.specs.Answer.{accepted}
use Rattle.reading.specs.Read.{Where, read_text}
use Rattle.reading_laws.specs.Reads.{Reads, over, over_ended, passed, passed_ended, begun, carried, completed}
use Rattle.reading_laws.specs.WellFormed.{well_formed, well_where}
use Rattle.reading_laws.proofs.Joining.{text_reads}
use Rattle.reading_laws.proofs.Turning.{leads_more, leads_made}
use Rattle.reading_laws.proofs.WellSteps.{opened_well, turn_well}

-- tokens that are read to their end, from where what was read is well formed, are read as well formed statements
reads_well_formed :
    {limit n : ℕ} {w : Where} {ts : Tokens} {ss : List Statement}
    → Reads limit n w ts ss
    → all_shapes ts ≡ true
    → well_where limit w ≡ true
    → all (well_formed limit) ss ≡ true
reads_well_formed over e h = refl
reads_well_formed over_ended e h = refl
reads_well_formed (passed {t} {ts} p r) e h = reads_well_formed r (and_right (is_shape t.shape) (all_shapes ts) e) refl
reads_well_formed (passed_ended {t} {ts} p r) e h = reads_well_formed r (and_right (is_shape t.shape) (all_shapes ts) e) refl
reads_well_formed {limit} (begun {t} {ts} p few o r) e h =
    reads_well_formed r (and_right (is_shape t.shape) (all_shapes ts) e) (leads_more (opened_well limit t.place t.shape) o)
reads_well_formed {limit} (carried {t} {s} {ts} o r) e h =
    reads_well_formed r (and_right (is_shape t.shape) (all_shapes ts) e)
    (leads_more (turn_well limit s t.place t.shape (and_left (is_shape t.shape) (all_shapes ts) e) h) o)
reads_well_formed {limit} (completed {t} {s} {ts} o r) e h =
    both (leads_made (turn_well limit s t.place t.shape (and_left (is_shape t.shape) (all_shapes ts) e) h) o)
    (reads_well_formed r (and_right (is_shape t.shape) (all_shapes ts) e) refl)

-- What a text is read as is well formed.
pub text-well_formed :
    (limit : ℕ) (text : List ℕ) (ss : List Statement) → read_text limit text ≡ accepted ss → all (well_formed limit) ss ≡ true
text-well_formed limit text ss r =
    reads_well_formed (text_reads limit text ss r) (tokens_shapes 0 text) refl
