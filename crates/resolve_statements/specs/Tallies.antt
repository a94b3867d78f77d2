-- What statements bring, as it stands in buffers: terms, and the indexes of those that are dropped; and how much that is.
use Rattle.read_forms.specs.declared.Fault.{Fault}
use Rattle.read_forms.specs.Faults.{number_of}
use Rattle.std.specs.Prelude.{ℕ, suc, ◌+◌, ◌≤◌, List, [], ◌∷◌, ◌++◌, map, ◌≡◌, length}
use Rattle.reading.specs.Answer.{Answer, accepted, refused}
use Rattle.print_writing.specs.Written.{Written}
use Rattle.canonical.specs.Lines.{rest_of}
use Rattle.text.specs.Lists.{gather}
use Rattle.resolving.specs.Brought.{Brought, defining, dropped, stays, brings}
use Rattle.resolving.specs.Ground.{staying}
use Rattle.resolving_laws.specs.Flat.{terms_from}
use Rattle.resolve_merging.specs.Packing.{term_of}
use Rattle.resolve_statements.specs.declared.Tally.{Tally}
use Rattle.std.specs.Prelude as prelude

-- The index of one that is dropped.
abbrev pub note_of : ℕ → Brought → List ℕ
note_of i defining = []
note_of i dropped = i ∷ []
note_of i (stays f) = []
note_of i (brings x es) = []

abbrev pub notes_from : ℕ → List Brought → List ℕ
notes_from i [] = []
notes_from i (b ∷ bs) = note_of i b ++ notes_from (suc i) bs

-- one more is dropped, and nothing else is changed
pub record Noted (t : Tally) (i : ℕ) (before after : List ℕ) (u : Tally) : Type 0 where
  pub terms : u.terms ≡ t.terms
  pub stays : u.stays ≡ t.stays
  pub ground : u.ground ≡ t.ground
  pub dropped : Written before t.dropped (i ∷ []) after u.dropped

-- What one statement adds.
pub record Adds (b : Brought) (i : ℕ) (t : Tally) (ts ds : List ℕ) (u : Tally) (ts' ds' : List ℕ) : Type 0 where
  pub numbers : List ℕ
  pub mean : map term_of numbers ≡ terms_from i (b ∷ [])
  pub terms : Written ts t.terms numbers ts' u.terms
  pub dropped : Written ds t.dropped (note_of i b) ds' u.dropped
  pub stays : u.stays ≡ t.stays + length (staying b)
  pub ground : u.ground ≡ t.ground + length (rest_of t.stays (staying b))
  pub few : length numbers ≤ 32768
  pub small : length (rest_of t.stays (staying b)) ≤ 20001

pub record Brings (a : Answer Brought) (i : ℕ) (t : Tally) (ts ds : List ℕ) (u : Tally) (ts' ds' : List ℕ) : Type 0 where
  pub what : Brought
  pub brought : a ≡ accepted what
  pub adds : Adds what i t ts ds u ts' ds'

unfoldable pub BringAs : Answer Brought → ℕ → Tally → List ℕ → List ℕ → List ℕ → List ℕ → prelude.Result Tally Fault → Type 0
BringAs a i t ts ds ts' ds' (prelude.Ok u) = Brings a i t ts ds u ts' ds'
BringAs a i t ts ds ts' ds' (prelude.Err k) = a ≡ refused (number_of k) 0

-- what it adds to the ground text of those that stay
unfoldable pub PrintsAs : Answer Brought → Tally → List ℕ → List ℕ → prelude.Result Tally Fault → Type 0
PrintsAs a t out out' (prelude.Ok u) = (b : Brought) → a ≡ accepted b → Written out t.ground (rest_of t.stays (staying b)) out' u.ground
PrintsAs a t out out' (prelude.Err k) = Unit {0}

-- nothing of it stays
unfoldable pub NoneStays : Tally → prelude.Result Tally Fault → Type 0
NoneStays t (prelude.Ok u) = (u.stays ≡ t.stays) × (u.ground ≡ t.ground)
NoneStays t (prelude.Err k) = Unit {0}

-- What all of them add.
pub record Added (bs : List Brought) (ts ds : List ℕ) (u : Tally) (ts' ds' : List ℕ) : Type 0 where
  pub numbers : List ℕ
  pub mean : map term_of numbers ≡ terms_from 0 bs
  pub terms : Written ts 0 numbers ts' u.terms
  pub dropped : Written ds 0 (notes_from 0 bs) ds' u.dropped
  pub stays : u.stays ≡ length (gather staying bs)
  pub ground : u.ground ≡ length (rest_of 0 (gather staying bs))

pub record AllBrings (a : Answer (List Brought)) (ts ds : List ℕ) (u : Tally) (ts' ds' : List ℕ) : Type 0 where
  pub what : List Brought
  pub brought : a ≡ accepted what
  pub added : Added what ts ds u ts' ds'
  pub small : u.ground ≤ 5120256
