-- What is known at each stage of resolving, once the statements have brought what they bring.
use Rattle.std.specs.Prelude.{ℕ, ◌≤◌, List, map, ◌≡◌, length, take}
use Rattle.reading.specs.Answer.{Answer, accepted}
use Rattle.text.specs.Lists.{gather}
use Rattle.resolving.specs.Context.{Context}
use Rattle.resolving.specs.Brought.{Brought}
use Rattle.resolving.specs.Ground.{staying}
use Rattle.resolving.specs.Resolve.{Resolved, outcome, ground_text, up_to}
use Rattle.resolving_laws.specs.Flat.{terms_from}
use Rattle.resolve_merging.specs.Packing.{term_of}
use Rattle.resolve_statements.specs.declared.Tally.{Tally}
use Rattle.resolve_statements.specs.Tallies.{notes_from}

-- 18, "over 256 ground statements; ground text over 16,384 bytes"
unfoldable pub grounded : Context → List Brought → Answer Resolved
grounded c bs =
    up_to 256 (length (outcome c bs).statements) (up_to 16384 (length (ground_text (outcome c bs))) (accepted (outcome c bs)))

-- how many statements stay, and which are dropped
pub record Tallied (bs : List Brought) (t : Tally) (dropped : List ℕ) : Type 0 where
  pub stays : t.stays ≡ length (gather staying bs)
  pub noted : take t.dropped dropped ≡ notes_from 0 bs
  pub held : t.dropped ≤ length dropped
  pub marked : t.dropped ≤ 256
  pub few : t.stays ≤ 256
  pub small : t.ground ≤ 5120256

-- the terms of what the statements bring stand from 0 on
pub record BroughtThere (a : Answer (List Brought)) (t : Tally) (dropped work : List ℕ) : Type 0 where
  pub what : List Brought
  pub brought : a ≡ accepted what
  pub tallied : Tallied what t dropped
  pub many : t.terms ≡ length (terms_from 0 what)
  pub terms : t.terms ≤ 2048 → map term_of (take t.terms work) ≡ terms_from 0 what
