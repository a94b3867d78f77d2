-- What the profile check refuses: by a fault of reading, or by one of its own at the index of one of the text's statements.
use Rattle.std.specs.Prelude.{ℕ, ◌≤◌, ◌<◌, List, ◌≡◌, length}
use Rattle.reading.specs.Statement.{Statement}
use Rattle.reading.specs.Answer.{accepted, refused}
use Rattle.reading.specs.Read.{read_text}

pub data RefusedBy (ceiling : ℕ) (text : List ℕ) (n p : ℕ) : Type 0 where
  by_reading : read_text ceiling text ≡ refused n p → RefusedBy ceiling text n p
  by_profile : (ss : List Statement) → read_text ceiling text ≡ accepted ss → 22 ≤ n → n ≤ 24 → p < length ss → RefusedBy ceiling text n p
