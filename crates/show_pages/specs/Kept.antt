-- What a page keeps of what is put on it.
use Rattle.std.specs.Prelude.{ℕ, List, ◌++◌, ◌+◌, ◌≤◌, ◌<◌, ◌≡◌, take, length}
use Rattle.show_pages.specs.declared.pages.Page.{Page}

-- the bytes that are kept
abbrev pub kept : Page → List ℕ
kept p = take p.len p.bytes.now

-- how many bytes are kept, or one more than there is room for
abbrev pub count : Page → ℕ
count p = p.len

-- how many bytes there is room for
abbrev pub room : Page → ℕ
room p = length p.bytes.now

-- a page is over-full: some of what was put is lost
abbrev pub OverFull : Page → Type 0
OverFull p = room p < p.len

-- the bytes stand behind those that a page kept, where there was room for them; else it is over-full
pub record Puts (p q : Page) (bs : List ℕ) : Type 0 where
  pub same_room : room q ≡ room p
  pub all : p.len + length bs ≤ room p → kept q ≡ kept p ++ bs
  pub counts : p.len + length bs ≤ room p → q.len ≡ p.len + length bs
  pub lost : room p < p.len + length bs → OverFull q
