-- The entries of a list that stays in the text, read one after the other from its start on, as many as there are. Between two stands a `,`.
use Rattle.std.specs.Prelude.{ℕ, zero, suc, Bool, true, false, cond, ◌&&◌, List, [], ◌∷◌, ◌≡◌, leb, take, drop}
use Rattle.tokens.specs.Token.{Shape, word, number, mark, Tokens, finish, bad, ◌▸◌}
use Rattle.tokens.specs.Lex.{tokens_at}
use Rattle.reading.specs.Statement.{Name, Kind, a_word, a_number, Item}
use Rattle.reading.specs.Syntax.{item_as}
use Rattle.read_forms.specs.declared.Name as form
use Rattle.read_forms.specs.declared.Items as list
use Rattle.read_forms.specs.declared.Kind as kinds
use Rattle.read_forms.specs.declared.Kind.TheVariants as kind
use Rattle.read_forms.specs.declared.Item as entry

-- the tokens of a text from an offset on
abbrev pub tokens_from : List ℕ → ℕ → Tokens
tokens_from s o = tokens_at o (drop o s)

-- a name of a text
abbrev pub name_in : List ℕ → form.Name → Name
name_in s n = record { place = n.offset; spelling = take n.length (drop n.offset s) }

-- what an entry is, and the entry that stands for it in a text
abbrev pub kind_as : kinds.Kind → Kind
kind_as kind.Word = a_word
kind_as kind.Number = a_number

abbrev pub item_in : List ℕ → entry.Item → Item
item_in s i = record { kind = kind_as i.kind; name = name_in s i.name }

-- the tokens after the first
abbrev pub rest : Tokens → Tokens
rest finish = finish
rest (bad o) = bad o
rest (t ▸ ts) = ts

-- what stands ahead in a list: an entry, with the tokens behind it and the token after it, which is a `,` or the list's end; or no entry
pub data Ahead : Type 0 where
  an_entry : Item → Tokens → Ahead
  no_entry : Ahead

abbrev pub by_entry : {A : Type 0} → Ahead → A → (Item → Tokens → A) → A
by_entry (an_entry i ts) a f = f i ts
by_entry no_entry a f = a

-- a token of a shape, with what is left behind it and the token after it
abbrev pub entry_as : ℕ → Shape → Tokens → Ahead
entry_as o (word w) ts = an_entry (item_as a_word o w) ts
entry_as o (number w) ts = an_entry (item_as a_number o w) ts
entry_as o (mark m) ts = no_entry

-- One entry off the front of the tokens: a word or a number. How many tokens an entry has is said here and nowhere else.
unfoldable pub entry_ahead : Tokens → Ahead
entry_ahead finish = no_entry
entry_ahead (bad o) = no_entry
entry_ahead (t ▸ ts) = entry_as t.place t.shape (rest ts)

-- an entry stands ahead, and these tokens are left
pub record Entered (ts : Tokens) (i : Item) (left : Tokens) : Type 0 where
  pub ahead : entry_ahead ts ≡ an_entry i left

-- the first so many entries
unfoldable pub entries : ℕ → Tokens → List Item
entries zero ts = []
entries (suc n) ts = by_entry (entry_ahead ts) [] (λ i us. i ∷ entries n us)

-- what comes after so many entries and the token behind each
unfoldable pub after_entries : ℕ → Tokens → Tokens
after_entries zero ts = ts
after_entries (suc n) ts = by_entry (entry_ahead ts) ts (λ i us. after_entries n us)

-- there are so many entries
unfoldable pub listed : ℕ → Tokens → Bool
listed zero ts = true
listed (suc n) ts = by_entry (entry_ahead ts) false (λ i us. listed n us)

-- a list's entries in a text; a list that is none, or has over 64, has no entries
unfoldable pub items_in : List ℕ → list.Items → List Item
items_in s is =
    cond (listed is.count (tokens_from s is.first.at) && leb is.count 64) (entries is.count (tokens_from s is.first.at)) []
