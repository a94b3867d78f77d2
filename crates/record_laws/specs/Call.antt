-- A call whose work leaves its records packed, each in one number: what it is handed, what it leaves, and when what its work says is enough for that.
-- A, B and C are the elements of what is read, O, R and N those of the output, the records and the notes.
use Rattle.std.specs.Prelude.{ℕ, ◌≡◌, ◌≤◌, List, ◌++◌, map, length, take, drop}

-- what a function of all that is handed over gives
abbrev pub Of : Type 0 → Type 0 → Type 0 → Type 0 → Type 0 → Type 0 → Type 0 → Type 0
Of A B C O R N X = List A → List B → List C → List O → List R → List N → List ℕ → ℕ → X

-- what the work says of what it is handed, with how many records there is room for, and of its answer, the output, the notes and the working buffer
abbrev pub Says : Type 0 → Type 0 → Type 0 → Type 0 → Type 0 → Type 1
Says A B C O N = List A → List B → List C → List O → ℕ → List N → List ℕ → ℕ → ℕ → List O → List N → List ℕ → Type 0

module _
    {A B C O R N : Type 0} (unpack : ℕ → R) (counted : ℕ → ℕ) (finished : List ℕ → List ℕ) (answer : Of A B C O R N ℕ) (output : Of A B C O R N (List O))
    (records : Of A B C O R N (List R)) (notes : Of A B C O R N (List N)) (work : Of A B C O R N (List ℕ)) where
  -- what holds of an answer r, and of the output, the notes and the working buffer as the work leaves them
  pub record Outcome
      (a : List A) (b : List B) (c : List C) (o : List O) (xs : List R) (n : List N) (w : List ℕ) (limit r : ℕ) (o' : List O) (n' : List N) (w' : List ℕ) : Type 0 where
    pub fits : counted r ≤ length xs
    pub stands : counted r ≤ length w'
    pub told : r ≡ answer a b c o xs n w limit
    pub put : o' ≡ output a b c o xs n w limit
    pub recorded : map unpack (take (counted r) w') ++ drop (counted r) xs ≡ records a b c o xs n w limit
    pub noted : n' ≡ notes a b c o xs n w limit
    pub left : finished w' ≡ work a b c o xs n w limit

  -- what the work says gives what the call says
  abbrev pub Enough : Says A B C O N → Type 0
  Enough says =
      (a : List A) (b : List B) (c : List C) (o : List O) (xs : List R) (n : List N) (w : List ℕ) (limit r : ℕ) (o' : List O) (n' : List N) (w' : List ℕ)
      → says a b c o (length xs) n w limit r o' n' w'
      → length w' ≡ length w
      → Outcome a b c o xs n w limit r o' n' w'
