-- What a token makes of what is well formed is well formed.
-- Assumes nothing.
use Prim.Native.Nat.{ℕ, ◌<◌}
use native.Mathlib.Omega.{arith}
use mathlib.Core.Path.{◌≡◌, refl}
use mathlib.Core.Bool.{true, ◌&&◌}
use mathlib.Core.List.{List, [], ◌∷◌, ◌++◌}
use borrow.Author.Tests.{le-leb}
use lib.Dec.{leb}
use lib.ListN.{length, length-append}
use Rattle.tokens.specs.Token.{Shape}
use Rattle.tokens.specs.Spelling.{is_word, is_number, is_shape}
use Rattle.text.specs.Lists.{all}
use Rattle.text.proofs.Tests.{and_left, and_right, both}
use Rattle.reading.specs.Statement.{Item}
use Rattle.reading.specs.Argument.{Arg}
use Rattle.reading.specs.Syntax.{Call, State, Step, opened, turn}
use Rattle.reading_laws.specs.WellFormed.{up_to64, well_item, well_formed, well_arg, well_call, well_state}
use Rattle.reading_laws.specs.Turned.{Leads, goes, makes, halts, Opened, Turned}
use Rattle.reading_laws.specs.Turned as case
use Rattle.text.proofs.Passing.{all_append}
use Rattle.reading_laws.proofs.Giving.{value-given}
use Rattle.reading_laws.proofs.Turning.{opening, turning}
use Rattle.reading_laws.proofs.WellArguments.{range_well, part_well}
use Rattle.reading_laws.proofs.WellFeatures.{build_well}

-- so much of a statement, or the whole of it, is well formed
abbrev pub Well : ℕ → Step → Type 0
Well limit x = Leads (λ s. well_state limit s ≡ true) (λ s. well_formed limit s ≡ true) x

module _ (limit : ℕ) where
  -- one more item of an array
  items_more :
      (c : Call) (items : List Item) (i : Item)
      → (well_call limit c && up_to64 well_item items) ≡ true
      → length items < 64
      → well_item i ≡ true
      → (well_call limit c && up_to64 well_item (items ++ i ∷ [])) ≡ true
  items_more c items i w few h =
      let each = and_right (leb (length items) 64) (all well_item items) (and_right (well_call limit c) (up_to64 well_item items) w) in
      let fits = le-leb (length (items ++ i ∷ [])) 64 (simp length-append (omega arith)) in
      both (and_left (well_call limit c) (up_to64 well_item items) w) (both fits (all_append well_item items (i ∷ []) each (both h refl)))

  -- one more argument
  arguments-more :
      (args : List Arg) (a : Arg)
      → (all (well_arg limit) args && well_arg limit a) ≡ true
      → all (well_arg limit) (args ++ a ∷ []) ≡ true
  arguments-more args a w =
      all_append (well_arg limit) args (a ∷ []) (and_left (all (well_arg limit) args) (well_arg limit a) w)
      (both (and_right (all (well_arg limit) args) (well_arg limit a) w) refl)

  opened_as_well : {o : ℕ} {x : Shape} {y : Step} → Opened o x y → Well limit y
  opened_as_well (case.no_statement f) = halts f
  opened_as_well case.a_keyword = goes refl
  opened_as_well (case.a_let_keyword e) = goes refl

  turned_well :
      {s : State} {o : ℕ} {x : Shape} {y : Step} → Turned limit s o x y → is_shape x ≡ true → well_state limit s ≡ true → Well limit y
  turned_well (case.refusing f) e h = halts f
  turned_well case.questioned e h = goes refl
  turned_well case.called e h = goes refl
  turned_well case.called_marked e h = goes refl
  turned_well case.called_let e h = goes refl
  turned_well case.named e h = goes e
  turned_well case.valued e h = goes h
  turned_well case.a_word_alone e h = goes (both h e)
  turned_well case.a_number_first e h = goes (both h e)
  turned_well case.a_star e h = goes (both h refl)
  turned_well case.a_plus e h = goes (both h refl)
  turned_well case.an_at e h = goes h
  turned_well case.a_bracket e h = goes h
  turned_well (case.no_argument {k} {q} f) e h = makes (value-given (build_well limit k q [] refl) f)
  turned_well case.a_symbol e h = goes (both h e)
  turned_well (case.a_number_alone t) e h = turned_well t e h
  turned_well (case.points d) e h = goes h
  turned_well (case.a_range {c} {n} r) e h =
      goes (both (and_left (well_call limit c) (is_number n.spelling) h) (range_well r))
  turned_well case.first_word e h = goes (both h (both e refl))
  turned_well case.first_number e h = goes (both h (both e refl))
  turned_well case.empty_array e h = goes (both h refl)
  turned_well (case.next_word {c} {items} few) e h = goes (items_more c items _ h few e)
  turned_well (case.next_number {c} {items} few) e h = goes (items_more c items _ h few e)
  turned_well case.item_comma e h = goes h
  turned_well case.an_array e h = goes h
  turned_well (case.argument_comma {args} {a}) e h = goes (arguments-more args a h)
  turned_well (case.a_feature {k} {q} {args} {a} f) e h =
      makes (value-given (build_well limit k q (args ++ a ∷ []) (arguments-more args a h)) f)
  turned_well (case.a_let {n} {a} t) e h =
      makes (both (and_left (is_word n.spelling) (well_arg limit a) h)
      (part_well t (and_right (is_word n.spelling) (well_arg limit a) h)))

  -- A statement's first token makes what is well formed.
  pub opened_well : (o : ℕ) (x : Shape) → Well limit (opened o x)
  opened_well o x = opened_as_well (opening o x)

  -- What a token makes of what is well formed is well formed.
  pub turn_well : (s : State) (o : ℕ) (x : Shape) → is_shape x ≡ true → well_state limit s ≡ true → Well limit (turn limit s o x)
  turn_well s o x e h = turned_well (turning limit s o x) e h
