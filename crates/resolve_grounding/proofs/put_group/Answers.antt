-- `resolve_grounding::put_group` meets its contract: its statement is written piece by piece, and behind each piece `Left` says what is left.
-- Assumes nothing.
use Prim.Native.Nat.{ℕ}
use mathlib.Core.Path.{◌≡◌, ◌∙◌, ap, sym}
use mathlib.Core.List.{List, [], ◌++◌}
use native.Mathlib.Omega.{arith}
use lib.ListN.{get_or}
use Rattle.text.specs.Bytes.{bytes}
use Rattle.tokens.specs.Spelling.{spell_all}
use Rattle.labels.specs.declared.Family.TheVariants.{CovariateEffect}
use Rattle.labels.specs.Label.{keywords}
use Rattle.reading.specs.Statement.{modes}
use Rattle.canonical.specs.Canonical.{modes_shapes, statement_shapes}
use Rattle.read_packs.specs.Packs.{places}
use Rattle.read_forms.specs.Forms.{modes_in}
use Rattle.resolving.specs.Context.{Context, covariates}
use Rattle.resolving.specs.Ground.{is_optional}
use Rattle.resolving.specs.Handed.{handed_context}
use Rattle.resolve_context.proofs.Meaning.{parameters_sound, covariates_sound, parameters-are, covariates-are}
use Rattle.print_writing.proofs.Writing.{same-room, room-same}
use Rattle.print_writing.proofs.Going.{Going, going, told, further, finished, room-left, room-first}
use Rattle.print_statements.specs.Bytes.{head_of}
use Rattle.resolve_grounding.specs.Groups.{group_statement, sign_bytes}
use Rattle.resolve_grounding.proofs.Groups.{group-bytes}
use Rattle.resolve_grounding.proofs.put_group.Goals.{After-name_at, After-name_at-2, After-put-again, After-put-comma, After-put_all-one, After-put_all-two, After-put_head-inside, After-put_modes-three, After-put_sign-four, Start}
use Rattle.resolve_grounding.proofs.put_group.Goals as goal

-- The pieces, and what is left from each on.
abbrev context : Start → Context
context s = handed_context s.args.block.now s.args.lists.now

abbrev head : Start → List ℕ
head s = head_of (get_or keywords 5 []) (is_optional s.args.optional)

abbrev parameter : Start → List ℕ
parameter s = get_or (context s).parameters s.args.parameter []

abbrev covariate : Start → List ℕ
covariate s = get_or (covariates (context s)) s.args.covariate []

abbrev effects : Start → List ℕ
effects s = spell_all (modes_shapes CovariateEffect (modes (places s.args.packed)))

abbrev from_sign : Start → List ℕ
from_sign s = sign_bytes s.args.operator ++ bytes ")"

abbrev from_effects : Start → List ℕ
from_effects s = effects s ++ from_sign s

abbrev from_covariate : Start → List ℕ
from_covariate s = covariate s ++ (bytes "," ++ from_effects s)

abbrev from_parameter : Start → List ℕ
from_parameter s = parameter s ++ (bytes "," ++ from_covariate s)

abbrev Left : Start → List ℕ → ℕ → List ℕ → Type 0
Left s =
    Going s.args.out.now s.args.at
    (spell_all
    (statement_shapes
    (group_statement (context s) s.args.parameter s.args.covariate (places s.args.packed) s.args.operator s.args.optional)))

abbrev parameter-start : After-put_all-one → Start
parameter-start c = (goal.at.After-put_all-one c).Start

abbrev comma-start : After-put-comma → Start
comma-start c = parameter-start (goal.at.After-put-comma c).After-put_all-one

abbrev covariate-start : After-put_all-two → Start
covariate-start c = comma-start (goal.at.After-put_all-two c).After-put-comma

abbrev comma-start_2 : After-put-again → Start
comma-start_2 c = covariate-start (goal.at.After-put-again c).After-put_all-two

abbrev effects-start : After-put_modes-three → Start
effects-start c = comma-start_2 (goal.at.After-put_modes-three c).After-put-again

abbrev sign-start : After-put_sign-four → Start
sign-start c = effects-start (goal.at.After-put_sign-four c).After-put_modes-three

-- The names that are looked up are those of the context.
parameter-found : (c : After-name_at) → c.name_at.result.now ≡ parameter (goal.at.After-name_at c).Start
parameter-found c =
    c.name_at.ensures
    ∙ ap (λ (l : List (List ℕ)). get_or l c.args.parameter [])
    (sym (parameters-are c.args.block.now c.args.lists.now c.args.layout c.requires.2))

covariate-found : (c : After-name_at-2) → c.name_at-2.result.now ≡ covariate (comma-start (goal.at.After-name_at-2 c).After-put-comma)
covariate-found c =
    let s = comma-start (goal.at.After-name_at-2 c).After-put-comma in
    c.name_at-2.ensures
    ∙ rw c.covariates.ensures
    (ap (λ (l : List (List ℕ)). get_or l s.args.covariate [])
    (sym (covariates-are s.args.block.now s.args.lists.now s.args.layout s.requires.2)))

-- What is left at the start, and behind each piece.
at_start : (s : Start) → Left s s.args.out.now s.args.at (head s ++ from_parameter s)
at_start s =
    told
    (group-bytes (context s) s.args.parameter s.args.covariate (places s.args.packed) s.args.operator s.args.optional)
    (going _ _ _)

behind_head : (c : After-put_head-inside) → Left (goal.at.After-put_head-inside c).Start c.put_head-inside.new.out c.put_head-inside.result (from_parameter (goal.at.After-put_head-inside c).Start)
behind_head c = further (at_start (goal.at.After-put_head-inside c).Start) c.put_head-inside.ensures

behind-parameter :
    (c : After-put_all-one) → Left (parameter-start c) c.put_all-one.new.out c.put_all-one.result (bytes "," ++ from_covariate (parameter-start c))
behind-parameter c =
    further (behind_head (goal.at.After-put_all-one c).After-put_head-inside) (rw (parameter-found (goal.at.After-put_all-one c).After-name_at) at c.put_all-one.ensures)

behind-comma : (c : After-put-comma) → Left (comma-start c) c.put-comma.new.out c.put-comma.result (from_covariate (comma-start c))
behind-comma c = further (behind-parameter (goal.at.After-put-comma c).After-put_all-one) c.put-comma.ensures

behind-covariate :
    (c : After-put_all-two) → Left (covariate-start c) c.put_all-two.new.out c.put_all-two.result (bytes "," ++ from_effects (covariate-start c))
behind-covariate c =
    further (behind-comma (goal.at.After-put_all-two c).After-put-comma) (rw (covariate-found (goal.at.After-put_all-two c).After-name_at-2) at c.put_all-two.ensures)

behind-comma_2 : (c : After-put-again) → Left (comma-start_2 c) c.put-again.new.out c.put-again.result (from_effects (comma-start_2 c))
behind-comma_2 c = further (behind-covariate (goal.at.After-put-again c).After-put_all-two) c.put-again.ensures

behind-effects :
    (c : After-put_modes-three) → Left (effects-start c) c.put_modes-three.new.out c.put_modes-three.result (from_sign (effects-start c))
unfolding modes_in
behind-effects c = further (behind-comma_2 (goal.at.After-put_modes-three c).After-put-again) c.put_modes-three.ensures

behind-sign : (c : After-put_sign-four) → Left (sign-start c) c.put_sign-four.new.out c.put_sign-four.result (bytes ")")
behind-sign c = further (behind-effects (goal.at.After-put_sign-four c).After-put_modes-three) c.put_sign-four.ensures

-- The needs: each piece has room, since all of what is left has.
pub put_head-inside-requires : goal.put_head-inside-requires
unfolding keywords
put_head-inside-requires c =
    (c.requires.1, omega arith, room-first (head (goal.at.put_head-inside-requires c).Start) (from_parameter (goal.at.put_head-inside-requires c).Start) c.requires.5 (at_start (goal.at.put_head-inside-requires c).Start))

pub name_at-requires : goal.name_at-requires
name_at-requires c =
    (c.requires.3, parameters_sound c.args.block.now c.args.lists.now c.args.layout c.requires.2)

pub put_all-one-requires : goal.put_all-one-requires
put_all-one-requires c =
    room-same _ (sym (parameter-found (goal.at.put_all-one-requires c).After-name_at)) (room-first (parameter (goal.at.put_all-one-requires c).Start) (bytes "," ++ from_covariate (goal.at.put_all-one-requires c).Start) c.requires.5 (behind_head (goal.at.put_all-one-requires c).After-put_head-inside))

pub put-comma-requires : goal.put-comma-requires
put-comma-requires c =
    let s = parameter-start (goal.at.put-comma-requires c).After-put_all-one in
    room-first (bytes ",") (from_covariate s) s.requires.5 (behind-parameter (goal.at.put-comma-requires c).After-put_all-one)

pub name_at-requires-2 : goal.name_at-requires-2
name_at-requires-2 c =
    let s = comma-start (goal.at.name_at-requires-2 c).After-put-comma in
    rw c.covariates.ensures (s.requires.4, covariates_sound s.args.block.now s.args.lists.now s.args.layout s.requires.2)

pub put_all-two-requires : goal.put_all-two-requires
put_all-two-requires c =
    let s = comma-start (goal.at.put_all-two-requires c).After-put-comma in
    room-same _ (sym (covariate-found (goal.at.put_all-two-requires c).After-name_at-2)) (room-first (covariate s) (bytes "," ++ from_effects s) s.requires.5 (behind-comma (goal.at.put_all-two-requires c).After-put-comma))

pub put-again-requires : goal.put-again-requires
put-again-requires c =
    let s = covariate-start (goal.at.put-again-requires c).After-put_all-two in
    room-first (bytes ",") (from_effects s) s.requires.5 (behind-covariate (goal.at.put-again-requires c).After-put_all-two)

pub put_modes-three-requires : goal.put_modes-three-requires
unfolding modes_in
put_modes-three-requires c =
    let s = comma-start_2 (goal.at.put_modes-three-requires c).After-put-again in
    (s.requires.0, room-first (effects s) (from_sign s) s.requires.5 (behind-comma_2 (goal.at.put_modes-three-requires c).After-put-again))

pub put_sign-four-requires : goal.put_sign-four-requires
put_sign-four-requires c =
    let s = effects-start (goal.at.put_sign-four-requires c).After-put_modes-three in
    room-first (sign_bytes s.args.operator) (bytes ")") s.requires.5 (behind-effects (goal.at.put_sign-four-requires c).After-put_modes-three)

pub put-requires : goal.put-requires
put-requires c =
    room-left {left = bytes ")"} (sign-start (goal.at.put-requires c).After-put_sign-four).requires.5 (behind-sign (goal.at.put-requires c).After-put_sign-four)

pub shape_of-out : goal.shape_of-out
shape_of-out c =
    same-room (finished (behind-sign (goal.at.shape_of-out c).After-put_sign-four) c.put.ensures)

pub returns : goal.returns
returns c =
    finished (behind-sign (goal.at.returns c).After-put_sign-four) c.put.ensures
