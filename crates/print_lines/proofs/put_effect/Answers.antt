-- `print_lines::put_effect` meets its contract: the two names, and the form with what follows it. Assumes nothing.
use mathlib.Core.List.{List, [], ◌++◌}
use Prim.Native.Nat.{ℕ}
use lib.ListN.{get_or}
use Rattle.text.specs.Bytes.{bytes}
use Rattle.resolve_context.specs.Lists.{names_in, covariates_of}
use Rattle.resolve_context.proofs.Meaning.{parameters_sound, covariates_sound}
use Rattle.print_writing.specs.Written.{Room, Written}
use Rattle.print_writing.proofs.Writing.{room-same, room-before}
use Rattle.print_writing.proofs.Going.{going, further, finished, room-left, room-first}
use Rattle.lines.specs.Effects.{form_words}
use Rattle.print_lines.specs.Given.{effect_in}
use Rattle.print_lines.proofs.Effects.{effect_by_names}
use Rattle.print_lines.proofs.put_effect.Goals.{After-put_name-c, Start}
use Rattle.print_lines.proofs.put_effect.Goals as goal

-- the pieces: the parameter, the covariate, and what is behind them
abbrev parameter : Start → List ℕ
parameter s = get_or (names_in s.args.block.now s.args.lists.now s.args.layout.parameters) (get_or s.args.effect 0 0) []

abbrev covariate : Start → List ℕ
covariate s = get_or (names_in s.args.block.now s.args.lists.now (covariates_of s.args.layout)) (get_or s.args.effect 1 0) []

abbrev behind : Start → List ℕ
behind s = bytes " " ++ form_words (effect_in s.args.effect)

abbrev all : Start → List ℕ
all s = parameter s ++ (bytes " " ++ (covariate s ++ behind s))

room : (s : Start) → Room s.args.at (all s)
room s = room-same s.args.at (effect_by_names s.args.block.now s.args.lists.now s.args.layout s.requires.0 (effect_in s.args.effect)) s.requires.2

pub put_name-a-requires : goal.put_name-a-requires
put_name-a-requires c =
    (parameters_sound _ _ _ c.requires.0, room-before c.args.at (parameter (goal.at.put_name-a-requires c).Start) (bytes " " ++ (covariate (goal.at.put_name-a-requires c).Start ++ behind (goal.at.put_name-a-requires c).Start)) (room (goal.at.put_name-a-requires c).Start))

pub put-b-requires : goal.put-b-requires
put-b-requires c =
    room-first (bytes " ") (covariate (goal.at.put-b-requires c).Start ++ behind (goal.at.put-b-requires c).Start) (room (goal.at.put-b-requires c).Start) (further (going _ _ _) c.put_name-a.ensures)

pub put_name-c-requires : goal.put_name-c-requires
put_name-c-requires c =
    let b = c.args.block.now in
    let l = c.args.lists.now in
    rw c.covariates-covariates.ensures
    ((
      covariates_sound b l c.args.layout c.requires.0,
      room-first (covariate (goal.at.put_name-c-requires c).Start) (behind (goal.at.put_name-c-requires c).Start) (room (goal.at.put_name-c-requires c).Start) (further (further (going _ _ _) c.put_name-a.ensures) c.put-b.ensures),
    ))

-- the covariate's name by the list that was chosen
named :
    (d : After-put_name-c)
    → Written d.put-b.new.out d.put-b.result (covariate (goal.at.After-put_name-c d).Start) d.put_name-c.new.out d.put_name-c.result
named d = rw d.covariates-covariates.ensures at d.put_name-c.ensures

pub put-d-requires : goal.put-d-requires
put-d-requires c =
    room-first (bytes " ") (form_words (effect_in c.args.effect)) (room (goal.at.put-d-requires c).Start)
    (further (further (further (going _ _ _) c.put_name-a.ensures) c.put-b.ensures) (named (goal.at.put-d-requires c).After-put_name-c))

pub put_form-requires : goal.put_form-requires
put_form-requires c = (
  c.requires.1,
  room-left (room (goal.at.put_form-requires c).Start) (further (further (further (further (going _ _ _) c.put_name-a.ensures) c.put-b.ensures) (named (goal.at.put_form-requires c).After-put_name-c)) c.put-d.ensures),
)

pub returns : goal.returns
returns c =
    rw (effect_by_names c.args.block.now c.args.lists.now c.args.layout c.requires.0 (effect_in c.args.effect))
    (finished (further (further (further (further (going _ _ _) c.put_name-a.ensures) c.put-b.ensures) (named (goal.at.returns c).After-put_name-c)) c.put-d.ensures) c.put_form.ensures)
