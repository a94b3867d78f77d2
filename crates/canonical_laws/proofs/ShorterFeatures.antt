-- A feature is printed with no more bytes than its keyword, its `?` and its arguments are written with: each part with no more than the
-- argument that is taken for it.
-- Assumes nothing.
use Prim.Native.Nat.{ℕ, ◌≤◌}
use native.Mathlib.Omega.{arith}
use mathlib.Core.Path.{◌≡◌, ◌∙◌}
use mathlib.Core.Bool.{Bool}
use mathlib.Core.List.{List}
use lib.ListN.{length}
use Rattle.labels.specs.Label.{keywords}
use Rattle.reading.specs.Statement.{Name, Feature, feature}
use Rattle.reading.specs.Parts.{Part, feature_parts, parts_of}
use Rattle.reading.specs.Argument.{Arg}
use Rattle.reading.specs.Feature.{build_feature}
use Rattle.reading_laws.specs.WellFormed.{Gives}
use Rattle.reading_laws.specs.Taken.{Others, over, next, left_out, multiplied, meant, added, Taken, first, Built}
use Rattle.reading_laws.proofs.Giving.{gives_more}
use Rattle.reading_laws.proofs.Parts.{build_taken}
use Rattle.canonical.specs.Canonical.{part_shapes, parts_shapes, keyword_at, statement_shapes}
use Rattle.canonical_laws.specs.Shorter.{widths, argument_widths, call_width, name_width, arg_widths}
use Rattle.canonical_laws.proofs.ShorterLists.{argument_widths-append, call_shapes-width}
use Rattle.canonical_laws.proofs.ShorterArguments.{label_length, part_shorter}

-- The others are no longer.
others_shorter : {limit : ℕ} {args : List Arg} {ps : List Part} → Others limit args ps → argument_widths (parts_shapes ps) ≤ arg_widths args
others_shorter over = omega arith
others_shorter (next {p} {ps} h t) =
    omega (arith, argument_widths-append (part_shapes p) (parts_shapes ps), (part_shorter h).1, others_shorter t)
others_shorter left_out = omega arith
others_shorter multiplied = omega arith
others_shorter meant = omega arith
others_shorter added = omega arith

-- the first is printed, and all are no longer
taken_shorter :
    {limit : ℕ} {args : List Arg} {ps : List Part}
    → Taken limit args ps
    → (1 ≤ argument_widths (parts_shapes ps)) × (argument_widths (parts_shapes ps) ≤ arg_widths args)
taken_shorter (first {p} {ps} h t) =
    (omega (arith, argument_widths-append (part_shapes p) (parts_shapes ps), (part_shorter h).0), others_shorter (next h t))

-- The feature of a keyword and arguments is printed with no more bytes than they are written with.
built_shorter :
    {limit i : ℕ} (k : Name) {m : Bool} {args : List Arg} (f : Feature)
    → length (keyword_at i) ≡ name_width k
    → Built limit i m args f
    → widths (statement_shapes (feature f)) ≤ call_width (name_width k) m (arg_widths args)
unfolding statement_shapes parts_of
built_shorter {i} k {m} f e b =
    let p = feature_parts f in
    let t = taken_shorter b.arguments in
    let w : widths (statement_shapes (feature f)) ≡ call_width (length (keyword_at i)) m (argument_widths (parts_shapes p.arguments)) =
    call_shapes-width (keyword_at p.keyword) p.optional (parts_shapes p.arguments) t.0 ∙ simp (b.keyword, b.optional) in
    omega (arith, w, e, t.1)

pub build_shorter :
    (limit : ℕ) (k : Name) (m : Bool) (args : List Arg)
    → Gives (λ f. widths (statement_shapes (feature f)) ≤ call_width (name_width k) m (arg_widths args)) (build_feature limit k m args)
build_shorter limit k m args =
    gives_more (build_taken limit k m args) λ f b. built_shorter k f (label_length k.spelling keywords b.0 b.1) b.2
