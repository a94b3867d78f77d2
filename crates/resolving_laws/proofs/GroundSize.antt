-- How many ground statements there are, and how many bytes their text has, in any order.
-- Assumes nothing.
use Prim.Native.Nat.{ℕ, ◌+◌, ◌-◌, ◌≤◌}
use native.Mathlib.Omega.{arith}
use mathlib.Core.Path.{◌≡◌, refl, sym, ◌∙◌, ap, fun_ext}
use mathlib.Core.Bool.{Bool}
use mathlib.Core.List.{List, [], ◌∷◌, ◌++◌, map}
use lib.ListN.{length, length-append, length-map}
use Rattle.text.specs.Bytes.{bytes}
use Rattle.tokens.specs.Token.{Shape, width}
use Rattle.labels.specs.declared.Family.TheVariants.{CovariateEffect}
use Rattle.reading.specs.Statement.{Statement}
use Rattle.reading.specs.Parts.{feature_parts, parts_of}
use Rattle.labels.specs.Label.{keywords}
use Rattle.canonical.specs.Canonical.{label_shape, bare_one, parts_shapes, statement_shapes, text_shapes, canonical}
use Rattle.canonical_laws.specs.Shorter.{widths, entry_widths, argument_widths, call_width, statement_widths}
use Rattle.canonical_laws.proofs.ShorterLists.{spelled-length, bracketed-width, call_shapes-width, text_shapes-width}
use Rattle.resolving.specs.Context.{Context}
use Rattle.resolving.specs.Effects.{Effect}
use Rattle.resolving.specs.Brought.{Brought}
use Rattle.resolving.specs.Ground.{Group, same_group, group_of, groups, forms_in, is_optional, ground_covariate, ground_effects, staying, ground}
use Rattle.text.proofs.Permuted.{Permuted, keep_permuted, firsts_permuted, map_permuted, gather_permuted, length_permuted, total, total_permuted}
use Rattle.resolving_laws.proofs.EffectLaws.{group-equal, group_sym}

-- A list of labels.

entry_total : (xs : List Shape) → entry_widths xs ≡ total (λ x. width x + 1) xs
entry_total [] = refl
entry_total (x ∷ xs) = omega (arith, entry_total xs)

bare-width : (xs ys : List Shape) → length xs ≡ length ys → entry_widths xs ≡ entry_widths ys → widths (bare_one xs) ≡ widths (bare_one ys)
bare-width [] [] h e = refl
bare-width [] (y ∷ ys) h e = absurd (omega arith)
bare-width (x ∷ xs) [] h e = absurd (omega arith)
bare-width (x ∷ []) (y ∷ []) h e = omega arith
bare-width (x ∷ []) (y ∷ z ∷ zs) h e = absurd (omega arith)
bare-width (x ∷ w ∷ ws) (y ∷ []) h e = absurd (omega arith)
bare-width (x ∷ w ∷ ws) (y ∷ z ∷ zs) h e = bracketed-width (x ∷ w ∷ ws) ∙ ap (λ (n : ℕ). 2 + (n - 1)) e ∙ sym (bracketed-width (y ∷ z ∷ zs))

bare_permuted : {xs ys : List Shape} → Permuted xs ys → widths (bare_one xs) ≡ widths (bare_one ys)
bare_permuted {xs} {ys} p =
    bare-width xs ys (length_permuted p) (entry_total xs ∙ total_permuted (λ x. width x + 1) p ∙ sym (entry_total ys))

-- A group, whose forms come in any order.
group-width :
    (c : Context) (g : Group) {fs hs : List ℕ}
    → Permuted fs hs
    → widths (statement_shapes (ground_covariate c g fs)) ≡ widths (statement_shapes (ground_covariate c g hs))
unfolding statement_shapes parts_of feature_parts keywords
group-width c g {fs} {hs} p =
    call_shapes-width (bytes "COVARIATE") m (args fs) (some-width fs)
    ∙ ap (call_width 9 m) same_width
    ∙ sym (call_shapes-width (bytes "COVARIATE") m (args hs) (some-width hs))
  where
    m : Bool
    m = is_optional g.optional

    args : List ℕ → List (List Shape)
    args xs = parts_shapes (parts_of (ground_covariate c g xs)).arguments

    some-width : (xs : List ℕ) → 1 ≤ argument_widths (args xs)
    some-width xs = omega arith

    same_width : argument_widths (args fs) ≡ argument_widths (args hs)
    same_width = omega (arith, bare_permuted (map_permuted (label_shape CovariateEffect) p))

-- All statements.

statements_total : (ss : List Statement) → statement_widths ss ≡ total (λ s. 1 + widths (statement_shapes s)) ss
statements_total [] = refl
statements_total (s ∷ ss) = omega (arith, statements_total ss)

total_append : {A : Type 0} (f : A → ℕ) (l m : List A) → total f (l ++ m) ≡ total f l + total f m
total_append f [] m = omega arith
total_append f (x ∷ l) m = omega (arith, total_append f l m)

total_map : {A B : Type 0} (f : B → ℕ) (g : A → B) (l : List A) → total f (map g l) ≡ total (λ x. f (g x)) l
total_map f g [] = refl
total_map f g (x ∷ l) = omega (arith, total_map f g l)

groups_permuted : {es fs : List Effect} → Permuted es fs → Permuted (groups es) (groups fs)
groups_permuted p = firsts_permuted same_group group-equal group_sym (map_permuted group_of p)

forms_permuted : {es fs : List Effect} (g : Group) → Permuted es fs → Permuted (forms_in es g) (forms_in fs g)
forms_permuted g p = map_permuted (λ e. e.form) (keep_permuted (λ e. same_group g (group_of e)) p)

module _ (c : Context) where
  abbrev size : Statement → ℕ
  size s = 1 + widths (statement_shapes s)

  effects-size : {es fs : List Effect} → Permuted es fs → total size (ground_effects c es) ≡ total size (ground_effects c fs)
  effects-size {es} {fs} p =
      total_map size (λ g. ground_covariate c g (forms_in es g)) (groups es)
      ∙ total_permuted (λ g. size (ground_covariate c g (forms_in es g))) (groups_permuted p)
      ∙ ap
      (λ (f : Group → ℕ). total f (groups fs))
      (fun_ext (λ g. ap (λ (n : ℕ). 1 + n) (group-width c g (forms_permuted g p))))
      ∙ sym (total_map size (λ g. ground_covariate c g (forms_in fs g)) (groups fs))

  module _ {bs ds : List Brought} {es fs : List Effect} (p : Permuted bs ds) (q : Permuted es fs) where
    pub ground-count : length (ground c bs es) ≡ length (ground c ds fs)
    unfolding ground
    ground-count =
        simp (length-append, length-map)
        (omega (arith, length_permuted (gather_permuted staying p), length_permuted (groups_permuted q)))

    ground-size : total size (ground c bs es) ≡ total size (ground c ds fs)
    unfolding ground
    ground-size =
        simp total_append
        (omega (arith, total_permuted size (gather_permuted staying p), effects-size q))

    pub ground-length : length (canonical (ground c bs es)) ≡ length (canonical (ground c ds fs))
    ground-length =
        omega (
          arith,
          spelled-length (text_shapes (ground c bs es)),
          spelled-length (text_shapes (ground c ds fs)),
          text_shapes-width (ground c bs es),
          text_shapes-width (ground c ds fs),
          statements_total (ground c bs es),
          statements_total (ground c ds fs),
          ground-size,
        )
