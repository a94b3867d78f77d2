-- All that the entries of a list bring are the names of the context that are taken.
-- Assumes nothing.
use mathlib.Core.Path.{◌≡◌, refl, ◌∙◌, ap, sym}
use mathlib.Core.Bool.{Bool, true, false, cond, ◌&&◌, ◌||◌}
use mathlib.Core.List.{List, [], ◌∷◌, ◌++◌, map, append_assoc, append-nil}
use mathlib.Core.Option
use mathlib.Core.Option.{Option}
use Prim.Native.Nat.{ℕ, zero, suc, ◌≤◌, ◌<◌}
use native.Mathlib.Omega.{arith}
use borrow.Author.Tests.{eqb-true}
use lib.Dec.{eqb, leb}
use lib.ListN.{length, get_or, drop, drop_of_length-le}
use lib.Seq.{drop-cons}
use Rattle.text.specs.Bytes.{every}
use Rattle.text.proofs.Tests.{and_left, and_right}
use Rattle.text.specs.Lists.{any, keep, gather, same_bytes}
use Rattle.resolving.specs.Context.{Context, Binding}
use Rattle.resolving.specs.Context as context
use Rattle.resolving.specs.Builtins.{matching, every_role, of_kind, templated}
use Rattle.resolving.specs.Given.{only_if}
use Rattle.resolving.specs.Handed.{handed_context}
use Rattle.text.proofs.Appended.{keep_append}
use Rattle.resolve_context.specs.declared.Names.{Names}
use Rattle.resolve_context.specs.declared.Layout.{Layout}
use Rattle.resolve_context.specs.Kinds.{kind_as}
use Rattle.resolve_context.specs.Lists.{Stands, layout_of, names_in, template_in, block_in, covariates_of, counts_of, mark_fits, heads_fit}
use Rattle.resolve_context.proofs.Pairs.{names-length}
use Rattle.resolve_context.proofs.Meaning.{
  handed-heads_fit,
  iiv_sound,
  roles_sound,
  declared_sound,
  covariates_sound,
  parameters-are,
  iiv-are,
  template-is,
  block-is,
  template-length,
  block-length,
  binding_more,
  declared-more,
  template_step,
  declared_step,
  covariates-are,
}
use Rattle.resolve_symbols.specs.declared.Roles.TheVariants.{Every}
use Rattle.resolve_symbols.specs.declared.Listing.{Listing}
use Rattle.resolve_symbols.specs.declared.Listing.TheVariants.{Iiv, Template, TemplateIiv, Nothing, Declared, Covariates}
use Rattle.resolve_symbols.specs.Sources.{of_roles, or_none, is_some, listing_names, Marked}
use Rattle.resolve_symbols.specs.Brings.{from_binding, from_declared, binding_at, declared_at, is_iiv, from_template, list_of, brings, brought_by}

-- what a walk over a list brings
module _ {A : Type 0} (h : A → List (List ℕ)) (e : ℕ → A) (xs : List A)
    (walk : (k : ℕ) → k < length xs → drop k xs ≡ e k ∷ drop (suc k) xs) where
  abbrev by : ℕ → List (List ℕ)
  by k = brought_by (λ i. h (e i)) k

  so_far : (k : ℕ) → k ≤ length xs → by k ++ gather h (drop k xs) ≡ gather h xs
  unfolding brought_by
  so_far zero m = refl
  so_far (suc k) m =
      append_assoc (by k) (h (e k)) (gather h (drop (suc k) xs))
      ∙ ap (λ (ys : List A). by k ++ gather h ys) (sym (walk k m))
      ∙ so_far k (omega arith)

  brought-all : (n : ℕ) → length xs ≡ n → by n ≡ gather h xs
  brought-all n m =
      let all : length xs ≤ n = omega arith in
      sym (append-nil (by n)) ∙ ap (λ (ys : List A). by n ++ gather h ys) (sym (drop_of_length-le xs all)) ∙ so_far n (omega arith)

-- names that bring themselves
gather_ones : (ws : List (List ℕ)) → gather (λ w. w ∷ []) ws ≡ ws
gather_ones [] = refl
gather_ones (w ∷ ws) = ap (λ (l : List (List ℕ)). w ∷ l) (gather_ones ws)

names-brought : (b l : List ℕ) (n : Names) → brought_by (λ i. get_or (names_in b l n) i [] ∷ []) n.count ≡ names_in b l n
names-brought b l n =
    let ws = names_in b l n in
    brought-all (λ w. w ∷ []) (λ i. get_or ws i []) ws (λ k h. drop-cons ws k [] h) n.count (names-length b l n) ∙ gather_ones ws

-- those that are taken
gather-taken : {A : Type 0} (p : A → Bool) (f : A → List (List ℕ)) (xs : List A) → gather (λ x. cond (p x) (f x) []) xs ≡ gather f (keep p xs)
gather-taken p f [] = refl
gather-taken p f (x ∷ xs) = by_test (p x) (gather-taken p f xs)
  where
    by_test : (t : Bool) → gather (λ z. cond (p z) (f z) []) xs ≡ gather f (keep p xs)
        → cond t (f x) [] ++ gather (λ z. cond (p z) (f z) []) xs ≡ gather f (cond t (x ∷ keep p xs) (keep p xs))
    by_test true e = ap (λ (l : List (List ℕ)). f x ++ l) e
    by_test false e = e

gather-names : (p : context.Declared → Bool) (ds : List context.Declared) → gather (from_declared p) ds ≡ map (λ d. d.name) (keep p ds)
gather-names p [] = refl
gather-names p (d ∷ ds) = by_test (p d) (gather-names p ds)
  where
    by_test : (t : Bool) → gather (from_declared p) ds ≡ map (λ d. d.name) (keep p ds)
        → cond t (d.name ∷ []) [] ++ gather (from_declared p) ds ≡ map (λ d. d.name) (cond t (d ∷ keep p ds) (keep p ds))
    by_test true e = ap (λ (l : List (List ℕ)). d.name ∷ l) e
    by_test false e = e

brought-kept : (p : List ℕ → Bool) (f : ℕ → List (List ℕ)) (n : ℕ) → brought_by (λ i. keep p (f i)) n ≡ keep p (brought_by f n)
unfolding brought_by
brought-kept p f zero = refl
brought-kept p f (suc n) =
    ap (λ (l : List (List ℕ)). l ++ keep p (f n)) (brought-kept p f n) ∙ sym (keep_append p (brought_by f n) (f n))

brought-none : (n : ℕ) → brought_by (λ i. []) n ≡ []
unfolding brought_by
brought-none zero = refl
brought-none (suc n) = append-nil (brought_by (λ i. []) n) ∙ brought-none n

no_entries : {A : Type 0} (xs : List A) → length xs ≡ 0 → xs ≡ []
no_entries [] e = refl
no_entries (x ∷ xs) e = absurd (omega arith)

-- a list whose mark says that it is there, or that is empty
or-marked : {A : Type 0} (t : Bool) (g : List A → List (List ℕ)) (xs : List A)
    → (t ≡ false → g xs ≡ []) → g xs ≡ or_none (Option.map g (only_if t xs))
or-marked true g xs h = refl
or-marked false g xs h = h refl

marked : {A : Type 0} (t : Bool) (a : A) → t ≡ is_some (only_if t a)
marked true a = refl
marked false a = refl

-- Without its mark a list is empty.
mark-empty : (m n : ℕ) → mark_fits m n ≡ true → eqb m 1 ≡ false → n ≡ 0
unfolding mark_fits
mark-empty m n h e =
    let either : eqb m 1 || eqb n 0 ≡ true = and_right (leb m 1) (eqb m 1 || eqb n 0) h in
    eqb-true n 0 (rw e at either)

module _ (b l : List ℕ) (y : Layout) (st : Stands b l y) where
  marks-fit : mark_fits (get_or l 5 0) (get_or l 2 0) && mark_fits (get_or l 6 0) (get_or l 3 0) ≡ true
  unfolding heads_fit
  marks-fit = and_right (every (λ n. leb n 64) (counts_of l)) _ (and_right (leb 7 (length l)) _ (handed-heads_fit b l st.is))

  no_template : y.templated ≡ false → y.template.count ≡ 0
  unfolding layout_of
  no_template = rw st.there (mark-empty (get_or l 5 0) (get_or l 2 0) (and_left (mark_fits (get_or l 5 0) (get_or l 2 0)) _ marks-fit))

  no_block : y.declares ≡ false → y.declared.count ≡ 0
  unfolding layout_of
  no_block = rw st.there (mark-empty (get_or l 6 0) (get_or l 3 0) (and_right (mark_fits (get_or l 5 0) (get_or l 2 0)) _ marks-fit))

  -- the definition's context
  abbrev c : Context
  c = handed_context b l

  abbrev parameters : List (List ℕ)
  parameters = names_in b l y.parameters

  abbrev bindings : List Binding
  bindings = template_in b l y.template

  abbrev covariates_in : List context.Declared
  covariates_in = block_in b l y.declared

  next_binding : (k : ℕ) → k < length bindings → drop k bindings ≡ binding_at b l y k ∷ drop (suc k) bindings
  next_binding k h = binding_more b l y.template k (template_step b l y st) (omega (arith, h, template-length b l y.template))

  next-declared : (k : ℕ) → k < length covariates_in → drop k covariates_in ≡ declared_at b l y k ∷ drop (suc k) covariates_in
  next-declared k h = declared-more b l y.declared k (declared_step b l y st) (omega (arith, h, block-length b l y.declared))

  template-brought : (p : Binding → Bool)
      → brought_by (λ i. from_binding parameters p (binding_at b l y i)) y.template.count ≡ or_none (templated c p)
  template-brought p =
      brought-all (from_binding parameters p) (binding_at b l y) bindings next_binding y.template.count (template-length b l y.template)
      ∙ gather-taken p (λ x. matching parameters x.variable) bindings
      ∙ or-marked y.templated of bindings (λ e. ap of (no_entries bindings (template-length b l y.template ∙ no_template e)))
      ∙ ap (λ (o : Option (List Binding)). or_none (Option.map of o)) (sym (template-is b l y st))
      ∙ ap
      (λ (ps : List (List ℕ)). or_none (Option.map (λ bs. gather (λ x. matching ps x.variable) (keep p bs)) c.template))
      (sym (parameters-are b l y st))
    where
      of : List Binding → List (List ℕ)
      of bs = gather (λ x. matching parameters x.variable) (keep p bs)

  declared-brought : (p : context.Declared → Bool)
      → brought_by (λ i. from_declared p (declared_at b l y i)) y.declared.count
      ≡ or_none (Option.map (λ ds. map (λ d. d.name) (keep p ds)) c.block)
  declared-brought p =
      brought-all (from_declared p) (declared_at b l y) covariates_in next-declared y.declared.count (block-length b l y.declared)
      ∙ gather-names p covariates_in
      ∙ or-marked y.declares of covariates_in (λ e. ap of (no_entries covariates_in (block-length b l y.declared ∙ no_block e)))
      ∙ ap (λ (o : Option (List context.Declared)). or_none (Option.map of o)) (sym (block-is b l y st))
    where
      of : List context.Declared → List (List ℕ)
      of ds = map (λ d. d.name) (keep p ds)

  pub listing_brought : (x : Listing) → brought_by (brings b l y x) (list_of y x).count ≡ listing_names c x
  listing_brought Iiv = names-brought b l y.iiv ∙ sym (iiv-are b l y st)
  listing_brought (Template r) = template-brought (of_roles r)
  listing_brought TemplateIiv =
      brought-kept (is_iiv b l y) (from_template b l y Every) y.template.count
      ∙ ap (keep (is_iiv b l y)) (template-brought every_role)
      ∙ ap (λ (ws : List (List ℕ)). keep (λ v. any (same_bytes v) ws) (or_none (templated c every_role))) (sym (iiv-are b l y st))
  listing_brought Nothing = brought-none 0
  listing_brought (Declared q) = declared-brought (of_kind (kind_as q))
  listing_brought Covariates = names-brought b l (covariates_of y) ∙ sym (covariates-are b l y st)

  -- what `look_up` asks of a context
  pub stands-marked : Marked c y
  stands-marked =
      record {
        templated = marked y.templated bindings ∙ ap is_some (sym (template-is b l y st));
        declares = marked y.declares covariates_in ∙ ap is_some (sym (block-is b l y st));
      }

  -- the list has at most 64 entries
  pub list_few : (x : Listing) → (list_of y x).count ≤ 64
  list_few Iiv = (iiv_sound b l y st).few
  list_few (Template r) = (roles_sound b l y st).few
  list_few TemplateIiv = (roles_sound b l y st).few
  list_few Nothing = omega arith
  list_few (Declared k) = (declared_sound b l y st).few
  list_few Covariates = (covariates_sound b l y st).few
