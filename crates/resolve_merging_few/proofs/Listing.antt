-- Groups listed one effect after the other: each with its forms so far, and a group that is not there yet has none so far.
-- Assumes nothing.
use Prim.Native.Nat.{ℕ, zero, suc, ◌+◌, ◌*◌, ◌/◌, ◌%◌, ◌≤◌, ◌<◌}
use native.Mathlib.Omega.{arith}
use mathlib.Core.Path.{◌≡◌, refl, sym, ◌∙◌, ap, ap₂, subst}
use mathlib.Core.Bool.{Bool, true, false, cond, ◌||◌}
use mathlib.Core.List.{List, [], ◌∷◌, ◌++◌, map}
use borrow.Author.Tests.{eq-eqb, ne_eqb, eqb-true, eqb-false}
use lib.Dec.{eqb}
use lib.ListN.{length, take, get_or, set, length-set, length-append, get_or-append}
use lib.Seq.{get_or-append_seam, get_or-set_same, get_or-set_other, length-take-le}
use Rattle.text.specs.Bytes.{member_of}
use Rattle.read_packs.specs.Packs.{places, Joined}
use Rattle.read_packs.proofs.Packed.{no_place}
use Rattle.text.specs.Lists.{any, keep, firsts}
use Rattle.text.proofs.Appended.{keep_append, map-append, firsts-one_more}
use Rattle.text.proofs.Once.{firsts-once}
use Rattle.text.proofs.Runs.{any-firsts}
use Rattle.resolve_merging.specs.Packing.{effect_of, bare, group_number, form_number}
use Rattle.resolve_merging.specs.Runs.{groups_in, forms_of}
use Rattle.resolve_merging.specs.Outcomes.{GroupsListed}
use Rattle.resolve_merging.proofs.Mapped.{append-none}
use Rattle.resolve_merging.proofs.Fields.{same_eqb}
use Rattle.resolve_merging.proofs.GroupLists.{apart}
use Rattle.resolve_merging_few.specs.Listing.{group_in, forms_for, Formed, AllFormed, IndexFound, EffectPut, put-before, put-there, put-behind}
use Rattle.resolve_merging_few.proofs.Listed.{listed-means}
use Rattle.resolve_merging_few.proofs.Formed.{forms-none, formed_next}

-- The groups of some effects, each with its forms.
pub record Listing (es listed : List ℕ) (k : ℕ) : Type 0 where
  pub few : k ≤ length es
  pub count : k ≡ length (groups_in es)
  pub groups : (j : ℕ) → j < k → group_in listed j ≡ get_or (groups_in es) j 0
  pub formed : AllFormed listed k
  pub forms : (j : ℕ) → j < k → places (forms_for listed j) ≡ forms_of (group_in listed j) es
  pub others : (g : ℕ) → ((j : ℕ) → j < k → group_in listed j ≡ g → ⊥) → forms_of g es ≡ []

pub listing_start : (listed : List ℕ) → Listing [] listed 0
listing_start listed = record {
  few = omega arith;
  count = refl;
  groups = λ j h. absurd (omega arith);
  formed = λ j h. absurd (omega arith);
  forms = λ j h. absurd (omega arith);
  others = λ g h. refl;
}

-- An effect is told by its group and its form, so it stands among others if its form stands among those of its group.
bare-group : (w : ℕ) → bare w ≡ group_number w + form_number w * 4
bare-group w = omega arith

group_of-bare : (w : ℕ) → group_number w ≡ group_number (bare w)
group_of-bare w =
    let p : w / 32 % 4096 ≡ w % 131072 / 32 % 4096 = omega arith in
    let q : w % 4 ≡ w % 131072 % 4 = omega arith in
    ap₂ (λ (x y : ℕ). x * 32 + y) p q

form-stands : (e : ℕ) (l : List ℕ) → member_of (forms_of (group_number e) l) (form_number e) ≡ any (λ u. eqb (bare u) (bare e)) l
form-stands e [] = refl
form-stands e (u ∷ l) = by_cases (eqb (group_number u) (group_number e)) refl (form-stands e l)
  where
    own : group_number u ≡ group_number e → eqb (form_number e) (form_number u) ≡ eqb (bare u) (bare e)
    own q =
        same_eqb (form_number e) (form_number u) (bare u) (bare e)
        (λ d. bare-group u ∙ ap₂ (λ (x y : ℕ). x + y * 4) q (sym d) ∙ sym (bare-group e))
        (λ d. parted (group_number e) (form_number e) (form_number u) (bare u) (ap (λ (x : ℕ). x + form_number u * 4) (sym q) ∙ sym (bare-group u)) (sym (bare-group e) ∙ sym d))
      where
        parted : (g x y b : ℕ) → g + y * 4 ≡ b → g + x * 4 ≡ b → x ≡ y
        parted g x y b h k = omega (arith, h, k)

    other : (group_number u ≡ group_number e → ⊥) → eqb (bare u) (bare e) ≡ false
    other d = ne_eqb (bare u) (bare e) (λ q. d (group_of-bare u ∙ ap group_number q ∙ sym (group_of-bare e)))

    by_cases :
        (t : Bool) → eqb (group_number u) (group_number e) ≡ t
        → member_of (forms_of (group_number e) l) (form_number e) ≡ any (λ u. eqb (bare u) (bare e)) l
        → member_of
        (map form_number (cond t (u ∷ keep (λ x. eqb (group_number x) (group_number e)) l) (keep (λ x. eqb (group_number x) (group_number e)) l)))
        (form_number e)
        ≡ eqb (bare u) (bare e) || any (λ u. eqb (bare u) (bare e)) l
    by_cases true q r = ap₂ ◌||◌ (own (eqb-true (group_number u) (group_number e) q)) r
    by_cases false q r = r ∙ sym (ap (λ (s : Bool). s || any (λ u. eqb (bare u) (bare e)) l) (other (eqb-false (group_number u) (group_number e) q)))

-- whether one stands in a list, by its index
stands_at : (l : List ℕ) (j g : ℕ) → j < length l → get_or l j 0 ≡ g → any (λ y. eqb y g) l ≡ true
stands_at [] j g h e = absurd (omega arith)
stands_at (x ∷ l) zero g h e = ap (λ (t : Bool). t || any (λ y. eqb y g) l) (eq-eqb x g e)
stands_at (x ∷ l) (suc j) g h e = either (eqb x g) (stands_at l j g (omega arith) e)
  where
    either : (t : Bool) → any (λ y. eqb y g) l ≡ true → t || any (λ y. eqb y g) l ≡ true
    either true r = refl
    either false r = r

stands-nowhere : (l : List ℕ) (g : ℕ) → ((j : ℕ) → j < length l → get_or l j 0 ≡ g → ⊥) → any (λ y. eqb y g) l ≡ false
stands-nowhere [] g h = refl
stands-nowhere (x ∷ l) g h =
    ap (λ (t : Bool). t || any (λ y. eqb y g) l) (ne_eqb x g (h 0 (omega arith)))
    ∙ stands-nowhere l g (λ j q. h (suc j) (omega (arith, q)))

groups-more : (l : List ℕ) (e : ℕ) → groups_in (l ++ e ∷ []) ≡ groups_in l ++ cond (any (λ y. eqb y (group_number e)) (groups_in l)) [] (group_number e ∷ [])
groups-more l e =
    ap (firsts eqb) (map-append group_number l (e ∷ []))
    ∙ firsts-one_more eqb (map group_number l) (group_number e)
    ∙ ap
    (λ (t : Bool). groups_in l ++ cond t [] (group_number e ∷ []))
    (sym (any-firsts eqb eqb-true (λ y. eqb y (group_number e)) (map group_number l)))

-- one effect more
forms-more : (g : ℕ) (l : List ℕ) (e : ℕ) → forms_of g (l ++ e ∷ []) ≡ forms_of g l ++ map form_number (cond (eqb (group_number e) g) (e ∷ []) [])
forms-more g l e =
    let p : ℕ → Bool = λ x. eqb (group_number x) g in
    ap (map form_number) (keep_append p l (e ∷ [])) ∙ map-append form_number (keep p l) (keep p (e ∷ []))

form-other : (g : ℕ) (l : List ℕ) (e : ℕ) → (group_number e ≡ g → ⊥) → forms_of g (l ++ e ∷ []) ≡ forms_of g l
form-other g l e h = rw (ne_eqb (group_number e) g h) at (forms-more g l e) ∙ append-none (forms_of g l)

form-own : (g : ℕ) (l : List ℕ) (e : ℕ) → group_number e ≡ g → forms_of g (l ++ e ∷ []) ≡ forms_of g l ++ form_number e ∷ []
form-own g l e h = rw (eq-eqb (group_number e) g h) at (forms-more g l e)

-- what the form of a new effect makes of its group's
joined_new : (packed e x : ℕ) → member_of (places packed) (form_number e) ≡ false → Joined packed (form_number e) x → places x ≡ places packed ++ form_number e ∷ []
joined_new packed e x new f = rw new at f.all

module _ {es b : List ℕ} {k : ℕ} (e : ℕ) (v : Listing es b k) where
  abbrev more : List ℕ
  more = es ++ e ∷ []

  longer_by_one : length more ≡ length es + 1
  longer_by_one = length-append es (e ∷ [])

  -- no two of the groups are the same
  groups-apart : (j l : ℕ) → j < k → l < k → group_in b j ≡ group_in b l → j ≡ l
  groups-apart j l h g q =
      apart (groups_in es) (firsts-once eqb (map group_number es)) j l (omega (arith, v.count, h)) (omega (arith, v.count, g))
      (sym (v.groups j h) ∙ q ∙ v.groups l g)

  -- whether it is among the effects, by its group
  stands-there :
      (j : ℕ) → j < k → group_in b j ≡ group_number e
      → member_of (places (forms_for b j)) (form_number e) ≡ any (λ u. eqb (bare u) (bare e)) es
  stands-there j h own =
      ap (λ (l : List ℕ). member_of l (form_number e)) (v.forms j h ∙ ap (λ (g : ℕ). forms_of g es) own) ∙ form-stands e es

  stands-not : ((j : ℕ) → j < k → group_in b j ≡ group_number e → ⊥) → any (λ u. eqb (bare u) (bare e)) es ≡ false
  stands-not new = sym (form-stands e es) ∙ ap (λ (l : List ℕ). member_of l (form_number e)) (v.others (group_number e) new)

  -- its group is there
  module _ (j x : ℕ) (low : j < k) (wide : 2 * k ≤ length b) (own : group_in b j ≡ group_number e)
      (new : member_of (places (forms_for b j)) (form_number e) ≡ false) (f : Joined (forms_for b j) (form_number e) x) where
    abbrev joined : List ℕ
    joined = set b (2 * j + 1) x

    group-kept : (l : ℕ) → group_in joined l ≡ group_in b l
    group-kept l = get_or-set_other b (2 * j + 1) (2 * l) x 0 (λ q. omega (arith, q))

    forms-own : forms_for joined j ≡ x
    forms-own = get_or-set_same b (2 * j + 1) x 0 (omega (arith, wide, low))

    forms-kept : (l : ℕ) → (l ≡ j → ⊥) → forms_for joined l ≡ forms_for b l
    forms-kept l d = get_or-set_other b (2 * j + 1) (2 * l + 1) x 0 (λ q. d (omega (arith, q)))

    same-groups : groups_in more ≡ groups_in es
    same-groups =
        let t : any (λ y. eqb y (group_number e)) (groups_in es) ≡ true =
        stands_at (groups_in es) j (group_number e) (omega (arith, v.count, low)) (sym (v.groups j low) ∙ own) in
        rw t at (groups-more es e) ∙ append-none (groups_in es)

    all-formed : AllFormed joined k
    all-formed l h = by_cases (eqb l j) refl
      where
        by_cases : (t : Bool) → eqb l j ≡ t → Formed (forms_for joined l)
        by_cases true q =
            subst Formed (sym (ap (forms_for joined) (eqb-true l j q) ∙ forms-own)) (formed_next (v.formed j low) (omega arith) f)
        by_cases false q = subst Formed (sym (forms-kept l (eqb-false l j q))) (v.formed l h)

    all-forms : (l : ℕ) → l < k → places (forms_for joined l) ≡ forms_of (group_in joined l) more
    all-forms l h = by_cases (eqb l j) refl ∙ ap (λ (g : ℕ). forms_of g more) (sym (group-kept l))
      where
        by_cases : (t : Bool) → eqb l j ≡ t → places (forms_for joined l) ≡ forms_of (group_in b l) more
        by_cases true q =
            let same : l ≡ j = eqb-true l j q in
            ap places (ap (forms_for joined) same ∙ forms-own)
            ∙ joined_new (forms_for b j) e x new f
            ∙ ap (λ (fs : List ℕ). fs ++ form_number e ∷ []) (v.forms j low)
            ∙ sym (form-own (group_in b j) es e (sym own))
            ∙ ap (λ (o : ℕ). forms_of (group_in b o) more) (sym same)
        by_cases false q =
            let d : l ≡ j → ⊥ = eqb-false l j q in
            ap places (forms-kept l d)
            ∙ v.forms l h
            ∙ sym (form-other (group_in b l) es e (λ p. d (groups-apart l j h low (sym p ∙ sym own))))

    listing-there : Listing more joined k
    listing-there = record {
      few = omega (arith, v.few, longer_by_one);
      count = v.count ∙ sym (ap length same-groups);
      groups = λ l h. group-kept l ∙ v.groups l h ∙ sym (ap (λ (gs : List ℕ). get_or gs l 0) same-groups);
      formed = all-formed;
      forms = all-forms;
      others = λ g h.
          form-other g es e (λ q. h j low (group-kept j ∙ own ∙ q)) ∙ v.others g (λ l p q. h l p (group-kept l ∙ q));
    }

  -- its group is new
  module _ (x : ℕ) (wide : 2 * k + 1 < length b) (new : (j : ℕ) → j < k → group_in b j ≡ group_number e → ⊥) (f : Joined 0 (form_number e) x) where
    abbrev longer : List ℕ
    longer = set (set b (2 * k) (group_number e)) (2 * k + 1) x

    group-before : (l : ℕ) → l < k → group_in longer l ≡ group_in b l
    group-before l h =
        get_or-set_other (set b (2 * k) (group_number e)) (2 * k + 1) (2 * l) x 0 (λ q. omega (arith, q))
        ∙ get_or-set_other b (2 * k) (2 * l) (group_number e) 0 (λ q. omega (arith, q, h))

    forms-before : (l : ℕ) → l < k → forms_for longer l ≡ forms_for b l
    forms-before l h =
        get_or-set_other (set b (2 * k) (group_number e)) (2 * k + 1) (2 * l + 1) x 0 (λ q. omega (arith, q, h))
        ∙ get_or-set_other b (2 * k) (2 * l + 1) (group_number e) 0 (λ q. omega (arith, q, h))

    group-last : group_in longer k ≡ group_number e
    group-last =
        get_or-set_other (set b (2 * k) (group_number e)) (2 * k + 1) (2 * k) x 0 (λ q. omega (arith, q))
        ∙ get_or-set_same b (2 * k) (group_number e) 0 (omega (arith, wide))

    forms-last : forms_for longer k ≡ x
    forms-last =
        get_or-set_same (set b (2 * k) (group_number e)) (2 * k + 1) x 0 (omega (arith, wide, length-set b (2 * k) (group_number e)))

    one_more : groups_in more ≡ groups_in es ++ group_number e ∷ []
    one_more =
        let t : any (λ y. eqb y (group_number e)) (groups_in es) ≡ false =
        stands-nowhere (groups_in es) (group_number e)
        (λ j h q. let l : j < k = omega (arith, h, v.count) in new j l (v.groups j l ∙ q)) in
        rw t at (groups-more es e)

    -- the last of the groups is the new one
    last_or : (P : ℕ → Type 0) → P k → ((l : ℕ) → l < k → P l) → (l : ℕ) → l < k + 1 → P l
    last_or P own others l h = by_cases (eqb l k) refl
      where
        by_cases : (t : Bool) → eqb l k ≡ t → P l
        by_cases true q = subst P (sym (eqb-true l k q)) own
        by_cases false q = let d : l ≡ k → ⊥ = eqb-false l k q in others l (omega (arith, d, h))

    groups-longer : (l : ℕ) → l < k + 1 → group_in longer l ≡ get_or (groups_in es ++ group_number e ∷ []) l 0
    groups-longer =
        last_or (λ l. group_in longer l ≡ get_or (groups_in es ++ group_number e ∷ []) l 0)
        (group-last
        ∙ sym
        (ap (λ (o : ℕ). get_or (groups_in es ++ group_number e ∷ []) o 0) v.count ∙ get_or-append_seam (groups_in es) (group_number e) [] 0))
        (λ l h.
        group-before l h
        ∙ v.groups l h
        ∙ sym (get_or-append (groups_in es) (group_number e ∷ []) 0 l (omega (arith, h, v.count))))

    first-form : places x ≡ forms_of (group_number e) more
    first-form =
        joined_new 0 e x (ap (λ (l : List ℕ). member_of l (form_number e)) (no_place 0 refl)) f
        ∙ ap (λ (fs : List ℕ). fs ++ form_number e ∷ []) (no_place 0 refl ∙ sym (v.others (group_number e) new))
        ∙ sym (form-own (group_number e) es e refl)

    forms-longer : (l : ℕ) → l < k + 1 → places (forms_for longer l) ≡ forms_of (group_in longer l) more
    forms-longer =
        last_or (λ l. places (forms_for longer l) ≡ forms_of (group_in longer l) more)
        (ap places forms-last ∙ first-form ∙ ap (λ (g : ℕ). forms_of g more) (sym group-last))
        (λ l h.
        ap places (forms-before l h)
        ∙ v.forms l h
        ∙ sym (form-other (group_in b l) es e (λ q. new l h (sym q)))
        ∙ ap (λ (g : ℕ). forms_of g more) (sym (group-before l h)))

    listing-behind : Listing more longer (k + 1)
    listing-behind = record {
      few = omega (arith, v.few, longer_by_one);
      count = omega (arith, v.count, ap length one_more, length-append (groups_in es) (group_number e ∷ []));
      groups = λ l h. groups-longer l h ∙ sym (ap (λ (gs : List ℕ). get_or gs l 0) one_more);
      formed =
          last_or (λ l. Formed (forms_for longer l))
          (subst Formed (sym forms-last) (formed_next forms-none (omega arith) f))
          (λ l h. subst Formed (sym (forms-before l h)) (v.formed l h));
      forms = forms-longer;
      others = λ g h.
          form-other g es e (λ q. h k (omega arith) (group-last ∙ q))
          ∙ v.others g (λ l p q. h l (omega (arith, p)) (group-before l p ∙ q));
    }

  -- whether it is a repeat, and the groups with it
  pub put-told : {c : List ℕ} {t : Bool} {r : ℕ} → EffectPut b c k e t r → any (λ u. eqb (bare u) (bare e)) es ≡ t
  put-told (put-before j low own there q) = sym (stands-there j low own) ∙ there
  put-told (put-there j x low own new f q) = sym (stands-there j low own) ∙ new
  put-told (put-behind x new f q) = stands-not new

  pub listing_next : {c : List ℕ} {t : Bool} {r : ℕ} → 2 * k + 1 < length b → EffectPut b c k e t r → Listing (cond t es more) c r
  listing_next wide (put-before j low own there q) = subst (λ (l : List ℕ). Listing es l k) (sym q) v
  listing_next wide (put-there j x low own new f q) =
      subst (λ (l : List ℕ). Listing more l k) (sym q) (listing-there j x low (omega (arith, wide)) own new f)
  listing_next wide (put-behind x new f q) =
      subst (λ (l : List ℕ). Listing more l (k + 1)) (sym q) (listing-behind x wide new f)

-- none of one group more
pub index-next :
    (listed : List ℕ) {g j : ℕ} → ((l : ℕ) → l < j → group_in listed l ≡ g → ⊥) → (group_in listed j ≡ g → ⊥)
    → (l : ℕ) → l < j + 1 → group_in listed l ≡ g → ⊥
index-next listed {g} {j} before here l h = by_cases (eqb l j) refl
  where
    by_cases : (t : Bool) → eqb l j ≡ t → group_in listed l ≡ g → ⊥
    by_cases true q e = here (ap (group_in listed) (sym (eqb-true l j q)) ∙ e)
    by_cases false q e = let d : l ≡ j → ⊥ = eqb-false l j q in before l (omega (arith, d, h)) e

-- an effect whose group is nowhere, as code has it
pub behind-put :
    {b : List ℕ} {k e g j x : ℕ} → g ≡ group_number e → IndexFound b k g j → k ≤ j → Joined 0 (form_number e) x
    → EffectPut b (set (set b (2 * k) g) (2 * k + 1) x) k e false (k + 1)
behind-put {b} {k} {e} {g} {j} {x} own found h f =
    put-behind x
    (λ l q d. found.before l (omega (arith, h, q)) (d ∙ sym own))
    f
    (ap (λ (y : ℕ). set (set b (2 * k) y) (2 * k + 1) x) own)

-- so long is the run afterwards
pub put-length : {b c : List ℕ} {k e r : ℕ} {t : Bool} → EffectPut b c k e t r → length c ≡ length b
put-length (put-before j low own there q) = ap length q
put-length {b} (put-there j x low own new f q) = ap length q ∙ length-set b (2 * j + 1) x
put-length {b} {k = k} {e = e} (put-behind x new f q) =
    ap length q ∙ length-set (set b (2 * k) (group_number e)) (2 * k + 1) x ∙ length-set b (2 * k) (group_number e)

pub listing_end :
    (work : List ℕ) (m : ℕ) {listed : List ℕ} {k : ℕ} → m ≤ 64 → m ≤ length work → Listing (take m work) listed k
    → GroupsListed (map effect_of (take m work)) listed k
listing_end work m {listed} {k} low room v =
    listed-means work listed m low room k (omega (arith, v.few, length-take-le m work room, low)) v.count v.groups
    (λ j h. record { all = v.forms j h; snug = (v.formed j h).snug })
