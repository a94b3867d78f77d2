-- Statements as they are read: the first 32 are kept, and from a cursor those behind them can be read again.
-- Assumes nothing.
use Prim.Native.Nat.{ℕ, suc, ◌+◌, ◌≤◌, ◌<◌}
use native.Mathlib.Numerals.{add-one}
use native.Mathlib.Omega.{arith}
use mathlib.Core.Path.{◌≡◌, refl, ◌∙◌, ap, sym, subst}
use mathlib.Core.Bool.{Bool, true, false, cond}
use mathlib.Core.List.{List, [], ◌∷◌, ◌++◌, map, map-append}
use mathlib.Core.Logic.{◌⊎◌, inl, inr, ⊎_elim}
use mathlib.Core.Option.{Option, some, none}
use borrow.Author.Tests.{ltb-true, ltb-false, eqb-true}
use lib.Dec.{ltb, eqb}
use lib.ListN.{length, take, drop, set, get_or, length-set, length-append, drop_of_length-le, get_or-map}
use lib.Seq.{take_all, take-append-le, drop-append-le, take-suc-set, get_or-take, drop-cons}
use Rattle.tokens.specs.declared.Cursor.{Cursor}
use Rattle.tokens.specs.Spelling.{spell_all}
use Rattle.text.proofs.Passing.{all_at}
use Rattle.reading.specs.Statement.{Statement}
use Rattle.reading.specs.Answer.{Answer, accepted, refused}
use Rattle.reading.specs.Read.{between, prepend, read_text}
use Rattle.reading_laws.specs.Admitted.{Admitted}
use Rattle.reading_laws.specs.Reads.{prepend_all}
use Rattle.reading_laws.specs.Spelled.{as_read}
use Rattle.reading_laws.proofs.Joining.{accepted-text, accepted-short}
use Rattle.reading_laws.proofs.Spelled.{text-as_read}
use Rattle.canonical.specs.Canonical.{statement_shapes}
use Rattle.canonical_laws.proofs.Shorter.{not_longer}
use Rattle.resolving.specs.Symbols.{Definition, defines, lets}
use Rattle.read_forms.specs.declared.Statement as parsed
use Rattle.read_forms.specs.declared.Statement.TheVariants as form
use Rattle.read_forms.specs.Forms.{statement_in}
use Rattle.read_statements.specs.Answers.{reading_at}
use Rattle.read_space.specs.declared.Form.{Form}
use Rattle.read_space.specs.Space.{form_in}
use Rattle.read_space.specs.Fit.{Fit}
use Rattle.read_space.proofs.Fitting.{one_shorter}
use Rattle.resolve_taking.specs.declared.Again.{Again}
use Rattle.resolve_taking.specs.Again.{end_after, start_after, AgainAs}
use Rattle.resolve_taking.specs.Collected.{present}

lt-or_ge : (a b : ℕ) → (a < b) ⊎ (b ≤ a)
lt-or_ge a b = by (ltb a b) refl
  where
    by : (t : Bool) → ltb a b ≡ t → (a < b) ⊎ (b ≤ a)
    by true t = inl (ltb-true a b t)
    by false t = inr (ltb-false a b t)

-- Statements in front of an answer.

prepend-last : (xs : List Statement) (y : Statement) (a : Answer (List Statement)) → prepend_all (xs ++ y ∷ []) a ≡ prepend_all xs (prepend y a)
prepend-last [] y a = refl
prepend-last (x ∷ xs) y a = ap (prepend x) (prepend-last xs y a)

prepend-none : (xs : List Statement) → prepend_all xs (accepted []) ≡ accepted xs
prepend-none [] = refl
prepend-none (x ∷ xs) = ap (prepend x) (prepend-none xs)

prepend-refused : (xs : List Statement) (k p : ℕ) → prepend_all xs (refused k p) ≡ refused k p
prepend-refused [] k p = refl
prepend-refused (x ∷ xs) k p = ap (prepend x) (prepend-refused xs k p)

-- LETs behind an index: a statement that is no LET adds none.

present-last : (ds : List (Option Definition)) → present (ds ++ none ∷ []) ≡ present ds
present-last [] = refl
present-last (none ∷ ds) = present-last ds
present-last (some d ∷ ds) = ap (λ (l : List Definition). d ∷ l) (present-last ds)

-- So many statements were read. The first 32 are kept; from `later` on those behind them are read again; and no LET stands before
-- `start`, nor from `end` on.
pub record Reading (limit : ℕ) (s : List ℕ) (forms : List Form) (count cur later start end : ℕ) : Type 0 where
  pub ss : List Statement
  pub read : reading_at limit s 0 between 0 ≡ prepend_all ss (reading_at limit s count between cur)
  pub many : length ss ≡ count
  pub few : count ≤ cur
  pub most : count ≤ 256
  pub wide : length forms ≡ 32
  pub kept : take 32 ss ≡ map (form_in s) (take count forms)
  pub behind : 32 ≤ count → reading_at limit s 32 between later ≡ prepend_all (drop 32 ss) (reading_at limit s count between cur)
  pub from : 32 ≤ count → 32 ≤ later
  pub early : (start ≤ count) × (start ≤ 32)
  pub calm : present (lets (take start ss)) ≡ []
  pub bound : end ≤ count
  pub quiet : present (lets (drop end ss)) ≡ []

pub none_read : (limit : ℕ) (s : List ℕ) (forms : List Form) → length forms ≡ 32 → Reading limit s forms 0 0 0 0 0
none_read limit s forms w =
    record {
      ss = [];
      read = refl;
      many = refl;
      few = omega arith;
      most = omega arith;
      wide = w;
      kept = refl;
      behind = λ h. absurd (omega (arith, h));
      from = λ h. absurd (omega (arith, h));
      early = (omega arith, omega arith);
      calm = refl;
      bound = omega arith;
      quiet = refl;
    }

module _ {limit : ℕ} {s : List ℕ} {forms : List Form} {count cur later start end : ℕ} (g : Reading limit s forms count cur later start end) where
  -- a refusal is that of all
  pub refused-read : (k p : ℕ) → reading_at limit s count between cur ≡ refused k p → reading_at limit s 0 between 0 ≡ refused k p
  refused-read k p e = g.read ∙ ap (prepend_all g.ss) e ∙ prepend-refused g.ss k p

  -- one more
  module _ (st : parsed.Statement) (p : ℕ) (e : reading_at limit s count between cur ≡ prepend (statement_in s st) (reading_at limit s (suc count) between p))
      (far : cur < p) (under : count < 256) where
    abbrev this : Statement
    this = statement_in s st

    abbrev more : List Statement
    more = g.ss ++ this ∷ []

    length_more : length more ≡ suc count
    length_more = omega (arith, g.many, length-append g.ss (this ∷ []))

    quiet-more : (x : parsed.Statement) → st ≡ x → (end_after x count end ≤ suc count) × (present (lets (drop (end_after x count end) more)) ≡ [])
    unfolding end_after statement_in
    quiet-more (form.Let name values) q =
        (omega arith, ap (λ (l : List Statement). present (lets l)) (drop_of_length-le more {i = count + 1} (omega (arith, length_more))))
    quiet-more (form.Feature f) q =
        let b : end ≤ length g.ss = omega (arith, g.bound, g.many) in
        let z : defines this ≡ none = ap (λ (x : parsed.Statement). defines (statement_in s x)) q in (
          omega (arith, g.bound),
          ap (λ (l : List Statement). present (lets l)) (drop-append-le end g.ss (this ∷ []) b)
              ∙ ap present (map-append defines (drop end g.ss) (this ∷ []))
              ∙ ap (λ (o : Option Definition). present (lets (drop end g.ss) ++ o ∷ [])) z
              ∙ present-last (lets (drop end g.ss))
              ∙ g.quiet,
        )

    -- what stands before `start` is no LET, where it stays, and where there was none so far
    calm-same : (start ≤ suc count) × (present (lets (take start more)) ≡ [])
    calm-same =
        let b : start ≤ length g.ss = omega (arith, g.early.0, g.many) in
        (omega (arith, g.early.0), ap (λ (l : List Statement). present (lets l)) (take-append-le start g.ss (this ∷ []) b) ∙ g.calm)

    calm-all : end_after st count end ≡ 0 → present (lets (take (count + 1) more)) ≡ []
    calm-all z =
        ap (λ (l : List Statement). present (lets l)) (take_all (count + 1) more (omega (arith, length_more)))
        ∙ ap (λ (k : ℕ). present (lets (drop k more))) (sym z)
        ∙ (quiet-more st refl).1

    calm-kept : count < 32 → (t : Bool) → eqb (end_after st count end) 0 ≡ t
        → let k = cond t (count + 1) start in
        ((k ≤ suc count) × (k ≤ 32)) × (present (lets (take k more)) ≡ [])
    calm-kept h true q = ((omega arith, omega (arith, h)), calm-all (eqb-true (end_after st count end) 0 q))
    calm-kept h false q = ((calm-same.0, g.early.1), calm-same.1)

    read-on : (forms' : List Form) (later' start' : ℕ)
        → length forms' ≡ 32
        → take 32 more ≡ map (form_in s) (take (suc count) forms')
        → (32 ≤ suc count → reading_at limit s 32 between later' ≡ prepend_all (drop 32 more) (reading_at limit s (suc count) between p))
        → (32 ≤ suc count → 32 ≤ later')
        → ((start' ≤ suc count) × (start' ≤ 32)) × (present (lets (take start' more)) ≡ [])
        → Reading limit s forms' (count + 1) p later' start' (end_after st count end)
    read-on forms' later' start' w k b f c =
        subst (λ (c : ℕ). Reading limit s forms' c p later' start' (end_after st count end)) (sym (add-one count))
        (record {
          ss = more;
          read = g.read ∙ ap (prepend_all g.ss) e ∙ sym (prepend-last g.ss this (reading_at limit s (suc count) between p));
          many = length_more;
          few = omega (arith, g.few);
          most = omega arith;
          wide = w;
          kept = k;
          behind = b;
          from = f;
          early = c.0;
          calm = c.1;
          bound = (quiet-more st refl).0;
          quiet = (quiet-more st refl).1;
        })

    -- it is kept
    pub one_kept : count < 32 → Reading limit s (set forms count (record { statement = st })) (count + 1) p p
        (start_after count start (end_after st count end)) (end_after st count end)
    one_kept h =
        read-on (set forms count (record { statement = st })) p (start_after count start (end_after st count end))
        (length-set forms count (record { statement = st }) ∙ g.wide)
        (take_all 32 more (omega (arith, length_more))
        ∙ ap (λ (l : List Statement). l ++ this ∷ []) (sym (take_all 32 g.ss (omega (arith, g.many))) ∙ g.kept)
        ∙ sym (map-append (form_in s) (take count forms) (record { statement = st } ∷ []))
        ∙ ap (map (form_in s)) (sym (take-suc-set forms count (record { statement = st }) (omega (arith, g.wide)))))
        (λ q.
        let c : 32 ≡ suc count = omega arith in
        ap (λ (k : ℕ). reading_at limit s k between p) c
        ∙ ap (λ (l : List Statement). prepend_all l (reading_at limit s (suc count) between p))
        (sym (drop_of_length-le more {i = 32} (omega (arith, length_more)))))
        (λ q. omega (arith, g.few))
        (calm-kept h (eqb (end_after st count end) 0) refl)

    -- it is passed
    pub one-passed : 32 ≤ count → Reading limit s forms (count + 1) p later start (end_after st count end)
    one-passed h =
        let c : 32 ≤ length g.ss = omega (arith, g.many) in
        let w : length forms ≤ count = omega (arith, g.wide) in
        let w' : length forms ≤ suc count = omega (arith, g.wide) in
        read-on forms later start g.wide
        (take-append-le 32 g.ss (this ∷ []) c ∙ g.kept ∙ ap (map (form_in s)) (take_all count forms w ∙ sym (take_all (suc count) forms w')))
        (λ q.
        g.behind h
        ∙ ap (prepend_all (drop 32 g.ss)) e
        ∙ sym (prepend-last (drop 32 g.ss) this (reading_at limit s (suc count) between p))
        ∙ ap (λ (l : List Statement). prepend_all l (reading_at limit s (suc count) between p)) (sym (drop-append-le 32 g.ss (this ∷ []) c)))
        (λ q. g.from h)
        ((calm-same.0, g.early.1), calm-same.1)

-- the same of the same
pub same_reading : {limit : ℕ} {s : List ℕ} {forms forms' : List Form} {count cur : ℕ} {later later' : Cursor} {start start' end end' : ℕ}
    → forms' ≡ forms
    → later' ≡ later
    → start' ≡ start
    → end' ≡ end
    → Reading limit s forms count cur later.at start end
    → Reading limit s forms' count cur later'.at start' end'
same_reading {limit} {s} {forms} {forms'} {count} {cur} {later} {later'} {start} {start'} {end} {end'} a b d c g =
    subst (λ (fs : List Form). Reading limit s fs count cur later'.at start' end') (sym a)
    (subst (λ (q : Cursor). Reading limit s forms count cur q.at start' end') (sym b)
    (subst (λ (k : ℕ). Reading limit s forms count cur later.at k end') (sym d)
    (subst (λ (k : ℕ). Reading limit s forms count cur later.at start k) (sym c) g)))

-- All statements of a text are read, and taken in order: those from an index on are kept, or are read again from a cursor. `next` is the first that is
-- read there.
pub record Ahead (limit : ℕ) (s : List ℕ) (ss : List Statement) (i at : ℕ) : Type 0 where
  pub next : ℕ
  pub near : i < 32 → next ≡ 32
  pub far : 32 ≤ i → next ≡ i
  pub left : next ≤ length ss → reading_at limit s next between at ≡ accepted (drop next ss)
  pub few : next ≤ length ss → next ≤ at

-- All were read, to the text's end.
pub record AllRead (limit : ℕ) (s : List ℕ) (ss : List Statement) (forms : List Form) (count later start end : ℕ) : Type 0 where
  pub read : read_text limit s ≡ accepted ss
  pub many : length ss ≡ count
  pub most : count ≤ 256
  pub wide : length forms ≡ 32
  pub kept : take 32 ss ≡ map (form_in s) (take count forms)
  pub ahead : Ahead limit s ss 0 later
  pub early : (start ≤ count) × (start ≤ 32)
  pub calm : present (lets (take start ss)) ≡ []
  pub bound : end ≤ count
  pub quiet : present (lets (drop end ss)) ≡ []

-- the statements of a text
pub statements_of : Answer (List Statement) → List Statement
statements_of (accepted ss) = ss
statements_of (refused k p) = []

unfoldable pub text_statements : ℕ → List ℕ → List Statement
text_statements limit s = statements_of (read_text limit s)

pub all_read :
    {limit : ℕ} {s : List ℕ} {forms : List Form} {count cur later start end : ℕ} (g : Reading limit s forms count cur later start end)
    → Admitted limit s
    → reading_at limit s count between cur ≡ accepted []
    → AllRead limit s (text_statements limit s) forms count later start end
unfolding text_statements statements_of
all_read {limit} {s} {forms} {count} {cur} {later} {start} {end} g h e =
    let r : read_text limit s ≡ accepted g.ss = accepted-text limit s g.ss h (g.read ∙ ap (prepend_all g.ss) e ∙ prepend-none g.ss) in
    subst (λ (ss : List Statement). AllRead limit s ss forms count later start end) (sym (ap statements_of r))
    (record {
      read = r;
      many = g.many;
      most = g.most;
      wide = g.wide;
      kept = g.kept;
      ahead = record {
        next = 32;
        near = λ h. refl;
        far = λ h. absurd (omega (arith, h));
        left = λ h. g.behind (omega (arith, h, g.many)) ∙ ap (prepend_all (drop 32 g.ss)) e ∙ prepend-none (drop 32 g.ss);
        few = λ h. g.from (omega (arith, h, g.many));
      };
      early = g.early;
      calm = g.calm;
      bound = g.bound;
      quiet = g.quiet;
    })

-- the first that is not passed by is kept, or is the first that is read again
pub ahead-start : {limit : ℕ} {s : List ℕ} {ss : List Statement} {forms : List Form} {count later start end : ℕ}
    → AllRead limit s ss forms count later start end → Ahead limit s ss start later
ahead-start {start} g =
    let a = g.ahead in
    let n : a.next ≡ 32 = a.near (omega arith) in
    record { next = a.next; near = λ _. n; far = λ h. omega (arith, n, h, g.early.1); left = a.left; few = a.few }

-- what a cursor has to be for the statement at an index
pub ahead-few : {limit : ℕ} {s : List ℕ} {ss : List Statement} {i at : ℕ} → Ahead limit s ss i at → i < length ss → 32 ≤ i → i ≤ at
ahead-few {ss} {i} a h q =
    let e : a.next ≡ i = a.far q in
    let k = a.few (omega (arith, e, h)) in
    omega (arith, k, e)

-- The statement at an index is this one, and reading goes on behind it.
pub record Here (limit : ℕ) (s : List ℕ) (ss : List Statement) (i : ℕ) (r : Again) : Type 0 where
  pub first : drop i ss ≡ statement_in s r.statement ∷ drop (suc i) ss
  pub ahead : Ahead limit s ss (i + 1) r.next.at

module _ {limit : ℕ} {s : List ℕ} {ss : List Statement} {forms : List Form} {count later start end : ℕ} (g : AllRead limit s ss forms count later start end)
    {i : ℕ} {at : Cursor} (a : Ahead limit s ss i at.at) (h : i < count) (d : Form) where
  within : i < length ss
  within = omega (arith, h, g.many)

  -- the statement at the index, where it is kept
  kept_at : i < 32 → get_or ss i (form_in s d) ≡ form_in s (get_or forms i d)
  kept_at q =
      sym (get_or-take 32 ss i (form_in s d) q)
      ∙ ap (λ (l : List Statement). get_or l i (form_in s d)) g.kept
      ∙ get_or-map (form_in s) (take count forms) i d
      ∙ ap (form_in s) (get_or-take count forms i d h)

  pub here : {j : ℕ} {r : Again} → (i < 32 → j ≡ i) → AgainAs limit s (get_or forms j d) at i r → Here limit s ss i r
  here {j} {r} slot w = ⊎_elim near far (lt-or_ge i 32)
    where
      near : i < 32 → Here limit s ss i r
      near q =
          let k = w.near q in
          record {
            first =
                drop-cons ss i (form_in s d) within
                ∙ ap (λ (x : Statement). x ∷ drop (suc i) ss)
                (kept_at q ∙ sym (ap (λ (j : ℕ). form_in s (get_or forms j d)) (slot q)) ∙ sym (ap (statement_in s) k.0));
            ahead =
                subst (λ (c : Cursor). Ahead limit s ss (i + 1) c.at) (sym k.1)
                (record {
                  next = a.next;
                  near = λ _. a.near q;
                  far = λ f. omega (arith, a.near q, q, f);
                  left = a.left;
                  few = a.few;
                });
          }

      far : 32 ≤ i → Here limit s ss i r
      far q =
          let e : a.next ≡ i = a.far q in
          let n : a.next ≤ length ss = omega (arith, e, within) in
          let k = w.far q (get_or ss i (form_in s d)) (drop (suc i) ss)
          (ap (λ (k : ℕ). reading_at limit s k between at.at) (sym e) ∙ a.left n
          ∙ ap (λ (k : ℕ). accepted (drop k ss)) e ∙ ap accepted (drop-cons ss i (form_in s d) within)) in
          record {
            first =
                drop-cons ss i (form_in s d) within ∙ ap (λ (x : Statement). x ∷ drop (suc i) ss) (sym k.same);
            ahead =
                subst (λ (c : ℕ). Ahead limit s ss c r.next.at) (sym (add-one i))
                (record {
                  next = suc i;
                  near = λ f. absurd (omega (arith, f, q));
                  far = λ f. refl;
                  left = λ f. k.others;
                  few = λ f. omega (arith, k.further, a.few n, e);
                });
          }

-- A statement of an accepted text fits.
pub here-fits : {limit : ℕ} {s : List ℕ} {ss : List Statement} {i : ℕ} {r : Again}
    → read_text limit s ≡ accepted ss
    → i < length ss
    → Here limit s ss i r
    → Fit s r.statement
here-fits {limit} {s} {ss} {i} {r} e h x =
    let y = statement_in s r.statement in
    let z : get_or ss i y ≡ y = first-is (sym (drop-cons ss i y h) ∙ x.first) in
    record {
      limit = limit;
      read = subst (λ (x : Statement). as_read limit (length s) x ≡ true) z (all_at (as_read limit (length s)) ss i y (text-as_read limit s ss e) h);
      short =
          subst (λ (x : Statement). length (spell_all (statement_shapes x)) ≤ 16384) z
          (omega (arith, one_shorter ss i y h, not_longer limit s ss e, accepted-short limit s ss e));
    }
  where
    first-is : {x y : Statement} {xs ys : List Statement} → ◌≡◌ {A = List Statement} (x ∷ xs) (y ∷ ys) → x ≡ y
    first-is e = cc

-- What a cursor has ahead: the next statement with what follows it, and nothing else.

prepended : {x y : Statement} {ys : List Statement} (a : Answer (List Statement)) → prepend x a ≡ accepted (y ∷ ys) → (x ≡ y) × (a ≡ accepted ys)
prepended (accepted xs) e = (cc, cc)
prepended (refused k p) e = let z : ◌≡◌ {A = ℕ} 0 1 = cc in absurd (omega arith)

module _ {limit : ℕ} {s : List ℕ} {kept : Form} {later : Cursor} {i : ℕ} where
  pub again_kept : i < 32 → AgainAs limit s kept later i (record { statement = kept.statement; next = later })
  again_kept h = record { near = λ q. (refl, refl); far = λ q x xs e. absurd (omega (arith, h, q)) }

  pub again-read : (st : parsed.Statement) (p : Cursor)
      → 32 ≤ i
      → reading_at limit s i between later.at ≡ prepend (statement_in s st) (reading_at limit s (suc i) between p.at)
      → later.at < p.at
      → AgainAs limit s kept later i (record { statement = st; next = p })
  again-read st p h e f =
      record {
        near = λ q. absurd (omega (arith, h, q));
        far = λ q x xs u.
            let k = prepended (reading_at limit s (suc i) between p.at) (sym e ∙ u) in
            record { same = k.0; others = k.1; further = f };
      }

  pub again-ended : {r : Again} → 32 ≤ i → reading_at limit s i between later.at ≡ accepted [] → AgainAs limit s kept later i r
  again-ended h e =
      record {
        near = λ q. absurd (omega (arith, h, q));
        far = λ q x xs u. absurd (not_more (sym e ∙ u));
      }
    where
      not_more : {x : Statement} {xs : List Statement} → accepted [] ≡ accepted (x ∷ xs) → ⊥
      not_more e = let z : ◌≡◌ {A = ℕ} 0 1 = cc in omega arith

  pub again-refused : {r : Again} (k p : ℕ) → 32 ≤ i → reading_at limit s i between later.at ≡ refused k p → AgainAs limit s kept later i r
  again-refused k p h e =
      record {
        near = λ q. absurd (omega (arith, h, q));
        far = λ q x xs u. absurd (not-refused (sym e ∙ u));
      }
    where
      not-refused : {xs : List Statement} → refused k p ≡ accepted xs → ⊥
      not-refused e = let z : ◌≡◌ {A = ℕ} 0 1 = cc in omega arith
