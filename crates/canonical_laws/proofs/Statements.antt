-- The tokens of well formed statements are read as these statements again, where all places are forgotten.
-- Assumes nothing.
use Prim.Native.Nat.{ℕ, suc, ◌+◌, ◌≤◌, ◌<◌}
use native.Mathlib.Omega.{arith}
use mathlib.Core.Path.{◌≡◌, refl, ◌∙◌, ap, sym}
use mathlib.Core.Bool.{Bool, true, false}
use mathlib.Core.List.{List, [], ◌∷◌, ◌++◌, map, append_assoc, append-nil}
use borrow.Author.Tests.{lt-leb, not-true}
use lib.ListN.{length}
use Rattle.text.specs.Bytes.{bytes}
use Rattle.tokens.specs.Class.{class_of}
use Rattle.tokens.specs.Token.{Shape, word}
use Rattle.tokens.specs.Spelling.{is_word}
use Rattle.text.specs.Lists.{all}
use Rattle.token_laws.proofs.Spelled.{word_no_number}
use Rattle.text.proofs.Tests.{and_left, and_right}
use Rattle.labels.specs.Word.{same_word}
use Rattle.labels.specs.Label.{keywords}
use Rattle.reading.specs.Statement.{Name, a_word, Item, Feature, Statement, Let, feature}
use Rattle.reading.specs.Parts.{feature_parts, parts_of}
use Rattle.reading.specs.Answer.{accepted}
use Rattle.reading.specs.Argument.{Arg}
use Rattle.reading.specs.Feature.{build_feature}
use Rattle.reading.specs.Syntax.{feature_call, let_call, argument, name, opened, feature_made, let_made, closed, turn}
use Rattle.reading.specs.Read.{between, ended, inside, prepend, onward, read_from}
use Rattle.reading_laws.specs.WellFormed.{one_to64, well_item, well_feature, well_formed}
use Rattle.canonical.specs.Canonical.{
  sign,
  name_shape,
  argument_shapes,
  bare_one,
  item_shape,
  parts_shapes,
  question_mark,
  call_shapes,
  keyword_at,
  taken_shapes,
  statement_shapes,
  text_shapes,
}
use Rattle.canonical_laws.specs.Forgotten.{forget, flat}
use Rattle.canonical_laws.specs.Printed.{Spelled, PrintedAll, lastly, before}
use Rattle.canonical_laws.proofs.Spelled.{none-spelled, one-spelled, sign-spelled, arguments-spelled}
use Rattle.canonical_laws.proofs.Names.{name-again, items_again}
use Rattle.canonical_laws.proofs.Features.{feature-again}

-- a call: its keyword, its `?`, and its arguments in parentheses
question_spelled : {k : List ℕ} (m : Bool) → is_word k ≡ true → Spelled (word k ∷ question_mark m)
question_spelled true e = sign-spelled "?" (one-spelled e) refl none-spelled
question_spelled false e = one-spelled e

call_spelled :
    {k : List ℕ} (m : Bool) {xs : List Shape}
    → is_word k ≡ true
    → Spelled xs
    → Spelled (word k ∷ question_mark m ++ sign "(" ∷ xs ++ sign ")" ∷ [])
call_spelled m e p = sign-spelled ")" (sign-spelled "(" (question_spelled m e) refl p) refl none-spelled

-- A well formed statement's tokens are spelled so that they are found again.
pub statement-spelled : (limit : ℕ) (s : Statement) → well_formed limit s ≡ true → Spelled (statement_shapes s)
unfolding statement_shapes parts_of keywords class_of
statement-spelled limit (Let n is) e =
    call_spelled false refl
    (sign-spelled "," (name-again limit a_word n (and_left (is_word n.spelling) (one_to64 well_item is) e)).printed.spelled refl
    (items_again limit is (and_right (is_word n.spelling) (one_to64 well_item is) e)).printed.spelled)
statement-spelled limit (feature f) e =
    let p = feature-again limit f e in
    call_spelled (feature_parts f).optional (and_left (is_word (keyword_at (feature_parts f).keyword)) _ p.starts)
    (arguments-spelled p.printed)

-- So are those of a text.
pub text-spelled : (limit : ℕ) (ss : List Statement) → all (well_formed limit) ss ≡ true → Spelled (text_shapes ss)
unfolding text_shapes
text-spelled limit [] e = none-spelled
text-spelled limit (s ∷ []) e = statement-spelled limit s (and_left (well_formed limit s) true e)
text-spelled limit (s ∷ t ∷ ss) e =
    sign-spelled ";" (statement-spelled limit s (and_left (well_formed limit s) (all (well_formed limit) (t ∷ ss)) e)) refl
    (text-spelled limit (t ∷ ss) (and_right (well_formed limit s) (all (well_formed limit) (t ∷ ss)) e))

-- all the arguments of a feature, read after others, to the `)`
arguments-read :
    {limit : ℕ} {xss : List (List Shape)} {bs : List Arg} (n : ℕ) (k : Name) (m : Bool) (done : List Arg) (rest : List Shape)
    → PrintedAll limit xss bs
    → read_from limit 0 n (inside (argument (feature_call k m done))) (flat (argument_shapes xss ++ sign ")" ∷ rest))
    ≡ onward (feature_made (build_feature limit k m (done ++ bs))) (λ s. read_from limit 0 n (inside s) (flat rest))
    (read_from limit 0 (suc n) ended (flat rest))
unfolding read_from turn closed
arguments-read n k m done rest (lastly p) = p.read n (feature_call k m done) 41 rest refl
arguments-read {limit} n k m done rest (before {xs} {ys} {yss} {a} {bs} p r) =
    ap (λ (l : List Shape). read_from limit 0 n (inside (argument (feature_call k m done))) (flat l))
    (append_assoc xs (sign "," ∷ argument_shapes (ys ∷ yss)) (sign ")" ∷ rest))
    ∙ p.read n (feature_call k m done) 44 (argument_shapes (ys ∷ yss) ++ sign ")" ∷ rest) refl
    ∙ arguments-read n k m (done ++ a ∷ []) rest r
    ∙ ap (λ (l : List Arg). onward (feature_made (build_feature limit k m l)) (λ s. read_from limit 0 n (inside s) (flat rest))
    (read_from limit 0 (suc n) ended (flat rest))) (append_assoc done (a ∷ []) bs)

-- the keyword and the `(` of a feature
feature-opened :
    (limit n : ℕ) (k : List ℕ) (m : Bool) (rest : List Shape)
    → n < 256
    → same_word k (bytes "LET") ≡ false
    → read_from limit 0 n between (flat (word k ∷ question_mark m ++ sign "(" ∷ rest))
    ≡ read_from limit 0 n (inside (argument (feature_call (name 0 k) m []))) (flat rest)
unfolding read_from turn opened
feature-opened limit n k true rest h e = simp (lt-leb 256 n h, e)
feature-opened limit n k false rest h e = simp (lt-leb 256 n h, e)

-- what comes after a call comes after its `)`
call_then :
    (k : List ℕ) (m : Bool) (args : List (List Shape)) (rest : List Shape)
    → call_shapes k m args ++ rest ≡ word k ∷ question_mark m ++ sign "(" ∷ (argument_shapes args ++ sign ")" ∷ rest)
call_then k true args rest = simp append_assoc
call_then k false args rest = simp append_assoc

feature-read :
    (limit n : ℕ) (f : Feature) (rest : List Shape)
    → well_feature limit f ≡ true
    → n < 256
    → read_from limit 0 n between (flat (taken_shapes (feature_parts f) ++ rest))
    ≡ prepend (forget (feature f)) (read_from limit 0 (suc n) ended (flat rest))
unfolding feature_made
feature-read limit n f rest e h =
    let p = feature-again limit f e in
    let k = keyword_at (feature_parts f).keyword in
    let m = (feature_parts f).optional in
    let args = parts_shapes (feature_parts f).arguments in
    let other = not-true (same_word k (bytes "LET")) (and_right (is_word k) _ p.starts) in
    ap (λ (l : List Shape). read_from limit 0 n between (flat l)) (call_then k m args rest)
    ∙ feature-opened limit n k m (argument_shapes args ++ sign ")" ∷ rest) h other
    ∙ arguments-read n (name 0 k) m [] rest p.printed
    ∙ simp p.means

let_read :
    (limit n : ℕ) (x : Name) (is : List Item) (rest : List Shape)
    → is_word x.spelling ≡ true
    → one_to64 well_item is ≡ true
    → n < 256
    → read_from limit 0 n between
    (flat (call_shapes (bytes "LET") false ((name_shape x ∷ []) ∷ bare_one (map item_shape is) ∷ []) ++ rest))
    ≡ prepend (forget (Let x is)) (read_from limit 0 (suc n) ended (flat rest))
unfolding read_from turn opened closed let_made same_word
let_read limit n x is rest w e h =
    let p = items_again limit is e in
    ap (λ (l : List Shape). read_from limit 0 n between (flat l))
    (call_then (bytes "LET") false ((name_shape x ∷ []) ∷ bare_one (map item_shape is) ∷ []) rest)
    ∙ simp (lt-leb 256 n h, word_no_number x.spelling w)
    (p.printed.read n (let_call (name 0 x.spelling)) 41 rest refl ∙ simp p.fact)

-- A well formed statement is read again from its tokens, and what comes after it is read as what comes after a statement.
statement-read :
    (limit n : ℕ) (s : Statement) (rest : List Shape)
    → well_formed limit s ≡ true
    → n < 256
    → read_from limit 0 n between (flat (statement_shapes s ++ rest)) ≡ prepend (forget s) (read_from limit 0 (suc n) ended (flat rest))
unfolding statement_shapes parts_of keywords
statement-read limit n (Let x is) rest e h =
    let_read limit n x is rest (and_left (is_word x.spelling) (one_to64 well_item is) e)
    (and_right (is_word x.spelling) (one_to64 well_item is) e) h
statement-read limit n (feature f) rest e h = feature-read limit n f rest e h

-- The tokens of well formed statements are read as these statements, as long as the whole keeps within 256.
pub text-read :
    (limit n : ℕ) (ss : List Statement)
    → all (well_formed limit) ss ≡ true
    → n + length ss ≤ 256
    → read_from limit 0 n between (flat (text_shapes ss)) ≡ accepted (map forget ss)
unfolding text_shapes read_from
text-read limit n [] e h = refl
text-read limit n (s ∷ []) e h =
    ap (λ (l : List Shape). read_from limit 0 n between (flat l)) (sym (append-nil (statement_shapes s)))
    ∙ statement-read limit n s [] (and_left (well_formed limit s) true e) (omega arith)
text-read limit n (s ∷ t ∷ ss) e h =
    statement-read limit n s (sign ";" ∷ text_shapes (t ∷ ss))
    (and_left (well_formed limit s) (all (well_formed limit) (t ∷ ss)) e) (omega arith)
    ∙ ap (prepend (forget s))
    (text-read limit (suc n) (t ∷ ss) (and_right (well_formed limit s) (all (well_formed limit) (t ∷ ss)) e) (omega arith))
