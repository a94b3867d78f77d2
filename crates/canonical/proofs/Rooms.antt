-- Print's answers for outputs of several lengths, and what the output holds afterwards, evaluated: too short, exact, longer; refused texts, whose
-- own fault is said whatever the output.
-- Assumes nothing.
use Prim.Native.Nat.{ℕ}
use Prim.Native.String.{String}
use mathlib.Core.Path.{◌≡◌, refl, ◌∙◌, sym}
use mathlib.Core.List.{List, [], ◌∷◌, map}
use Rattle.text.specs.Bytes.{bytes}
use Rattle.tokens.specs.Class.{class_of}
use Rattle.tokens.specs.Lex.{fraction, number_rest, dots, front_of, follow, tokens_after}
use Rattle.tokens.specs.Next.{scanned}
use Rattle.counts.specs.Count.{count_of}
use Rattle.counts.specs.Decimal.{digits_in, digits_of}
use Rattle.labels.specs.Word.{same_word, find}
use Rattle.labels.specs.Label.{labels_of, keywords}
use Rattle.reading.specs.Statement.{Statement}
use Rattle.reading.specs.Answer.{Answer, accepted, refused}
use Rattle.reading.specs.Argument.{place_of, count_at, range_of, items_of, operand_of, mode_list, firsts, modes_of, count_list, counts_of}
use Rattle.reading.specs.Feature.{keyword_of, transits_of, explicit, operator_of, name_of, feature_of, build_feature}
use Rattle.reading.specs.Syntax.{opened, feature_made, let_made, closed, turn}
use Rattle.reading.specs.Read.{read_from, read_text}
use Rattle.reading.specs.Parts.{feature_parts, parts_of}
use Rattle.canonical.specs.Canonical.{statement_shapes, text_shapes}
use Rattle.canonical.specs.Print.{print_text, fitting, length_of, output, Answers}
use lib.ListN.{length}

-- a text, what the output holds before, Print's answer, and what the output holds afterwards
pub record Example : Type 0 where
  pub text : String
  pub before : String
  pub answer : Answer ℕ
  pub after : String

abbrev given : String → String → Answer ℕ → String → Example
given s b a e = record { text = s; before = b; answer = a; after = e }

abbrev pub examples : List Example
examples =
    given "" "" (accepted 0) ""
    ∷ given ";#" "ab" (accepted 0) "ab"
    ∷ given "lagtime( on )" "" (refused 19 0) ""
    ∷ given "lagtime( on )" "0123456789" (refused 19 0) "0123456789"
    ∷ given "lagtime( on )" "0123456789a" (accepted 11) "LAGTIME(ON)"
    ∷ given "lagtime( on )" "0123456789abc" (accepted 11) "LAGTIME(ON)bc"
    ∷ given "LAGTIME(" "" (refused 3 8) ""
    ∷ given "LAGTIME(ON);FOO()" "0123456789abcdefgh" (refused 6 12) "0123456789abcdefgh"
    ∷ []

abbrev fitted : Example → Answer (List ℕ)
fitted e = fitting (length (bytes e.before)) (print_text 64 (bytes e.text))

pub answers_checked : map (λ e. length_of (fitted e)) examples ≡ map (λ e. e.answer) examples
unfolding read_text read_from turn opened feature_made let_made closed
    build_feature feature_of keyword_of transits_of explicit operator_of name_of
    place_of count_at range_of items_of operand_of mode_list firsts modes_of count_list counts_of
    count_of same_word find labels_of keywords
    scanned tokens_after follow front_of dots number_rest fraction class_of
    print_text text_shapes statement_shapes parts_of feature_parts digits_of digits_in
answers_checked = refl

pub outputs_checked : map (λ e. output (fitted e) (bytes e.before)) examples ≡ map (λ e. bytes e.after) examples
unfolding read_text read_from turn opened feature_made let_made closed
    build_feature feature_of keyword_of transits_of explicit operator_of name_of
    place_of count_at range_of items_of operand_of mode_list firsts modes_of count_list counts_of
    count_of same_word find labels_of keywords
    scanned tokens_after follow front_of dots number_rest fraction class_of
    print_text text_shapes statement_shapes parts_of feature_parts digits_of digits_in
outputs_checked = refl

-- What a call answers that fills an output, and the output afterwards: an answer with room to spare, one with just enough, one with too
-- little, and a refusal.

pub room_to_spare : Answers (accepted (bytes "ON")) (bytes "abcd") (bytes "ONcd") (accepted 2)
room_to_spare = record { told = refl; left = refl }

pub just_room : Answers (accepted (bytes "ON")) (bytes "ab") (bytes "ON") (accepted 2)
just_room = record { told = refl; left = refl }

pub too_little_room : Answers (accepted (bytes "ON")) (bytes "a") (bytes "a") (refused 19 0)
too_little_room = record { told = refl; left = refl }

pub refused_whatever_room : Answers (refused 3 8) [] [] (refused 3 8)
refused_whatever_room = record { told = refl; left = refl }

-- Nothing is left free: of one answer and one output there is one thing to tell and one output afterwards.
pub nothing_free :
    {a : Answer (List ℕ)} {before after other : List ℕ} {r q : Answer ℕ} → Answers a before after r → Answers a before other q
    → (r ≡ q) × (after ≡ other)
nothing_free x y = (x.told ∙ sym y.told, x.left ∙ sym y.left)
