-- Each label and each keyword is one word.
-- Assumes nothing.
use mathlib.Core.Path.{◌≡◌, refl}
use mathlib.Core.Bool.{true}
use mathlib.Core.List.{[]}
use Prim.Native.Nat.{ℕ, ◌<◌}
use lib.ListN.{length, get_or}
use Rattle.tokens.specs.Class.{class_of}
use Rattle.tokens.specs.Spelling.{is_word}
use Rattle.labels.specs.Label.{labels_of, keywords}
use Rattle.labels.specs.declared.Family.{Family}
use Rattle.labels.proofs.Families.{by_family}
use Rattle.text.specs.Lists.{all}
use Rattle.text.proofs.Passing.{all_at}

-- all of a family's labels are words, and all the keywords: tests that compute
labels_words : (f : Family) → all is_word (labels_of f) ≡ true
unfolding labels_of class_of
labels_words = by_family (λ f. all is_word (labels_of f)) (λ f. true) refl

keywords_words : all is_word keywords ≡ true
unfolding keywords class_of
keywords_words = refl

-- Each label of a family is one word.
pub label_word : (f : Family) (i : ℕ) → i < length (labels_of f) → is_word (get_or (labels_of f) i []) ≡ true
label_word f i h = all_at is_word (labels_of f) i [] (labels_words f) h

-- Each keyword is one word.
pub keyword-word : (i : ℕ) → i < length keywords → is_word (get_or keywords i []) ≡ true
keyword-word i h = all_at is_word keywords i [] keywords_words h
