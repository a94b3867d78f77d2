-- A list of modes is read entry by entry: those that were read stand in a number, each once, and what is left decides the rest.
-- Assumes nothing.
use mathlib.Core.Path.{◌≡◌, refl, ◌∙◌, ap, sym}
use mathlib.Core.Bool.{true}
use mathlib.Core.List.{List, [], ◌∷◌, ◌++◌, append_assoc, append-nil}
use mathlib.Core.Option.{some, none}
use Prim.Native.Nat.{ℕ, ◌-◌, ◌≤◌, ◌<◌}
use native.Mathlib.Omega.{arith}
use borrow.Author.Tests.{lt-ltb}
use lib.ListN.{length}
use Rattle.text.specs.Lists.{all}
use Rattle.text.proofs.Tests.{and_left, and_right}
use Rattle.labels.specs.declared.Family.{Family}
use Rattle.labels.specs.Word.{find}
use Rattle.labels.specs.Label.{labels_of}
use Rattle.labels.proofs.Families.{few_labels}
use Rattle.labels.proofs.Finding.{found_at}
use Rattle.reading.specs.Statement.{modes}
use Rattle.reading.specs.Answer.{Answer, accepted, refused, ◌>>=◌}
use Rattle.reading.specs.Argument.{firsts, mode_list}
use Rattle.reading_laws.specs.WellFormed.{is_place}
use Rattle.reading_laws.proofs.Places.{both, firsts-all, firsts-once}
use Rattle.read_packs.specs.Packs.{places, Snug, Joined}
use Rattle.read_packs.proofs.Packed.{no_place}
use Rattle.read_packs.proofs.Few.{firsts_more, few}
use Rattle.read_forms.specs.Items.{tokens_from, name_in, entries, listed}
use Rattle.read_forms.proofs.Entries.{entries_next, listed_next}
use Rattle.read_checks.specs.declared.Entry as checked
use Rattle.read_checks.specs.Answers.{NextEntry, goes_on, modes_listed}

pub found_within : (f : Family) (w : List ℕ) (m : ℕ) → find w (labels_of f) ≡ some m → m < length (labels_of f)
found_within f w m e = (found_at w (labels_of f) m e).within

pub found-small : (f : Family) (w : List ℕ) (m : ℕ) → find w (labels_of f) ≡ some m → m < 7
found-small f w m e = omega (arith, few_labels f, found_within f w m e)

-- modes read so far: of the list of `n₀` entries at `o₀`, `n` are left at `o`, and those before them are `done`
pub record Sofar (f : Family) (s : List ℕ) (n₀ o₀ n o packed : ℕ) : Type 0 where
  pub entered : listed n (tokens_from s o) ≡ true
  pub done : List ℕ
  pub own : places packed ≡ firsts done
  pub within : all (is_place f) done ≡ true
  pub snug : Snug packed
  pub whole : mode_list f (entries n₀ (tokens_from s o₀)) ≡ (mode_list f (entries n (tokens_from s o)) >>= λ ms. accepted (done ++ ms))

unchanged : (a : Answer (List ℕ)) → a ≡ (a >>= λ ms. accepted ([] ++ ms))
unchanged (accepted ms) = refl
unchanged (refused n o) = refl

one_done :
    (m : ℕ) (done : List ℕ) (a : Answer (List ℕ))
    → ((a >>= λ ms. accepted (m ∷ ms)) >>= λ ms. accepted (done ++ ms)) ≡ (a >>= λ ms. accepted ((done ++ m ∷ []) ++ ms))
one_done m done (accepted ms) = ap accepted (sym (append_assoc done (m ∷ []) ms))
one_done m done (refused n o) = refl

all_more : (f : Family) (m : ℕ) (ms : List ℕ) → is_place f m ≡ true → all (is_place f) ms ≡ true → all (is_place f) (ms ++ m ∷ []) ≡ true
all_more f m [] e h = simp e
all_more f m (x ∷ xs) e h =
    both (and_left (is_place f x) (all (is_place f) xs) h) (all_more f m xs e (and_right (is_place f x) (all (is_place f) xs) h))

pub sofar_start : (f : Family) (s : List ℕ) (n o : ℕ) → listed n (tokens_from s o) ≡ true → Sofar f s n o n o 0
unfolding firsts
sofar_start f s n o l =
    let z : places 0 ≡ [] = no_place 0 refl in
    record { entered = l; done = []; own = z; within = refl; snug = rw z (omega arith); whole = unchanged (mode_list f (entries n (tokens_from s o))) }

module _ {f : Family} {s : List ℕ} {n₀ o₀ n o packed : ℕ} (l : Sofar f s n₀ o₀ n o packed) where
  -- there is room for one more
  pub sofar_few : length (places packed) ≤ 7
  sofar_few =
      rw l.own
      (omega (arith, few_labels f, few (length (labels_of f)) (firsts l.done) (firsts-all (is_place f) l.done l.within) (firsts-once l.done)))

  -- nothing is left
  pub sofar_none : n ≡ 0 → accepted (modes (places packed)) ≡ modes_listed f (entries n₀ (tokens_from s o₀))
  unfolding entries mode_list
  sofar_none e = rw (l.whole, e, l.own, append-nil l.done)

  -- there is an entry
  module _ (k : 0 < n) {i : checked.Entry} (h : NextEntry s o i) where
    -- that is no mode
    pub sofar-refused :
        find (name_in s i.name).spelling (labels_of f) ≡ none
        → refused 10 i.name.offset ≡ modes_listed f (entries n₀ (tokens_from s o₀))
    unfolding mode_list
    sofar-refused e = rw (l.whole, entries_next k h.here, e)

    -- that is one
    pub sofar-next :
        (m r : ℕ) → find (name_in s i.name).spelling (labels_of f) ≡ some m → Joined packed m r → Sofar f s n₀ o₀ (n - 1) (goes_on s i) r
    unfolding mode_list
    sofar-next m r e j =
        let w = found_within f (name_in s i.name).spelling m e in
        record {
          entered = listed_next k h.here l.entered;
          done = l.done ++ m ∷ [];
          own = j.all ∙ rw l.own (sym (firsts_more l.done m));
          within = all_more f m l.done (lt-ltb m (length (labels_of f)) w) l.within;
          snug = j.snug;
          whole = rw (l.whole, entries_next k h.here, e) (one_done m l.done (mode_list f (entries (n - 1) (tokens_from s (goes_on s i)))));
        }
