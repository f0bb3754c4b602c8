-- Laws of a list of laboratories, which its keeper rests on.
use Rattle.std.proofs.Common.{◌≡◌, ℕ, Bool, true, false, cond, List, [], ◌∷◌, refl, subst, sym, Option, Some, None, ◌∙◌}
use Rattle.std.proofs.lemmas.Slice.Eq.{bytes_eq-Decides}
use Rattle.std.specs.Prelude.{find, slice_get, slice_set, MatchOption}
use Rattle.std.specs.List.{position_or_len}
use Rattle.std.proofs.lemmas.Option.{get_or_from_slice_get}
use Rattle.std.proofs.lemmas.List.{set-get_or}
use Rattle.lab_records_kept.specs.declared.labs.Lab.{Lab}
use Rattle.lab_records_kept.specs.declared.changes.Change.{Change}
use Rattle.lab_records_keeper.specs.Worlds.{Meaning, SameMeaning}
use Rattle.lab_records_memory.specs.Lists.{ChangesInPlace, has_code, lab_of}

-- writing what stands in a place leaves the list
pub set_same : (labs : List Lab) (place : ℕ) (lab : Lab) → slice_get labs place ≡ Some lab →
    slice_set labs place lab ≡ labs
set_same labs place lab found =
    subst (λ (one : Lab). slice_set labs place one ≡ labs)
    (get_or_from_slice_get labs place lab lab found) (set-get_or labs place lab)

-- no change leaves the list
pub unchanged_in_place : (old new : List Lab) (code : List ℕ) → new ≡ old →
    ChangesInPlace old new code []
unchanged_in_place old new code same = in_place (slice_get old place) refl
  where
    place : ℕ
    place = position_or_len (has_code code) old

    in_place : (found : Option Lab) → slice_get old place ≡ found → MatchOption found (new ≡ old)
        (λ lab. new ≡ slice_set old place lab)
    in_place None none = same
    in_place (Some lab) there = same ∙ sym (set_same old place lab there)

-- changes after a rest are changes of the list before it
pub changed_after_rest : (first next last : List Lab) (code : List ℕ) (changes : List Change) →
    next ≡ first → ChangesInPlace next last code changes → ChangesInPlace first last code changes
changed_after_rest first next last code changes same moved = subst
    (λ (labs : List Lab). ChangesInPlace labs last code changes) same moved

found_here : (p : Lab → Bool) (first lab : Lab) (b : Bool) (rest : Option Lab) → p first ≡ b →
    (rest ≡ Some lab → p lab ≡ true) → cond b (Some first) rest ≡ Some lab → p lab ≡ true
found_here p first lab true rest holds later found =
    let same : first ≡ lab = cc in subst (λ (one : Lab). p one ≡ true) same holds
found_here p first lab false rest holds later found = later found

-- what is found passes the test
pub find_true : (p : Lab → Bool) (labs : List Lab) (lab : Lab) → find p labs ≡ Some lab →
    p lab ≡ true
find_true p [] lab found = cc
find_true p (first ∷ labs) lab found = found_here p first lab (p first) (find p labs) refl
    (find_true p labs lab) found

-- a laboratory is found under its own code
pub own_code : (labs : List Lab) (code : List ℕ) (lab : Lab) → lab_of labs code ≡ Some lab →
    lab.code ≡ code
own_code labs code lab found = (bytes_eq-Decides lab.code code).0
    (find_true (has_code code) labs lab found)

-- and so is one that a crash leaves
pub own_code_left : (labs : List Lab) (held : Meaning) (code : List ℕ) (lab : Lab) →
    SameMeaning (lab_of labs) held → held code ≡ Some lab → lab.code ≡ code
own_code_left labs held code lab same found = own_code labs code lab (sym (same code) ∙ found)
