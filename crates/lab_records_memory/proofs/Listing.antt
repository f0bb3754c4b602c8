-- What a write in place and a push do to the look-ups of a list of laboratories.
use Rattle.std.proofs.Common.{◌≡◌, ◌≢◌, ◌<◌, ℕ, Bool, true, false, cond, List, [], ◌∷◌, ◌++◌, Option, Some, None, Result, Ok, Err, refl, sym, ◌∙◌, ap, subst, length, get_or, arith}
use Rattle.std.specs.Prelude.{OnErr, find, position, slice_get, slice_set, MatchOption, nat_lt}
use borrow.Author.Tests.{ltb-false}
use Rattle.std.specs.List.{position_or_len, remove}
use Rattle.std.specs.Option.{option_or}
use Rattle.std.proofs.lemmas.List.Folds.{find_at, find-set, find_past, find-append}
use Rattle.std.proofs.lemmas.Option.{slice_get-get_or, slice_get_past}
use Rattle.std.proofs.lemmas.Bool.{false_from_ne_true}
use Rattle.std.proofs.lemmas.Bool.Decides.{Decides-ltb}
use Rattle.std.proofs.lemmas.Slice.Eq.{bytes_eq-Decides}
use Rattle.lab_records_kept.specs.declared.labs.Lab.{Lab}
use Rattle.lab_records_kept.specs.declared.changes.Change.{Change}
use Rattle.lab_records_kept.specs.declared.changes.Change.TheVariants.{Last, Strays, PersonAdded, PersonSet, SessionAdded, SessionSet, SessionsClosed, FormAdded, RecordAdded, RowAdded, VersionOpened, SignatureAdded, TrailAdded}
use Rattle.lab_records_kept.specs.Changes.{change, changed, changed_in}
use Rattle.lab_records_keeper.specs.Worlds.{Meaning, SameMeaning, Changes, Places}
use Rattle.lab_records_memory.specs.Lists.{has_code, lab_of, ChangesInPlace}
use Rattle.lab_records_memory.specs.ListLaws.{find_true}

-- no change gives a laboratory another code
change_code : (lab : Lab) (one : Change) → (change lab one).code ≡ lab.code
change_code lab (Last moment) = refl
change_code lab (Strays count) = refl
change_code lab (PersonAdded person) = refl
change_code lab (PersonSet person) = refl
change_code lab (SessionAdded session) = refl
change_code lab (SessionSet session) = refl
change_code lab (SessionsClosed person closing) = refl
change_code lab (FormAdded form) = refl
change_code lab (RecordAdded kept) = refl
change_code lab (RowAdded number row) = refl
change_code lab (VersionOpened number version) = refl
change_code lab (SignatureAdded number version signature) = refl
change_code lab (TrailAdded row) = refl

pub code_kept : (lab : Lab) (changes : List Change) → (changed lab changes).code ≡ lab.code
code_kept lab [] = refl
code_kept lab (one ∷ others) = code_kept (change lab one) others ∙ change_code lab one

-- the first of the changes that are left is made
pub made_first : (lab : Lab) (left : List Change) (one : Change) → 0 < length left →
    one ≡ get_or left 0 one → changed (change lab one) (remove left 0) ≡ changed lab left
made_first lab [] one some here = absurd (omega arith)
made_first lab (first ∷ others) one some here =
    ap (λ (next : Change). changed (change lab next) others) here

-- a laboratory has its own code
has_own : (code : List ℕ) (lab : Lab) → lab.code ≡ code → has_code code lab ≡ true
has_own code lab same = (bytes_eq-Decides lab.code code).1 same

-- and no other
lacks_other : (other : List ℕ) (lab : Lab) → lab.code ≢ other → has_code other lab ≡ false
lacks_other other lab differs =
    false_from_ne_true (has_code other lab)
    (λ holds. differs ((bytes_eq-Decides lab.code other).0 holds))

placed : (b : Bool) (first place : ℕ) → cond b (Some first) None ≡ Some place →
    (b ≡ true) × (place ≡ first)
placed true first place found = (refl, cc)
placed false first place found = cc

-- what is known of a laboratory that stands in a place
pub record StandsAt (labs : List Lab) (code : List ℕ) (place : ℕ) (lab : Lab) : Type 0 where
  pub first : place ≡ position_or_len (has_code code) labs
  pub within : place < length labs
  pub there : slice_get labs place ≡ Some lab
  pub found : lab_of labs code ≡ Some lab
  pub code_is : lab.code ≡ code

-- the laboratory at the place where a search ended
pub stands_at : (labs : List Lab) (code : List ℕ) (place : ℕ) (lab : Lab) →
    position (has_code code) labs ≡ Some place → lab ≡ get_or labs place lab →
    StandsAt labs code place lab
stands_at labs code place lab ended here =
    let p : Lab → Bool = has_code code in
    let both : (nat_lt (position_or_len p labs) (length labs) ≡ true)
    × (place ≡ position_or_len p labs) =
    placed (nat_lt (position_or_len p labs) (length labs))
    (position_or_len p labs) place ended in
    let inside : place < length labs =
    subst (λ (k : ℕ). k < length labs) (sym both.1)
    ((Decides-ltb (position_or_len p labs) (length labs)).0 both.0) in
    let there : slice_get labs place ≡ Some lab =
    slice_get-get_or labs place lab inside ∙ ap (λ (one : Lab). Some one) (sym here) in
    let found : lab_of labs code ≡ Some lab =
    find_at p labs ∙ ap (λ (k : ℕ). slice_get labs k) (sym both.1) ∙ there in
    record {
      first = both.1;
      within = inside;
      there = there;
      found = found;
      code_is = (bytes_eq-Decides lab.code code).0 (find_true p labs lab found);
    }

-- the changed laboratory is found by its code
pub changed_here : (labs : List Lab) (code : List ℕ) (place : ℕ) (lab : Lab)
    (changes : List Change) → StandsAt labs code place lab →
    lab_of (slice_set labs place (changed lab changes)) code ≡ changed_in (lab_of labs code) changes
changed_here labs code place lab changes stands =
    find-set (has_code code) labs place (changed lab changes) stands.first stands.within
    (has_own code (changed lab changes) (code_kept lab changes ∙ stands.code_is))
    ∙ ap (λ (found : Option Lab). changed_in found changes) (sym stands.found)

-- by every other code what was found before is found
pub changed_elsewhere : (labs : List Lab) (code : List ℕ) (place : ℕ) (lab : Lab)
    (changes : List Change) → StandsAt labs code place lab → lab ≡ get_or labs place lab →
    (other : List ℕ) → other ≢ code →
    lab_of (slice_set labs place (changed lab changes)) other ≡ lab_of labs other
changed_elsewhere labs code place lab changes stands here other differs =
    find_past (has_code other) labs place (changed lab changes) lab
    (subst (λ (one : Lab). has_code other one ≡ false) here
    (lacks_other other lab (λ same. differs (sym same ∙ stands.code_is))))
    (lacks_other other (changed lab changes)
    (λ same. differs (sym same ∙ code_kept lab changes ∙ stands.code_is)))

-- the changes were made of the laboratory in that place, and of no other
pub changed_meaning : (labs : List Lab) (code : List ℕ) (place : ℕ) (lab : Lab)
    (changes : List Change) → StandsAt labs code place lab → lab ≡ get_or labs place lab →
    Changes code changes (lab_of labs) (lab_of (slice_set labs place (changed lab changes)))
changed_meaning labs code place lab changes stands here = record {
  here = changed_here labs code place lab changes stands;
  others = changed_elsewhere labs code place lab changes stands here;
}

-- where there is none of the code, no laboratory is changed
pub unchanged_meaning : (labs : List Lab) (code : List ℕ) (changes : List Change) →
    lab_of labs code ≡ None → Changes code changes (lab_of labs) (lab_of labs)
unchanged_meaning labs code changes none = record {
  here = none ∙ ap (λ (found : Option Lab). changed_in found changes) (sym none);
  others = λ other differs. refl;
}

-- what a crash leaves, which is what the changes made
pub left_as : (code : List ℕ) (changes : List Change) (old new held : Meaning) →
    Changes code changes old new → SameMeaning new held → Changes code changes old held
left_as code changes old new held made same = record {
  here = same code ∙ made.here;
  others = λ other differs. same other ∙ made.others other differs;
}

-- the list is changed in that place
pub changed_in_place : (labs : List Lab) (code : List ℕ) (place : ℕ) (lab : Lab)
    (changes : List Change) → StandsAt labs code place lab →
    ChangesInPlace labs (slice_set labs place (changed lab changes)) code changes
changed_in_place labs code place lab changes stands =
    subst (λ (k : ℕ). MatchOption (slice_get labs k)
    (slice_set labs place (changed lab changes) ≡ labs)
    (λ one. slice_set labs place (changed lab changes)
    ≡ slice_set labs k (changed one changes))) stands.first
    (rw stands.there refl)

-- a laboratory that is added is found by its code, where none was
pub added_here : (labs : List Lab) (lab : Lab) → lab_of labs lab.code ≡ None →
    lab_of (labs ++ lab ∷ []) lab.code ≡ Some lab
added_here labs lab none =
    find-append (has_code lab.code) labs (lab ∷ [])
    ∙ ap (λ (found : Option Lab). option_or found (find (has_code lab.code) (lab ∷ []))) none
    ∙ ap (λ (b : Bool). cond b (Some lab) None) (has_own lab.code lab refl)

or_none : (found : Option Lab) → option_or found None ≡ found
or_none None = refl
or_none (Some lab) = refl

-- and by every other code what was found before is found
pub added_elsewhere : (labs : List Lab) (lab : Lab) (other : List ℕ) → other ≢ lab.code →
    lab_of (labs ++ lab ∷ []) other ≡ lab_of labs other
added_elsewhere labs lab other differs =
    find-append (has_code other) labs (lab ∷ [])
    ∙ ap (λ (b : Bool). option_or (lab_of labs other) (cond b (Some lab) None))
    (lacks_other other lab (λ same. differs (sym same)))
    ∙ or_none (lab_of labs other)

-- the laboratory was placed, and no other was touched
pub added_meaning : (labs : List Lab) (lab : Lab) → lab_of labs lab.code ≡ None →
    Places lab (lab_of labs) (lab_of (labs ++ lab ∷ []))
added_meaning labs lab none = record {
  was_none = none;
  placed = record { here = added_here labs lab none; others = added_elsewhere labs lab };
}

-- what a crash leaves, which is what the founding made
pub placed_as : (lab : Lab) (old new held : Meaning) → Places lab old new → SameMeaning new held →
    Places lab old held
placed_as lab old new held made same = record {
  was_none = made.was_none;
  placed = record {
    here = same lab.code ∙ made.placed.here;
    others = λ other differs. same other ∙ made.placed.others other differs;
  };
}

unfound : (b : Bool) (first : ℕ) → cond b (Some first) None ≡ None → b ≡ false
unfound true first none = cc
unfound false first none = refl

-- where a search ended without a place there is no laboratory of the code
pub not_placed : (labs : List Lab) (code : List ℕ) → position (has_code code) labs ≡ None →
    lab_of labs code ≡ None
not_placed labs code none =
    let p : Lab → Bool = has_code code in
    let past : nat_lt (position_or_len p labs) (length labs) ≡ false =
    unfound (nat_lt (position_or_len p labs) (length labs)) (position_or_len p labs) none in
    find_at p labs ∙ slice_get_past labs (position_or_len p labs)
    (ltb-false (position_or_len p labs) (length labs) past)

-- what holds anyhow holds where there is an error
pub on_any : {T E P : Type 0} (r : Result T E) → P → OnErr r P
on_any (Ok value) p = tt
on_any (Err error) p = p
