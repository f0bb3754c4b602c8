-- As many rows are told as the trail has room for.
use Rattle.std.proofs.Common.{◌≡◌, ℕ, ◌+◌, ◌-◌, suc, zero, Bool, true, false, cond, List, [], ◌∷◌, ◌++◌, length, take, Some, refl, sym, ap, subst, ◌∙◌, arith}
use Rattle.std.proofs.lemmas.Bool.Decides.{nat_tests}
use Rattle.std.specs.Prelude.{nat_le}
use Rattle.lab_people_access.specs.declared.refusals.Failure.{Failure}
use Rattle.lab_people_access.specs.declared.refusals.Failure.TheVariants.{Counted, Locking, AlreadyLocked, Stray}
use Rattle.lab_people_access.specs.declared.sessions.Closing.TheVariants.{All}
use Rattle.lab_people_access.specs.Sessions.{sessions_after}
use Rattle.lab_records_kept.specs.declared.labs.Lab.{Lab}
use Rattle.lab_records_kept.specs.declared.trails.Deed.{Deed}
use Rattle.lab_records_kept.specs.declared.trails.Deed.TheVariants.{Refuse, Lock}
use Rattle.lab_records_kept.specs.declared.trails.Occasion.{Occasion}
use Rattle.lab_records_kept.specs.declared.trails.TrailRow.{TrailRow}
use Rattle.lab_records_kept.specs.Changes.{with_person}
use Rattle.lab_records_kept.specs.Limits.{count_limit}
use Rattle.lab_records_kept.specs.Trails.{trail_row_of}
use Rattle.lab_records_machine.specs.Cases.{told, told_if_room, failed}
use Rattle.lab_records_laws.specs.Telling.{trail_rows_of, rows_in_room}

-- ---- numbers and lists

no_room : (limit count : ℕ) → nat_le limit count ≡ true → limit - count ≡ 0
no_room limit count h = grind (arith, nat_tests)

some_room : (limit count : ℕ) → nat_le limit count ≡ false → limit - count ≡ suc (limit - (count + 1))
some_room limit count h = grind (arith, nat_tests)

take_none : {A : Type 0} (count : ℕ) → take {A = A} count [] ≡ []
take_none zero = refl
take_none (suc count) = refl

nothing_behind : {A : Type 0} (list : List A) → list ≡ list ++ []
nothing_behind [] = refl
nothing_behind (one ∷ others) = ap (λ rest. one ∷ rest) (nothing_behind others)

one_behind : {A : Type 0} (list rest : List A) (one : A) → (list ++ one ∷ []) ++ rest ≡ list ++ one ∷ rest
one_behind [] rest one = refl
one_behind (first ∷ others) rest one = ap (λ list. first ∷ list) (one_behind others rest one)

one_longer : {A : Type 0} (list : List A) (one : A) → length (list ++ one ∷ []) ≡ length list + 1
one_longer [] one = refl
one_longer (first ∷ others) one =
    let next : suc (length others + 1) ≡ suc (length others) + 1 = grind (arith) in
    ap suc (one_longer others one) ∙ next

-- ---- one deed, and two

-- the row that tells of a person's deed, behind so many rows
abbrev row : ℕ → ℕ → List ℕ → Deed → TrailRow
row count moment person deed = trail_row_of (count + 1) moment (Some person) deed

-- with a row more, where there is room
one_by : (full : Bool) (lab : Lab) (moment : ℕ) (person : List ℕ) (deed : Deed)
    → nat_le count_limit (length lab.trail) ≡ full
    → (cond full lab (told moment (Some person) deed lab)).trail
    ≡ lab.trail ++ rows_in_room (length lab.trail) moment person (deed ∷ [])
one_by true lab moment person deed h =
    let rows = row (length lab.trail) moment person deed ∷ [] in
    subst (λ room. lab.trail ≡ lab.trail ++ take room rows)
    (sym (no_room count_limit (length lab.trail) h)) (nothing_behind lab.trail)
one_by false lab moment person deed h =
    let count = length lab.trail in
    let one = row count moment person deed in
    subst (λ room. lab.trail ++ one ∷ [] ≡ lab.trail ++ take room (one ∷ []))
    (sym (some_room count_limit count h))
    (ap (λ rest. lab.trail ++ one ∷ rest) (sym (take_none (count_limit - (count + 1)))))

pub one_told : (lab : Lab) (moment : ℕ) (person : List ℕ) (deed : Deed)
    → (told_if_room moment person deed lab).trail
    ≡ lab.trail ++ rows_in_room (length lab.trail) moment person (deed ∷ [])
one_told lab moment person deed =
    one_by (nat_le count_limit (length lab.trail)) lab moment person deed refl

two_by : (full : Bool) (lab : Lab) (moment : ℕ) (person : List ℕ) (deed next : Deed)
    → nat_le count_limit (length lab.trail) ≡ full
    → (told_if_room moment person next (cond full lab (told moment (Some person) deed lab))).trail
    ≡ lab.trail ++ rows_in_room (length lab.trail) moment person (deed ∷ next ∷ [])
two_by true lab moment person deed next h =
    let count = length lab.trail in
    one_told lab moment person next
    ∙ subst (λ room. lab.trail ++ take room (row count moment person next ∷ [])
    ≡ lab.trail ++ take room (trail_rows_of count moment person (deed ∷ next ∷ [])))
    (sym (no_room count_limit count h)) refl
two_by false lab moment person deed next h =
    let count = length lab.trail in
    let one = row count moment person deed in
    let rest = take (count_limit - (count + 1)) (row (count + 1) moment person next ∷ []) in
    one_told (told moment (Some person) deed lab) moment person next
    ∙ ap (λ many. (lab.trail ++ one ∷ []) ++ take (count_limit - many) (row many moment person next ∷ []))
    (one_longer lab.trail one)
    ∙ one_behind lab.trail rest one
    ∙ subst (λ room. lab.trail ++ one ∷ rest
    ≡ lab.trail ++ take room (trail_rows_of count moment person (deed ∷ next ∷ [])))
    (sym (some_room count_limit count h)) refl

two_told : (lab : Lab) (moment : ℕ) (person : List ℕ) (deed next : Deed)
    → (told_if_room moment person next (told_if_room moment person deed lab)).trail
    ≡ lab.trail ++ rows_in_room (length lab.trail) moment person (deed ∷ next ∷ [])
two_told lab moment person deed next =
    two_by (nat_le count_limit (length lab.trail)) lab moment person deed next refl

-- ---- failures

-- the deeds that a failure tells of
abbrev pub deeds_told : Occasion → Failure → List Deed
deeds_told occasion (Counted person) = Refuse occasion ∷ []
deeds_told occasion (Locking person) = Refuse occasion ∷ Lock person.code ∷ []
deeds_told occasion (AlreadyLocked person) = Refuse occasion ∷ []
deeds_told occasion Stray = []

-- it is one of the person of the code
abbrev pub IsOf : List ℕ → Failure → Type 0
IsOf code (Counted person) = person.code ≡ code
IsOf code (Locking person) = person.code ≡ code
IsOf code (AlreadyLocked person) = person.code ≡ code
IsOf code Stray = Unit {0}

-- what a failed password leaves in the trail
pub failed_tells : (lab : Lab) (moment : ℕ) (occasion : Occasion) (failure : Failure)
    (code : List ℕ) → IsOf code failure
    → (failed lab moment occasion failure).trail
    ≡ lab.trail ++ rows_in_room (length lab.trail) moment code (deeds_told occasion failure)
failed_tells lab moment occasion (Counted person) code is =
    subst (λ one. (failed lab moment occasion (Counted person)).trail
    ≡ lab.trail ++ rows_in_room (length lab.trail) moment one (Refuse occasion ∷ [])) is
    (one_told (record lab { persons = with_person person lab.persons }) moment person.code
    (Refuse occasion))
failed_tells lab moment occasion (Locking person) code is =
    subst (λ one. (failed lab moment occasion (Locking person)).trail
    ≡ lab.trail
    ++ rows_in_room (length lab.trail) moment one (Refuse occasion ∷ Lock person.code ∷ [])) is
    (two_told (record lab {
      persons = with_person person lab.persons;
      sessions = sessions_after All person.code lab.sessions;
    }) moment person.code (Refuse occasion) (Lock person.code))
failed_tells lab moment occasion (AlreadyLocked person) code is =
    subst (λ one. (failed lab moment occasion (AlreadyLocked person)).trail
    ≡ lab.trail ++ rows_in_room (length lab.trail) moment one (Refuse occasion ∷ [])) is
    (one_told lab moment person.code (Refuse occasion))
failed_tells lab moment occasion Stray code is =
    nothing_behind lab.trail
    ∙ ap (λ rest. lab.trail ++ rest) (sym (take_none (count_limit - length lab.trail)))
