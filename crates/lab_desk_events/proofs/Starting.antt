-- A stop and a start go on: what one start leaves is what the next one finds.
use Rattle.std.proofs.Common.{◌≡◌, ◌∙◌, ℕ, List, [], ◌∷◌, ◌++◌, Option, true, refl, sym, ap, subst, inl, inr}
use Rattle.lab_records_kept.specs.declared.labs.Lab.{Lab}
use Rattle.lab_records_keeper.specs.Worlds.{Meaning, SameMeaning}
use Rattle.lab_records_laws.specs.Runs.{IsReleasing}
use Rattle.lab_records_laws.specs.Stepping.{WhereThere}
use Rattle.lab_desk_events.specs.Alone.{alone_after, alone_answers}
use Rattle.lab_desk_events.specs.Keeping.{OfAll}
use Rattle.lab_desk_events.specs.Leaving.{as_told}
use Rattle.lab_desk_events.specs.Runs.{Handled, after_run, own_answers, own_events}
use Rattle.lab_desk_events.specs.Starts.{AreMadeAt, AreMadeIn, AreStarts, IsAloneAt, IsAnswered, IsMadeIn, IsStopped, Start, answers_at, left_by, machine_after, machine_at}
use Rattle.lab_desk_events.proofs.Leaving.{same_after, same_then}
use Rattle.lab_desk_events.proofs.Running.{after_then, alone_releasing, along_same}

-- the same laboratories the other way round
same_back : (one other : Meaning) → SameMeaning one other → SameMeaning other one
same_back one other same code = sym (same code)

-- ---- one start

-- the events that made what it left
record IsLeftSo (one : Start) : Type 0 where
  made : List Handled
  is : IsMadeIn one made
  same : SameMeaning (after_run one.found made) one.left

left_so : (one : Start) → IsStopped one → IsLeftSo one
left_so one stopped = elim stopped.left [
  | inl whole ↦ record {
    made = stopped.handled;
    is = record { handled = stopped.handled; told = stopped.told; makes = inl refl };
    same = whole;
  }
  | inr other ↦ elim other [
    | inl front ↦ record {
      made = front.front ++ as_told front.one.event true ∷ [];
      is = record {
        handled = stopped.handled;
        told = stopped.told;
        makes = inr (
          front.front,
          front.one,
          front.rest,
          front.are,
          front.refused,
          refl,
          front.since,
        );
      };
      same = front.made;
    }
    | inr early ↦ record {
      made = stopped.handled;
      is = record { handled = stopped.handled; told = stopped.told; makes = inl refl };
      same = same_then (after_run one.found stopped.handled) one.found one.left
          (same_back one.found (after_run one.found stopped.handled) early.1) early.0;
    }
  ]
]

-- from laboratories that are the same
answered_same : (found other : Meaning) (one : Start) → SameMeaning found other →
    IsAnswered found one → IsAnswered other one
answered_same found other one same is = record {
  told = is.told;
  alone = λ code. subst (λ lab. own_answers code one.handled
      ≡ alone_answers code lab (own_events code one.handled)) (sym (same code)) (is.alone code);
  keeps = along_same found other one.handled same is.keeps;
}

-- ---- starts, one after the other

-- what later events make of what a start left is what they make after those that left it
goes_on : (first : Meaning) (one : Start) → SameMeaning first one.found → (left : IsLeftSo one) →
    (there : List Handled) →
    SameMeaning (after_run first (left.made ++ there)) (after_run one.left there)
goes_on first one found left there code =
    same_after (after_run first left.made) one.left there
    (same_then (after_run first left.made) (after_run one.found left.made) one.left
    (same_after first one.found left.made found) left.same) code
    ∙ sym (after_then first left.made there code)

pub starts_answer : (first : Meaning) (before : List Start) (one : Start) (after : List Start) →
    AreStarts first (before ++ one ∷ after) → (made : List Handled)
    × AreMadeIn before made × IsAnswered (after_run first made) one
starts_answer first [] one after starts = (
  [],
  refl,
  answered_same one.found (after_run first []) one
      (same_back first one.found starts.0) starts.1,
)
starts_answer first (early ∷ before) one after starts =
    let left = left_so early starts.2 in
    let later = starts_answer early.left before one after starts.3 in (
      left.made ++ later.0,
      (left.made, later.0, left.is, later.1, refl),
      answered_same (after_run early.left later.0) (after_run first (left.made ++ later.0)) one
          (same_back (after_run first (left.made ++ later.0)) (after_run early.left later.0)
          (goes_on first early starts.0 left later.0)) later.2,
    )

pub starts_leave : (first : Meaning) (starts : List Start) → AreStarts first starts →
    (made : List Handled) × AreMadeIn starts made
    × SameMeaning (after_run first made) (left_by first starts)
starts_leave first [] starts = ([], refl, λ code. refl)
starts_leave first (one ∷ others) starts =
    let left = left_so one starts.2 in
    let later = starts_leave one.left others starts.3 in (
      left.made ++ later.0,
      (left.made, later.0, left.is, later.1, refl),
      same_then (after_run first (left.made ++ later.0)) (after_run one.left later.0)
          (left_by one.left others) (goes_on first one starts.0 left later.0) later.2,
    )

-- ---- one laboratory by itself

-- from laboratories of which this one is the same
machine_same : (code : List ℕ) (lab other : Option Lab) (starts : List Start)
    (made : List (List Handled)) → other ≡ lab →
    machine_at code lab starts made ≡ machine_at code other starts made
machine_same code lab other starts made same =
    ap (λ (here : Option Lab). machine_at code here starts made) (sym same)

after_same : (code : List ℕ) (lab other : Option Lab) (made : List (List Handled)) → other ≡ lab →
    machine_after code lab made ≡ machine_after code other made
after_same code lab other made same =
    ap (λ (here : Option Lab). machine_after code here made) (sym same)

alone_more : (first : Meaning) (one : Start) (others : List Start) (made : List Handled)
    (there : List (List Handled)) → SameMeaning first one.found → IsAnswered one.found one →
    SameMeaning (after_run one.found made) one.left → (code : List ℕ) →
    IsAloneAt one.left others there code → IsAloneAt first (one ∷ others) (made ∷ there) code
alone_more first one others made there found is left code rest =
    let here : own_answers code one.handled
    ≡ alone_answers code (first code) (own_events code one.handled) =
    is.alone code ∙ ap (λ (lab : Option Lab). alone_answers code lab (own_events code one.handled))
    (found code) in
    let brought : one.left code ≡ alone_after code (first code) (own_events code made) =
    left code
    ∙ ap (λ (lab : Option Lab). alone_after code lab (own_events code made)) (found code) in
    record {
      answers = ap (λ (told : List (List ℕ)). told ++ answers_at code others) here
          ∙ ap (λ (told : List (List ℕ)).
          alone_answers code (first code) (own_events code one.handled) ++ told)
          (rest.answers
          ∙ machine_same code (one.left code) (alone_after code (first code) (own_events code made))
          others there (sym brought));
      rows = rest.rows
          ∙ after_same code (one.left code) (alone_after code (first code) (own_events code made))
          there (sym brought);
    }

pub starts_alone : (first : Meaning) (starts : List Start) → AreStarts first starts →
    (made : List (List Handled)) × AreMadeAt starts made
    × ((code : List ℕ) → IsAloneAt first starts made code)
starts_alone first [] starts = ([], refl, λ code. record { answers = refl; rows = refl })
starts_alone first (one ∷ others) starts =
    let left = left_so one starts.2 in
    let later = starts_alone one.left others starts.3 in (
      left.made ∷ later.0,
      (left.made, later.0, left.is, later.1, refl),
      λ code. alone_more first one others left.made later.0 starts.0 starts.1 left.same code
          (later.2 code),
    )

pub starts_releasing : (first : Meaning) (starts : List Start) → AreStarts first starts →
    OfAll IsReleasing first → OfAll IsReleasing (left_by first starts)
starts_releasing first starts are releasing code =
    let left = starts_leave first starts are in
    subst (WhereThere IsReleasing) (sym (left.2 code))
    (alone_releasing code (first code) (own_events code left.0) (releasing code))
