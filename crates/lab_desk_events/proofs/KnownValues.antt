-- Values from outside, so that a wrong rule in the definitions does not check: whose event is whose, and what a laboratory's run by itself
-- answers (docs/FORMATS.md has the lines).
use Rattle.std.proofs.Common.{◌≡◌, refl, inl, inr, ℕ, Bool, List, [], ◌∷◌, codes, Some, None, Err, true, false}
use Rattle.std.specs.Prelude.{◌⊎◌}
use Rattle.lab_forms_texts.specs.declared.tick.Tick.{Tick}
use Rattle.lab_records_keeper.specs.Worlds.{Meaning, SameMeaning, World}
use Rattle.lab_records_kept.specs.Limits.{IsWithin}
use Rattle.lab_records_laws.specs.Runs.{IsReleasing}
use Rattle.lab_wire.specs.declared.refusals.RequestRefusal.{RequestRefusal}
use Rattle.lab_desk_events.specs.Alone.{Founding, Founds, Happening, Request, own_of, alone_answers}
use Rattle.lab_desk_events.specs.Keeping.{OfAll}
use Rattle.lab_desk_events.specs.Leaving.{IsFrontOfRun, IsLiveToLast, LeavesRun}
use Rattle.lab_desk_events.specs.Runs.{Handled, own_events, own_answers, after_run, answers_of}
use Rattle.lab_desk_events.specs.Starts.{AreMadeIn, AreStarts, Start}
use Rattle.lab_desk_events.proofs.Keeping.{follows_itself}

-- a founding belongs to the laboratory of its code, and to no other
pub known_owners : (tick : Tick) (body : List ℕ)
    → (own_of (codes "aqua") (Founding (codes "aqua") tick body) ≡ Some (Founds tick body))
    × (own_of (codes "brick") (Founding (codes "aqua") tick body) ≡ None)
known_owners tick body = (refl, refl)

-- an event that was refused for memory or by the store is nobody's own
abbrev handled : Tick → List ℕ → List ℕ → List Handled
handled tick one other =
    (record { event = Founding (codes "aqua") tick []; taken = true; answer = one })
    ∷ (record { event = Founding (codes "brick") tick []; taken = true; answer = other })
    ∷ (record { event = Founding (codes "aqua") tick []; taken = false; answer = codes "refused 90 memory\n" })
    ∷ []

-- each has its own events and its own answers; all answers go out, one after the other
pub known_runs : (tick : Tick)
    → (own_events (codes "aqua") (handled tick (codes "a") (codes "b")) ≡ Founds tick [] ∷ [])
    × (own_answers (codes "aqua") (handled tick (codes "a") (codes "b")) ≡ codes "a" ∷ [])
    × (own_answers (codes "brick") (handled tick (codes "a") (codes "b")) ≡ codes "b" ∷ [])
    × (own_events (codes "zinc") (handled tick (codes "a") (codes "b")) ≡ [])
    × (answers_of (handled tick (codes "a") (codes "b")) ≡ codes "abrefused 90 memory\n")
known_runs tick = (refl, refl, refl, refl, refl)

-- who has no events of one's own answers nothing and stays as it was, whatever others do
pub known_rest : (start : Meaning) (tick : Tick)
    → (alone_answers (codes "zinc") (start (codes "zinc")) [] ≡ [])
    × (after_run start (handled tick (codes "a") (codes "b")) (codes "zinc") ≡ start (codes "zinc"))
known_rest start tick = (refl, refl)

-- ---- a stop by a fault

-- bytes that ask nothing were answered; and then a founding was refused, within whose commit a
-- fault shut the keeper: a crash leaves what was there, or with it the laboratory that was founded
-- all the same
abbrev last_events : Tick → RequestRefusal → List Happening
last_events tick refusal =
    Request tick (Err refusal) ∷ Founding (codes "brick") tick [] ∷ []

abbrev ran : Tick → RequestRefusal → List ℕ → Bool → List Handled
ran tick refusal reply last =
    (record { event = Request tick (Err refusal); taken = true; answer = reply })
    ∷ (record { event = Founding (codes "brick") tick []; taken = last; answer = [] })
    ∷ []

-- the keeper as it was opened, and as the fault left it
abbrev opened : Meaning → World
opened start = record {
  meaning = start;
  is_honest = Unit {0};
  is_live = Unit {0};
  faults = 0;
  is_reached = Unit {0};
  may_refuse = Unit {0};
  may_leave = SameMeaning start;
  is_safe = Unit {0};
}

abbrev shut : Meaning → Tick → RequestRefusal → World
shut start tick refusal = record {
  meaning = λ _. None;
  is_honest = Unit {0};
  is_live = ⊥;
  faults = 1;
  is_reached = Unit {0};
  may_refuse = Unit {0};
  may_leave = λ held. (SameMeaning start held
      ⊎ SameMeaning (after_run start (ran tick refusal [] true)) held)
      × OfAll IsWithin held × OfAll IsReleasing held;
  is_safe = Unit {0};
}

-- the founding is the one that was made all the same
front : (start held : Meaning) (tick : Tick) (refusal : RequestRefusal) (reply : List ℕ) →
    SameMeaning (after_run start (ran tick refusal [] true)) held →
    IsFrontOfRun start (ran tick refusal reply false) held
front start held tick refusal reply made = record {
  front = (record { event = Request tick (Err refusal); taken = true; answer = reply }) ∷ [];
  one = record { event = Founding (codes "brick") tick []; taken = false; answer = [] };
  rest = [];
  are = refl;
  refused = refl;
  made = made;
  since = λ code. refl;
}

-- what is said of a crash is said there: no fault had shut the keeper before the last event
pub known_live : (start : Meaning) (tick : Tick) (refusal : RequestRefusal) →
    IsLiveToLast (opened start) (shut start tick refusal) (true ∷ false ∷ [])
known_live start tick refusal = inr (tt, (refl, tt))

pub known_left : (start : Meaning) (tick : Tick) (refusal : RequestRefusal) →
    LeavesRun (IsLiveToLast (opened start) (shut start tick refusal) (true ∷ false ∷ []))
    (opened start) (shut start tick refusal) (last_events tick refusal) (true ∷ false ∷ [])
known_left start tick refusal = record {
  handled = ran tick refusal [] false;
  told = record { events_are = refl; taken_are = refl };
  left = λ was held may. elim may.0 [
    | inl still ↦ inl still
    | inr made ↦ inr (inl (front start held tick refusal [] made))
  ];
  safe = λ was safe. tt;
  left_within = λ was left held may. may.1;
  left_releasing = λ was releasing left held may. may.2;
}

-- and the next start finds it: over both, each laboratory is its own machine alone
abbrev one_start : Meaning → Tick → RequestRefusal → List ℕ → Start
one_start start tick refusal reply = record {
  found = start;
  events = last_events tick refusal;
  taken = true ∷ false ∷ [];
  handled = ran tick refusal reply false;
  left = after_run start (ran tick refusal [] true);
}

pub known_starts : (start : Meaning) (tick : Tick) (refusal : RequestRefusal) (reply : List ℕ) →
    AreStarts start (one_start start tick refusal reply ∷ [])
    × AreMadeIn (one_start start tick refusal reply ∷ []) (ran tick refusal [] true)
known_starts start tick refusal reply = (
  (
    λ code. refl,
    record {
      told = record { events_are = refl; taken_are = refl };
      alone = λ code. refl;
      keeps = (λ code. follows_itself (start code), (λ code. follows_itself (start code), tt));
    },
    record {
      handled = ran tick refusal [] false;
      told = record { events_are = refl; taken_are = refl };
      left = inr (inl (front start (after_run start (ran tick refusal [] true)) tick refusal []
          (λ code. refl)));
    },
    tt,
  ),
  (
    ran tick refusal [] true,
    [],
    record {
      handled = ran tick refusal [] false;
      told = record { events_are = refl; taken_are = refl };
      makes = inr (
        (record { event = Request tick (Err refusal); taken = true; answer = [] }) ∷ [],
        record { event = Founding (codes "brick") tick []; taken = false; answer = [] },
        [],
        refl,
        refl,
        refl,
        λ code. refl,
      );
    },
    refl,
    refl,
  ),
)
