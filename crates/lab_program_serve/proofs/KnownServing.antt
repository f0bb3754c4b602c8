-- Values from outside, computed on the definitions: the line that is printed (docs/FORMATS.md), and small instances of what a
-- writer that failed has taken and of how many connections are served.
use Rattle.std.proofs.Common.{◌≡◌, decimal, codes, lit<, ◌∙◌, refl, ◌++◌, ap, inl, inr, ℕ, Bool, List, [], ◌∷◌, true, false, true≢false, Option, Some, None, Ok, Err}
use Rattle.std.proofs.lemmas.Fmt.{decimal-digits_of}
use Rattle.std.proofs.lemmas.List.Elements.{All-cons, All-nil}
use Rattle.std.specs.Prelude.{◌==◌, ◌⊎◌}
use Rattle.std.specs.Str.{bytes_eq}
use Rattle.lab_program_host.specs.declared.faults.ServerFault.{ServerFault}
use Rattle.lab_program_host.specs.declared.faults.ServerFault.TheVariants.{Write}
use Rattle.lab_forms_texts.specs.declared.tick.Tick.{Tick}
use Rattle.lab_records_kept.specs.Limits.{IsWithin}
use Rattle.lab_records_keeper.specs.declared.keeper.Keeper.{Ghosts}
use Rattle.lab_records_keeper.specs.Worlds.{Meaning, SameMeaning, World}
use Rattle.lab_records_laws.specs.Runs.{IsReleasing}
use Rattle.lab_wire.specs.declared.commands.Asked.{Asked}
use Rattle.lab_wire.specs.declared.replies.Answer.TheVariants.{Storage}
use Rattle.lab_wire.specs.Replies.{reply_text}
use Rattle.lab_desk_events.specs.Alone.{Request}
use Rattle.lab_desk_events.specs.Keeping.{OfAll}
use Rattle.lab_desk_events.specs.Runs.{Handled, IsAnswer, after_run}
use Rattle.lab_desk_events.proofs.Keeping.{follows_itself}
use Rattle.lab_desk.specs.Desk.{Served}
use Rattle.lab_program_serve.specs.Runs.{IsServedRun}
use Rattle.lab_program_serve.specs.Texts.{listening_line, IsPrinted}
use Rattle.lab_program_serve.specs.Times.{EndWith, IsGivenUp, Time}
use Rattle.lab_program_serve.specs.Visits.{AreCounted, Visit, is_unavailable}

port : decimal 8080 ≡ codes "8080"
port = decimal-digits_of 8080 (lit< tt) (lit< tt) ∙ refl

pub known_port : listening_line 8080 ≡ codes "listening 127.0.0.1:8080\n"
known_port = ap (λ (digits : List ℕ). codes "listening 127.0.0.1:" ++ digits ++ codes "\n") port

-- where a fault came a part may be printed; where none came, no less than all
pub known_printed : IsPrinted {F = ServerFault} (codes "listening") (Err Write) (Some []) (Some (codes "list"))
    × (IsPrinted {F = ServerFault} (codes "listening") (Ok tt) (Some []) (Some (codes "list")) → ⊥)
known_printed = (
  (4, refl),
  λ same. true≢false (ap (λ (bytes : List ℕ). bytes_eq bytes (codes "list")) same),
)

-- where no fault came, as many connections were served as were wanted
pub known_counted : AreCounted {F = ServerFault} (Ok tt) 0 []
    × (AreCounted {F = ServerFault} (Ok tt) 1 [] → ⊥)
known_counted = (refl, λ counted. true≢false (ap (λ (number : ℕ). number == 0) counted))

-- after which replies a keeper is asked whether it answers
pub known_unavailable : (is_unavailable (codes "HTTP/1.1 503 Service Unavailable\r\n") ≡ true)
    × (is_unavailable (codes "HTTP/1.1 200 OK\r\n") ≡ false) × (is_unavailable [] ≡ false)
known_unavailable = (refl, refl, refl)

-- the keeper that is left is the one of the last time, and the one of any other time is closed
abbrev time : ℕ → Time ℕ
time last = record { first = 0; reply = []; visits = []; last = last; refused = [] }

abbrev left : ℕ → Option (Served ℕ)
left keeper = Some (record { keeper = keeper; reply = [] })

pub known_end : (keeper : Ghosts ℕ) (closed : ℕ → Type 0) → closed 1 →
    EndWith keeper closed (time 1 ∷ time 2 ∷ []) (left 2)
    × (EndWith keeper closed (time 1 ∷ time 2 ∷ []) (left 1) → ⊥)
    × EndWith keeper closed (time 1 ∷ []) None
    × (EndWith keeper (λ _. ⊥) (time 1 ∷ time 2 ∷ []) (left 2) → ⊥)
    × (EndWith keeper (λ _. ⊥) (time 1 ∷ []) None → ⊥)
known_end keeper closed shut =
    let up : IsGivenUp keeper closed 1 =
    record { given_up = 1; asked = inl refl; closed_so = shut } in (
      (up, (refl, refl)),
      λ ends. true≢false (ap (λ (number : ℕ). number == 2) ends.1.1),
      up,
      λ ends. ends.0.closed_so,
      λ ends. ends.closed_so,
    )

-- ---- a service that a fault ended

-- one request, whose commit met a fault that shut the keeper: it was refused, and may be made all
-- the same
abbrev request : Tick → Asked → Bool → Handled
request tick asked taken = record {
  event = Request tick (Ok asked);
  taken = taken;
  answer = reply_text tick Storage;
}

abbrev visit : Tick → Visit
visit tick = record {
  exchange = record { known = None; tick = tick; reply = reply_text tick Storage };
  ending = Ok tt;
  before = None;
  after = None;
}

abbrev opened : Meaning → World
opened start = record {
  meaning = start;
  is_honest = Unit {0};
  is_live = Unit {0};
  faults = 0;
  is_reached = Unit {0};
  may_refuse = Unit {0};
  may_leave = SameMeaning start;
  is_safe = Unit {0};
}

abbrev shut : Meaning → Tick → Asked → World
shut start tick asked = record {
  meaning = λ _. None;
  is_honest = Unit {0};
  is_live = ⊥;
  faults = 1;
  is_reached = Unit {0};
  may_refuse = Unit {0};
  may_leave = λ held. (SameMeaning start held
      ⊎ SameMeaning (after_run start (request tick asked true ∷ [])) held)
      × OfAll IsWithin held × OfAll IsReleasing held;
  is_safe = Unit {0};
}

-- what is said of a crash is said there too, since the keeper was live at its opening
pub known_service : (start : Meaning) (tick : Tick) (asked : Asked) →
    IsServedRun (opened start) (shut start tick asked) (visit tick ∷ [])
known_service start tick asked = record {
  handled = request tick asked false ∷ [];
  are = (
    request tick asked false ∷ [],
    [],
    (
      (
        request tick asked false,
        record { asks = Ok asked; is = refl; asked_are = tt; replied = refl },
        refl,
      ),
      tt,
    ),
    refl,
    refl,
  );
  run = record {
    each = All-cons (IsAnswer (Unit {0})) (request tick asked false) [] (inr ((tt, refl), refl))
        (All-nil (IsAnswer (Unit {0})));
    alone = λ from tells code. refl;
    keeps = λ from tells. (λ code. follows_itself (from code), tt);
    after = λ from tells live. absurd live;
  };
  leaves = record {
    handled = request tick asked false ∷ [];
    told = record { events_are = refl; taken_are = refl };
    left = λ live held may. elim may.0 [
      | inl still ↦ inl still
      | inr made ↦ inr (inl (record {
        front = [];
        one = request tick asked false;
        rest = [];
        are = refl;
        refused = refl;
        made = made;
        since = λ code. refl;
      }))
    ];
    safe = λ live safe. tt;
    left_within = λ live left held may. may.1;
    left_releasing = λ live releasing left held may. may.2;
  };
}
