-- What comes of a command by its own case, and what a failed password changes.
use Rattle.std.specs.Prelude.{ℕ, ◌+◌, nat_le, List, [], ◌∷◌, ◌++◌, length, Option, Some, if◌then◌else◌}
use Rattle.lab_people_access.specs.declared.refusals.Failure.{Failure}
use Rattle.lab_people_access.specs.declared.refusals.Failure.TheVariants.{Counted, Locking, AlreadyLocked, Stray}
use Rattle.lab_people_access.specs.declared.sessions.Closing.TheVariants.{All}
use Rattle.lab_people_access.specs.Sessions.{sessions_after}
use Rattle.lab_records_kept.specs.declared.labs.Lab.{Lab}
use Rattle.lab_records_kept.specs.declared.trails.Deed.{Deed}
use Rattle.lab_records_kept.specs.declared.trails.Deed.TheVariants.{Refuse, Lock}
use Rattle.lab_records_kept.specs.declared.trails.Occasion.{Occasion}
use Rattle.lab_records_kept.specs.Limits.{count_limit, stray_limit}
use Rattle.lab_records_kept.specs.Trails.{trail_row_of}
use Rattle.lab_records_kept.specs.Changes.{with_person}
use Rattle.lab_records_rules.specs.declared.refusals.Refusal.{Refusal}
use Rattle.lab_records_machine.specs.declared.replies.Reply.{Reply}

-- A command is refused; or a password fails; or something is read; or the command makes another
-- laboratory, and the trail tells of a deed.
pub data Case : Type 0 where
  Refuses : Refusal → Case
  Fails : Occasion → Failure → Case
  Reads : Reply → Case
  Makes : Reply → Deed → Lab → Case

-- a laboratory with one more row in its trail
abbrev pub told : ℕ → Option (List ℕ) → Deed → Lab → Lab
told moment person deed lab = record lab {
  trail = lab.trail ++ trail_row_of (length lab.trail + 1) moment person deed ∷ [];
}

-- a laboratory with one more row in its trail, where the trail has room; otherwise as it was
abbrev pub told_if_room : ℕ → List ℕ → Deed → Lab → Lab
told_if_room moment person deed lab =
    if nat_le count_limit (length lab.trail) then lab else told moment (Some person) deed lab

-- one password more that was nobody's
abbrev pub more_strays : ℕ → ℕ
more_strays strays = if nat_le stray_limit strays then strays else strays + 1

-- What a failed password changes, and what the trail tells of it: the person whose password it was
-- counted for, whether or not it locks; the sessions that a lock closes; or the stray count alone.
-- A locked person stays as they are.
abbrev pub failed : Lab → ℕ → Occasion → Failure → Lab
failed lab moment occasion (Counted person) =
    told_if_room moment person.code (Refuse occasion)
    (record lab { persons = with_person person lab.persons })
failed lab moment occasion (Locking person) =
    told_if_room moment person.code (Lock person.code)
    (told_if_room moment person.code (Refuse occasion)
    (record lab {
      persons = with_person person lab.persons;
      sessions = sessions_after All person.code lab.sessions;
    }))
failed lab moment occasion (AlreadyLocked person) =
    told_if_room moment person.code (Refuse occasion) lab
failed lab moment occasion Stray = record lab { strays = more_strays lab.strays }
