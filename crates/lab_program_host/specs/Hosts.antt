-- The `Drawing` and the `TaskEnd` of a task, by its host and its streams before and after it.
use Rattle.std.specs.Prelude.{ℕ, List, Option, Result}
use Rattle.lab_forms_streams.specs.declared.sending.WriteFault.{WriteFault as Untold}
use Rattle.lab_program_host.specs.declared.hosts.Host.{Host}
use Rattle.lab_program_host.specs.declared.streams.Streams.{Streams}
use Rattle.lab_program_host.specs.Sources.{Drawing, drawing_of}
use Rattle.lab_program_host.specs.TaskEnds.{TaskEnd}

-- the `Drawing` of a task, by its host before and after it
abbrev pub drawing_between : {M N V C X P A B : Type 0} → (moments : C → Option (List ℕ)) →
    (words : X → Option (List (List ℕ))) → (old new : Host M N V C X P A B) → Drawing
drawing_between moments words old new =
    drawing_of (moments old.clock) (moments new.clock) (words old.chance) (words new.chance)

-- what is seen of a task that had these streams and left those, with this status
abbrev pub end_between : {W O E : Type 0} → (printed : O → Option (List ℕ)) →
    (told : E → Option (List ℕ)) → (old new : Streams W O E) → Result ℕ Untold → TaskEnd
end_between printed told old new status = record {
  before = printed old.output;
  after = printed new.output;
  told_before = told old.errors;
  told_after = told new.errors;
  status = status;
}
