-- What clauses of private functions say beside Tasks.antt.
use Rattle.std.specs.Prelude.{◌≡◌, ℕ, pos, IsTrue}
use Rattle.lab_forms_texts.specs.Moment.{is_moment}
use Rattle.lab_forms_texts.specs.Ordinals.{is_ordinal}
use Rattle.lab_program_words.specs.declared.tasks.Task.{Task}
use Rattle.lab_program_words.specs.declared.tasks.Task.TheVariants.{Found, Serve, Copy, Migrate, Check, Replay, Rehearse}
use Rattle.lab_program_words.specs.Tasks.{Asked, founds, serves, copies, migrates, checks, replays, rehearses}

-- ---- what is read of them

-- the task is the one that is asked for
abbrev pub IsTask : Task → Asked → Type 0
IsTask (Found file lab) asked = asked ≡ founds file.now lab.now
IsTask (Serve file port count) asked = asked ≡ serves file.now port count
IsTask (Copy file lab from to) asked = (asked ≡ copies file.now lab.now from to)
    × IsTrue (is_ordinal from) × IsTrue (is_ordinal to)
IsTask (Migrate old new) asked = asked ≡ migrates old.now new.now
IsTask Check asked = asked ≡ checks
IsTask Replay asked = asked ≡ replays
IsTask (Rehearse lab seconds) asked = (moment : ℕ) × (seconds ≡ pos moment)
    × IsTrue (is_moment moment) × (asked ≡ rehearses lab.now moment)
