-- What words ask for that are at no fault: a task, with what it is given.
use Rattle.std.specs.Prelude.{◌≡◌, ◌≤◌, ℕ, ℤ, pos, List, [], codes, IsTrue, Option, Some, None, if◌then◌else◌, bytes_eq}
use Rattle.std.specs.Str.Parse.{IsNumeral, digits_value}
use Rattle.clap.specs.Words.{Row, fault_of, first_of, one_of, subcommand_of}
use Rattle.lab_forms_texts.specs.Moment.{is_moment}
use Rattle.lab_forms_texts.specs.Ordinals.{is_ordinal}
use Rattle.lab_program_app.specs.Apps.{labdesk_app, last_port, most_connections}
use Rattle.lab_program_words.specs.declared.tasks.Task.{Task}
use Rattle.lab_program_words.specs.declared.tasks.Task.TheVariants.{Found, Serve, Copy, Migrate, Check, Replay, Rehearse}

-- ---- what may be asked for

-- a founding in a file; serving a file at a port, so many connections; a copy of a file's
-- laboratory, from a record to a record; a move of an old file's laboratories into a new file; a
-- check; a replay; a rehearsal at a moment
pub data Asked : Type 0 where
  founds : (file lab : List ℕ) → Asked
  serves : (file : List ℕ) (port count : ℕ) → Asked
  copies : (file lab : List ℕ) (from to : ℕ) → Asked
  migrates : (old new : List ℕ) → Asked
  checks : Asked
  replays : Asked
  rehearses : (lab : List ℕ) (moment : ℕ) → Asked

-- the subcommand that asks for it
abbrev pub name_of : Asked → List ℕ
name_of (founds file lab) = codes "found"
name_of (serves file port count) = codes "serve"
name_of (copies file lab from to) = codes "copy"
name_of (migrates old new) = codes "migrate"
name_of checks = codes "check"
name_of replays = codes "replay"
name_of (rehearses lab moment) = codes "rehearse"

-- ---- what its arguments are

-- the text is decimal digits alone, which write the number; zeros may lead
abbrev pub IsDecimalOf : ℕ → List ℕ → Type 0
IsDecimalOf number text = IsNumeral 10 text × (digits_value 10 text ≡ number)

-- the argument of this name was given the text
abbrev pub HasText : List ℕ → List Row → List ℕ → Type 0
HasText name rows text = first_of name rows ≡ Some text

-- the argument of this name was given the number
abbrev pub HasNumber : List ℕ → List Row → ℕ → Type 0
HasNumber name rows number =
    (text : List ℕ) × (one_of name rows ≡ Some text) × IsDecimalOf number text

abbrev pub GivesArguments : Asked → List Row → Type 0
GivesArguments (founds file lab) rows =
    HasText (codes "file") rows file × HasText (codes "lab") rows lab
GivesArguments (serves file port count) rows =
    HasText (codes "file") rows file × HasNumber (codes "port") rows port × (port ≤ last_port)
    × HasNumber (codes "count") rows count × (count ≤ most_connections)
GivesArguments (copies file lab from to) rows =
    HasText (codes "file") rows file × HasText (codes "lab") rows lab
    × HasNumber (codes "from") rows from × IsTrue (is_ordinal from)
    × HasNumber (codes "to") rows to × IsTrue (is_ordinal to)
GivesArguments (migrates old new) rows =
    HasText (codes "old") rows old × HasText (codes "new") rows new
GivesArguments checks rows = Unit {0}
GivesArguments replays rows = Unit {0}
GivesArguments (rehearses lab moment) rows =
    HasText (codes "lab") rows lab × HasNumber (codes "moment") rows moment
    × IsTrue (is_moment moment)

-- the words are at no fault to `clap`, and name it with its arguments
pub record AsksTask (asked : Asked) (words : List (List ℕ)) : Type 0 where
  pub unfaulted : fault_of labdesk_app words ≡ []
  pub rows : List Row
  pub entered : subcommand_of labdesk_app words ≡ Some (name_of asked, rows)
  pub given : GivesArguments asked rows

-- ---- what is read of them

-- a task, without what it is given
pub data Errand : Type 0 where
  founding : Errand
  serving : Errand
  copying : Errand
  migrating : Errand
  checking : Errand
  replaying : Errand
  rehearsing : Errand

abbrev pub errand_of : Task → Errand
errand_of (Found file lab) = founding
errand_of (Serve file port count) = serving
errand_of (Copy file lab from to) = copying
errand_of (Migrate old new) = migrating
errand_of Check = checking
errand_of Replay = replaying
errand_of (Rehearse lab seconds) = rehearsing

-- that of a subcommand
abbrev pub errand_called : List ℕ → Errand
errand_called name = if bytes_eq name (codes "found") then founding
    else (if bytes_eq name (codes "serve") then serving
    else (if bytes_eq name (codes "copy") then copying
    else (if bytes_eq name (codes "migrate") then migrating
    else (if bytes_eq name (codes "check") then checking
    else (if bytes_eq name (codes "rehearse") then rehearsing else replaying)))))

abbrev pub errand_named : Option (List ℕ × List Row) → Errand
errand_named None = replaying
errand_named (Some named) = errand_called named.0

-- the text that was read for an argument is the one that was given, where one was
abbrev pub ReadsText : List ℕ → List Row → List ℕ → Type 0
ReadsText name rows read = (text : List ℕ) → HasText name rows text → read ≡ text

-- so is the number, where it is within the bound
abbrev pub ReadsNumber : ℕ → List ℕ → List Row → ℕ → Type 0
ReadsNumber most name rows read =
    (number : ℕ) → HasNumber name rows number → number ≤ most → read ≡ number

-- so are the seconds of a moment
abbrev pub ReadsMoment : List ℕ → List Row → ℤ → Type 0
ReadsMoment name rows read =
    (moment : ℕ) → HasNumber name rows moment → IsTrue (is_moment moment) → read ≡ pos moment

-- the task is given what was read of these
abbrev pub IsGiven : List Row → Task → Type 0
IsGiven rows (Found file lab) =
    ReadsText (codes "file") rows file.now × ReadsText (codes "lab") rows lab.now
IsGiven rows (Serve file port count) =
    ReadsText (codes "file") rows file.now × ReadsNumber last_port (codes "port") rows port
    × ReadsNumber most_connections (codes "count") rows count
IsGiven rows (Copy file lab from to) =
    ReadsText (codes "file") rows file.now × ReadsText (codes "lab") rows lab.now
    × ReadsNumber most_connections (codes "from") rows from
    × ReadsNumber most_connections (codes "to") rows to
IsGiven rows (Migrate old new) =
    ReadsText (codes "old") rows old.now × ReadsText (codes "new") rows new.now
IsGiven rows Check = Unit {0}
IsGiven rows Replay = Unit {0}
IsGiven rows (Rehearse lab seconds) =
    ReadsText (codes "lab") rows lab.now × ReadsMoment (codes "moment") rows seconds

-- what the words give it, where they name it
abbrev pub IsGivenIn : Option (List ℕ × List Row) → Task → Type 0
IsGivenIn None task = Unit {0}
IsGivenIn (Some named) task = IsGiven named.1 task
