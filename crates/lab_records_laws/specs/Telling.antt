-- What the audit trail tells of a command once it is answered: of each accepted command, but for
-- the card and the readings, who gave it, when, what was done and to what (21 CFR 11.10(e),
-- "secure, computer-generated, time-stamped audit trails to independently record the date and time
-- of operator entries and actions that create, modify, or delete electronic records"); and of each
-- failed password of an account (21 CFR 11.300(d), "to detect and report .. any attempts at their
-- unauthorized use").
use Rattle.std.specs.Prelude.{◌≡◌, ◌≢◌, ◌⊎◌, ℕ, ◌+◌, ◌-◌, Bool, true, false, not, ◌||◌, ◌&&◌, nat_lt, if◌then◌else◌, List, [], ◌∷◌, ◌++◌, length, take, Option, Some, None, option_map}
use Rattle.lab_people_access.specs.declared.persons.Person.{Person}
use Rattle.lab_people_access.specs.declared.refusals.PeopleRefusal.TheVariants.{Credentials}
use Rattle.lab_people_access.specs.Attempts.{failure_count, failures_to_lock}
use Rattle.lab_people_access.specs.Passwords.{is_set}
use Rattle.lab_people_access.specs.Persons.{is_locked}
use Rattle.lab_records_kept.specs.declared.labs.Lab.{Lab}
use Rattle.lab_records_kept.specs.declared.trails.Deed.{Deed}
use Rattle.lab_records_kept.specs.declared.trails.Deed.TheVariants.{Open as OpenDeed, Close as CloseDeed, Refuse, Lock, Password as PasswordDeed, Enrol as EnrolDeed, Issue as IssueDeed, Confirm as ConfirmDeed, Roles as RolesDeed, Retire as RetireDeed, Unlock as UnlockDeed, Form as FormDeed, Record as RecordDeed, Entry as EntryDeed, Amend as AmendDeed, Sign as SignDeed}
use Rattle.lab_records_kept.specs.declared.trails.Occasion.{Occasion}
use Rattle.lab_records_kept.specs.declared.trails.Occasion.TheVariants.{Opening, Changing, Signing}
use Rattle.lab_records_kept.specs.declared.trails.TrailRow.{TrailRow}
use Rattle.lab_records_kept.specs.Limits.{count_limit}
use Rattle.lab_records_kept.specs.Lookups.{caller_of, person_at}
use Rattle.lab_records_kept.specs.Trails.{trail_row_of}
use Rattle.lab_records_rules.specs.declared.refusals.Refusal.{Refusal}
use Rattle.lab_records_rules.specs.declared.refusals.Refusal.TheVariants.{People}
use Rattle.lab_records_versions.specs.Signing.{signed_meaning}
use Rattle.lab_records_machine.specs.declared.commands.Command.{Command}
use Rattle.lab_records_machine.specs.declared.commands.Command.TheVariants.{Card, Open, In}
use Rattle.lab_records_machine.specs.declared.commands.SessionCommand.TheVariants.{OnAccount, OnRecord, Reading}
use Rattle.lab_records_machine.specs.declared.commands.AccountCommand.{AccountCommand}
use Rattle.lab_records_machine.specs.declared.commands.AccountCommand.TheVariants.{Close, ChangePassword, Enrol, AskIssue, ConfirmIssue, SetRoles, Retire, Unlock}
use Rattle.lab_records_machine.specs.declared.commands.RecordCommand.{RecordCommand}
use Rattle.lab_records_machine.specs.declared.commands.RecordCommand.TheVariants.{MakeForm, OpenRecord, Enter, Amend, Sign}
use Rattle.lab_records_machine.specs.declared.commands.Instruction.{Instruction}
use Rattle.lab_records_machine.specs.declared.replies.Reply.{Reply}
use Rattle.lab_records_machine.specs.declared.replies.Reply.TheVariants.{Refused, Opened, Closed, FormMade, RecordOpened, Entered, Amended}
use Rattle.lab_records_machine.specs.Machine.{named_session}

-- ---- who gives a command

-- whoever opens a session, by the code that is typed; in a session its person; nobody gives the
-- card
abbrev pub giver : Option Person → Command → Option (List ℕ)
giver caller Card = None
giver caller (Open code password) = Some code
giver caller (In command) = option_map (λ person. person.code) caller

abbrev pub giver_of : Lab → Instruction → Option (List ℕ)
giver_of lab instruction =
    giver (caller_of lab (named_session lab instruction.token)) instruction.command

-- ---- accepted commands

abbrev pub is_accepted : Reply → Bool
is_accepted (Refused refusal) = false
is_accepted reply = true

-- what was done: by the person's command, with the number that the reply has
abbrev pub deed_on_account : List ℕ → AccountCommand → Reply → Option Deed
deed_on_account person Close (Closed session) = Some (CloseDeed session)
deed_on_account person Close reply = None
deed_on_account person (ChangePassword old new) reply = Some (PasswordDeed person)
deed_on_account person (Enrol code name roles) reply = Some (EnrolDeed code roles)
deed_on_account person (AskIssue code) reply = Some (IssueDeed code)
deed_on_account person (ConfirmIssue code) reply = Some (ConfirmDeed code)
deed_on_account person (SetRoles code roles) reply = Some (RolesDeed code roles)
deed_on_account person (Retire code) reply = Some (RetireDeed code)
deed_on_account person (Unlock code) reply = Some (UnlockDeed code)

abbrev pub deed_on_record : RecordCommand → Reply → Option Deed
deed_on_record (MakeForm code form) (FormMade made version) = Some (FormDeed code version)
deed_on_record (OpenRecord form sample) (RecordOpened number version) = Some (RecordDeed number)
deed_on_record (Enter number item reason) (Entered entered version rows digest) =
    Some (EntryDeed number version item.key)
deed_on_record (Amend number reason altered) (Amended amended version digest) =
    Some (AmendDeed number version)
deed_on_record (Sign number version digest signing password code) reply =
    Some (SignDeed number version (signed_meaning signing))
deed_on_record command reply = None

-- the card and a reading did nothing
abbrev pub deed_of : List ℕ → Command → Reply → Option Deed
deed_of person (Open code password) (Opened session token due) = Some (OpenDeed session)
deed_of person (In (OnAccount command)) reply = deed_on_account person command reply
deed_of person (In (OnRecord command)) reply = deed_on_record command reply
deed_of person command reply = None

-- the trail tells of a command
abbrev pub is_told : Command → Bool
is_told Card = false
is_told (Open code password) = true
is_told (In (OnAccount command)) = true
is_told (In (OnRecord command)) = true
is_told (In (Reading command)) = false

-- it has one row more, under the next number: who gave the command, when, what was done and to what
pub record HasItsRow (old : Lab) (moment : ℕ) (instruction : Instruction) (reply : Reply)
    (new : Lab) : Type 0 where
  pub person : List ℕ
  pub by : giver_of old instruction ≡ Some person
  pub deed : Deed
  pub done : deed_of person instruction.command reply ≡ Some deed
  pub row : new.trail
      ≡ old.trail ++ trail_row_of (length old.trail + 1) moment (Some person) deed ∷ []

abbrev pub TellsWhere : Bool → Lab → ℕ → Instruction → Reply → Lab → Type 0
TellsWhere true old moment instruction reply new = HasItsRow old moment instruction reply new
TellsWhere false old moment instruction reply new = new.trail ≡ old.trail

abbrev pub AcceptedTells : Lab → ℕ → Instruction → Reply → Lab → Type 0
AcceptedTells old moment instruction reply new =
    TellsWhere (is_told instruction.command) old moment instruction reply new

-- ---- failed passwords

-- for what a command gives a password
abbrev pub occasion_of : Command → Option Occasion
occasion_of (Open code password) = Some Opening
occasion_of (In (OnAccount (ChangePassword old new))) = Some Changing
occasion_of (In (OnRecord (Sign number version digest signing password code))) = Some Signing
occasion_of command = None

-- one more failed password locks the account, which isn't locked
abbrev pub is_locking : Person → ℕ → Bool
is_locking person moment =
    not (is_locked person.locked moment)
    && not (nat_lt (failure_count person.locked person.failures + 1) failures_to_lock)

-- what is told of a failed password: nothing where nobody can sign in by the code
abbrev pub failure_deeds : Option Person → ℕ → Occasion → List Deed
failure_deeds None moment occasion = []
failure_deeds (Some person) moment occasion =
    if person.retired || not (is_set person.password) then []
    else (if is_locking person moment then Refuse occasion ∷ Lock person.code ∷ []
    else Refuse occasion ∷ [])

-- the rows of a person's deeds, behind so many rows
abbrev pub trail_rows_of : ℕ → ℕ → List ℕ → List Deed → List TrailRow
trail_rows_of count moment person [] = []
trail_rows_of count moment person (deed ∷ deeds) =
    trail_row_of (count + 1) moment (Some person) deed ∷ trail_rows_of (count + 1) moment person deeds

-- as many of them as the trail has room for
abbrev pub rows_in_room : ℕ → ℕ → List ℕ → List Deed → List TrailRow
rows_in_room count moment person deeds =
    take (count_limit - count) (trail_rows_of count moment person deeds)

-- a failed password has its rows
pub record FailureTells (old : Lab) (moment : ℕ) (instruction : Instruction) (new : Lab)
    : Type 0 where
  pub person : List ℕ
  pub by : giver_of old instruction ≡ Some person
  pub occasion : Occasion
  pub asked : occasion_of instruction.command ≡ Some occasion
  pub rows : new.trail ≡ old.trail ++ rows_in_room (length old.trail) moment person
      (failure_deeds (person_at old person) moment occasion)

-- any other refusal has none, and counts nothing
pub record TellsNothing (old new : Lab) : Type 0 where
  pub trail : new.trail ≡ old.trail
  pub persons : new.persons ≡ old.persons
  pub strays : new.strays ≡ old.strays

abbrev pub RefusedTells : Lab → ℕ → Instruction → Refusal → Lab → Type 0
RefusedTells old moment instruction refusal new =
    ((refusal ≡ People Credentials) × FailureTells old moment instruction new)
    ⊎ ((refusal ≢ People Credentials) × TellsNothing old new)
