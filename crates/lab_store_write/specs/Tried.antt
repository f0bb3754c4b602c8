-- What each writer may try, and over which tables: one statement after the other, each over the
-- tables that those before it made.
use Rattle.std.specs.Prelude.{◌≡◌, ◌⊎◌, ℕ, ℤ, List, ◌∷◌, ◌++◌, Option, Some}
use Rattle.sqlite_value.specs.Order.{Row}
use Rattle.lab_people_access.specs.declared.persons.Person.{Person}
use Rattle.lab_people_access.specs.declared.sessions.Closing.{Closing}
use Rattle.lab_people_access.specs.declared.sessions.Closing.TheVariants.{Nothing, All, Others}
use Rattle.lab_people_access.specs.declared.sessions.Session.{Session}
use Rattle.lab_records_kept.specs.declared.trails.TrailRow.{TrailRow as Told}
use Rattle.lab_store_tables.specs.Rows.{Tables}
use Rattle.lab_store_tables.specs.Changes.{person_named, asker_of, IsNamedIfAny, InTurn}
use Rattle.lab_store_write.specs.Added.{with_session}
use Rattle.lab_store_write.specs.Causes.{Statement, Tries}
use Rattle.lab_store_write.specs.Closings.{ClosesRow, opened_shown}
use Rattle.lab_store_write.specs.Ids.{id_read}
use Rattle.lab_store_write.specs.Statements.{asking_person, adding_person, setting_person, adding_session, setting_session, counting_sessions, asking_sessions, asking_others, closing_session, adding_told, counting_trail}
use Rattle.lab_store_write.specs.TrailAdded.{with_told}

-- this statement, over these tables
abbrev pub Over : Statement → Tables → Statement → Tables → Type 0
Over one t tried at = (tried ≡ one) × (at ≡ t)

-- one statement, over the tables before the call
abbrev pub Only : Statement → Tries
Only one old tried at = Over one old tried at

-- what is tried where this is true of the tables before the call
abbrev pub TriedFrom : (Tables → Type 0) → Tries → Tries
TriedFrom P tries old tried at = P old → tries old tried at

-- what is tried of one of the items, behind the steps of those before it
pub record TriesInTurn {A : Type 0} (step : A → Tables → Tables → Type 0) (tries : A → Tries)
    (items : List A) (old : Tables) (tried : Statement) (at : Tables) : Type 0 where
  pub before : List A
  pub one : A
  pub behind : List A
  pub whole : items ≡ before ++ one ∷ behind
  pub begun : Tables
  pub made : InTurn step before old begun
  pub next : tries one begun tried at

-- ---- persons

-- a person is looked up, where one is named
abbrev pub TriesIfAny : ℤ → Option (List ℕ) → Tries
TriesIfAny lab given old tried at =
    (code : List ℕ) × (given ≡ Some code) × Over (asking_person lab code) old tried at

-- who asked for a one-time word is looked up, and then the row is added
abbrev pub TriesToAddPerson : ℤ → Person → Tries
TriesToAddPerson lab person old tried at =
    TriesIfAny lab (asker_of person) old tried at
    ⊎ ((asker : Option ℤ) × IsNamedIfAny old lab (asker_of person) asker
    × Over (adding_person lab asker person) old tried at)

-- the person and who asked are looked up, and then the row is set
abbrev pub TriesToSetPerson : ℤ → Person → Tries
TriesToSetPerson lab person old tried at =
    Over (asking_person lab person.code) old tried at
    ⊎ (TriesIfAny lab (asker_of person) old tried at
    ⊎ ((id : ℤ) × (person_named old lab person.code ≡ Some id)
    × (asker : Option ℤ) × IsNamedIfAny old lab (asker_of person) asker
    × Over (setting_person lab id asker person) old tried at))

-- ---- sessions

-- the person is looked up, the row is added, and then the sessions are counted
abbrev pub TriesToAddSession : ℤ → Session → Tries
TriesToAddSession lab session old tried at =
    Over (asking_person lab session.person) old tried at
    ⊎ ((person : ℤ) × (person_named old lab session.person ≡ Some person)
    × (Over (adding_session lab person session) old tried at
    ⊎ Over (counting_sessions lab session.number) (with_session lab person session old) tried at))

-- the person is looked up, and then the row is set
abbrev pub TriesToSetSession : ℤ → Session → Tries
TriesToSetSession lab session old tried at =
    Over (asking_person lab session.person) old tried at
    ⊎ ((person : ℤ) × (person_named old lab session.person ≡ Some person)
    × Over (setting_session lab person session) old tried at)

-- the session whose id a row shows is closed
abbrev pub TriesToCloseRow : Row → Tries
TriesToCloseRow row = Only (closing_session (id_read row))

abbrev pub TriesToCloseRows : List Row → Tries
TriesToCloseRows rows = TriesInTurn ClosesRow TriesToCloseRow rows

-- the person's open sessions that are meant are looked up, and then closed by their ids
abbrev pub TriesToClose : ℤ → Closing → Tries
TriesToClose person Nothing old tried at = ⊥
TriesToClose person All old tried at =
    Over (asking_sessions person) old tried at
    ⊎ TriesToCloseRows (opened_shown person All old) old tried at
TriesToClose person (Others spared) old tried at =
    Over (asking_others person spared) old tried at
    ⊎ TriesToCloseRows (opened_shown person (Others spared) old) old tried at

-- the person is looked up first
abbrev pub TriesToCloseOf : ℤ → List ℕ → Closing → Tries
TriesToCloseOf lab code closing old tried at =
    Over (asking_person lab code) old tried at
    ⊎ ((person : ℤ) × (person_named old lab code ≡ Some person)
    × TriesToClose person closing old tried at)

-- ---- the trail

-- who is named is looked up, the row is added, and then the rows are counted
abbrev pub TriesToAddTold : ℤ → Option ℕ → Told → Tries
TriesToAddTold lab last told old tried at =
    TriesIfAny lab told.person old tried at
    ⊎ ((person : Option ℤ) × IsNamedIfAny old lab told.person person
    × (Over (adding_told lab person told) old tried at
    ⊎ Over (counting_trail lab last told.number) (with_told lab person told old) tried at))
