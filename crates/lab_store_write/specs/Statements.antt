-- The statements that the writers try: their texts, and the values of their parameters.
use Rattle.std.specs.Prelude.{ℕ, ℤ, pos, List, [], ◌∷◌, ◌++◌, Option, Some, None, codes}
use Rattle.sqlite_value.specs.declared.value.Value.TheVariants.{Int, Text, Blob}
use Rattle.sqlite_value.specs.Order.{Row}
use Rattle.lab_people_access.specs.declared.persons.Person.{Person}
use Rattle.lab_people_access.specs.declared.sessions.Session.{Session}
use Rattle.lab_records_kept.specs.declared.trails.TrailRow.{TrailRow as Told}
use Rattle.lab_store_tables.specs.Rows.{number, flag}
use Rattle.lab_store_tables.specs.Changes.{person_row_of, session_row_of, told_row_of}
use Rattle.lab_store_tables.specs.Sheets.{row_of}
use Rattle.lab_store_tables.specs.Family.{Name, RowOf, kept, Persons, Sessions, Trail}
use Rattle.lab_store_write.specs.Causes.{Statement, statement}

-- a row's columns but its id, which the store chooses
abbrev pub columns_of : (k : Name) → RowOf k → Row
columns_of k one = row_of (kept k).sheet.columns ((kept k).cells one)

-- ---- persons

abbrev pub person_text : List ℕ
person_text = codes "SELECT id FROM persons WHERE lab = ?1 AND code = ?2 ORDER BY id"

abbrev pub asking_person : ℤ → List ℕ → Statement
asking_person lab code = statement person_text (Int lab ∷ Text code ∷ [])

abbrev pub add_person_text : List ℕ
add_person_text =
    codes "INSERT INTO persons (lab, code, name, roles, retired, failures, locked, kind,"
    ++ codes " salt, rounds, bytes, salt2, rounds2, bytes2, changed, asker, asked, ask_salt,"
    ++ codes " ask_rounds, ask_bytes) VALUES (?1, ?2, ?3, ?4, ?5, ?6, ?7, ?8, ?9, ?10, ?11,"
    ++ codes " ?12, ?13, ?14, ?15, ?16, ?17, ?18, ?19, ?20)"

abbrev pub adding_person : ℤ → Option ℤ → Person → Statement
adding_person lab asker person =
    statement add_person_text (columns_of Persons (person_row_of lab (pos 0) asker person))

abbrev pub set_person_text : List ℕ
set_person_text =
    codes "UPDATE persons SET lab = ?2, code = ?3, name = ?4, roles = ?5, retired = ?6,"
    ++ codes " failures = ?7, locked = ?8, kind = ?9, salt = ?10, rounds = ?11, bytes = ?12,"
    ++ codes " salt2 = ?13, rounds2 = ?14, bytes2 = ?15, changed = ?16, asker = ?17, asked ="
    ++ codes " ?18, ask_salt = ?19, ask_rounds = ?20, ask_bytes = ?21 WHERE id = ?1"

abbrev pub setting_person : ℤ → ℤ → Option ℤ → Person → Statement
setting_person lab id asker person =
    statement set_person_text (Int id ∷ columns_of Persons (person_row_of lab id asker person))

-- ---- sessions

abbrev pub add_session_text : List ℕ
add_session_text =
    codes "INSERT INTO sessions (lab, person, number, token, opened, last, closed,"
    ++ codes " signed) VALUES (?1, ?2, ?3, ?4, ?5, ?6, ?7, ?8)"

abbrev pub adding_session : ℤ → ℤ → Session → Statement
adding_session lab person session =
    statement add_session_text (columns_of Sessions (session_row_of lab (pos 0) person session))

abbrev pub sessions_text : List ℕ
sessions_text = codes "UPDATE labs SET sessions = ?2 WHERE id = ?1"

abbrev pub counting_sessions : ℤ → ℕ → Statement
counting_sessions lab count = statement sessions_text (Int lab ∷ number count ∷ [])

abbrev pub set_session_text : List ℕ
set_session_text =
    codes "UPDATE sessions SET person = ?3, number = ?4, opened = ?5, last = ?6, closed ="
    ++ codes " ?7, signed = ?8 WHERE lab = ?1 AND token = ?2"

-- the laboratory and the token, and then what is set
abbrev pub set_session_values : ℤ → ℤ → Session → Row
set_session_values lab person session =
    Int lab ∷ Blob session.token ∷ Int person ∷ number session.number ∷ number session.opened
    ∷ number session.last ∷ flag session.closed ∷ flag session.signed ∷ []

abbrev pub setting_session : ℤ → ℤ → Session → Statement
setting_session lab person session =
    statement set_session_text (set_session_values lab person session)

abbrev pub all_text : List ℕ
all_text = codes "SELECT id FROM sessions WHERE person = ?1 AND closed = 0 ORDER BY id"

-- the open sessions of a person
abbrev pub asking_sessions : ℤ → Statement
asking_sessions person = statement all_text (Int person ∷ [])

abbrev pub others_text : List ℕ
others_text =
    codes "SELECT id FROM sessions WHERE person = ?1 AND closed = 0 AND number <> ?2"
    ++ codes " ORDER BY id"

-- and those but one
abbrev pub asking_others : ℤ → ℕ → Statement
asking_others person spared = statement others_text (Int person ∷ number spared ∷ [])

abbrev pub close_text : List ℕ
close_text = codes "UPDATE sessions SET closed = 1 WHERE id = ?1"

abbrev pub closing_session : ℤ → Statement
closing_session id = statement close_text (Int id ∷ [])

-- ---- the laboratory's row

abbrev pub last_text : List ℕ
last_text = codes "UPDATE labs SET last = ?2 WHERE id = ?1"

abbrev pub setting_last : ℤ → ℕ → Statement
setting_last lab moment = statement last_text (Int lab ∷ number moment ∷ [])

abbrev pub strays_text : List ℕ
strays_text = codes "UPDATE labs SET stray = ?2 WHERE id = ?1"

abbrev pub setting_strays : ℤ → ℕ → Statement
setting_strays lab count = statement strays_text (Int lab ∷ number count ∷ [])

-- ---- the trail

abbrev pub add_told_text : List ℕ
add_told_text =
    codes "INSERT INTO trail (lab, number, moment, person, action, subject) VALUES (?1,"
    ++ codes " ?2, ?3, ?4, ?5, ?6)"

abbrev pub adding_told : ℤ → Option ℤ → Told → Statement
adding_told lab person told =
    statement add_told_text (columns_of Trail (told_row_of lab (pos 0) person told))

abbrev pub trail_text : List ℕ
trail_text = codes "UPDATE labs SET trail = ?2 WHERE id = ?1"

abbrev pub row_text : List ℕ
row_text = codes "UPDATE labs SET last = ?2, trail = ?3 WHERE id = ?1"

-- the counter of the trail, with the last moment, if one is given
abbrev pub counting_trail : ℤ → Option ℕ → ℕ → Statement
counting_trail lab None count = statement trail_text (Int lab ∷ number count ∷ [])
counting_trail lab (Some moment) count =
    statement row_text (Int lab ∷ number moment ∷ number count ∷ [])
