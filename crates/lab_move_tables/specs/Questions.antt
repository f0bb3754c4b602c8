-- The fifteen questions by which a file of an older schema is read, each a text of SQL; those for the
-- tables that have changed since go by the schema. A parameter is the code of a laboratory, the id of
-- a person, or the id of the row to which those that are asked for belong.
use Rattle.std.specs.Prelude.{ℕ, List, codes}
use Rattle.lab_move_tables.specs.declared.older.Older.{Older}
use Rattle.lab_move_tables.specs.declared.older.Older.TheVariants.{Two}

-- ---- laboratories

abbrev pub codes_text : List ℕ
codes_text = codes "SELECT code FROM labs ORDER BY code"

abbrev pub lab_text : List ℕ
lab_text = codes "SELECT id, code, name, last, stray, records, sessions, trail FROM labs WHERE code = ?1"

-- ---- persons and sessions

abbrev pub person_text : Older → List ℕ
person_text Two = codes "SELECT code, name, roles, retired, failures, locked, kind, salt, rounds, bytes, salt2, bytes2, changed, asker, asked, ask_salt, ask_bytes FROM persons WHERE lab = ?1 ORDER BY code"

abbrev pub owner_text : List ℕ
owner_text = codes "SELECT code, lab FROM persons WHERE id = ?1"

abbrev pub session_text : List ℕ
session_text = codes "SELECT sessions.number, persons.code, sessions.token, sessions.opened, sessions.last, sessions.closed, sessions.signed, persons.lab FROM sessions, persons WHERE sessions.lab = ?1 AND persons.id = sessions.person ORDER BY sessions.number"

-- ---- forms

abbrev pub form_text : Older → List ℕ
form_text Two = codes "SELECT id, code, version FROM forms WHERE lab = ?1 ORDER BY code, version"

abbrev pub field_text : List ℕ
field_text = codes "SELECT id, key, label, required, kind, unit, decimals, low, high, size, place FROM fields WHERE form = ?1 ORDER BY place"

abbrev pub choice_text : List ℕ
choice_text = codes "SELECT name, place FROM choices WHERE field = ?1 ORDER BY place"

-- ---- records

abbrev pub filed_text : List ℕ
filed_text = codes "SELECT id, number, form, form_code, sample, current FROM records WHERE lab = ?1 ORDER BY number"

abbrev pub version_text : Older → List ℕ
version_text Two = codes "SELECT versions.id, versions.number, persons.code, versions.opened, versions.reason, persons.lab FROM versions, persons WHERE versions.record = ?1 AND persons.id = versions.opener ORDER BY versions.number"

abbrev pub entry_text : List ℕ
entry_text = codes "SELECT entries.key, entries.value, entries.unit, persons.code, entries.moment, entries.reason, entries.place, persons.lab FROM entries, persons WHERE entries.version = ?1 AND persons.id = entries.person ORDER BY entries.place"

abbrev pub entry_place_text : List ℕ
entry_place_text = codes "SELECT place FROM entries WHERE version = ?1 ORDER BY place"

abbrev pub signature_text : List ℕ
signature_text = codes "SELECT persons.code, signatures.name, signatures.meaning, signatures.reason, signatures.moment, signatures.digest, signatures.seal, signatures.place, persons.lab FROM signatures, persons WHERE signatures.version = ?1 AND persons.id = signatures.person ORDER BY signatures.place"

abbrev pub signature_place_text : List ℕ
signature_place_text = codes "SELECT place FROM signatures WHERE version = ?1 ORDER BY place"

-- ---- the trail

abbrev pub told_text : List ℕ
told_text = codes "SELECT number, moment, person, action, subject FROM trail WHERE lab = ?1 ORDER BY number"
