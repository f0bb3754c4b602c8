-- Definitions for proofs only, which belong to specs/OldSchema.antt: no clause names them.
use Rattle.std.specs.Prelude.{codes, List, ℕ}
use Rattle.lab_move_tables.specs.OldSchema.{persons, forms, versions}

abbrev pub persons_text : List ℕ
persons_text = codes "CREATE TABLE persons (id INTEGER PRIMARY KEY, lab INTEGER NOT NULL REFERENCES labs (id), code TEXT NOT NULL, name TEXT NOT NULL, roles INTEGER NOT NULL, retired INTEGER NOT NULL, failures INTEGER NOT NULL, locked INTEGER, kind INTEGER NOT NULL, salt BLOB, rounds INTEGER, bytes BLOB, salt2 BLOB, bytes2 BLOB, changed INTEGER, asker INTEGER REFERENCES persons (id), asked INTEGER, ask_salt BLOB, ask_bytes BLOB, UNIQUE (lab, code)) STRICT"

abbrev pub forms_text : List ℕ
forms_text = codes "CREATE TABLE forms (id INTEGER PRIMARY KEY, lab INTEGER NOT NULL REFERENCES labs (id), code TEXT NOT NULL, version INTEGER NOT NULL, UNIQUE (lab, code, version)) STRICT"

abbrev pub versions_text : List ℕ
versions_text = codes "CREATE TABLE versions (id INTEGER PRIMARY KEY, record INTEGER NOT NULL REFERENCES records (id), number INTEGER NOT NULL, opener INTEGER NOT NULL REFERENCES persons (id), opened INTEGER NOT NULL, reason TEXT, UNIQUE (record, number)) STRICT"
