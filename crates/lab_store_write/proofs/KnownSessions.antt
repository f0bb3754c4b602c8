-- Values from outside, computed on the definitions over the small file of lab_store_tables, in which two
-- laboratories have a session of one token: where a session more stands, and whose is set (docs/TABLES.md).
use Rattle.std.proofs.Common.{◌≡◌, ◌++◌, pos, true, false, [], ◌∷◌, refl, ℤ, List}
use Rattle.std.specs.Prelude.{codes}
use Rattle.lab_people_access.specs.declared.sessions.Session.{Session}
use Rattle.lab_store_tables.proofs.KnownFile.{filled, file, session}
use Rattle.lab_store_write.specs.Added.{with_session}
use Rattle.lab_store_write.specs.Private.Added.{SetsIfAny}
use Rattle.sqlite_value.specs.declared.value.Value.TheVariants.{Int}
use Rattle.sqlite_value.specs.Order.{Row}
use Rattle.lab_people_access.specs.declared.sessions.Closing.TheVariants.{Nothing, All, Others}
use Rattle.lab_store_tables.specs.Rows.{Tables}
use Rattle.lab_store_write.specs.Closings.{opened_shown, close_one, close_of, ClosesOf}

abbrev pub third : Session
third = record {
  number = 3;
  person = codes "dan";
  token = filled 32 44;
  opened = 1590;
  last = 1600;
  closed = false;
  signed = true;
}

-- it has the next id of its table, and stands behind the others
pub known_added :
    (with_session (pos 7) (pos 2) third file).sessions
    ≡ file.sessions ++ session (pos 5) (pos 7) (pos 2) 3 (filled 32 44) 1590 1600 false true ∷ []
known_added = refl

abbrev pub later : Session
later = record {
  number = 1;
  person = codes "dan";
  token = filled 32 41;
  opened = 900;
  last = 1500;
  closed = false;
  signed = false;
}

-- the session of aqua's dan is set, and no other, where a row was set
abbrev moved : Tables
moved = record file {
  sessions = session (pos 1) (pos 7) (pos 6) 2 (filled 32 42) 1250 1350 false true
      ∷ session (pos 2) (pos 3) (pos 1) 1 (filled 32 41) 100 400 false true
      ∷ session (pos 3) (pos 7) (pos 2) 1 (filled 32 41) 900 1500 false false
      ∷ session (pos 4) (pos 3) (pos 5) 2 (filled 32 43) 440 450 true true
      ∷ [];
}

pub known_set : SetsIfAny (pos 7) (pos 2) later 1 file moved
known_set = λ _. record { id = pos 3; found = refl; person = pos 2; named = refl; made = refl }

-- one row, which shows an id
abbrev only : ℤ → List Row
only id = (Int id ∷ []) ∷ []

-- of aqua's dan the one session, unless it is kept or nothing is closed; that of brick's ann is closed already
pub known_opened : (opened_shown (pos 2) All file ≡ only (pos 3)) × (opened_shown (pos 2) (Others 2) file ≡ only (pos 3))
    × (opened_shown (pos 2) (Others 1) file ≡ []) × (opened_shown (pos 2) Nothing file ≡ [])
    × (opened_shown (pos 5) All file ≡ [])
known_opened = (refl, refl, refl, refl, refl)

-- the session of aqua's dan is closed, and no other
abbrev closed : Tables
closed = record file {
  sessions = session (pos 1) (pos 7) (pos 6) 2 (filled 32 42) 1250 1350 false true
      ∷ session (pos 2) (pos 3) (pos 1) 1 (filled 32 41) 100 400 false true
      ∷ session (pos 3) (pos 7) (pos 2) 1 (filled 32 41) 900 1450 true true
      ∷ session (pos 4) (pos 3) (pos 5) 2 (filled 32 43) 440 450 true true
      ∷ [];
}

pub known_closing : ClosesOf (pos 7) (codes "dan") All file closed × (close_one (pos 3) file ≡ closed)
    × (close_of (pos 2) (Others 1) file ≡ file)
known_closing = (record { person = pos 2; named = refl; made = refl }, refl, refl)
