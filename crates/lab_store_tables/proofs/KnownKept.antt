-- What changes and foundings make of the small file is well kept, as the small file is.
use Rattle.std.proofs.Common.{◌≡◌, ℕ, pos, false, None, refl, ap, arith}
use Rattle.std.specs.Prelude.{codes}
use Rattle.lab_store_tables.specs.Rows.{PersonRow, PasswordColumns}
use Rattle.lab_store_tables.specs.WellKept.{IsWellKept, IsPersonSpelled}
use Rattle.lab_store_tables.proofs.KnownFile.{file, person, unset, unasked}
use Rattle.lab_store_tables.proofs.KnownChanges.{later, entered, entered_later, eve_locked, enrolled, closed, opened, formed, reopened, signed, noted, opened_record, used, strayed}
use Rattle.lab_store_tables.proofs.KnownPlacing.{founded, whole}
use Rattle.lab_store_tables.proofs.Tests.{kept_by_tests}

pub known_file : IsWellKept file
known_file = kept_by_tests file refl refl refl refl refl refl refl refl refl refl refl refl refl refl

pub known_later : IsWellKept later
known_later = kept_by_tests later refl refl refl refl refl refl refl refl refl refl refl refl refl refl

pub known_entered : IsWellKept entered
known_entered = kept_by_tests entered refl refl refl refl refl refl refl refl refl refl refl refl refl refl

pub known_entered_later : IsWellKept entered_later
known_entered_later = kept_by_tests entered_later refl refl refl refl refl refl refl refl refl refl refl refl refl refl

pub known_eve_locked : IsWellKept eve_locked
known_eve_locked = kept_by_tests eve_locked refl refl refl refl refl refl refl refl refl refl refl refl refl refl

pub known_enrolled : IsWellKept enrolled
known_enrolled = kept_by_tests enrolled refl refl refl refl refl refl refl refl refl refl refl refl refl refl

pub known_closed : IsWellKept closed
known_closed = kept_by_tests closed refl refl refl refl refl refl refl refl refl refl refl refl refl refl

pub known_opened : IsWellKept opened
known_opened = kept_by_tests opened refl refl refl refl refl refl refl refl refl refl refl refl refl refl

pub known_formed : IsWellKept formed
known_formed = kept_by_tests formed refl refl refl refl refl refl refl refl refl refl refl refl refl refl

pub known_reopened : IsWellKept reopened
known_reopened = kept_by_tests reopened refl refl refl refl refl refl refl refl refl refl refl refl refl refl

pub known_signed : IsWellKept signed
known_signed = kept_by_tests signed refl refl refl refl refl refl refl refl refl refl refl refl refl refl

pub known_noted : IsWellKept noted
known_noted = kept_by_tests noted refl refl refl refl refl refl refl refl refl refl refl refl refl refl

pub known_opened_record : IsWellKept opened_record
known_opened_record = kept_by_tests opened_record refl refl refl refl refl refl refl refl refl refl refl refl refl refl

pub known_used : IsWellKept used
known_used = kept_by_tests used refl refl refl refl refl refl refl refl refl refl refl refl refl refl

pub known_strayed : IsWellKept strayed
known_strayed = kept_by_tests strayed refl refl refl refl refl refl refl refl refl refl refl refl refl refl

pub known_founded : IsWellKept founded
known_founded = kept_by_tests founded refl refl refl refl refl refl refl refl refl refl refl refl refl refl

pub known_whole : IsWellKept whole
known_whole = kept_by_tests whole refl refl refl refl refl refl refl refl refl refl refl refl refl refl

-- ---- roles and kinds of passwords that there aren't: they are read as others

abbrev third_kind : PasswordColumns
third_kind = record unset { kind = 3 }

abbrev of_third_kind : PersonRow
of_third_kind = person (pos 9) (pos 7) (codes "ivy") (codes "Ivy Iles") 1 false 0 None third_kind unasked

pub known_third_kind : IsPersonSpelled of_third_kind → ⊥
known_third_kind spelled = absurd (let wrong : ◌≡◌ {A = ℕ} 2 3 = ap (λ (one : PasswordColumns). one.kind) spelled.1 in omega arith)

abbrev of_sixth_role : PersonRow
of_sixth_role = person (pos 9) (pos 7) (codes "ivy") (codes "Ivy Iles") 32 false 0 None unset unasked

pub known_sixth_role : IsPersonSpelled of_sixth_role → ⊥
known_sixth_role spelled = absurd (let wrong : ◌≡◌ {A = ℕ} 0 32 = spelled.0 in omega arith)
