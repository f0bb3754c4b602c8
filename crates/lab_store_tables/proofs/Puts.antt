-- A row that is put into a table under a free id and the next number: the rows of all tables stay well kept.
use Rattle.std.proofs.Common.{◌≡◌, ◌+◌, true, List, filter, length, refl, int_eq, bytes_eq}
use Rattle.std.proofs.lemmas.Bool.{and_from}
use Rattle.sqlite_keyed.specs.Keyed.{insert_by}
use Rattle.sqlite_keyed.proofs.KeyedLemmas.{all-insert_by}
use Rattle.lab_store_tables.specs.Rows.{PersonRow, RecordRow, Tables, person_id, form_id, field_id, record_id, version_id}
use Rattle.lab_store_tables.specs.Family.{Name, Desk, Labs, Persons, Sessions, Forms, Fields, Choices, Records, Versions, Entries, Signatures, Trail, RowOf, id_of, rows}
use Rattle.lab_store_tables.proofs.FamilyWords.{put}
use Rattle.lab_store_tables.specs.Changes.{IsFree}
use Rattle.lab_store_tables.proofs.LabLaws.{alike}
use Rattle.lab_store_tables.proofs.Kept.{is_beside, number_of, AreNumberedIn, IsRowKept, AreRowsKept}
use Rattle.lab_store_tables.proofs.PutRows.{found_put, numbered_put}
use Rattle.lab_store_tables.proofs.Leads.{Leads, shown_still, kept_with}
use Rattle.lab_store_tables.proofs.Comparing.{text_alike}

leads_put : (k : Name) (rows : List (RowOf k)) (row : RowOf k) → IsFree (id_of k) rows (id_of k row) → Leads k rows (insert_by (id_of k) rows row)
leads_put Persons rows row free =
    shown_still person_id rows (insert_by person_id rows row) (λ at one found. found_put person_id row rows at one free found) (λ (x : PersonRow). x.lab)
leads_put Forms rows row free = λ at one found. found_put form_id row rows at one free found
leads_put Fields rows row free = λ at one found. found_put field_id row rows at one free found
leads_put Records rows row free =
    shown_still record_id rows (insert_by record_id rows row) (λ at one found. found_put record_id row rows at one free found) (λ (x : RecordRow). x.lab)
leads_put Versions rows row free = λ at one found. found_put version_id row rows at one free found
leads_put _ rows row free = tt

-- ---- numbers

-- the row has the next number of those beside it, where rows have numbers
abbrev pub IsNext : (k : Name) → RowOf k → List (RowOf k) → Type 0
IsNext Desk row rows = Unit {0}
IsNext Labs row rows = Unit {0}
IsNext Persons row rows = Unit {0}
IsNext k row rows = number_of k row ≡ length (filter (is_beside k row) rows) + 1

beside_itself : (k : Name) (row : RowOf k) → is_beside k row row ≡ true
beside_itself Sessions row = alike row.lab row.lab refl
beside_itself Forms row = and_from (int_eq row.lab row.lab) (bytes_eq row.code row.code) (alike row.lab row.lab refl) (text_alike row.code row.code refl)
beside_itself Fields row = alike row.form row.form refl
beside_itself Choices row = alike row.field row.field refl
beside_itself Records row = alike row.lab row.lab refl
beside_itself Versions row = alike row.kept row.kept refl
beside_itself Entries row = alike row.version row.version refl
beside_itself Signatures row = alike row.version row.version refl
beside_itself Trail row = alike row.lab row.lab refl
beside_itself _ row = refl

next_put : (k : Name) (rows : List (RowOf k)) (row : RowOf k) → IsFree (id_of k) rows (id_of k row) → IsNext k row rows → AreNumberedIn k rows
    → AreNumberedIn k (insert_by (id_of k) rows row)
next_put Desk rows row free next numbered = tt
next_put Labs rows row free next numbered = tt
next_put Persons rows row free next numbered = tt
next_put k rows row free next numbered = numbered_put (id_of k) (is_beside k) (number_of k) rows row free (beside_itself k row) next numbered

-- ---- all of it

pub put_kept : (k : Name) (t : Tables) (row : RowOf k) → IsFree (id_of k) (rows k t) (id_of k row) → IsRowKept k t row → IsNext k row (rows k t) → AreRowsKept t
    → AreRowsKept (put k row t)
put_kept k t row free own next kept =
    kept_with k (insert_by (id_of k) (rows k t) row) t (leads_put k (rows k t) row free) (
      all-insert_by (id_of k) (IsRowKept k t) (rows k t) row own (kept.at k).0,
      next_put k (rows k t) row free next (kept.at k).1,
    ) kept
