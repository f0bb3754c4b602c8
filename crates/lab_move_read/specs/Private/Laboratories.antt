-- What clauses of private functions say beside Laboratories.antt.
use Rattle.std.specs.Prelude.{ℕ, Bool, ◌&&◌, List}
use Rattle.sqlite_value.specs.Order.{Row, column, bytes}
use Rattle.lab_records_kept.specs.declared.labs.Lab.{Lab}
use Rattle.lab_store_tables.specs.Rows.{Tables}
use Rattle.lab_store_tables.specs.Meaning.{persons_of, sessions_of, forms_of, records_of}
use Rattle.lab_store_read_records.specs.declared.heads.LabHead.{LabHead}
use Rattle.lab_store_read_records.specs.Laboratories.{lab_by as lab_by_head}
use Rattle.lab_move_tables.specs.KeptLabs.{are_kept_persons, are_kept_sessions, are_kept_forms, are_kept_records, is_kept_trail}
use Rattle.lab_move_read.specs.declared.wholes.People.{People}
use Rattle.lab_move_read.specs.declared.wholes.Work.{Work}

-- ---- codes

abbrev pub code_read : Row → List ℕ
code_read row = bytes (column row 0)

-- ---- a laboratory

abbrev pub are_kept_people : Tables → LabHead → Bool
are_kept_people t head = are_kept_persons t head.id && are_kept_sessions t head.id head.sessions

abbrev pub people_of : Tables → LabHead → People
people_of t head = record { persons = persons_of t head.id; sessions = sessions_of t head.id }

abbrev pub is_kept_work : Tables → LabHead → Bool
is_kept_work t head = are_kept_forms t head.id && are_kept_records t head.id head.records

abbrev pub work_of : Tables → LabHead → Work
work_of t head = record { forms = forms_of t head.id; records = records_of t head.code head.id }

abbrev pub is_kept_head : Tables → LabHead → Bool
is_kept_head t head =
    are_kept_people t head && is_kept_work t head && is_kept_trail t head.id head.trail

abbrev pub lab_by : Tables → LabHead → Lab
lab_by t head = lab_by_head t head
