-- What clauses of private functions say beside Reading.antt.
use Rattle.std.specs.Prelude.{Result}
use Rattle.sqlite.specs.State.{State}
use Rattle.lab_store_tables.specs.Rows.{Tables}
use Rattle.lab_move_tables.specs.Standing.{StandsBy}
use Rattle.lab_move_tables.specs.declared.older.Older.{Older}
use Rattle.lab_move_tables.specs.Reading.{ReadsAs}

-- of a file of this one
abbrev pub ReadsBy : Older → {T E : Type 0} → (Tables → T → Type 0) → State → State → Result T E
    → Type 0
ReadsBy older Answer old new result = ReadsAs (StandsBy older) Answer old new result
