use Rattle.std.proofs.Common.{◌≡◌, Ok, map, take}
use Rattle.lab_store_files.specs.NewFiles.{IsBlank, IsEmptyUnder}
use Rattle.lab_move_write.specs.Tables.{own_tables, schema_of}
use Rattle.lab_move_write.specs.Private.Unfinished.{Makes}
use Rattle.lab_move_write.proofs.making.make_each.Given as goal

-- the tables so far were made
abbrev pub invariant-loop-text : goal.invariant-loop-text
invariant-loop-text g l =
    map (λ text. text.now) l.texts ≡ map (λ one. one.1) own_tables
    → Makes {A = Unit {0}} g.W.Writable.lender g.W.Writable.state IsBlank (IsEmptyUnder (schema_of (take l.text-index own_tables))) l.fn.tx l.tx (Ok tt)
