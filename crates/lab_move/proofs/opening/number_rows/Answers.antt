use Rattle.std.proofs.Common.{Err}
use Rattle.lab_move_tables.proofs.OldReaders.{rows_read, may_and, may_end}
use Rattle.lab_store_files.specs.Verdicts.{number_query}
use Rattle.lab_move.proofs.OldVerdicts.{desk_read, of_store_by}
use Rattle.lab_move.proofs.StoreCauses.{unanswered_so}
use Rattle.lab_move.proofs.opening.number_rows.Goals as goal

pub returns-in-Ok-clause-reads : goal.returns-in-Ok-clause-reads
returns-in-Ok-clause-reads g c = may_and (rows_read {Answer = λ t rows. Unit {0}} desk_read c.in-Ok.ensures (λ t file rows shown. tt)) (λ t file it. tt)

pub returns-in-Err-clause-reads : goal.returns-in-Err-clause-reads
returns-in-Err-clause-reads g c =
    may_end (rows_read {Answer = λ t rows. Unit {0}} desk_read c.in-Err.ensures (λ t file rows shown. tt))
    (Err c.store_fault.result) (λ e. Unit {0}) tt

pub returns-in-Err-clause-fault : goal.returns-in-Err-clause-fault
returns-in-Err-clause-fault g c = of_store_by c.in-Err.fault c.store_fault.result c.store_fault.ensures

pub returns-in-Err-clause-cause : goal.returns-in-Err-clause-cause
returns-in-Err-clause-cause g c clean =
    unanswered_so number_query (g.D.Readable.state c.args.tables.now) (g.D.Readable.state c.query_all.new.self) c.in-Err.fault c.store_fault.result c.store_fault.ensures (c.in-Err.ensures.err clean)
