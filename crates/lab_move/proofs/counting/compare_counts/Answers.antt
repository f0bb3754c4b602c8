use Rattle.std.proofs.Common.{◌≡◌, inr, Err, ap}
use Rattle.lab_store_files.specs.declared.faults.FileFault.TheVariants.{Storage}
use Rattle.lab_move_tables.proofs.OldReaders.{may_and, may_end}
use Rattle.lab_move.proofs.OldVerdicts.{any_ok, of_store_by}
use Rattle.lab_move.specs.declared.faults.MoveFault.TheVariants.{File}
use Rattle.lab_move.proofs.RefusedLabs.{told_storage}
use Rattle.lab_move.proofs.Matching.{differing}
use Rattle.lab_move.proofs.counting.compare_counts.Goals as goal

pub returns-in-Ok-clause-reads : goal.returns-in-Ok-clause-reads
returns-in-Ok-clause-reads g c = may_and c.in-Ok.ensures.reads (λ t file it. any_ok c.all_or_storage.result)

pub returns-in-Ok-clause-passes : goal.returns-in-Ok-clause-passes
returns-in-Ok-clause-passes g c = may_and c.in-Ok.ensures.passes (λ t file it. any_ok c.all_or_storage.result)

pub returns-in-Err-clause-reads : goal.returns-in-Err-clause-reads
returns-in-Err-clause-reads g c = may_end c.in-Err.ensures.reads (Err c.store_fault.result) (λ e. Unit {0}) tt

pub returns-in-Err-clause-passes : goal.returns-in-Err-clause-passes
returns-in-Err-clause-passes g c = may_end c.in-Err.ensures.passes (Err c.store_fault.result) (λ e. Unit {0}) tt

pub returns-in-Err-clause-fault : goal.returns-in-Err-clause-fault
returns-in-Err-clause-fault g c = of_store_by c.in-Err.fault c.store_fault.result c.store_fault.ensures

pub returns-in-Ok-clause-cause : goal.returns-in-Ok-clause-cause
returns-in-Ok-clause-cause g c clean late ours =
    differing (λ fault. fault ≡ Storage) c.all_or_storage.result c.all_or_storage.ensures.unlike (λ unlike. inr (inr (c.in-Ok.ensures.unlike clean late ours unlike)))

pub returns-in-Err-clause-cause : goal.returns-in-Err-clause-cause
returns-in-Err-clause-cause g c clean late ours told = c.in-Err.ensures.cause clean late ours (told_storage c.in-Err.fault c.store_fault.result c.store_fault.ensures (ap File told))
