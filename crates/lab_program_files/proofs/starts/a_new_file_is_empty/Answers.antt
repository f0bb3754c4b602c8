-- What is found in a file without a byte has no table.
use Rattle.lab_program_files.proofs.StartLemmas.{blank_is_empty, blank_refused}
use Rattle.lab_program_files.proofs.starts.a_new_file_is_empty.Goals as goal

pub returns-clause-refused : goal.returns-clause-refused
returns-clause-refused g c = λ image next none ours clean.
    blank_refused g.S.Store image none next clean ours

pub returns-clause-empty : goal.returns-clause-empty
returns-clause-empty g c = λ image next none opened clean.
    blank_is_empty g.S.Store image none next clean opened
