use Rattle.std.proofs.Common.{w64}
use Rattle.std.proofs.lemmas.Int.{to_z-of_z}
use Rattle.lab_store_tables.specs.Ready.{tables_of}
use Rattle.lab_store_tables.specs.Meaning.{code_of}
use Rattle.lab_store_read.proofs.Readers.{reads_and, reads_fail}
use Rattle.lab_store_read.proofs.KnownCodes.{known_pushed}
use Rattle.lab_store_read.proofs.known.new_code.Goals as goal

pub returns-in_err-copy-clause-reads : goal.returns-in_err-copy-clause-reads
returns-in_err-copy-clause-reads g c =
    reads_fail c.in_ok-code.ensures.reads c.from_residual-in_err-copy.result _ c.from_residual-in_err-copy.ensures.1

pub returns-in_err-push-clause-reads : goal.returns-in_err-push-clause-reads
returns-in_err-push-clause-reads g c =
    reads_fail c.in_ok-code.ensures.reads c.from_residual-in_err-push.result _ c.from_residual-in_err-push.ensures.1

pub returns-clause-reads : goal.returns-clause-reads
returns-clause-reads g c =
    let t = tables_of (g.D.Readable.state c.args.conn.now) in
    reads_and (rw (to_z-of_z w64 c.args.id c.ranges.id) at c.in_ok-code.ensures.reads) (λ kept is. (
      is,
      known_pushed c.args.known.now.items _ _ c.args.id c.in_ok-copy.copy c.in_ok-code.code (code_of t c.args.id)
          (to_z-of_z w64 c.args.id c.ranges.id) c.in_ok-copy.ensures is c.in_ok-push.ensures.items,
    ))
