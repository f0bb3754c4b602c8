use Rattle.std.proofs.Common.{◌≡◌, w64}
use Rattle.std.proofs.lemmas.Int.{to_z-of_z}
use Rattle.lab_store_tables.specs.Ready.{tables_of}
use Rattle.lab_store_tables.specs.Meaning.{code_of}
use Rattle.lab_store_read.proofs.Readers.{none_read, may_read, reads_as}
use Rattle.lab_store_read.specs.Known.{AreKnown}
use Rattle.lab_store_read.proofs.KnownCodes.{among_is, known_more}
use Rattle.lab_store_read.proofs.Readers.{none_failed}
use Rattle.lab_store_read.proofs.known.code_once.Goals as goal

pub returns-in_err-found-clause-reads : goal.returns-in_err-found-clause-reads
returns-in_err-found-clause-reads g c = none_failed (g.D.Readable.state c.args.conn.now) c.from_residual.result _ c.from_residual.ensures.1

pub returns-in-Some-clause-reads : goal.returns-in-Some-clause-reads
returns-in-Some-clause-reads g c =
    let t = tables_of (g.D.Readable.state c.args.conn.now) in
    let known = c.args.known.now.items in
    let sought = rw (to_z-of_z w64 c.args.id c.ranges.id) at c.in_ok-found.ensures in
    let is : AreKnown t known → (c.in-Some.code ≡ code_of t c.args.id) × AreKnown t known = λ are.
    (among_is t c.args.id known c.deref.result.now c.in_ok-found.found c.in-Some.code c.deref.ensures.value sought c.in-Some.is are, are) in
    none_read is

pub returns-in-None-clause-reads : goal.returns-in-None-clause-reads
returns-in-None-clause-reads g c =
    let t = tables_of (g.D.Readable.state c.args.conn.now) in
    may_read (reads_as (rw (to_z-of_z w64 c.args.id c.ranges.id) at c.new_code.ensures.reads) (λ code is are.
    (is.0, known_more t c.args.id c.args.known.now.items c.new_code.new.known.items is.1 are)))
