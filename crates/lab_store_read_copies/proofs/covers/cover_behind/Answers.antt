-- Where there is none before, its form is read.
use Rattle.std.proofs.Common.{◌≡◌, IfSome, Option, sym, subst}
use Rattle.lab_store_read.specs.Reads.{MayRead}
use Rattle.lab_store_read.proofs.Readers.{may_read, reads_as}
use Rattle.lab_store_read_copies.specs.GivenRows.{IsFormed, filed_by}
use Rattle.lab_store_read_copies.specs.declared.covers.Cover.{Cover}
use Rattle.lab_store_read_copies.proofs.covers.cover_behind.Goals as goal

pub returns-in-Some-clause-reads : goal.returns-in-Some-clause-reads
returns-in-Some-clause-reads g c =
    subst (λ (before : Option Cover). MayRead
    (λ t cover. IfSome before (IsFormed t) → cover ≡ filed_by t c.args.head)
    (g.D.Readable.state c.args.conn.now) (g.D.Readable.state c.cover_after.new.conn)
    c.cover_after.result) (sym c.in-Some.is) c.cover_after.ensures.reads

pub returns-in-None-clause-reads : goal.returns-in-None-clause-reads
returns-in-None-clause-reads g c = may_read (reads_as c.first_cover.ensures.reads (λ cover is formed. is))
