-- Where there is none before, it is read.
use Rattle.std.proofs.Common.{◌≡◌, w64, Option, sym, subst}
use Rattle.std.proofs.lemmas.Int.{to_z-of_z}
use Rattle.std.specs.Prelude.{IfSome}
use Rattle.lab_store_read.specs.Reads.{MayRead}
use Rattle.lab_store_read.proofs.Readers.{may_read, reads_as}
use Rattle.lab_store_read_forms.specs.declared.heads.FormAt.{FormAt}
use Rattle.lab_store_read_forms.specs.Private.FormsBehind.{form_with_id, IsAtItsId}
use Rattle.lab_store_read_forms.proofs.forms_behind.form_behind.Goals as goal

pub returns-in-Some-clause-reads : goal.returns-in-Some-clause-reads
returns-in-Some-clause-reads g c =
    subst (λ (before : Option FormAt). MayRead (λ t found. IfSome before (IsAtItsId t) → found ≡ form_with_id t c.args.id)
    (g.D.Readable.state c.args.conn.now) (g.D.Readable.state c.form_after.new.conn) c.form_after.result) (sym c.in-Some.is)
    (rw (to_z-of_z w64 c.args.id c.ranges.id) at c.form_after.ensures.reads)

pub returns-in-None-clause-reads : goal.returns-in-None-clause-reads
returns-in-None-clause-reads g c = may_read (reads_as (rw (to_z-of_z w64 c.args.id c.ranges.id) at c.form_with_id.ensures.reads) (λ found is right. is))

pub returns-in-Some-clause-cause : goal.returns-in-Some-clause-cause
returns-in-Some-clause-cause g c = rw (to_z-of_z w64 c.args.id c.ranges.id) at c.form_after.ensures.cause

pub returns-in-None-clause-cause : goal.returns-in-None-clause-cause
returns-in-None-clause-cause g c = rw (to_z-of_z w64 c.args.id c.ranges.id) at c.form_with_id.ensures.cause
