use Rattle.std.proofs.Common.{w64, ◌∙◌, ap, option_map, slice_get, subst, sym, IsTrue}
use Rattle.std.proofs.lemmas.Int.{to_z-of_z}
use Rattle.lab_store_tables.specs.Ready.{tables_of}
use Rattle.lab_store_read.specs.Private.Shown.{code_read}
use Rattle.lab_store_read.specs.Shown.{shows_code}
use Rattle.lab_store_read.proofs.Queries.{if_then}
use Rattle.lab_store_read.proofs.Readers.{reads_and}
use Rattle.lab_store_read.proofs.Causes.{made_so, made_there}
use Rattle.lab_store_read.proofs.Found.{code_is}
use Rattle.lab_store_read.proofs.codes.code_at.Goals as goal

pub returns-clause-reads : goal.returns-clause-reads
returns-clause-reads g c = reads_and (rw (to_z-of_z w64 c.args.id c.ranges.id) at c.in_ok-rows.ensures.reads) (λ kept rows.
    if_then c.first_code.result (λ code is. code_is (tables_of (g.D.Readable.state c.args.conn.now)) c.args.id code (is
    ∙ ap (λ l. option_map code_read (slice_get l 0)) (c.deref.ensures.value ∙ rows))) c.first_code.ensures.value)

pub returns-clause-cause : goal.returns-clause-cause
returns-clause-cause g c =
    made_so (rw (to_z-of_z w64 c.args.id c.ranges.id) at c.in_ok-rows.ensures.reads) c.in_ok-rows.ensures.cause.limit (λ rows there.
    made_there _ (subst (λ l. IsTrue (shows_code l)) (sym (c.deref.ensures.value ∙ rows)) there) c.first_code.result c.first_code.ensures.fault)
