use Rattle.std.proofs.Common.{w64, ◌∙◌, ap, ap₂, sym, subst, map, All}
use Rattle.std.proofs.lemmas.Int.{to_z-of_z}
use Rattle.lab_store_tables.specs.Ready.{tables_of}
use Rattle.lab_store_read.proofs.Causes.{made_so, made_if}
use Rattle.lab_store_read.proofs.Queries.{if_then}
use Rattle.lab_store_read.proofs.Readers.{reads_and}
use Rattle.lab_store_read_trail.specs.Readable.{HasTold}
use Rattle.lab_store_read_trail.specs.Private.Trails.{told_heads_within}
use Rattle.lab_store_read_trail.specs.Shown.{told_read, told_shown_within}
use Rattle.lab_store_read_trail.proofs.TrailsFound.{told_found}
use Rattle.lab_store_read_trail.proofs.trails.told_heads_at.Goals as goal

pub returns-clause-reads : goal.returns-clause-reads
returns-clause-reads g c =
    let t = tables_of (g.D.Readable.state c.args.conn.now) in
    reads_and (rw (to_z-of_z w64 c.args.lab c.ranges.lab) at c.in_ok-rows.ensures.reads) (λ kept rows.
    if_then c.told_of_rows.result (λ made is. is ∙ ap (map told_read) (c.deref.ensures.value ∙ rows)
    ∙ told_found t c.args.lab c.get.result c.get-2.result ∙ ap₂ (told_heads_within t c.args.lab) c.get.ensures.value c.get-2.ensures.value) c.told_of_rows.ensures.value)

pub returns-clause-cause : goal.returns-clause-cause
returns-clause-cause g c =
    let t = tables_of (g.D.Readable.state c.args.conn.now) in
    made_so (rw (to_z-of_z w64 c.args.lab c.ranges.lab) at c.in_ok-rows.ensures.reads) c.in_ok-rows.ensures.cause.limit (λ rows there.
    made_if _ _ (subst (All HasTold) (sym (c.deref.ensures.value ∙ rows ∙ ap₂ (told_shown_within t c.args.lab) c.get.ensures.value c.get-2.ensures.value)) there)
    c.told_of_rows.result c.told_of_rows.ensures.fault)
