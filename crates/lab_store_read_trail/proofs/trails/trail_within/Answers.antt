use Rattle.std.proofs.Common.{w64, ◌∙◌, ◌++◌, ap, map, sym, subst, All}
use Rattle.std.proofs.lemmas.Int.{to_z-of_z}
use Rattle.lab_store_tables.specs.Ready.{tables_of}
use Rattle.lab_store_read.proofs.Causes.{passed_on, passed_so, then_so}
use Rattle.lab_store_read.proofs.Readers.{may_read, reads_both}
use Rattle.lab_store_read_trail.specs.Readable.{HasDoer}
use Rattle.lab_store_read_trail.specs.Private.Trails.{told_by}
use Rattle.lab_store_read_trail.proofs.TrailsFound.{told_built}
use Rattle.lab_store_read_trail.proofs.TrailCauses.{all_columns, all_doers}
use Rattle.lab_store_read_trail.proofs.trails.trail_within.Goals as goal

pub returns-in_err-heads-clause-cause : goal.returns-in_err-heads-clause-cause
returns-in_err-heads-clause-cause g c =
    passed_on (rw (to_z-of_z w64 c.args.lab c.ranges.lab) at c.in_err-heads.ensures.cause) (all_columns (tables_of (g.D.Readable.state c.args.conn.now)) _)
    c.from_residual.result c.from_residual.ensures.1

pub returns-in_err-add_all_told-clause-cause : goal.returns-in_err-add_all_told-clause-cause
returns-in_err-add_all_told-clause-cause g c =
    let t = tables_of (g.D.Readable.state c.args.conn.now) in
    passed_so (then_so (may_read (rw (to_z-of_z w64 c.args.lab c.ranges.lab) at c.in_ok-heads.ensures.reads)) c.in_ok-heads.ensures.cause.limit
    c.in_err-add_all_told.ensures.reads c.in_err-add_all_told.ensures.cause
    (λ given there. subst (All (HasDoer t)) (sym given) (all_doers t c.args.lab c.args.from c.args.to there)))
    c.from_residual-in_err-add_all_told.result c.from_residual-in_err-add_all_told.ensures.1

pub returns-clause-reads : goal.returns-clause-reads
returns-clause-reads g c =
    let t = tables_of (g.D.Readable.state c.args.conn.now) in
    reads_both (rw (to_z-of_z w64 c.args.lab c.ranges.lab) at c.in_ok-heads.ensures.reads) c.in_ok-add_all_told.ensures.reads (λ kept given made. made
    ∙ ap (λ l. l ++ map (told_by t) c.in_ok-heads.heads.items) c.new-made.ensures.items ∙ ap (map (told_by t)) given
    ∙ told_built t c.args.lab c.args.from c.args.to)
