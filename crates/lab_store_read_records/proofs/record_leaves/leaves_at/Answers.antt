use Rattle.std.proofs.Common.{w64, ◌∙◌, ◌++◌, ap, map}
use Rattle.std.proofs.lemmas.Int.{to_z-of_z}
use Rattle.lab_store_tables.specs.Ready.{tables_of}
use Rattle.lab_store_read.proofs.Readers.{may_read, reads_both}
use Rattle.lab_store_read_records.specs.Leaves.{leaf_of, leaf_by}
use Rattle.lab_store_read_records.proofs.RetrievalFound.{leaves_found}
use Rattle.lab_store_read_records.proofs.Below.{own_rows, leaves_below}
use Rattle.lab_store_read.proofs.Causes.{then_so, passed_on, none_told}
use Rattle.std.specs.Prelude.{All}
use Rattle.lab_store_read_records.specs.Readable.{HasWholeVersion}
use Rattle.lab_store_read_records.specs.Shown.{versions_shown}
use Rattle.lab_store_read_records.proofs.record_leaves.leaves_at.Goals as goal

pub returns-clause-reads : goal.returns-clause-reads
returns-clause-reads g c =
    let t = tables_of (g.D.Readable.state c.args.conn.now) in
    reads_both (rw (to_z-of_z w64 c.args.kept c.ranges.kept) at c.in_ok-heads.ensures.reads) c.in_ok-add_leaves.ensures.reads (λ kept given made. made
    ∙ ap (λ l. map leaf_of l ++ map (leaf_by t) c.in_ok-heads.heads.items) c.new-made.ensures.items ∙ ap (map (leaf_by t)) given ∙ leaves_found t c.args.kept)

pub returns-in_err-heads-clause-cause : goal.returns-in_err-heads-clause-cause
returns-in_err-heads-clause-cause g c =
    let t = tables_of (g.D.Readable.state c.args.conn.now) in
    passed_on (rw (to_z-of_z w64 c.args.kept c.ranges.kept) at c.in_err-heads.ensures.cause) (own_rows t c.args.kept) c.from_residual.result c.from_residual.ensures.1

pub returns-in_err-add_leaves-clause-cause : goal.returns-in_err-add_leaves-clause-cause
returns-in_err-add_leaves-clause-cause g c =
    let t = tables_of (g.D.Readable.state c.args.conn.now) in
    passed_on {Was = λ t. All (HasWholeVersion t) (versions_shown t c.args.kept)} (then_so (may_read (rw (to_z-of_z w64 c.args.kept c.ranges.kept) at c.in_ok-heads.ensures.reads)) c.in_ok-heads.ensures.cause.limit
    c.in_err-add_leaves.ensures.reads c.in_err-add_leaves.ensures.cause (λ given has. leaves_below t c.args.kept c.in_ok-heads.heads.items given has))
    (λ has. has) c.from_residual-in_err-add_leaves.result c.from_residual-in_err-add_leaves.ensures.1

pub returns-clause-cause : goal.returns-clause-cause
returns-clause-cause g c = none_told (c.in_ok-add_leaves.ensures.cause.limit ∙ c.in_ok-heads.ensures.cause.limit)
