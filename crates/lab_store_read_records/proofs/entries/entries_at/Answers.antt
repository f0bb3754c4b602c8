use Rattle.std.proofs.Common.{w64, ◌∙◌, ◌++◌, ap, map, sym, subst, All}
use Rattle.std.proofs.lemmas.Int.{to_z-of_z}
use Rattle.lab_store_tables.specs.Ready.{tables_of}
use Rattle.lab_store_read.proofs.Causes.{passed_on, passed_so, then_so}
use Rattle.lab_store_read.proofs.Readers.{may_read, reads_both}
use Rattle.lab_store_read_records.specs.Private.Heads.{entry_by}
use Rattle.lab_store_read_records.specs.Private.Readable.{HasWriter}
use Rattle.lab_store_read_records.proofs.Found.{entries_built}
use Rattle.lab_store_read_records.proofs.EntryCauses.{all_owns, all_writers}
use Rattle.lab_store_read_records.proofs.entries.entries_at.Goals as goal

pub returns-in_err-heads-clause-cause : goal.returns-in_err-heads-clause-cause
returns-in_err-heads-clause-cause g c =
    passed_on (rw (to_z-of_z w64 c.args.version c.ranges.version) at c.in_err-heads.ensures.cause)
    (all_owns (tables_of (g.D.Readable.state c.args.conn.now)) c.args.version) c.from_residual.result c.from_residual.ensures.1

pub returns-in_err-add_entries-clause-cause : goal.returns-in_err-add_entries-clause-cause
returns-in_err-add_entries-clause-cause g c =
    let t = tables_of (g.D.Readable.state c.args.conn.now) in
    passed_so (then_so (may_read (rw (to_z-of_z w64 c.args.version c.ranges.version) at c.in_ok-heads.ensures.reads)) c.in_ok-heads.ensures.cause.limit
    c.in_err-add_entries.ensures.reads c.in_err-add_entries.ensures.cause
    (λ given there. subst (All (HasWriter t)) (sym given) (all_writers t c.args.version there)))
    c.from_residual-in_err-add_entries.result c.from_residual-in_err-add_entries.ensures.1

pub returns-clause-reads : goal.returns-clause-reads
returns-clause-reads g c =
    let t = tables_of (g.D.Readable.state c.args.conn.now) in
    reads_both (rw (to_z-of_z w64 c.args.version c.ranges.version) at c.in_ok-heads.ensures.reads) c.in_ok-add_entries.ensures.reads (λ kept given made. made
    ∙ ap (λ l. l ++ map (entry_by t) c.in_ok-heads.heads.items) c.new-made.ensures.items ∙ ap (map (entry_by t)) given
    ∙ entries_built t c.args.version)
