use Rattle.std.proofs.Common.{w64, ◌∙◌, ◌++◌, ap, map}
use Rattle.std.proofs.lemmas.Int.{to_z-of_z}
use Rattle.lab_store_tables.specs.Ready.{tables_of}
use Rattle.lab_store_read.proofs.Readers.{may_read, reads_both}
use Rattle.lab_store_read_forms.specs.Wholes.{record_by}
use Rattle.lab_store_read_forms.proofs.FiledFound.{filed_built}
use Rattle.lab_store_read.proofs.Causes.{then_so, passed_on, none_told}
use Rattle.lab_store_read_forms.proofs.Below.{own_records, within_below}
use Rattle.std.specs.Prelude.{All}
use Rattle.lab_store_read_records.specs.Retrieved.{within_shown}
use Rattle.lab_store_read_forms.specs.Readable.{HasWholeRecord}
use Rattle.lab_store_read_forms.proofs.filed.filed_within.Goals as goal

pub returns-clause-reads : goal.returns-clause-reads
returns-clause-reads g c =
    let t = tables_of (g.D.Readable.state c.args.conn.now) in
    let code = c.args.code.now in
    reads_both (rw (to_z-of_z w64 c.args.lab c.ranges.lab) at c.in_ok-heads.ensures.reads) c.in_ok-add_records.ensures.reads (λ kept given made. made
    ∙ ap (λ l. l ++ map (record_by t code) c.in_ok-heads.heads.items) c.new-made.ensures.items ∙ ap (map (record_by t code)) given
    ∙ filed_built t code c.args.lab c.args.from c.args.to)

pub returns-in_err-heads-clause-cause : goal.returns-in_err-heads-clause-cause
returns-in_err-heads-clause-cause g c =
    let t = tables_of (g.D.Readable.state c.args.conn.now) in
    passed_on (rw (to_z-of_z w64 c.args.lab c.ranges.lab) at c.in_err-heads.ensures.cause) (own_records t c.args.lab c.args.from c.args.to)
    c.from_residual.result c.from_residual.ensures.1

pub returns-in_err-add_records-clause-cause : goal.returns-in_err-add_records-clause-cause
returns-in_err-add_records-clause-cause g c =
    let t = tables_of (g.D.Readable.state c.args.conn.now) in
    passed_on {Was = λ t. All (HasWholeRecord t) (within_shown t c.args.lab c.args.from c.args.to)}
    (then_so (may_read (rw (to_z-of_z w64 c.args.lab c.ranges.lab) at c.in_ok-heads.ensures.reads)) c.in_ok-heads.ensures.cause.limit
    c.in_err-add_records.ensures.reads c.in_err-add_records.ensures.cause
    (λ given has. within_below t c.args.lab c.args.from c.args.to c.in_ok-heads.heads.items given has))
    (λ has. has) c.from_residual-in_err-add_records.result c.from_residual-in_err-add_records.ensures.1

pub returns-clause-cause : goal.returns-clause-cause
returns-clause-cause g c = none_told (c.in_ok-add_records.ensures.cause.limit ∙ c.in_ok-heads.ensures.cause.limit)
