use Rattle.std.proofs.Common.{◌∙◌, w64, rules, SFits}
use Rattle.std.proofs.lemmas.Int.{to_z-of_z}
use Rattle.lab_store_tables.specs.Ready.{tables_of}
use Rattle.lab_store_read.proofs.Readers.{may_read, reads_both}
use Rattle.lab_store_read_records.proofs.Found.{leaf_built}
use Rattle.lab_store_read.proofs.Causes.{then_so, passed_on, none_told}
use Rattle.lab_store_read_records.specs.Readable.{HasLeaf}
use Rattle.lab_store_read_records.proofs.leaves.leaf_at.Goals as goal

pub returns-clause-reads : goal.returns-clause-reads
returns-clause-reads g c =
    let id = c.args.head.id in
    let fits : SFits w64 id = search rules in
    reads_both (rw (to_z-of_z w64 id fits) at c.in_ok-rows.ensures.reads) (may_read (rw (to_z-of_z w64 id fits) at c.in_ok-signatures.ensures.reads))
    (λ kept rows signatures.
    leaf_built (tables_of (g.D.Readable.state c.args.conn.now)) c.args.head _ _ (c.new.ensures ∙ rows) (c.from_vec.ensures ∙ signatures))

pub returns-in_err-rows-clause-cause : goal.returns-in_err-rows-clause-cause
returns-in_err-rows-clause-cause g c =
    let id = c.args.head.id in
    let fits : SFits w64 id = search rules in
    passed_on (rw (to_z-of_z w64 id fits) at c.in_err-rows.ensures.cause) (λ has. has.entries) c.from_residual.result c.from_residual.ensures.1

pub returns-in_err-signatures-clause-cause : goal.returns-in_err-signatures-clause-cause
returns-in_err-signatures-clause-cause g c =
    let id = c.args.head.id in
    let fits : SFits w64 id = search rules in
    passed_on {Was = λ t. HasLeaf t id} (then_so (may_read (rw (to_z-of_z w64 id fits) at c.in_ok-rows.ensures.reads)) c.in_ok-rows.ensures.cause.limit
    (may_read (rw (to_z-of_z w64 id fits) at c.in_err-signatures.ensures.reads)) (rw (to_z-of_z w64 id fits) at c.in_err-signatures.ensures.cause)
    (λ _ has. has.signatures))
    (λ has. has) c.from_residual-in_err-signatures.result c.from_residual-in_err-signatures.ensures.1

pub returns-clause-cause : goal.returns-clause-cause
returns-clause-cause g c = none_told (c.in_ok-signatures.ensures.cause.limit ∙ c.in_ok-rows.ensures.cause.limit)
