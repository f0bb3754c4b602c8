use Rattle.std.proofs.Common.{◌≡◌, [], ◌∷◌, refl}
use Rattle.sqlite_value.specs.declared.value.Value.TheVariants.{Int}
use Rattle.sqlite.specs.Values.{bound}
use Rattle.lab_store_write_changes.specs.Private.VersionsShown.{records_shown}
use Rattle.lab_store_tables.specs.Rows.{number}
use Rattle.lab_store_write_changes.specs.Statements.{asking_record}
use Rattle.lab_store_write.specs.Tried.{Only}
use Rattle.lab_store_write.proofs.Writers.{rows_found_by, shown_rows}
use Rattle.lab_store_write_changes.proofs.EntryKeyLemmas.{record_text, record_means, record_ours, records_read}
use Rattle.lab_store_write_changes.proofs.named.record_rows.Goals as goal

pub returns-clause-shown : goal.returns-clause-shown
returns-clause-shown g c =
    let given : bound (c.id_value.result ∷ c.ordinal_value.result ∷ []) ≡ Int c.args.lab.id ∷ number c.args.wanted ∷ [] = λ i. c.id_value.ensures i
    ∷ c.ordinal_value.ensures i ∷ [] in
    shown_rows (g.W.Writable.state c.args.tx.now) (g.W.Writable.state c.query_all.new.self) record_text (Int c.args.lab.id ∷ number c.args.wanted ∷ [])
    (record_ours c.args.lab.id c.args.wanted) given c.query_all.result c.query_all.ensures.ok

pub returns-clause-found : goal.returns-clause-found
returns-clause-found g c =
    let it = c.query_all.ensures in
    let given : bound (c.id_value.result ∷ c.ordinal_value.result ∷ []) ≡ Int c.args.lab.id ∷ number c.args.wanted ∷ [] = λ i. c.id_value.ensures i
    ∷ c.ordinal_value.ensures i ∷ [] in
    rows_found_by {tries = Only (asking_record c.args.lab.id c.args.wanted)} record_text record_means.read (Int c.args.lab.id ∷ number c.args.wanted ∷ []) (record_ours c.args.lab.id c.args.wanted) (λ _. (refl, refl)) (records_shown c.args.lab.id c.args.wanted)
    given it.same_lender it.survives it.ok it.err (λ rows. records_read _ _ c.args.lab.id c.args.wanted rows)
