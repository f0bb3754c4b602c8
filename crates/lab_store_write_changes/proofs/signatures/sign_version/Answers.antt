use Rattle.std.proofs.Common.{◌≡◌, Some, inl, inr, sym, subst}
use Rattle.lab_store_write.specs.declared.statements.RowId.{RowId}
use Rattle.lab_records_kept.specs.declared.changes.Change.TheVariants.{SignatureAdded}
use Rattle.lab_store_write.specs.Givers.{Knows}
use Rattle.lab_store_write.specs.Tried.{TriedFrom}
use Rattle.lab_store_write_changes.specs.Tried.{TriesToAddSignature, TriesIn}
use Rattle.lab_store_write.proofs.Trying.{found_first}
use Rattle.lab_store_write.proofs.Inside.{steps_weaker}
use Rattle.lab_store_write.proofs.Writers.{and_given_by, answers_as, fails_so_by}
use Rattle.lab_store_write_changes.specs.VersionsShown.{version_in_record}
use Rattle.lab_store_write_changes.proofs.Added.{version_signed}
use Rattle.lab_store_write_changes.proofs.signatures.sign_version.Goals as goal

pub returns-in_err-signed : goal.returns-in_err-signed
returns-in_err-signed g c =
    fails_so_by c.in_err-signed.ensures {more = TriedFrom (Knows c.args.lab.id c.args.giver) (TriesIn c.args.lab.id (SignatureAdded c.args.wanted c.args.version c.args.signature.now))} (λ before tried at it known. inl it)
    c.from_residual.result c.from_residual.ensures.1

pub returns : goal.returns
returns g c =
    let knows = Knows c.args.lab.id c.args.giver in
    let own = TriesToAddSignature c.args.lab.id c.in_ok-signed.signed.id c.args.signature.now in
    and_given_by {tries = TriedFrom knows own} (λ (one : RowId) t. version_in_record (λ _. c.args.version) t c.args.lab.id c.args.wanted ≡ Some one.id) {more = TriedFrom (Knows c.args.lab.id c.args.giver) (TriesIn c.args.lab.id (SignatureAdded c.args.wanted c.args.version c.args.signature.now))}
    (λ before mid tried at found it known. inr (c.in_ok-signed.signed.id, found.0, found_first own found.1 (it (subst knows (sym found.1) known)))) c.in_ok-signed.ensures
    (answers_as c.add_signature.ensures (λ _. steps_weaker _ _ _ _
    (λ before after adds there known. version_signed c.args.lab.id c.args.wanted c.args.version c.args.signature.now c.in_ok-signed.signed.id before after (adds known) there)))
