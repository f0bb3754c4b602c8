use Rattle.std.proofs.Common.{refl}
use Rattle.lab_store_read.proofs.Queries.{if_then}
use Rattle.lab_store_write_changes.specs.Statements.{asking_version}
use Rattle.lab_store_write.specs.Tried.{Only}
use Rattle.lab_store_write.proofs.Writers.{and_named_by, fails_so_by}
use Rattle.lab_store_write_changes.proofs.Unversioned.{unversioned_vainly}
use Rattle.lab_store_write_changes.proofs.VersionKeyLemmas.{version_found}
use Rattle.lab_store_write_changes.proofs.named.version_at.Goals as goal

pub returns-in_err-rows : goal.returns-in_err-rows
returns-in_err-rows g c = fails_so_by c.in_err-rows.ensures.found {more = Only (asking_version c.args.lab.id c.args.wanted c.args.version)} (λ before tried at it. it) c.from_residual.result c.from_residual.ensures.1

pub returns : goal.returns
returns g c =
    and_named_by c.in_ok-rows.ensures.found {tries = Only (asking_version c.args.lab.id c.args.wanted c.args.version)} {one = asking_version c.args.lab.id c.args.wanted c.args.version} (λ _. (refl, refl)) c.in_ok-rows.ensures.shown
    (λ rows. if_then c.first_version.result (λ one is. version_found (λ _. c.args.version) c.args.lab.id c.args.wanted one.id
    c.deref.result.now c.in_ok-rows.rows.items _ _ c.deref.ensures.value rows is) c.first_version.ensures.value)
    (λ t are. unversioned_vainly (λ _. c.args.version) c.args.lab.id c.args.wanted t c.deref.result.now c.in_ok-rows.rows.items
    c.deref.ensures.value are c.first_version.result c.first_version.ensures.fault)
