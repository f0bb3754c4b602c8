use Rattle.std.proofs.Common.{◌≡◌, true, w64, SFits, rules, int_eq}
use Rattle.std.proofs.lemmas.Int.{to_z-of_z}
use Rattle.lab_move_tables.proofs.Wheres.{where_both}
use Rattle.lab_move_read_people.proofs.Found.{both_pass, first_fails, last_fails, found_ends, then_ends}
use Rattle.lab_move_read.proofs.leaves.leaf_whole.Goals as goal

pub returns-in_err-rows : goal.returns-in_err-rows
returns-in_err-rows g c =
    let id_fits : SFits w64 c.args.head.id = search rules in
    found_ends c.in_err-rows.field-0.0 (rw (to_z-of_z w64 c.args.lab c.ranges.lab, to_z-of_z w64 c.args.head.id id_fits) at c.in_err-rows.ensures)
    (λ t file fails. first_fails _ _ (last_fails _ _ fails)) c.from_residual.result c.from_residual.ensures.1 (λ t wanted. wanted.entries)

pub returns-in_err-signatures : goal.returns-in_err-signatures
returns-in_err-signatures g c =
    let id_fits : SFits w64 c.args.head.id = search rules in
    then_ends c.in_ok-rows.ensures c.in_err-signatures.field-0.0 (rw (to_z-of_z w64 c.args.lab c.ranges.lab, to_z-of_z w64 c.args.head.id id_fits) at c.in_err-signatures.ensures)
    (λ t file was fails. last_fails _ _ fails) (λ t file wanted was. wanted.signatures) c.from_residual-in_err-signatures.result c.from_residual-in_err-signatures.ensures.1

pub returns : goal.returns
returns g c =
    let head = c.args.head in
    let id_fits : SFits w64 head.id = search rules in
    let theirs : int_eq head.lab c.args.lab ≡ true = search rules in
    where_both (rw (to_z-of_z w64 c.args.lab c.ranges.lab, to_z-of_z w64 head.id id_fits) at c.in_ok-rows.ensures)
    (rw (to_z-of_z w64 c.args.lab c.ranges.lab, to_z-of_z w64 head.id id_fits) at c.in_ok-signatures.ensures) (λ t file rows signatures. (
      both_pass _ _ (both_pass _ _ theirs rows.0) signatures.0,
      λ i. record {
        number = head.number;
        format = head.format;
        opener = head.opener;
        opened = head.opened;
        reason = head.reason;
        rows = rows.1 i;
        signatures = signatures.1 i;
      },
    )) (λ t file wanted rows signatures. tt)
