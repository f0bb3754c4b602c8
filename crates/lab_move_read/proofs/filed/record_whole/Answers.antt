use Rattle.std.proofs.Common.{◌≡◌, false, true, nat_le, map, w64, ap, sym, subst, ◌∙◌, SFits, rules}
use Rattle.std.proofs.lemmas.Int.{to_z-of_z}
use Rattle.lab_store_read_records.specs.Leaves.{leaf_of}
use Rattle.lab_store_read_forms.specs.Wholes.{record_with}
use Rattle.lab_move_tables.proofs.Wheres.{where_and}
use Rattle.lab_move_read_people.proofs.Found.{both_pass, first_fails, last_fails, found_ends, tried_ends, store_made}
use Rattle.lab_move_read.proofs.RecordsFound.{record_is}
use Rattle.lab_store_read_records.specs.Readable.{ArePlaced}
use Rattle.lab_move_read.proofs.ReadableParts.{unsaid_fault}
use Rattle.lab_move_read.proofs.filed.record_whole.Goals as goal

pub returns-in_err-leaves-clause-tries : goal.returns-in_err-leaves-clause-tries
returns-in_err-leaves-clause-tries g c =
    let id_fits : SFits w64 c.args.head.id = search rules in
    found_ends c.in_err-leaves.field-0.0 (rw (to_z-of_z w64 c.args.lab c.ranges.lab, to_z-of_z w64 c.args.head.id id_fits) at c.in_err-leaves.ensures)
    (λ t file fails. last_fails _ _ fails) c.from_residual.result c.from_residual.ensures.1 (λ t wanted. wanted.versions)

pub returns-in_err-form-clause-tries : goal.returns-in_err-form-clause-tries
returns-in_err-form-clause-tries g c =
    where_and c.in_ok-leaves.ensures (λ t file was. tried_ends _ _ c.in_err-form.field-0.0 c.in_err-form.ensures.tried (λ fails. first_fails _ _ (first_fails _ _ fails))
    c.from_residual-in_err-form.result c.from_residual-in_err-form.ensures.1)
    (λ t file wanted was. unsaid_fault c.in_err-form.field-0.0 c.in_err-form.ensures.fault c.from_residual-in_err-form.result c.from_residual-in_err-form.ensures.1)

pub returns-then-head-eq0-clause-tries : goal.returns-then-head-eq0-clause-tries
returns-then-head-eq0-clause-tries g c =
    let none : nat_le 1 c.args.head.current ≡ false = search rules in
    where_and c.in_ok-leaves.ensures (λ t file was. first_fails _ _ (last_fails _ _ none)) (λ t file wanted was. tt)

pub returns-in_err-record_with-clause-tries : goal.returns-in_err-record_with-clause-tries
returns-in_err-record_with-clause-tries g c =
    let id_fits : SFits w64 c.args.head.id = search rules in
    store_made (rw (to_z-of_z w64 c.args.lab c.ranges.lab, to_z-of_z w64 c.args.head.id id_fits) at c.in_ok-leaves.ensures) (λ t file wanted leaves told. c.in_err-record_with.ensures.fault told
    (subst (ArePlaced false) (sym (ap (map leaf_of) c.into_vec.ensures ∙ leaves.1)) wanted.placed)) c.from_residual-in_err-record_with.result c.from_residual-in_err-record_with.ensures.1

pub returns-clause-tries : goal.returns-clause-tries
returns-clause-tries g c =
    let head = c.args.head in
    let id_fits : SFits w64 head.id = search rules in
    let some : nat_le 1 head.current ≡ true = search rules in
    where_and (rw (to_z-of_z w64 c.args.lab c.ranges.lab, to_z-of_z w64 head.id id_fits) at c.in_ok-leaves.ensures) (λ t file leaves. (
      both_pass _ _ (both_pass _ _ c.in_ok-form.ensures.tried.0 some) leaves.0,
      c.in_ok-record_with.ensures.value ∙ ap (λ l. record_with c.args.code.now head c.in_ok-form.form (map leaf_of l)) c.into_vec.ensures ∙ ap (record_with c.args.code.now head c.in_ok-form.form) leaves.1
          ∙ record_is t c.args.code.now c.args.forms.now head c.in_ok-form.form c.in_ok-form.ensures.tried.1,
    )) (λ t file wanted leaves. tt)

pub returns-clause-chained : goal.returns-clause-chained
returns-clause-chained g c = c.in_ok-record_with.ensures.chained
