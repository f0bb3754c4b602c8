use Rattle.std.proofs.Common.{w64, map, sym, ap, ◌∙◌, SFits, rules}
use Rattle.std.proofs.lemmas.Int.{to_z-of_z}
use Rattle.lab_store_tables.specs.Family.{Forms}
use Rattle.lab_move_tables.proofs.Wheres.{where_both}
use Rattle.lab_move_read_people.proofs.Found.{both_pass, first_fails, last_fails, found_ends, store_made, then_ends}
use Rattle.lab_move_read.specs.Forms.{form_of}
use Rattle.lab_move_read.proofs.FormsFound.{forms_alone}
use Rattle.lab_move_read.proofs.WholesFound.{both_read, records_tried, records_made}
use Rattle.lab_move_read.proofs.wholes.work_at.Goals as goal

pub returns-in_err-forms-clause-tries : goal.returns-in_err-forms-clause-tries
returns-in_err-forms-clause-tries g c =
    let id_fits : SFits w64 c.args.head.now.id = search rules in
    found_ends c.in_err-forms.field-0.0 (rw (to_z-of_z w64 c.args.head.now.id id_fits) at c.in_err-forms.ensures) (λ t file fails. first_fails _ _ fails) c.from_residual.result c.from_residual.ensures.1 (λ t wanted. wanted.forms)

pub returns-in_err-records-clause-tries : goal.returns-in_err-records-clause-tries
returns-in_err-records-clause-tries g c =
    let head = c.args.head.now in
    let id_fits : SFits w64 head.id = search rules in
    then_ends (rw (to_z-of_z w64 head.id id_fits) at c.in_ok-forms.ensures) c.in_err-records.field-0.0 (rw (to_z-of_z w64 head.id id_fits) at c.in_err-records.ensures.tries)
    (λ t file forms fails. last_fails _ _ (sym (records_tried t (file.rising.at Forms) head _ (c.as_slice.ensures ∙ forms.1)) ∙ fails))
    (λ t file wanted forms. wanted.records) c.from_residual-in_err-records.result c.from_residual-in_err-records.ensures.1

pub returns-in_err-alone-clause-tries : goal.returns-in_err-alone-clause-tries
returns-in_err-alone-clause-tries g c =
    store_made (both_read c.in_ok-forms.ensures c.in_ok-records.ensures.tries) (λ t file wanted both. c.in_err-alone.ensures.fault)
    c.from_residual-in_err-alone.result c.from_residual-in_err-alone.ensures.1

pub returns-clause-tries : goal.returns-clause-tries
returns-clause-tries g c =
    let head = c.args.head.now in
    let id_fits : SFits w64 head.id = search rules in
    where_both (rw (to_z-of_z w64 head.id id_fits) at c.in_ok-forms.ensures) (rw (to_z-of_z w64 head.id id_fits) at c.in_ok-records.ensures.tries) (λ t file forms records.
    let rise = file.rising.at Forms in
    let same = c.as_slice.ensures ∙ forms.1 in
    let alone = c.in_ok-alone.ensures.value ∙ ap (map form_of) (c.into_vec.ensures ∙ forms.1) ∙ forms_alone t head.id in
    let made = records.1 ∙ records_made t rise head _ same records.0 in
    (both_pass _ _ forms.0 (sym (records_tried t rise head _ same) ∙ records.0), λ i. record { forms = alone i; records = made i })) (λ t file wanted forms records. tt)

pub returns-clause-chained : goal.returns-clause-chained
returns-clause-chained g c = c.in_ok-records.ensures.chained
