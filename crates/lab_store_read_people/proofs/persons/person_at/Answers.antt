use Rattle.std.proofs.Common.{w64, ◌∙◌, ap, sym, subst, option_map, slice_get, IfSome}
use Rattle.std.proofs.lemmas.Int.{to_z-of_z}
use Rattle.lab_people_access.specs.Persons.{person_of}
use Rattle.lab_store_tables.specs.Meaning.{persons_of}
use Rattle.lab_store_tables.specs.Ready.{tables_of}
use Rattle.lab_store_read.proofs.Readers.{reads_then, may_read}
use Rattle.lab_store_read.specs.Causes.{HasFirst}
use Rattle.lab_store_read.proofs.Causes.{unread_so, then_so}
use Rattle.lab_store_read_people.specs.Private.Heads.{person_by}
use Rattle.lab_store_read_people.specs.PersonsReadable.{HasPerson, HasAsker, HasWholePerson}
use Rattle.lab_store_read_people.specs.PersonsShown.{person_read, person_shown_by}
use Rattle.lab_store_read_people.proofs.PersonCauses.{first_columns, first_asker}
use Rattle.lab_store_read_people.proofs.PersonsFound.{person_found}
use Rattle.lab_store_read_people.proofs.persons.person_at.Goals as goal

pub returns-in_err-head-clause-cause : goal.returns-in_err-head-clause-cause
returns-in_err-head-clause-cause g c =
    let t = tables_of (g.D.Readable.state c.args.conn.now) in
    unread_so (rw (to_z-of_z w64 c.args.lab c.ranges.lab) at c.in_ok-rows.ensures.reads) c.in_ok-rows.ensures.cause.limit
    c.from_residual-in_err-head.result c.from_residual-in_err-head.ensures.1 (λ rows there told. c.in_err-head.ensures.fault told
    (subst (HasFirst HasPerson) (sym (c.deref.ensures.value ∙ rows)) (first_columns t _ (subst (λ code. HasFirst (HasWholePerson t) (person_shown_by t c.args.lab code)) (sym c.as_str.ensures.value) there))))

pub returns-clause-reads : goal.returns-clause-reads
returns-clause-reads g c =
    let t = tables_of (g.D.Readable.state c.args.conn.now) in
    reads_then (rw (to_z-of_z w64 c.args.lab c.ranges.lab) at c.in_ok-rows.ensures.reads) c.person_if.ensures.reads (λ kept rows person is. is
    ∙ ap (option_map (person_by t)) (c.in_ok-head.ensures.value ∙ ap (λ l. option_map person_read (slice_get l 0)) (c.deref.ensures.value ∙ rows))
    ∙ person_found t kept.rows c.args.lab c.as_str.result.now ∙ ap (person_of (persons_of t c.args.lab)) c.as_str.ensures.value)

pub returns-clause-cause : goal.returns-clause-cause
returns-clause-cause g c =
    let t = tables_of (g.D.Readable.state c.args.conn.now) in
    then_so (may_read (rw (to_z-of_z w64 c.args.lab c.ranges.lab) at c.in_ok-rows.ensures.reads)) c.in_ok-rows.ensures.cause.limit c.person_if.ensures.reads c.person_if.ensures.cause (λ rows there.
    subst (λ o. IfSome o (HasAsker t)) (sym (c.in_ok-head.ensures.value ∙ ap (λ l. option_map person_read (slice_get l 0)) (c.deref.ensures.value ∙ rows)))
    (first_asker t _ (subst (λ code. HasFirst (HasWholePerson t) (person_shown_by t c.args.lab code)) (sym c.as_str.ensures.value) there)))
