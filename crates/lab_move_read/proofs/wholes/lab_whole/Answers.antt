use Rattle.std.proofs.Common.{w64, SFits, rules, ◌∙◌}
use Rattle.std.proofs.lemmas.Int.{to_z-of_z}
use Rattle.lab_move_tables.proofs.Wheres.{where_by_schema, where_both}
use Rattle.lab_move_read_people.proofs.Found.{both_pass, first_fails, last_fails, found_ends, then_ends}
use Rattle.lab_move_read.proofs.WholesFound.{both_read}
use Rattle.lab_move_read.proofs.wholes.lab_whole.Goals as goal

pub returns-in_err-people : goal.returns-in_err-people
returns-in_err-people g c =
    found_ends c.in_err-people.field-0.0 c.in_err-people.ensures (λ t file fails. first_fails _ _ (first_fails _ _ fails)) c.from_residual.result c.from_residual.ensures.1 (λ t wanted. wanted.people)

pub returns-in_err-work : goal.returns-in_err-work
returns-in_err-work g c =
    then_ends c.in_ok-people.ensures c.in_err-work.field-0.0 c.in_err-work.ensures.tries (λ t file was fails. first_fails _ _ (last_fails _ _ fails)) (λ t file wanted was. wanted.work)
    c.from_residual-in_err-work.result c.from_residual-in_err-work.ensures.1

pub returns-in_err-trail : goal.returns-in_err-trail
returns-in_err-trail g c =
    let id_fits : SFits w64 c.args.head.id = search rules in
    then_ends (both_read c.in_ok-people.ensures c.in_ok-work.ensures.tries) c.in_err-trail.field-0.0 (where_by_schema (rw (to_z-of_z w64 c.args.head.id id_fits) at c.in_err-trail.ensures))
    (λ t file was fails. last_fails _ _ fails) (λ t file wanted was. wanted.trail) c.from_residual-in_err-trail.result c.from_residual-in_err-trail.ensures.1

pub new-requires : goal.new-requires
new-requires g c = c.in_ok-work.ensures.chained

pub returns : goal.returns
returns g c =
    let head = c.args.head in
    let id_fits : SFits w64 head.id = search rules in
    where_both (both_read c.in_ok-people.ensures c.in_ok-work.ensures.tries) (where_by_schema (rw (to_z-of_z w64 head.id id_fits) at c.in_ok-trail.ensures)) (λ t file both trail. (
      both_pass _ _ (both_pass _ _ both.0.0 both.1.0) trail.0,
      c.new.ensures ∙ (λ i. record {
        code = head.code;
        name = head.name;
        last = head.last;
        strays = head.strays;
        persons = (both.0.1 i).persons;
        sessions = (both.0.1 i).sessions;
        forms = (both.1.1 i).forms;
        records = (both.1.1 i).records;
        trail = trail.1 i;
      }),
    )) (λ t file wanted both trail. tt)
