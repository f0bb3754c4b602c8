use Rattle.lab_records_copy_out.specs.Legible.{IsLegiblePerson}
use Rattle.lab_records_copy_out.proofs.EachLemmas.{each_more}
use Rattle.lab_records_copy_out.proofs.legible.persons_are_legible.Goals as goal

pub loop-person-preserved : goal.loop-person-preserved
loop-person-preserved c =
    each_more IsLegiblePerson c.args.persons.now c.loop-person.person-index c.person-item.result c.loop-person-test.true c.person-item.is
    c.person_is_legible.ensures c.loop-person.invariant
