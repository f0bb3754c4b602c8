use Rattle.lab_wire_bodies.proofs.FoundingLemmas.{by_three}
use Rattle.lab_wire_bodies.proofs.foundings.founding_by.Goals as goal

pub returns-clause-read : goal.returns-clause-read
returns-clause-read c =
    rw (by_three c.args.values.now c.first-item.result c.second-item.result c.third-item.result _
    c.in-len3.len_at_least c.in-len3.len_below c.first-item.is c.second-item.is c.third-item.is)
    c.founding_of_three.ensures.read

pub returns-clause-fault : goal.returns-clause-fault
returns-clause-fault c =
    rw (by_three c.args.values.now c.first-item.result c.second-item.result c.third-item.result _
    c.in-len3.len_at_least c.in-len3.len_below c.first-item.is c.second-item.is c.third-item.is)
    c.founding_of_three.ensures.fault
