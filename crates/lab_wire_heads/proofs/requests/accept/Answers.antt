use Rattle.lab_wire_heads.proofs.RequestLemmas.{accepted_bad, accepted_refused, accepted_good}
use Rattle.lab_wire_heads.proofs.requests.accept.Goals as goal

pub returns-in-Err-clause-refused : goal.returns-in-Err-clause-refused
returns-in-Err-clause-refused c = accepted_bad _ _ c.in-Err.ensures.refused

pub returns-in-Some-clause-refused : goal.returns-in-Some-clause-refused
returns-in-Some-clause-refused c = accepted_refused _ _ _ c.in-Ok.ensures.good c.in-Some.ensures

pub returns-in-None-clause-accepted : goal.returns-in-None-clause-accepted
returns-in-None-clause-accepted c = accepted_good _ _ c.in-Ok.ensures.good c.in-None.ensures
