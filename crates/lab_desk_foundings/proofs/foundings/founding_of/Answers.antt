-- A longer body is no body, and any other says what its JSON names.
use Rattle.lab_desk_foundings.proofs.Bodies.{said_past, said_within}
use Rattle.lab_desk_foundings.proofs.foundings.founding_of.Goals as goal

pub returns-then-body-gt-BODY_LIMIT-clause-fault : goal.returns-then-body-gt-BODY_LIMIT-clause-fault
returns-then-body-gt-BODY_LIMIT-clause-fault c = said_past c.args.body.now c.if-body-gt-BODY_LIMIT.true

pub returns-clause-read : goal.returns-clause-read
returns-clause-read c = rw (said_within c.args.body.now c.if-body-gt-BODY_LIMIT.false) c.founding_within.ensures.read

pub returns-clause-fault : goal.returns-clause-fault
returns-clause-fault c = rw (said_within c.args.body.now c.if-body-gt-BODY_LIMIT.false) c.founding_within.ensures.fault
