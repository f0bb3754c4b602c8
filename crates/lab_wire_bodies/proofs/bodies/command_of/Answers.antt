use Rattle.lab_wire_bodies.specs.Bodies.{post_named}
use Rattle.lab_wire_bodies.proofs.BodyLemmas.{body_faults}
use Rattle.lab_wire_bodies.proofs.bodies.command_of.Goals as goal

pub returns-in-Ok-clause-fault : goal.returns-in-Ok-clause-fault
returns-in-Ok-clause-fault c =
    body_faults (post_named c.args.post) c.args.body.now _ c.posted_command.result c.in-Ok.ensures.read
    c.posted_command.ensures.fault
