use Rattle.lab_wire_bodies.proofs.signatures.has_meant.Goals as goal

pub returns-in-Rejection : goal.returns-in-Rejection
returns-in-Rejection c = rw c.in-Rejection.is c.has_members.ensures

pub returns-in-Authorship : goal.returns-in-Authorship
returns-in-Authorship c = rw c.in-Authorship.is c.has_members-in-Authorship.ensures

pub returns-in-Review : goal.returns-in-Review
returns-in-Review c = rw c.in-Review.is c.has_members-in-Review.ensures

pub returns-in-Approval : goal.returns-in-Approval
returns-in-Approval c = rw c.in-Approval.is c.has_members-in-Approval.ensures
