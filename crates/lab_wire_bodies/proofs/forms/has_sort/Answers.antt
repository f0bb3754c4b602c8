use Rattle.lab_wire_bodies.proofs.forms.has_sort.Goals as goal

pub returns-in-Number : goal.returns-in-Number
returns-in-Number c = rw c.in-Number.is c.has_members.ensures
