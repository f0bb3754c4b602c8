-- What making says of the connection is said of the store, or of the connection that is handed back.
use Rattle.lab_store.proofs.store.Store.create.Goals as goal

pub returns-in-Ok : goal.returns-in-Ok
returns-in-Ok g c = rw c.new.ensures (record {
  made = c.in-Ok.ensures.made;
  ready = c.in-Ok.ensures.ready;
  nobody = c.in-Ok.ensures.nobody;
  taken = c.in-Ok.ensures.taken;
  not_empty = λ is. (c.in-Ok.ensures.not_empty is).0;
  fault = c.in-Ok.ensures.fault;
  ends = c.in-Ok.ensures.ends;
})

pub returns-in-Err : goal.returns-in-Err
returns-in-Err g c = record {
  made = c.in-Err.ensures.made;
  ready = c.in-Err.ensures.ready;
  nobody = c.in-Err.ensures.nobody;
  taken = c.in-Err.ensures.taken;
  not_empty = λ is. (c.in-Err.ensures.not_empty is).0;
  fault = c.in-Err.ensures.fault;
  ends = c.in-Err.ensures.ends;
}
