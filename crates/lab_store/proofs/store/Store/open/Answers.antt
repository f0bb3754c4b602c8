-- What opening says of the connection is said of the store, or of the connection that is handed back.
use Rattle.lab_store.proofs.store.Store.open.Goals as goal

pub returns-in-Ok : goal.returns-in-Ok
returns-in-Ok g c = rw c.new.ensures (record {
  answer = c.in-Ok.ensures.answer;
  owed = c.in-Ok.ensures.owed;
  same = c.in-Ok.ensures.same;
  passes = c.in-Ok.ensures.passes;
})

pub returns-in-Err : goal.returns-in-Err
returns-in-Err g c = record {
  answer = c.in-Err.ensures.answer;
  owed = c.in-Err.ensures.owed;
  same = c.in-Err.ensures.same;
  passes = c.in-Err.ensures.passes;
}
