use Rattle.lab_store.proofs.tables.TablesReadable.query_all.Goals as goal

pub returns-in-Err : goal.returns-in-Err
returns-in-Err g c = record {
  ok = λ clean. tt;
  err = λ clean. (c.in-Err.error, c.in-Err.ensures.err clean, c.read_fault.ensures);
  mode = c.query_all.ensures.mode;
  survives = c.query_all.ensures.survives;
}
