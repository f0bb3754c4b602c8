use Rattle.lab_store_write.proofs.Inside.{inside_keeps}
use Rattle.lab_store_write.proofs.statements.run.Goals as goal

pub returns : goal.returns
returns g c =
    let it = c.execute.ensures in
    record {
      stays = record {
        same_lender = it.same_lender;
        survives = it.survives;
        kept = λ inside clean. inside_keeps _ _ (g.W.Writable.state c.args.tx.now) (g.W.Writable.state c.execute.new.self) c.execute.result (it.runs clean inside);
      };
      runs = λ inside clean. it.runs clean inside;
    }
