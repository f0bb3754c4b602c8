-- A laboratory is added at the end of the list; what a crash leaves is the list itself.
use Rattle.std.proofs.Common.{rules, ◌≡◌, [], ◌∷◌, ◌++◌, None, inr}
use Rattle.lab_records_kept.specs.Births.{newborn_lab}
use Rattle.lab_records_keeper.specs.Worlds.{Places}
use Rattle.lab_records_memory.specs.Lists.{lab_of}
use Rattle.lab_records_memory.proofs.Listing.{added_meaning, placed_as}
use Rattle.lab_records_memory.proofs.lists.ListsKeeper.found.Goals as goal

-- no laboratory of the code was there
was_none : (c : goal.In_ok-push) → lab_of c.args.self.now c.args.newborn.code ≡ None
was_none c = search rules

added : (c : goal.In_ok-push) →
    c.push.new.self.items ≡ c.args.self.now ++ newborn_lab c.args.newborn ∷ []
added c = search rules

pub returns-clause-founds : goal.returns-clause-founds
returns-clause-founds c =
    let founded : Places (newborn_lab c.args.newborn) (lab_of c.args.self.now)
    (lab_of c.push.new.self.items) =
    rw (added c) (added_meaning c.args.self.now (newborn_lab c.args.newborn) (was_none c)) in
    record {
      founded = λ honest reached. founded;
      err = search rules;
      rows = λ honest reached. added c;
      rows_err = search rules;
      lives = search rules;
      fault = search rules;
      crash = λ honest reached live held left.
          inr (placed_as _ _ _ held founded left);
      safe = search rules;
      durable = λ honest reached. (λ held left. left, tt);
      quiet = search rules;
      reached = search rules;
      shuts = search rules;
      passes = search rules;
    }
