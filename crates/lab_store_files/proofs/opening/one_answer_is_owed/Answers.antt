use Rattle.std.proofs.Common.{sym, ◌∙◌}
use Rattle.lab_store_files.proofs.OwedLemmas.{due, due_is_owed, owed_is_due}
use Rattle.lab_store_files.proofs.opening.one_answer_is_owed.Goals as goal

pub returns : goal.returns
returns c = record {
  some = λ wanted some whole number. (due wanted whole number, due_is_owed wanted some whole number);
  alone = λ wanted some whole number one other first second.
      owed_is_due wanted some whole number one first ∙ sym (owed_is_due wanted some whole number other second);
}
