use Rattle.lab_records_laws.proofs.laws.what_is_decided.Goals as goal
use Rattle.lab_records_kept.specs.Parts.{part}
use Rattle.lab_records_machine.specs.Needs.{need_of}
use Rattle.lab_records_laws.proofs.Passing.{decided_is}
use Rattle.lab_records_laws.proofs.Noting.{decided_notes}

pub returns : goal.returns
returns c = λ lab tick instruction.
    let is = decided_is lab tick instruction in
    record {
      reply = is.reply;
      notes = decided_notes (part (need_of tick instruction) lab) tick instruction.command;
      fits = λ few formed. is.fits (few, formed);
      after = is.after;
    }
