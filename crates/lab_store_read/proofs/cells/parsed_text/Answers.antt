use Rattle.std.proofs.Common.{ℕ, List, subst}
use Rattle.lab_forms_texts.specs.Faults.{NameFaultFits}
use Rattle.lab_store_read.proofs.Unread.{no_text, text_faults}
use Rattle.lab_store_read.proofs.cells.parsed_text.Goals as goal

pub returns-in-Err-parse-clause-fault : goal.returns-in-Err-parse-clause-fault
returns-in-Err-parse-clause-fault g c =
    let read = c.in-Ok.ensures.cases in
    let admits = g.R.TextRule.admits in
    rw c.name_fault.ensures (text_faults c.args.text.now (admits c.args.text.now) c.in-Err-parse.fault read.1
    (subst (λ (t : List ℕ). NameFaultFits (admits t) c.in-Err-parse.fault) read.0 c.in-Err-parse.ensures.fault))

pub returns-in-Err-clause-fault : goal.returns-in-Err-clause-fault
returns-in-Err-clause-fault g c = no_text c.args.text.now (g.R.TextRule.admits c.args.text.now) c.in-Err.ensures.cases.0
