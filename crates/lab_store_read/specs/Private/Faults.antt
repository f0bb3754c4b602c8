-- What clauses of private functions say beside Faults.antt.
use Rattle.lab_forms_texts.specs.declared.faults.BadName.{BadName}
use Rattle.lab_forms_texts.specs.declared.refusals.Fault.{Fault}
use Rattle.lab_forms_texts.specs.declared.refusals.Fault.TheVariants.{Refused, Memory}
use Rattle.lab_records_keeper.specs.declared.faults.BadStore.{BadStore}

abbrev pub name_fault : Fault BadName → Fault BadStore
name_fault (Refused _) = Refused (record {})
name_fault Memory = Memory
