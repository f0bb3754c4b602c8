use Rattle.lab_store_tables.proofs.records.a_change_of_records_means_itself.Goals as goal
use Rattle.lab_store_tables.proofs.PartAdded.{row_is_added, signature_is_added}
use Rattle.lab_store_tables.proofs.VersionOpened.{version_is_opened}
use Rattle.lab_store_tables.proofs.RecordAdded.{record_is_added}

pub returns-clause-entry : goal.returns-clause-entry
returns-clause-entry c = λ old new code number entry rising well it. row_is_added rising well it

pub returns-clause-signature : goal.returns-clause-signature
returns-clause-signature c = λ old new code number version signature rising well it. signature_is_added rising well it

pub returns-clause-version : goal.returns-clause-version
returns-clause-version c = λ old new code number version rising well fit it. version_is_opened rising well fit it

pub returns-clause-added : goal.returns-clause-added
returns-clause-added c = λ old new code kept rising well fit it. record_is_added rising well fit it
