use Rattle.lab_store_tables.proofs.people.a_change_of_people_or_forms_means_itself.Goals as goal
use Rattle.lab_store_tables.proofs.SessionSetLaws.{session_is_set}
use Rattle.lab_store_tables.proofs.PersonSetLaws.{person_is_set}
use Rattle.lab_store_tables.proofs.PersonAddedLaws.{person_is_added}
use Rattle.lab_store_tables.proofs.FormAddedLaws.{form_is_added}

pub returns-clause-session_set : goal.returns-clause-session_set
returns-clause-session_set c = λ old new code session well fit it. session_is_set well fit it

pub returns-clause-person_set : goal.returns-clause-person_set
returns-clause-person_set c = λ old new code person well it. person_is_set well it

pub returns-clause-person_added : goal.returns-clause-person_added
returns-clause-person_added c = λ old new code person rising well fit it. person_is_added rising well fit it

pub returns-clause-form_added : goal.returns-clause-form_added
returns-clause-form_added c = λ old new code form rising well fit it. form_is_added rising well fit it
