-- Each clause by its lemma of `Starting`.
use Rattle.lab_desk_events.proofs.Starting.{starts_alone, starts_answer, starts_leave, starts_releasing}
use Rattle.lab_desk_events.proofs.starts.a_stop_and_a_start_go_on.Goals as goal

pub returns-clause-answers : goal.returns-clause-answers
returns-clause-answers c = starts_answer

pub returns-clause-rows : goal.returns-clause-rows
returns-clause-rows c = starts_leave

pub returns-clause-alone : goal.returns-clause-alone
returns-clause-alone c = starts_alone

pub returns-clause-releasing : goal.returns-clause-releasing
returns-clause-releasing c = starts_releasing
