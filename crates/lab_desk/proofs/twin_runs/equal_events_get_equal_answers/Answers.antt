-- A laboratory's own events are those of the list, by the lemma of `OwnEvents`.
use Rattle.lab_desk.proofs.OwnEvents.{same_own_events}
use Rattle.lab_desk.proofs.twin_runs.equal_events_get_equal_answers.Goals as goal

pub returns-clause-own : goal.returns-clause-own
returns-clause-own c = same_own_events
