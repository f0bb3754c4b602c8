use Rattle.std.specs.Prelude.{bytes_eq}
use Rattle.lab_people.specs.Issues.{confirming}
use Rattle.lab_people.proofs.LawLemmas.{confirmed_meant, confirmed_same, other_bytes}
use Rattle.lab_people.proofs.account_laws.a_one_time_word_takes_two.Goals as goal

pub returns-clause-refused : goal.returns-clause-refused
unfolding confirming
returns-clause-refused c person ask tick h =
    confirmed_meant person.retired (bytes_eq person.code ask.asker) person ask tick h

pub returns-clause-same_person : goal.returns-clause-same_person
unfolding confirming
returns-clause-same_person c person ask tick h here other still =
    confirmed_same person.retired (bytes_eq person.code ask.asker) person ask tick h here (other_bytes person.code ask.asker other) still
