use Rattle.lab_people.proofs.WordLemmas.{halves_together, halves_alone}
use Rattle.lab_people.proofs.password_laws.the_halves_make_the_word.Goals as goal

pub returns-clause-together : goal.returns-clause-together
returns-clause-together c = halves_together

pub returns-clause-alone : goal.returns-clause-alone
returns-clause-alone c = halves_alone
