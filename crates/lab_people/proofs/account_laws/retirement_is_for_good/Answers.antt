use Rattle.std.proofs.Common.{ap}
use Rattle.std.specs.Prelude.{Some, true}
use Rattle.lab_people_access.specs.declared.refusals.PeopleRefusal.TheVariants.{NoSuchPerson}
use Rattle.lab_people_access.specs.Attempts.{is_own_code}
use Rattle.lab_people_access.specs.Openings.{opening, opening_by}
use Rattle.lab_people.specs.Accounts.{changing, changing_by, setting_roles, retiring, unlocking, person_meant}
use Rattle.lab_people.specs.Issues.{asking, confirming}
use Rattle.lab_people.proofs.LawLemmas.{retired_leaves, retired_attempt, retired_meant, refused_then}
use Rattle.lab_people.proofs.account_laws.retirement_is_for_good.Goals as goal

pub returns-clause-leaves : goal.returns-clause-leaves
returns-clause-leaves c = retired_leaves

pub returns-clause-no_password : goal.returns-clause-no_password
unfolding opening changing
returns-clause-no_password c person session code text new given tick sessions repeated retired =
    let stray = retired_attempt person true text tick.moment retired in record {
      signs = retired_attempt person (is_own_code given person) text tick.moment retired;
      opens = ap (λ one. opening_by one code tick sessions repeated) stray;
      changes = ap (λ one. changing_by one session text new tick) stray;
    }

pub returns-clause-no_command : goal.returns-clause-no_command
unfolding asking confirming setting_roles retiring unlocking
returns-clause-no_command c person caller tick roles retired =
    let none = retired_meant caller person retired in
    let meant = person_meant caller (Some person) in record {
      asks = refused_then meant _ NoSuchPerson none;
      confirms = refused_then meant _ NoSuchPerson none;
      sets_roles = refused_then meant _ NoSuchPerson none;
      retires = refused_then meant _ NoSuchPerson none;
      unlocks = refused_then meant _ NoSuchPerson none;
    }
