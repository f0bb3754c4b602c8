use Rattle.lab_people.specs.Accounts.{setting_roles, retiring, unlocking, person_meant}
use Rattle.lab_people.specs.Issues.{asking, confirming}
use Rattle.lab_people.specs.Laws.{own_refusal}
use Rattle.std.specs.Prelude.{Some}
use Rattle.lab_people.proofs.LawLemmas.{own_meant, refused_then}
use Rattle.lab_people.proofs.account_laws.accounts_are_kept_by_others.Goals as goal

pub returns : goal.returns
unfolding asking confirming setting_roles retiring unlocking
returns c person tick roles =
    let own = own_meant person in
    let meant = person_meant person.code (Some person) in
    let why = own_refusal person in record {
      asks = refused_then meant _ why own;
      confirms = refused_then meant _ why own;
      sets_roles = refused_then meant _ why own;
      retires = refused_then meant _ why own;
      unlocks = refused_then meant _ why own;
    }
