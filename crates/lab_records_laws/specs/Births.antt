-- A laboratory as it is born.
use Rattle.std.specs.Prelude.{◌≡◌, [], length, All}
use Rattle.lab_people_access.specs.declared.persons.Person.{Person}
use Rattle.lab_people_access.specs.declared.roles.Role.TheVariants.{Administrator}
use Rattle.lab_people_access.specs.Roles.{no_roles, with_role}
use Rattle.lab_records_kept.specs.declared.labs.Lab.{Lab}

-- a person is an administrator and nothing else
abbrev pub IsAdministrator : Person → Type 0
IsAdministrator person = person.roles ≡ with_role no_roles Administrator

-- it has three administrators, one row of the trail, and no session, form or record
pub record IsFounded (lab : Lab) : Type 0 where
  pub three : length lab.persons ≡ 3
  pub administrators : All IsAdministrator lab.persons
  pub told : length lab.trail ≡ 1
  pub no_sessions : lab.sessions ≡ []
  pub no_forms : lab.forms ≡ []
  pub no_records : lab.records ≡ []
