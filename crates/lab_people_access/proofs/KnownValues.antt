-- Values from outside, so that a wrong rule in the definitions does not check: rows of the policy, locks and dues to the second.
use Rattle.std.proofs.Common.{◌≡◌, [], ◌∷◌, refl, true, false, Some, None}
use Rattle.std.specs.Prelude.{codes}
use Rattle.lab_seal_hashes.specs.declared.verifiers.VerifierParts.{VerifierParts}
use Rattle.lab_people_access.specs.declared.roles.Role.TheVariants.{Analyst, Reviewer, Manager, Administrator, Inspector}
use Rattle.lab_people_access.specs.declared.policy.Rule.TheVariants.{CloseSession, Enrol, SignReview, SignRejection, SignApproval}
use Rattle.lab_people_access.specs.declared.sessions.Session.{Session}
use Rattle.lab_people_access.specs.declared.passwords.Password.TheVariants.{Chosen, Unset, OneTime}
use Rattle.lab_people_access.specs.declared.refusals.PeopleRefusal.TheVariants.{Credentials, NoSuchPerson}
use Rattle.lab_people_access.specs.Roles.{no_roles, with_role, role_list}
use Rattle.lab_people_access.specs.Policy.{is_open_to, rule_word}
use Rattle.lab_people_access.specs.Passwords.{new_rounds, are_rounds, is_due, serves}
use Rattle.lab_people_access.proofs.PasswordWords.{is_by_rounds}
use Rattle.lab_people_access.specs.Persons.{is_locked}
use Rattle.lab_people_access.specs.Sessions.{is_live}
use Rattle.lab_people_access.specs.Refusals.{people_refusal_entry}

-- a rejection is a reviewer's or a manager's, an approval a manager's alone
pub known_rejections : (is_open_to SignRejection (with_role no_roles Reviewer) ≡ true)
    × (is_open_to SignRejection (with_role no_roles Manager) ≡ true)
    × (is_open_to SignRejection (with_role no_roles Analyst) ≡ false)
    × (is_open_to SignRejection (with_role no_roles Administrator) ≡ false)
    × (is_open_to SignRejection (with_role no_roles Inspector) ≡ false)
known_rejections = (refl, refl, refl, refl, refl)

pub known_approvals : (rule_word SignApproval ≡ codes "P23")
    × (is_open_to SignApproval (with_role no_roles Reviewer) ≡ false)
    × (is_open_to SignApproval (with_role no_roles Manager) ≡ true)
    × (is_open_to SignApproval (with_role no_roles Analyst) ≡ false)
    × (is_open_to SignApproval (with_role no_roles Administrator) ≡ false)
    × (is_open_to SignApproval (with_role no_roles Inspector) ≡ false)
known_approvals = (refl, refl, refl, refl, refl, refl)

-- anybody closes the own session; only administrators enrol, and a manager reviews nothing
pub known_rules : (is_open_to CloseSession no_roles ≡ true) × (is_open_to Enrol no_roles ≡ false)
    × (is_open_to Enrol (with_role no_roles Administrator) ≡ true)
    × (is_open_to SignReview (with_role no_roles Manager) ≡ false)
known_rules = (refl, refl, refl, refl)

-- a lock of second 1300 ends at 3100
pub known_locks : (is_locked (Some 1300) 1301 ≡ true) × (is_locked (Some 1300) 3099 ≡ true)
    × (is_locked (Some 1300) 3100 ≡ false) × (is_locked None 1301 ≡ false)
known_locks = (refl, refl, refl, refl)

-- a password that was chosen in the last second of day 0 is due from the first of day 91 on
pub known_dues : (verifier : VerifierParts) → (is_due (Chosen verifier 86399) 7862399 ≡ false)
    × (is_due (Chosen verifier 86399) 7862400 ≡ true) × (is_due Unset 0 ≡ true)
known_dues verifier = (refl, refl, refl)

-- a verifier has 100,000 rounds or 10,000, and of a one-time word each half has its own
pub known_rounds : (new_rounds ≡ 100000) × (are_rounds 100000 ≡ true) × (are_rounds 10000 ≡ true) × (are_rounds 9999 ≡ false)
    × (are_rounds 10001 ≡ false) × (are_rounds 1 ≡ false) × (are_rounds 0 ≡ false)
known_rounds = (refl, refl, refl, refl, refl, refl, refl)

pub known_words : (one : VerifierParts)
    → (is_by_rounds (OneTime (record one { rounds = 10000 }) (record one { rounds = 100000 }) 1000) ≡ true)
    × (is_by_rounds (OneTime (record one { rounds = 10000 }) (record one { rounds = 10 }) 1000) ≡ false)
    × (is_by_rounds (OneTime (record one { rounds = 10 }) (record one { rounds = 100000 }) 1000) ≡ false)
    × (is_by_rounds (Chosen (record one { rounds = 4294967295 }) 1000) ≡ false) × (is_by_rounds Unset ≡ true)
known_words one = (refl, refl, refl, refl, refl)

-- a one-time word that was confirmed at 1000 serves for 604,800 seconds
pub known_serving : (serves 1000 605800 ≡ true) × (serves 1000 605801 ≡ false)
known_serving = (refl, refl)

-- a session of second 900, with a request at 1300, lives to 2200
pub known_session : (session : Session)
    → (is_live (record session { opened = 900; last = 1300; closed = false }) 2200 ≡ true)
    × (is_live (record session { opened = 900; last = 1300; closed = false }) 2201 ≡ false)
known_session session = (refl, refl)

-- roles are listed in one order, whichever was given first
pub known_lists : role_list (with_role (with_role no_roles Inspector) Analyst) ≡ Analyst ∷ (Inspector ∷ [])
known_lists = refl

pub known_refusals : ((people_refusal_entry Credentials).number ≡ 20)
    × ((people_refusal_entry NoSuchPerson).word ≡ codes "no_such_person")
known_refusals = (refl, refl)
