-- Values from outside, so that a wrong rule in the definitions does not check: which laboratory stands at a
-- code, what a founding appends (docs/LABORATORY.md), what is loaded of one, and what changes set in it and
-- leave in another. Both laboratories have a dan, and a session of one token.
use Rattle.std.proofs.Common.{◌≡◌, ℕ, true, List, [], ◌∷◌, ◌++◌, map, replicate, Some, None, refl, ap, true≢false}
use Rattle.std.specs.Prelude.{codes}
use Rattle.std.specs.Str.{bytes_eq}
use Rattle.lab_people_access.specs.declared.persons.Person.{Person}
use Rattle.lab_people_access.specs.declared.roles.Role.{Role}
use Rattle.lab_people_access.specs.declared.roles.Role.TheVariants.{Analyst, Administrator}
use Rattle.lab_people_access.specs.declared.sessions.Session.{Session}
use Rattle.lab_people_access.specs.declared.sessions.Closing.TheVariants.{All}
use Rattle.lab_people_access.specs.Roles.{no_roles, with_role}
use Rattle.lab_people_access.specs.Persons.{newcomer}
use Rattle.lab_records_kept.specs.declared.births.Newborn.{Newborn}
use Rattle.lab_records_kept.specs.declared.changes.Change.TheVariants.{Last, Strays, PersonSet, SessionsClosed}
use Rattle.lab_records_kept.specs.declared.labs.Lab.{Lab}
use Rattle.lab_records_kept.specs.declared.needs.Need.{Need}
use Rattle.lab_records_kept.specs.declared.needs.Slice.{Slice}
use Rattle.lab_records_kept.specs.declared.trails.Action.TheVariants.{Found}
use Rattle.lab_records_kept.specs.Births.{newborn_lab}
use Rattle.lab_records_kept.specs.Parts.{part_of}
use Rattle.lab_records_kept.proofs.KnownDefaults.{bare_lab, bare_session, bare_told}
use Rattle.lab_records_keeper.specs.Worlds.{Meaning, Places}
use Rattle.lab_records_memory.specs.Lists.{lab_of, ChangesInPlace, world_of}
use Rattle.lab_records_memory.proofs.Listing.{added_meaning}

-- ---- two laboratories

abbrev account : List ℕ → List ℕ → Role → Person
account code name role = newcomer code name (with_role no_roles role)

-- dan's session of 900, by a token that both laboratories gave
abbrev session : Session
session = record bare_session { number = 1; person = codes "dan"; token = replicate 32 7; opened = 900; last = 1100 }

-- a laboratory of that code, name and dan, and no trail
abbrev laboratory : List ℕ → List ℕ → List ℕ → Lab
laboratory code name dan = record bare_lab {
  code = code;
  name = name;
  last = 1100;
  persons = account (codes "dan") dan Analyst ∷ [];
  sessions = session ∷ [];
}

abbrev aqua : Lab
aqua = laboratory (codes "aqua") (codes "Aqua Lab") (codes "Dan Dale")

abbrev brick : Lab
brick = laboratory (codes "brick") (codes "Brick Lab") (codes "Dan Drew")

abbrev labs : List Lab
labs = aqua ∷ brick ∷ []

-- ---- which laboratory stands at a code

-- the one that has the code, wherever it stands
pub known_found : (lab_of labs (codes "aqua") ≡ Some aqua) × (lab_of labs (codes "brick") ≡ Some brick)
known_found = (refl, refl)

-- none at a code that nobody has, at one in other letters, at the front of one, and in an empty list
pub known_unfound : (lab_of labs (codes "zinc") ≡ None) × (lab_of labs (codes "AQUA") ≡ None)
    × (lab_of labs (codes "aqu") ≡ None) × (lab_of [] (codes "aqua") ≡ None)
known_unfound = (refl, refl, refl, refl)

-- ---- what a founding appends

-- the founders come in another order than that of their codes
abbrev newborn : Newborn
newborn = record {
  code = codes "zinc";
  name = codes "Zinc Lab";
  moment = 2000;
  first = account (codes "cid") (codes "Cid Cole") Administrator;
  second = account (codes "ann") (codes "Ann Ames") Administrator;
  third = account (codes "bob") (codes "Bob Bell") Administrator;
}

-- the laboratory: its founders by their codes, one row of the trail, which names nobody, and nothing else
abbrev zinc : Lab
zinc = record bare_lab {
  code = codes "zinc";
  name = codes "Zinc Lab";
  last = 2000;
  persons = account (codes "ann") (codes "Ann Ames") Administrator ∷ account (codes "bob") (codes "Bob Bell") Administrator
      ∷ account (codes "cid") (codes "Cid Cole") Administrator ∷ [];
  trail = (record bare_told { number = 1; moment = 2000; action = Found; subject = codes "zinc" }) ∷ [];
}

-- what is founded is found whole by its code, and the two that were there as they were
pub known_founding : (lab_of (labs ++ newborn_lab newborn ∷ []) (codes "zinc") ≡ Some zinc)
    × (lab_of (labs ++ newborn_lab newborn ∷ []) (codes "aqua") ≡ Some aqua)
    × (lab_of (labs ++ newborn_lab newborn ∷ []) (codes "brick") ≡ Some brick)
known_founding = (refl, refl, refl)

-- it is placed, so that every other code means what it meant
pub known_placed : Places zinc (lab_of labs) (lab_of (labs ++ zinc ∷ []))
known_placed = added_meaning labs zinc refl

some_is : {A : Type 0} (one : A) → Some one ≡ None → ⊥
some_is one wrong = absurd cc

none_is : {A : Type 0} (one : A) → None ≡ Some one → ⊥
none_is one wrong = absurd cc

-- aqua is there: whatever came of it, none would be placed at its code
pub known_placed_once : (new : Meaning) → Places aqua (lab_of labs) new → ⊥
known_placed_once new it = some_is aqua it.was_none

-- ---- what is loaded

-- dan, by the code, and by the token of the session
abbrev need : Need
need = record {
  token = Some (replicate 32 7);
  person = Some (codes "dan");
  form = None;
  filed = None;
  list = None;
}

-- of brick: brick's own dan, twice, and how many brick has
abbrev loaded : Slice
loaded = record {
  code = codes "brick";
  name = codes "Brick Lab";
  last = 1100;
  strays = 0;
  counts = record { persons = 1; sessions = 1; records = 0; trail = 0 };
  session = Some session;
  caller = Some (account (codes "dan") (codes "Dan Drew") Analyst);
  person = Some (account (codes "dan") (codes "Dan Drew") Analyst);
  form = None;
  filed = None;
  persons = [];
  records = [];
  trail = [];
}

-- a part is of the laboratory at the code alone, and there is none where there is no laboratory
pub known_load : (part_of need (lab_of labs (codes "brick")) ≡ Some loaded)
    × (part_of need (lab_of labs (codes "zinc")) ≡ None)
known_load = (refl, refl)

-- ---- what changes set, and leave in another laboratory

-- brick's last moment and stray count are set in its place, and aqua stays
pub known_change :
    ChangesInPlace labs (aqua ∷ record brick { last = 1200; strays = 1 } ∷ []) (codes "brick") (Last 1200 ∷ Strays 1 ∷ [])
known_change = refl

-- the first of the changes is made first, so the later moment stands
pub known_order :
    ChangesInPlace labs (record aqua { last = 1300 } ∷ brick ∷ []) (codes "aqua") (Last 1200 ∷ Last 1300 ∷ [])
known_order = refl

-- brick's dan, who is locked at 1300
abbrev locked_dan : Person
locked_dan = record (account (codes "dan") (codes "Dan Drew") Analyst) { failures = 5; locked = Some 1300 }

-- a person is set in brick; aqua's of the same code is another one, and stays
pub known_person :
    ChangesInPlace labs (aqua ∷ record brick { persons = locked_dan ∷ [] } ∷ []) (codes "brick") (PersonSet locked_dan ∷ [])
known_person = refl

-- dan's sessions are closed in brick; aqua's of the same token stays open
pub known_closing :
    ChangesInPlace labs (aqua ∷ record brick { sessions = record session { closed = true } ∷ [] } ∷ []) (codes "brick")
    (SessionsClosed (codes "dan") All ∷ [])
known_closing = refl

-- at a code that nobody has no change is made
pub known_nobody : ChangesInPlace labs labs (codes "zinc") (Last 1200 ∷ Strays 1 ∷ [])
known_nobody = refl

-- the stray counts of laboratories, in their order
abbrev stray_counts : List Lab → List ℕ
stray_counts all = map (λ (lab : Lab). lab.strays) all

-- a change that leaves brick as it was isn't made; and one that is made of aqua isn't brick's
pub known_not_made : (ChangesInPlace labs labs (codes "brick") (Strays 1 ∷ []) → ⊥)
    × (ChangesInPlace labs (record aqua { strays = 1 } ∷ brick ∷ []) (codes "brick") (Strays 1 ∷ []) → ⊥)
    × (ChangesInPlace labs (record aqua { strays = 1 } ∷ record brick { strays = 1 } ∷ []) (codes "brick") (Strays 1 ∷ [])
    → ⊥)
known_not_made = (
  λ same. true≢false (ap (λ (all : List Lab). bytes_eq (stray_counts all) (0 ∷ 0 ∷ [])) same),
  λ same. true≢false (ap (λ (all : List Lab). bytes_eq (stray_counts all) (1 ∷ 0 ∷ [])) same),
  λ same. true≢false (ap (λ (all : List Lab). bytes_eq (stray_counts all) (1 ∷ 1 ∷ [])) same),
)

-- ---- what is known of a list as a keeper

-- a crash leaves the list itself, and never one without brick; no call is refused for the store's sake
pub known_crash : (world_of labs).may_leave (lab_of labs)
    × ((world_of labs).may_leave (lab_of (aqua ∷ [])) → ⊥) × ((world_of labs).may_refuse → ⊥)
known_crash = (λ code. refl, λ left. none_is brick (left (codes "brick")), λ refused. refused)
