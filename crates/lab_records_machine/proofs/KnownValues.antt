-- Values from outside, so that a wrong rule in the definitions does not check: by which rule a command is
-- allowed, what each needs of a laboratory, how far strays are counted, and how many rows a trail has room for.
use Rattle.std.proofs.Common.{◌≡◌, ℕ, ◌+◌, List, [], ◌∷◌, length, refl, ap, ◌∙◌, false, cond, Some, None}
use Rattle.std.specs.Prelude.{nat_le, codes, Option}
use Rattle.std.proofs.lemmas.List.{length-append}
use Rattle.sha2.specs.Sha256.{sha256}
use Rattle.lab_forms_texts.specs.declared.tick.Tick.{Tick}
use Rattle.lab_forms.specs.Forms.{FormSheet}
use Rattle.lab_people_access.specs.declared.persons.Person.{Person}
use Rattle.lab_people_access.specs.declared.policy.Rule.TheVariants.{CloseSession, MakeForm as ByMakeForm, ReadTrail as ByReadTrail}
use Rattle.lab_people_access.specs.declared.refusals.Failure.TheVariants.{Locking}
use Rattle.lab_people_access.specs.declared.refusals.PeopleRefusal.TheVariants.{LabFull}
use Rattle.lab_people_access.specs.declared.sessions.Closing.TheVariants.{All}
use Rattle.lab_people_access.specs.Openings.{token_digest}
use Rattle.lab_people_access.specs.Sessions.{sessions_after}
use Rattle.lab_records_kept.specs.declared.labs.Lab.{Lab}
use Rattle.lab_records_kept.specs.declared.needs.Need.{Need}
use Rattle.lab_records_kept.specs.declared.needs.FormWanted.{FormWanted}
use Rattle.lab_records_kept.specs.declared.needs.FormWanted.TheVariants.{Last, Exact}
use Rattle.lab_records_kept.specs.declared.needs.RecordWanted.{RecordWanted}
use Rattle.lab_records_kept.specs.declared.needs.RecordWanted.TheVariants.{Numbered, About}
use Rattle.lab_records_kept.specs.declared.needs.ListWanted.{ListWanted}
use Rattle.lab_records_kept.specs.declared.needs.ListWanted.TheVariants.{Persons, Records, Trail}
use Rattle.lab_records_kept.specs.declared.trails.Deed.{Deed}
use Rattle.lab_records_kept.specs.declared.trails.Deed.TheVariants.{Refuse, Lock}
use Rattle.lab_records_kept.specs.declared.trails.Occasion.TheVariants.{Opening}
use Rattle.lab_records_kept.specs.Changes.{with_person}
use Rattle.lab_records_kept.specs.Limits.{count_limit}
use Rattle.lab_records_kept.specs.Trails.{trail_row_of}
use Rattle.lab_records_rules.specs.declared.items.Item.{Item}
use Rattle.lab_records_rules.specs.declared.refusals.Refusal.TheVariants.{People}
use Rattle.lab_records_machine.specs.declared.commands.Command.{Command}
use Rattle.lab_records_machine.specs.declared.commands.Command.TheVariants.{Card, Open, In}
use Rattle.lab_records_machine.specs.declared.commands.SessionCommand.{SessionCommand}
use Rattle.lab_records_machine.specs.declared.commands.SessionCommand.TheVariants.{OnAccount, OnRecord, Reading}
use Rattle.lab_records_machine.specs.declared.commands.AccountCommand.TheVariants.{Close, Retire}
use Rattle.lab_records_machine.specs.declared.commands.RecordCommand.TheVariants.{MakeForm, OpenRecord, Enter}
use Rattle.lab_records_machine.specs.declared.commands.ReadingCommand.TheVariants.{ReadForm, ReadVersion, ReadPersons, ReadRecords, ReadTrail, TakeCopy}
use Rattle.lab_records_machine.specs.declared.replies.Reply.{Reply}
use Rattle.lab_records_machine.specs.declared.replies.Reply.TheVariants.{Refused}
use Rattle.lab_records_machine.specs.Policy.{rule_of}
use Rattle.lab_records_machine.specs.Cases.{more_strays, told, told_if_room, failed}
use Rattle.lab_records_machine.specs.Machine.{stays, made}
use Rattle.lab_records_machine.specs.Needs.{need_of}

-- closing, making a form and reading the trail have each its own rule
pub known_rules : (rule_of (OnAccount Close) ≡ CloseSession)
    × ((form : FormSheet) → rule_of (OnRecord (MakeForm (codes "water") form)) ≡ ByMakeForm)
    × (rule_of (Reading (ReadTrail 1 9)) ≡ ByReadTrail)
known_rules = (refl, λ form. refl, refl)

-- what an instruction needs: the session, a person, a form, a record and a list
abbrev wants : Option (List ℕ) → Option (List ℕ) → Option FormWanted → Option RecordWanted → Option ListWanted → Need
wants session person form filed list = record {
  token = session;
  person = person;
  form = form;
  filed = filed;
  list = list;
}

-- a command that comes with a token, at a tick
abbrev needs_at : Tick → List ℕ → Command → Need
needs_at tick token command = need_of tick (record { token = Some token; command = command })

-- one that is given in the session of the token
abbrev needs_in : Tick → List ℕ → SessionCommand → Need
needs_in tick token command = needs_at tick token (In command)

-- the card asks for no session, and an opening for the one that its new token would open; a person is named by the code
pub known_needs_of_accounts : (tick : Tick) (token password : List ℕ)
    → (needs_at tick token Card ≡ wants None None None None None)
    × (needs_at tick token (Open (codes "dan") password) ≡ wants (Some (token_digest tick)) (Some (codes "dan")) None None None)
    × (needs_in tick token (OnAccount Close) ≡ wants (Some (sha256 token)) None None None None)
    × (needs_in tick token (OnAccount (Retire (codes "dan"))) ≡ wants (Some (sha256 token)) (Some (codes "dan")) None None None)
known_needs_of_accounts tick token password = (refl, refl, refl, refl)

-- an entry needs one record, and no list of anything
pub known_needs_of_records : (tick : Tick) (token : List ℕ) (form : FormSheet) (item : Item)
    → (needs_in tick token (OnRecord (MakeForm (codes "water") form))
    ≡ wants (Some (sha256 token)) None (Some (Last (codes "water"))) None None)
    × (needs_in tick token (Reading (ReadForm (codes "water") 2))
    ≡ wants (Some (sha256 token)) None (Some (Exact (codes "water") 2)) None None)
    × (needs_in tick token (OnRecord (OpenRecord (codes "water") (codes "S1")))
    ≡ wants (Some (sha256 token)) None (Some (Last (codes "water"))) (Some (About (codes "water") (codes "S1"))) None)
    × (needs_in tick token (OnRecord (Enter 3 item None)) ≡ wants (Some (sha256 token)) None None (Some (Numbered 3)) None)
    × (needs_in tick token (Reading (ReadVersion 3 2)) ≡ wants (Some (sha256 token)) None None (Some (Numbered 3)) None)
known_needs_of_records tick token form item = (refl, refl, refl, refl, refl)

-- a list is needed where one is asked for, from a number to a number
pub known_needs_of_lists : (tick : Tick) (token : List ℕ)
    → (needs_in tick token (Reading ReadPersons) ≡ wants (Some (sha256 token)) None None None (Some Persons))
    × (needs_in tick token (Reading (ReadRecords 4 9)) ≡ wants (Some (sha256 token)) None None None (Some (Records 4 9)))
    × (needs_in tick token (Reading (ReadTrail 5 8)) ≡ wants (Some (sha256 token)) None None None (Some (Trail 5 8)))
    × (needs_in tick token (Reading (TakeCopy 3 5)) ≡ wants (Some (sha256 token)) None None None (Some (Records 3 5)))
known_needs_of_lists tick token = (refl, refl, refl, refl)

-- stray passwords are counted to 9223372036854775807
pub known_strays : (more_strays 0 ≡ 1)
    × (more_strays 9223372036854775806 ≡ 9223372036854775807)
    × (more_strays 9223372036854775807 ≡ 9223372036854775807)
known_strays = (refl, refl, refl)

-- a trail of a thousand million rows is full, and what was made is refused
pub known_full : (before after : Lab) (moment : ℕ) (person : List ℕ) (reply : Reply) (deed : Deed)
    → length before.trail ≡ 1000000000
    → made before after moment person reply deed ≡ stays before (Refused (People LabFull))
known_full before after moment person reply deed full =
    ap (λ rows. cond (nat_le count_limit rows) (stays before (Refused (People LabFull)))
    (stays (told moment (Some person) deed after) reply)) full

-- one of a row less has room for what tells of it
pub known_room : (before after : Lab) (moment : ℕ) (person : List ℕ) (reply : Reply) (deed : Deed)
    → length before.trail ≡ 999999999
    → made before after moment person reply deed
    ≡ stays (told moment (Some person) deed after) reply
known_room before after moment person reply deed room =
    ap (λ rows. cond (nat_le count_limit rows) (stays before (Refused (People LabFull)))
    (stays (told moment (Some person) deed after) reply)) room

-- a person who is locked, and whose sessions are closed
abbrev locked : Lab → Person → Lab
locked lab person = record lab {
  persons = with_person person lab.persons;
  sessions = sessions_after All person.code lab.sessions;
}

-- a row that finds no room is left out, and one that finds it is told
unnoted : (lab : Lab) (moment : ℕ) (person : List ℕ) (deed : Deed)
    → length lab.trail ≡ 1000000000 → told_if_room moment person deed lab ≡ lab
unnoted lab moment person deed full =
    ap (λ rows. cond (nat_le count_limit rows) lab (told moment (Some person) deed lab)) full

noted_at : (rows : ℕ) (lab : Lab) (moment : ℕ) (person : List ℕ) (deed : Deed)
    → nat_le count_limit rows ≡ false → length lab.trail ≡ rows
    → told_if_room moment person deed lab ≡ told moment (Some person) deed lab
noted_at rows lab moment person deed room is =
    ap (λ n. cond (nat_le count_limit n) lab (told moment (Some person) deed lab)) is
    ∙ ap (λ full. cond full lab (told moment (Some person) deed lab)) room

one_more : (lab : Lab) (moment : ℕ) (person : List ℕ) (deed : Deed)
    → length (told moment (Some person) deed lab).trail ≡ length lab.trail + 1
one_more lab moment person deed =
    length-append lab.trail (trail_row_of (length lab.trail + 1) moment (Some person) deed ∷ [])

-- a password that locks, where the trail has room for both rows, for the first, and for none
pub known_lock_both : (lab : Lab) (moment : ℕ) (person : Person) → length lab.trail ≡ 999999998
    → failed lab moment Opening (Locking person)
    ≡ told moment (Some person.code) (Lock person.code)
    (told moment (Some person.code) (Refuse Opening) (locked lab person))
known_lock_both lab moment person room =
    let after = told moment (Some person.code) (Refuse Opening) (locked lab person) in
    ap (told_if_room moment person.code (Lock person.code))
    (noted_at 999999998 (locked lab person) moment person.code (Refuse Opening) refl room)
    ∙ noted_at 999999999 after moment person.code (Lock person.code) refl
    (one_more (locked lab person) moment person.code (Refuse Opening)
    ∙ ap (λ rows. rows + 1) room)

pub known_lock_first : (lab : Lab) (moment : ℕ) (person : Person) → length lab.trail ≡ 999999999
    → failed lab moment Opening (Locking person)
    ≡ told moment (Some person.code) (Refuse Opening) (locked lab person)
known_lock_first lab moment person room =
    let after = told moment (Some person.code) (Refuse Opening) (locked lab person) in
    ap (told_if_room moment person.code (Lock person.code))
    (noted_at 999999999 (locked lab person) moment person.code (Refuse Opening) refl room)
    ∙ unnoted after moment person.code (Lock person.code)
    (one_more (locked lab person) moment person.code (Refuse Opening)
    ∙ ap (λ rows. rows + 1) room)

pub known_lock_none : (lab : Lab) (moment : ℕ) (person : Person) → length lab.trail ≡ 1000000000
    → failed lab moment Opening (Locking person) ≡ locked lab person
known_lock_none lab moment person full =
    ap (told_if_room moment person.code (Lock person.code))
    (unnoted (locked lab person) moment person.code (Refuse Opening) full)
    ∙ unnoted (locked lab person) moment person.code (Lock person.code) full
