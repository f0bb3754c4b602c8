-- Persons whose rows change while each keeps its code: whatever names a person means what it meant. So sessions, records, the trail
-- and what was asked for stay, and of a laboratory its persons alone are to be looked at.
use Rattle.std.proofs.Common.{◌≡◌, ℕ, ℤ, true, List, filter, find, Option, Some, None, option_map, unwrap_or, refl, ap, subst, ◌∙◌, int_eq}
use Rattle.sqlite_rules.specs.Lists.{Has}
use Rattle.sqlite_rules.proofs.ListLemmas.{test_has, has_found}
use Rattle.sqlite_keyed.specs.Keyed.{has_key}
use Rattle.sqlite_keyed.specs.Rules.{has_parent}
use Rattle.sqlite_keyed.specs.Lists.{sort_by}
use Rattle.sqlite_keyed.proofs.ListLemmas.{map_same}
use Rattle.lab_people_access.specs.declared.persons.Person.{Person}
use Rattle.lab_people_access.specs.declared.persons.Ask.{Ask}
use Rattle.lab_store_tables.specs.Rows.{LabRow, PersonRow, AskColumns, SessionRow, RecordRow, VersionRow, EntryRow, SignatureRow, TrailRow, Tables, person_id}
use Rattle.lab_store_tables.specs.Columns.{verifier_in, ask_columns}
use Rattle.lab_store_tables.specs.Meaning.{code_of, person_in, by_code, persons_of, session_in, by_session, sessions_of, entry_in, by_entry, entries_of, signature_in, by_signature, signatures_of, leaf_in, by_version, leaves_of, chained, cover_in, record_in, by_record, records_of, told_in, by_trail, trail_of, lab_in}
use Rattle.lab_store_tables.specs.WellKept.{have_own_ids}
use Rattle.lab_store_tables.specs.Changes.{IsNamedIfAny, is_person, person_named, asker_of, person_row_of}
use Rattle.lab_store_tables.proofs.ColumnsBack.{roles_back, password_back}
use Rattle.lab_store_tables.proofs.LevelLaws.{had_by}
use Rattle.lab_store_tables.proofs.TrailLaws.{code_named}
use Rattle.lab_store_tables.proofs.Premises.{AreWhole}
use Rattle.lab_store_tables.proofs.OneRow.{has_own_key, had_same}

-- what an administrator asked for, by the columns and the id of who asked
abbrev ask_seen : Tables → AskColumns → ℤ → Ask
ask_seen t columns asker = record {
  asker = code_of t asker;
  asked = unwrap_or columns.asked 0;
  first = verifier_in columns.salt columns.rounds columns.bytes;
}

-- a person who is named is there
named_there : (t : Tables) (lab : ℤ) (code : List ℕ) (id : ℤ) → person_named t lab code ≡ Some id → has_key person_id t.persons id ≡ true
named_there t lab code id named = go (find (is_person lab code) t.persons) refl named
  where
    go : (o : Option PersonRow) → find (is_person lab code) t.persons ≡ o → option_map person_id o ≡ Some id → has_key person_id t.persons id ≡ true
    go None e h = absurd cc
    go (Some one) e h =
        let there = has_found (is_person lab code) t.persons one e in
        let is : one.id ≡ id = ap (λ o. unwrap_or o one.id) h in
        subst (λ n. has_key person_id t.persons n ≡ true) is (has_own_key person_id t.persons one there.0)

module _ (t : Tables) (people : List PersonRow) (whole : AreWhole t)
    (codes : (id : ℤ) → has_key person_id t.persons id ≡ true → code_of (record t { persons = people }) id ≡ code_of t id) where
  abbrev after : Tables
  after = record t { persons = people }

  named_alike : (person : Option ℤ) → has_parent person_id t.persons person ≡ true → option_map (code_of after) person ≡ option_map (code_of t) person
  named_alike None there = refl
  named_alike (Some id) there = ap Some (codes id there)

  -- ---- sessions

  session_alike : (one : SessionRow) → Has t.sessions one → session_in after one ≡ session_in t one
  session_alike one has = λ i. record (session_in t one) {
    person = codes one.person (test_has (λ (x : SessionRow). has_parent person_id t.persons (Some x.person)) t.sessions one whole.sessions has) i;
  }

  sessions_alike : (lab : ℤ) → sessions_of after lab ≡ sessions_of t lab
  sessions_alike lab =
      had_same (λ (one : SessionRow). one.lab) by_session (session_in after) (session_in t) t.sessions lab (λ one has here. session_alike one has)

  -- ---- records

  entry_alike : (one : EntryRow) → Has t.entries one → entry_in after one ≡ entry_in t one
  entry_alike one has = λ i. record (entry_in t one) {
    person = codes one.person (test_has (λ (x : EntryRow). has_parent person_id t.persons (Some x.person)) t.entries one whole.entries has) i;
  }

  entries_alike : (version : ℤ) → entries_of after version ≡ entries_of t version
  entries_alike version =
      had_same (λ (one : EntryRow). one.version) by_entry (entry_in after) (entry_in t) t.entries version (λ one has here. entry_alike one has)

  signature_alike : (one : SignatureRow) → Has t.signatures one → signature_in after one ≡ signature_in t one
  signature_alike one has = λ i. record (signature_in t one) {
    person = codes one.person (test_has (λ (x : SignatureRow). has_parent person_id t.persons (Some x.person)) t.signatures one whole.signatures has) i;
  }

  signatures_alike : (version : ℤ) → signatures_of after version ≡ signatures_of t version
  signatures_alike version =
      had_same (λ (one : SignatureRow). one.version) by_signature (signature_in after) (signature_in t) t.signatures version
      (λ one has here. signature_alike one has)

  leaf_alike : (one : VersionRow) → Has t.versions one → leaf_in after one ≡ leaf_in t one
  leaf_alike one has = λ i. record (leaf_in t one) {
    opener = codes one.opener (test_has (λ (x : VersionRow). has_parent person_id t.persons (Some x.opener)) t.versions one whole.versions has) i;
    rows = entries_alike one.id i;
    signatures = signatures_alike one.id i;
  }

  leaves_alike : (kept : ℤ) → leaves_of after kept ≡ leaves_of t kept
  leaves_alike kept = had_same (λ (one : VersionRow). one.kept) by_version (leaf_in after) (leaf_in t) t.versions kept (λ one has here. leaf_alike one has)

  record_alike : (code : List ℕ) (one : RecordRow) → record_in after code one ≡ record_in t code one
  record_alike code one = λ i. record (cover_in t one) { versions = chained code (cover_in t one) None (leaves_alike one.id i) }

  records_alike : (code : List ℕ) (lab : ℤ) → records_of after code lab ≡ records_of t code lab
  records_alike code lab =
      map_same (record_in after code) (record_in t code) (record_alike code) (sort_by by_record (filter (λ (one : RecordRow). int_eq one.lab lab) t.records))

  -- ---- the trail

  told_alike : (one : TrailRow) → Has t.trail one → told_in after one ≡ told_in t one
  told_alike one has = λ i. record (told_in t one) {
    person = named_alike one.person (test_has (λ (x : TrailRow). has_parent person_id t.persons x.person) t.trail one whole.trail has) i;
  }

  trail_alike : (lab : ℤ) → trail_of after lab ≡ trail_of t lab
  trail_alike lab = had_same (λ (one : TrailRow). one.lab) by_trail (told_in after) (told_in t) t.trail lab (λ one has here. told_alike one has)

  -- ---- persons

  ask_alike : (columns : AskColumns) (asker : Option ℤ) → has_parent person_id t.persons asker ≡ true
      → option_map (ask_seen after columns) asker ≡ option_map (ask_seen t columns) asker
  ask_alike columns None there = refl
  ask_alike columns (Some id) there = λ i. Some (record (ask_seen t columns id) { asker = codes id there i })

  person_alike : (one : PersonRow) → Has t.persons one → person_in after one ≡ person_in t one
  person_alike one has = λ i. record (person_in t one) {
    ask = ask_alike one.ask one.ask.asker (test_has (λ (x : PersonRow). has_parent person_id t.persons x.ask.asker) t.persons one whole.askers has) i;
  }

  -- the rows of persons that were there, as they are seen now
  pub persons_seen : (lab : ℤ) → had_by (λ (one : PersonRow). one.lab) by_code (person_in after) t.persons lab ≡ persons_of t lab
  persons_seen lab =
      had_same (λ (one : PersonRow). one.lab) by_code (person_in after) (person_in t) t.persons lab (λ one has here. person_alike one has)

  -- who asked is somebody of the laboratory, whose code the person's row gives back
  ask_back : (lab : ℤ) (asker : Option ℤ) (ask : Option Ask) → have_own_ids person_id t.persons ≡ true
      → IsNamedIfAny t lab (option_map (λ (it : Ask). it.asker) ask) asker
      → option_map (ask_seen after (ask_columns asker ask)) (ask_columns asker ask).asker ≡ ask
  ask_back lab asker None own named = refl
  ask_back lab asker (Some ask) own named =
      ap (option_map (ask_seen after (ask_columns asker (Some ask)))) named.2
      ∙ (λ i. Some (record ask {
        asker = (codes named.0 (named_there t lab ask.asker named.0 named.1) ∙ code_named t own lab ask.asker named.0 named.1) i;
      }))

  pub person_back : (lab id : ℤ) (asker : Option ℤ) (person : Person) → have_own_ids person_id t.persons ≡ true
      → IsNamedIfAny t lab (asker_of person) asker → person_in after (person_row_of lab id asker person) ≡ person
  person_back lab id asker person own named = λ i. record person {
    roles = roles_back person.roles i;
    password = password_back person.password i;
    ask = ask_back lab asker person.ask own named i;
  }

  -- a laboratory with these persons is what it was beside them
  pub lab_alike : (lab : LabRow) (seen : List Person) → persons_of after lab.id ≡ seen → lab_in after lab ≡ record (lab_in t lab) { persons = seen }
  lab_alike lab seen law = λ i. record (lab_in t lab) {
    persons = law i;
    sessions = sessions_alike lab.id i;
    records = records_alike lab.code lab.id i;
    trail = trail_alike lab.id i;
  }
