-- Tables with other laboratories, persons and rows of the trail, where everybody who was there has the row that he had: whoever
-- is named has the code that he had. So a laboratory of which no person and no row of the trail is new is what it was.
use Rattle.std.proofs.Common.{◌≡◌, ℕ, ℤ, true, List, [], map, filter, Option, Some, None, option_map, unwrap_or, refl, ap, ◌∙◌, int_eq}
use Rattle.std.specs.List.{list_all, AllByRecursion}
use Rattle.sqlite_keyed.specs.Keyed.{get_by, has_key}
use Rattle.sqlite_keyed.specs.Lists.{sort_by}
use Rattle.sqlite_keyed.specs.Rules.{has_parent}
use Rattle.sqlite_keyed.proofs.ListLemmas.{map_same, all_both, all_from_test}
use Rattle.lab_people_access.specs.declared.persons.Ask.{Ask}
use Rattle.lab_store_tables.specs.Rows.{LabRow, PersonRow, AskColumns, SessionRow, RecordRow, VersionRow, EntryRow, SignatureRow, TrailRow, Tables, person_id}
use Rattle.lab_store_tables.specs.Columns.{verifier_in}
use Rattle.lab_store_tables.specs.Meaning.{code_of, person_in, by_code, persons_of, session_in, by_session, sessions_of, entry_in, by_entry, entries_of, signature_in, by_signature, signatures_of, leaf_in, by_version, leaves_of, chained, cover_in, record_in, by_record, records_of, told_in, by_trail, trail_of, lab_in}
use Rattle.lab_store_tables.specs.WellKept.{lab_of_person, lab_of_record, lab_of_version, is_same, is_of_lab, is_asked_within, is_session_within, is_version_within, is_entry_within, is_signature_within, is_told_within}
use Rattle.lab_store_tables.proofs.PutLaws.{had_same, tests_alike, led_alike}
use Rattle.lab_store_tables.proofs.Parts.{AreLed, AreWithin}

-- what was asked, where the asker has the code
abbrev asked_by : AskColumns → List ℕ → Ask
asked_by columns code = record {
  asker = code;
  asked = unwrap_or columns.asked 0;
  first = verifier_in columns.salt columns.rounds columns.bytes;
}

module _ (t : Tables) (led : AreLed t) (labs : List LabRow) (persons : List PersonRow) (trail : List TrailRow)
    (stays : (id : ℤ) → has_key person_id t.persons id ≡ true → get_by person_id persons id ≡ get_by person_id t.persons id) where
  abbrev after : Tables
  after = record t { labs = labs; persons = persons; trail = trail }

  -- ---- who is named

  code_stays : (id : ℤ) → has_key person_id t.persons id ≡ true → code_of after id ≡ code_of t id
  code_stays id there = ap (λ (one : Option PersonRow). unwrap_or (option_map (λ (x : PersonRow). x.code) one) []) (stays id there)

  codes_stay : (id : Option ℤ) → has_parent person_id t.persons id ≡ true → option_map (code_of after) id ≡ option_map (code_of t) id
  codes_stay None there = refl
  codes_stay (Some id) there = ap Some (code_stays id there)

  -- ---- sessions

  session_same : (one : SessionRow) → has_parent person_id t.persons (Some one.person) ≡ true → session_in after one ≡ session_in t one
  session_same one there = λ i. record (session_in t one) { person = code_stays one.person there i }

  pub sessions_same : (lab : ℤ) → sessions_of after lab ≡ sessions_of t lab
  sessions_same =
      had_same (λ (one : SessionRow). one.lab) by_session (session_in after) (session_in t) t.sessions
      (led_alike person_id t.persons (λ (one : SessionRow). Some one.person) (session_in after) (session_in t) t.sessions led.sessions_person session_same)

  -- ---- records

  entry_same : (one : EntryRow) → has_parent person_id t.persons (Some one.person) ≡ true → entry_in after one ≡ entry_in t one
  entry_same one there = λ i. record (entry_in t one) { person = code_stays one.person there i }

  entries_same : (version : ℤ) → entries_of after version ≡ entries_of t version
  entries_same =
      had_same (λ (one : EntryRow). one.version) by_entry (entry_in after) (entry_in t) t.entries
      (led_alike person_id t.persons (λ (one : EntryRow). Some one.person) (entry_in after) (entry_in t) t.entries led.entries_person entry_same)

  signature_same : (one : SignatureRow) → has_parent person_id t.persons (Some one.person) ≡ true → signature_in after one ≡ signature_in t one
  signature_same one there = λ i. record (signature_in t one) { person = code_stays one.person there i }

  signatures_same : (version : ℤ) → signatures_of after version ≡ signatures_of t version
  signatures_same =
      had_same (λ (one : SignatureRow). one.version) by_signature (signature_in after) (signature_in t) t.signatures
      (led_alike person_id t.persons (λ (one : SignatureRow). Some one.person) (signature_in after) (signature_in t) t.signatures
      led.signatures_person signature_same)

  leaf_same : (one : VersionRow) → has_parent person_id t.persons (Some one.opener) ≡ true → leaf_in after one ≡ leaf_in t one
  leaf_same one there = λ i. record (leaf_in t one) {
    opener = code_stays one.opener there i;
    rows = entries_same one.id i;
    signatures = signatures_same one.id i;
  }

  leaves_same : (kept : ℤ) → leaves_of after kept ≡ leaves_of t kept
  leaves_same =
      had_same (λ (one : VersionRow). one.kept) by_version (leaf_in after) (leaf_in t) t.versions
      (led_alike person_id t.persons (λ (one : VersionRow). Some one.opener) (leaf_in after) (leaf_in t) t.versions led.versions_opener leaf_same)

  record_same : (code : List ℕ) (one : RecordRow) → record_in after code one ≡ record_in t code one
  record_same code one = λ i. record (cover_in t one) { versions = chained code (cover_in t one) None (leaves_same one.id i) }

  records_same : (code : List ℕ) (lab : ℤ) → records_of after code lab ≡ records_of t code lab
  records_same code lab =
      map_same (record_in after code) (record_in t code) (record_same code) (sort_by by_record (filter (λ (one : RecordRow). int_eq one.lab lab) t.records))

  -- ---- persons, and the trail

  ask_same : (one : PersonRow) (asker : Option ℤ) → has_parent person_id t.persons asker ≡ true
      → (person_in after (record one { ask = record (one.ask) { asker = asker } })).ask
      ≡ (person_in t (record one { ask = record (one.ask) { asker = asker } })).ask
  ask_same one None there = refl
  ask_same one (Some asker) there = ap (λ code. Some (asked_by one.ask code)) (code_stays asker there)

  person_same : (one : PersonRow) → has_parent person_id t.persons one.ask.asker ≡ true → person_in after one ≡ person_in t one
  person_same one there = λ i. record (person_in t one) { ask = ask_same one one.ask.asker there i }

  -- where the laboratory has the rows that it had
  persons_same : (lab : ℤ) → filter (λ (one : PersonRow). int_eq one.lab lab) persons ≡ filter (λ (one : PersonRow). int_eq one.lab lab) t.persons
      → persons_of after lab ≡ persons_of t lab
  persons_same lab rows =
      ap (λ (list : List PersonRow). map (person_in after) (sort_by by_code list)) rows
      ∙ had_same (λ (one : PersonRow). one.lab) by_code (person_in after) (person_in t) t.persons
      (led_alike person_id t.persons (λ (one : PersonRow). one.ask.asker) (person_in after) (person_in t) t.persons led.persons_asker person_same) lab

  told_same : (one : TrailRow) → has_parent person_id t.persons one.person ≡ true → told_in after one ≡ told_in t one
  told_same one there = λ i. record (told_in t one) { person = codes_stay one.person there i }

  trail_same : (lab : ℤ) → filter (λ (one : TrailRow). int_eq one.lab lab) trail ≡ filter (λ (one : TrailRow). int_eq one.lab lab) t.trail
      → trail_of after lab ≡ trail_of t lab
  trail_same lab rows =
      ap (λ (list : List TrailRow). map (told_in after) (sort_by by_trail list)) rows
      ∙ had_same (λ (one : TrailRow). one.lab) by_trail (told_in after) (told_in t) t.trail
      (led_alike person_id t.persons (λ (one : TrailRow). one.person) (told_in after) (told_in t) t.trail led.trail_person told_same) lab

  -- ---- the laboratory

  pub lab_same : (lab : LabRow) → filter (λ (one : PersonRow). int_eq one.lab lab.id) persons ≡ filter (λ (one : PersonRow). int_eq one.lab lab.id) t.persons
      → filter (λ (one : TrailRow). int_eq one.lab lab.id) trail ≡ filter (λ (one : TrailRow). int_eq one.lab lab.id) t.trail
      → lab_in after lab ≡ lab_in t lab
  lab_same lab own told = λ i. record (lab_in t lab) {
    persons = persons_same lab.id own i;
    sessions = sessions_same lab.id i;
    records = records_same lab.code lab.id i;
    trail = trail_same lab.id told i;
  }

  -- ---- whose a row is

  lab_stays : (id : ℤ) → has_key person_id t.persons id ≡ true → lab_of_person after id ≡ lab_of_person t id
  lab_stays id there = ap (option_map (λ (one : PersonRow). one.lab)) (stays id there)

  of_lab_stays : (lab : ℤ) (id : Option ℤ) → has_parent person_id t.persons id ≡ true → is_of_lab after lab id ≡ is_of_lab t lab id
  of_lab_stays lab None there = refl
  of_lab_stays lab (Some id) there = ap (λ of. is_same of (Some lab)) (lab_stays id there)

  pub sessions_within : list_all (is_session_within after) t.sessions ≡ list_all (is_session_within t) t.sessions
  sessions_within =
      tests_alike (is_session_within after) (is_session_within t) t.sessions
      (led_alike person_id t.persons (λ (one : SessionRow). Some one.person) (is_session_within after) (is_session_within t) t.sessions led.sessions_person
      (λ one there. ap (λ of. is_same of (Some one.lab)) (lab_stays one.person there)))

  pub versions_within : list_all (is_version_within after) t.versions ≡ list_all (is_version_within t) t.versions
  versions_within =
      tests_alike (is_version_within after) (is_version_within t) t.versions
      (led_alike person_id t.persons (λ (one : VersionRow). Some one.opener) (is_version_within after) (is_version_within t) t.versions led.versions_opener
      (λ one there. ap (λ of. is_same of (lab_of_record t one.kept)) (lab_stays one.opener there)))

  pub entries_within : list_all (is_entry_within after) t.entries ≡ list_all (is_entry_within t) t.entries
  entries_within =
      tests_alike (is_entry_within after) (is_entry_within t) t.entries
      (led_alike person_id t.persons (λ (one : EntryRow). Some one.person) (is_entry_within after) (is_entry_within t) t.entries led.entries_person
      (λ one there. ap (λ of. is_same of (lab_of_version t one.version)) (lab_stays one.person there)))

  pub signatures_within : list_all (is_signature_within after) t.signatures ≡ list_all (is_signature_within t) t.signatures
  signatures_within =
      tests_alike (is_signature_within after) (is_signature_within t) t.signatures
      (led_alike person_id t.persons (λ (one : SignatureRow). Some one.person) (is_signature_within after) (is_signature_within t) t.signatures
      led.signatures_person
      (λ one there. ap (λ of. is_same of (lab_of_version t one.version)) (lab_stays one.person there)))

  -- of the rows that were there
  pub asked_within : AreWithin t → AllByRecursion (λ one. is_asked_within after one ≡ true) t.persons
  asked_within within =
      all_both (λ (one : PersonRow). has_parent person_id t.persons one.ask.asker ≡ true) (λ one. is_asked_within t one ≡ true)
      (λ one. is_asked_within after one ≡ true)
      (λ one there was. of_lab_stays one.lab one.ask.asker there ∙ was) t.persons
      (all_from_test (λ (one : PersonRow). has_parent person_id t.persons one.ask.asker) t.persons led.persons_asker)
      (all_from_test (is_asked_within t) t.persons within.persons)

  pub told_within : AreWithin t → AllByRecursion (λ one. is_told_within after one ≡ true) t.trail
  told_within within =
      all_both (λ (one : TrailRow). has_parent person_id t.persons one.person ≡ true) (λ one. is_told_within t one ≡ true)
      (λ one. is_told_within after one ≡ true)
      (λ one there was. of_lab_stays one.lab one.person there ∙ was) t.trail
      (all_from_test (λ (one : TrailRow). has_parent person_id t.persons one.person) t.trail led.trail_person)
      (all_from_test (is_told_within t) t.trail within.trail)
