-- The tables of schema 2, described: those of today's schema without the approval of a form, the format
-- of a version, and two of a person's numbers of rounds. A row of them stands for the row of today's
-- tables that has filled in what schema 2 didn't know: a form wants no approval, a version's text is of
-- format 1, both halves of a one-time word have the one number of rounds, and what was asked for has
-- 10,000 (21 CFR 11.10(e), "record changes shall not obscure previously recorded information"; the
-- PBKDF2 iteration count of NIST SP 800-132, 5.2, belongs to each verifier).
use Rattle.std.specs.Prelude.{ℕ, ℤ, false, List, [], ◌∷◌, Option, Some, None, option_map, codes}
use Rattle.lab_people_access.specs.Passwords.{old_rounds}
use Rattle.lab_store_tables.specs.RowRecords.{PersonRow, FormRow, VersionRow, EntryRow, SignatureRow}
use Rattle.lab_store_tables.specs.Sheets.{Number, Flag, Words, Octets, Sheet, Cells}
use Rattle.lab_store_tables.specs.Descriptions.{given, perhaps, leads, leads_perhaps, entries, entry_make, signatures, signature_make}
use Rattle.lab_store_tables.specs.Family.{Persons, Forms, Versions, Entries, Signatures, Layout, kept}

-- what there is of the second half, where there is one
abbrev pub beside : {A B : Type 0} → Option A → Option B → Option B
beside None other = None
beside (Some one) other = other

-- a reason, for which some files have an empty text where there is none
abbrev pub said_in : Option (List ℕ) → Option (List ℕ)
said_in None = None
said_in (Some []) = None
said_in (Some (first ∷ others)) = Some (first ∷ others)

abbrev pub old_persons : Sheet
old_persons = record {
  name = codes "persons";
  tree = 3;
  columns = leads (codes "lab") (codes "labs")
      ∷ given (codes "code") Words
      ∷ given (codes "name") Words
      ∷ given (codes "roles") Number
      ∷ given (codes "retired") Flag
      ∷ given (codes "failures") Number
      ∷ perhaps (codes "locked") Number
      ∷ given (codes "kind") Number
      ∷ perhaps (codes "salt") Octets
      ∷ perhaps (codes "rounds") Number
      ∷ perhaps (codes "bytes") Octets
      ∷ perhaps (codes "salt2") Octets
      ∷ perhaps (codes "bytes2") Octets
      ∷ perhaps (codes "changed") Number
      ∷ leads_perhaps (codes "asker") (codes "persons")
      ∷ perhaps (codes "asked") Number
      ∷ perhaps (codes "ask_salt") Octets
      ∷ perhaps (codes "ask_bytes") Octets
      ∷ [];
  uniques = (codes "lab" ∷ codes "code" ∷ []) ∷ [];
}

abbrev pub old_forms : Sheet
old_forms = record {
  name = codes "forms";
  tree = 8;
  columns = leads (codes "lab") (codes "labs")
      ∷ given (codes "code") Words
      ∷ given (codes "version") Number
      ∷ [];
  uniques = (codes "lab" ∷ codes "code" ∷ codes "version" ∷ []) ∷ [];
}

abbrev pub old_versions : Sheet
old_versions = record {
  name = codes "versions";
  tree = 18;
  columns = leads (codes "record") (codes "records")
      ∷ given (codes "number") Number
      ∷ leads (codes "opener") (codes "persons")
      ∷ given (codes "opened") Number
      ∷ perhaps (codes "reason") Words
      ∷ [];
  uniques = (codes "record" ∷ codes "number" ∷ []) ∷ [];
}

abbrev old_person_cells : PersonRow → Cells old_persons.columns
old_person_cells one = (one.lab, (one.code, (one.name, (one.roles, (one.retired, (one.failures, (one.locked, (one.password.kind, (one.password.salt, (one.password.rounds, (one.password.bytes, (one.password.salt2, (one.password.bytes2, (one.password.changed, (one.ask.asker, (one.ask.asked, (one.ask.salt, (one.ask.bytes, tt))))))))))))))))))

abbrev old_person_make : ℤ → Cells old_persons.columns → PersonRow
old_person_make id x = record {
  id = id;
  lab = x.0;
  code = x.1.0;
  name = x.1.1.0;
  roles = x.1.1.1.0;
  retired = x.1.1.1.1.0;
  failures = x.1.1.1.1.1.0;
  locked = x.1.1.1.1.1.1.0;
  password = record {
    kind = x.1.1.1.1.1.1.1.0;
    salt = x.1.1.1.1.1.1.1.1.0;
    rounds = x.1.1.1.1.1.1.1.1.1.0;
    bytes = x.1.1.1.1.1.1.1.1.1.1.0;
    salt2 = x.1.1.1.1.1.1.1.1.1.1.1.0;
    rounds2 = beside (x.1.1.1.1.1.1.1.1.1.1.1.0) (x.1.1.1.1.1.1.1.1.1.0);
    bytes2 = x.1.1.1.1.1.1.1.1.1.1.1.1.0;
    changed = x.1.1.1.1.1.1.1.1.1.1.1.1.1.0;
  };
  ask = record {
    asker = x.1.1.1.1.1.1.1.1.1.1.1.1.1.1.0;
    asked = x.1.1.1.1.1.1.1.1.1.1.1.1.1.1.1.0;
    salt = x.1.1.1.1.1.1.1.1.1.1.1.1.1.1.1.1.0;
    rounds = option_map (λ _. old_rounds) (x.1.1.1.1.1.1.1.1.1.1.1.1.1.1.0);
    bytes = x.1.1.1.1.1.1.1.1.1.1.1.1.1.1.1.1.1.0;
  };
}

abbrev old_form_cells : FormRow → Cells old_forms.columns
old_form_cells one = (one.lab, (one.code, (one.version, tt)))

abbrev old_form_make : ℤ → Cells old_forms.columns → FormRow
old_form_make id x = record {
  id = id;
  lab = x.0;
  code = x.1.0;
  version = x.1.1.0;
  approval = false;
}

abbrev old_version_cells : VersionRow → Cells old_versions.columns
old_version_cells one = (one.kept, (one.number, (one.opener, (one.opened, (one.reason, tt)))))

abbrev old_version_make : ℤ → Cells old_versions.columns → VersionRow
old_version_make id x = record {
  id = id;
  kept = x.0;
  number = x.1.0;
  format = 1;
  opener = x.1.1.0;
  opened = x.1.1.1.0;
  reason = said_in (x.1.1.1.1.0);
}

abbrev old_entry_make : ℤ → Cells entries.columns → EntryRow
old_entry_make id x =
    let one = entry_make id x in
    record one { reason = said_in one.reason }

abbrev old_signature_make : ℤ → Cells signatures.columns → SignatureRow
old_signature_make id x =
    let one = signature_make id x in
    record one { reason = said_in one.reason }

-- how schema 2 keeps each table
abbrev pub before : Layout
before Persons = record { sheet = old_persons; id = λ one. one.id; cells = old_person_cells; make = old_person_make }
before Forms = record { sheet = old_forms; id = λ one. one.id; cells = old_form_cells; make = old_form_make }
before Versions = record { sheet = old_versions; id = λ one. one.id; cells = old_version_cells; make = old_version_make }
before Entries = record (kept Entries) { make = old_entry_make }
before Signatures = record (kept Signatures) { make = old_signature_make }
before k = kept k
