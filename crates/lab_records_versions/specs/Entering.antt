-- Values that are entered, and records that are amended (ISO/IEC 17025:2017, 7.5.1 and 7.5.2): over
-- the record that was looked up, the first refusal in order, or what is added.
use Rattle.std.specs.Prelude.{ℕ, ◌+◌, Bool, true, false, not, ◌&&◌, ◌||◌, ◌==◌, nat_le, nat_lt, List, [], ◌∷◌, length, map, Option, Some, None, is_some, is_none, Result, Ok, Err, bytes_eq, if◌then◌else◌}
use Rattle.std.specs.Option.{option_map_or}
use Rattle.lab_forms.specs.Forms.{value_refusal}
use Rattle.lab_people_access.specs.declared.refusals.PeopleRefusal.TheVariants.{LabFull}
use Rattle.lab_seal_versions.specs.declared.rows.EntryRow.{EntryRow}
use Rattle.lab_seal_versions.specs.declared.origins.OriginParts.{OriginParts}
use Rattle.lab_seal_versions.specs.declared.versions.Format.TheVariants.{Two}
use Rattle.lab_seal_versions.specs.declared.states.State.{State}
use Rattle.lab_seal_versions.specs.declared.states.State.TheVariants.{Open}
use Rattle.lab_seal_versions.specs.States.{is_settled}
use Rattle.lab_records_kept.specs.declared.records.Record.{Record}
use Rattle.lab_records_kept.specs.declared.records.Version.{Version}
use Rattle.lab_records_kept.specs.Limits.{row_limit, version_limit}
use Rattle.lab_records_kept.specs.Lookups.{last_of}
use Rattle.lab_records_kept.specs.Values.{all_rows, value_of, version_state}
use Rattle.lab_records_kept.specs.Digests.{digest_of}
use Rattle.lab_records_kept.specs.Changes.{with_row}
use Rattle.lab_records_rules.specs.declared.outcomes.EntryMade.{EntryMade}
use Rattle.lab_records_rules.specs.declared.outcomes.AmendmentMade.{AmendmentMade}
use Rattle.lab_records_rules.specs.declared.items.Item.{Item}
use Rattle.lab_records_rules.specs.declared.refusals.Refusal.{Refusal}
use Rattle.lab_records_rules.specs.declared.refusals.Refusal.TheVariants.{People, Form, NoSuchRecord, NotOpen, ReasonWanted, NothingAltered, NotAltered, AmendmentOpen}

-- a version is open; a version is released or rejected
abbrev pub is_open : Option State → Bool
is_open (Some Open) = true
is_open _ = false

abbrev pub has_settled : Option State → Bool
has_settled None = false
has_settled (Some state) = is_settled state

-- a row as it is entered
abbrev pub entered_row : Item → Option (List ℕ) → List ℕ → ℕ → EntryRow
entered_row item reason caller moment = record {
  key = item.key;
  value = item.value;
  unit = item.unit;
  person = caller;
  moment = moment;
  reason = reason;
}

-- what is wrong with a key, a value and a unit by the record's form
abbrev pub item_refusal : Record → Item → Option Refusal
item_refusal kept item =
    option_map_or (λ refusal. Some (Form refusal))
    (value_refusal kept.form.form.fields item.key item.value item.unit) None

-- the key has a value already
abbrev pub has_value : Record → List ℕ → Bool
has_value kept key = is_some (value_of (all_rows kept.versions) key)

-- ---- an entry

-- a row that is entered, and its version with it
abbrev pub entry_made : List ℕ → Record → Version → EntryRow → EntryMade
entry_made lab kept version row = record {
  number = kept.number;
  version = version.origin.number;
  row = row;
  rows = length version.rows + 1;
  digest = digest_of lab kept (with_row row version);
}

-- the last refusals: a key that has a value wants a reason, and a version takes so many rows
abbrev pub entering_last : List ℕ → Record → Version → Item → Option (List ℕ) → List ℕ → ℕ
    → Result EntryMade Refusal
entering_last lab kept version item reason caller moment =
    if has_value kept item.key && is_none reason then Err ReasonWanted
    else (if nat_le row_limit (length version.rows) then Err (People LabFull)
    else Ok (entry_made lab kept version (entered_row item reason caller moment)))

-- into the last version of a record, while it is open
abbrev pub entering_in : List ℕ → Record → Version → Item → Option (List ℕ) → List ℕ → ℕ
    → Result EntryMade Refusal
entering_in lab kept version item reason caller moment =
    if not (is_open (version_state kept version)) then Err NotOpen
    else option_map_or Err (item_refusal kept item)
    (entering_last lab kept version item reason caller moment)

abbrev pub entering_of : List ℕ → Record → Option Version → Item → Option (List ℕ) → List ℕ → ℕ
    → Result EntryMade Refusal
entering_of lab kept None item reason caller moment = Err NotOpen
entering_of lab kept (Some version) item reason caller moment =
    entering_in lab kept version item reason caller moment

-- a value is entered
abbrev pub entering : List ℕ → Option Record → Item → Option (List ℕ) → List ℕ → ℕ
    → Result EntryMade Refusal
entering lab None item reason caller moment = Err NoSuchRecord
entering lab (Some kept) item reason caller moment =
    entering_of lab kept (last_of kept.versions) item reason caller moment

-- ---- an amendment

-- the key's value is the one that stands, as it is written
abbrev pub is_same_value : Option EntryRow → List ℕ → Bool
is_same_value None value = false
is_same_value (Some row) value = bytes_eq row.value value

abbrev pub is_unaltered : Record → Item → Bool
is_unaltered kept item = is_same_value (value_of (all_rows kept.versions) item.key) item.value

-- what is wrong with one of the altered values
abbrev pub altered_refusal : Record → Item → Option Refusal
altered_refusal kept item =
    option_map_or Some (item_refusal kept item)
    (if is_unaltered kept item then Some (NotAltered item.key) else None)

-- the first that is wrong with them, in order
abbrev pub first_altered_refusal : Record → List Item → Option Refusal
first_altered_refusal kept [] = None
first_altered_refusal kept (one ∷ others) =
    option_map_or Some (altered_refusal kept one) (first_altered_refusal kept others)

-- what the new version amends, and why
abbrev pub next_origin : List ℕ → Record → Version → List ℕ → OriginParts
next_origin lab kept last reason = record {
  number = last.origin.number + 1;
  amendment = Some (record { previous = digest_of lab kept last; reason = reason });
}

-- a version of these rows, by the record's form
abbrev pub opened_version : Record → OriginParts → List EntryRow → List ℕ → ℕ → Version
opened_version kept origin rows caller moment = record {
  format = Two kept.form.form.approval;
  origin = origin;
  opener = caller;
  opened = moment;
  rows = rows;
  signatures = [];
}

-- the new version: each of its rows bears the reason
abbrev pub next_version : List ℕ → Record → Version → List ℕ → List Item → List ℕ → ℕ → Version
next_version lab kept last reason altered caller moment =
    opened_version kept (next_origin lab kept last reason)
    (map (λ item. entered_row item (Some reason) caller moment) altered) caller moment

abbrev pub amendment_made : List ℕ → Record → Version → AmendmentMade
amendment_made lab kept version =
    record { number = kept.number; version = version; digest = digest_of lab kept version }

-- the last refusals: so many versions has a record, and so many rows a version
abbrev pub amending_last : List ℕ → Record → Version → List ℕ → List Item → List ℕ → ℕ
    → Result AmendmentMade Refusal
amending_last lab kept last reason altered caller moment =
    if nat_le version_limit last.origin.number || nat_lt row_limit (length altered)
    then Err (People LabFull)
    else Ok (amendment_made lab kept (next_version lab kept last reason altered caller moment))

-- with a reason, of something
abbrev pub amending_by : List ℕ → Record → Version → Option (List ℕ) → List Item → List ℕ → ℕ
    → Result AmendmentMade Refusal
amending_by lab kept last None altered caller moment = Err ReasonWanted
amending_by lab kept last (Some reason) [] caller moment = Err NothingAltered
amending_by lab kept last (Some reason) (one ∷ others) caller moment =
    option_map_or Err (first_altered_refusal kept (one ∷ others))
    (amending_last lab kept last reason (one ∷ others) caller moment)

-- once the last version is released or rejected
abbrev pub amending_of : List ℕ → Record → Option Version → Option (List ℕ) → List Item → List ℕ
    → ℕ → Result AmendmentMade Refusal
amending_of lab kept None reason altered caller moment = Err AmendmentOpen
amending_of lab kept (Some last) reason altered caller moment =
    if not (has_settled (version_state kept last)) then Err AmendmentOpen
    else amending_by lab kept last reason altered caller moment

-- the values are held against a table of the rows that stand: it is made once there are a last
-- version that is released or rejected, a reason, and some value
abbrev pub is_table_made : Option Record → Option (List ℕ) → List Item → Bool
is_table_made None reason altered = false
is_table_made (Some kept) reason altered =
    option_map_or (λ last. has_settled (version_state kept last)) (last_of kept.versions) false
    && is_some reason && not (length altered == 0)

-- a record is amended
abbrev pub amending : List ℕ → Option Record → Option (List ℕ) → List Item → List ℕ → ℕ
    → Result AmendmentMade Refusal
amending lab None reason altered caller moment = Err NoSuchRecord
amending lab (Some kept) reason altered caller moment =
    amending_of lab kept (last_of kept.versions) reason altered caller moment
