-- Where entries with their persons' codes are readable, their own rows are, and so are the codes.
use Rattle.std.proofs.Common.{List, [], ◌∷◌, map, filter, refl, int_eq, ℤ}
use Rattle.std.specs.Prelude.{All}
use Rattle.std.proofs.lemmas.List.Elements.{All-nil, All-cons, All-head, All-tail}
use Rattle.sqlite_keyed.specs.Lists.{sort_by}
use Rattle.lab_store_tables.specs.Rows.{EntryRow, Tables}
use Rattle.lab_store_tables.specs.Meaning.{by_entry}
use Rattle.lab_store_read.proofs.Found.{code_there}
use Rattle.lab_store_read_records.specs.Private.Heads.{entry_head, entry_heads_of}
use Rattle.lab_store_read_records.specs.Readable.{HasEntry}
use Rattle.lab_store_read_records.specs.Private.Readable.{HasOwnEntry, HasWriter}
use Rattle.lab_store_read_records.specs.Shown.{entry_shown, entries_shown}
use Rattle.lab_store_read_records.specs.Private.Shown.{own_entry_shown, own_entries_shown}

own_there : (t : Tables) (one : EntryRow) → HasEntry (entry_shown t one) → HasOwnEntry (own_entry_shown one)
own_there t one has = record { key = has.key; value = has.value; unit = has.unit; person = refl; moment = has.moment; reason = has.reason }

owns_there : (t : Tables) (ones : List EntryRow) → All HasEntry (map (entry_shown t) ones) → All HasOwnEntry (map own_entry_shown ones)
owns_there t [] all = All-nil HasOwnEntry
owns_there t (one ∷ more) all =
    All-cons HasOwnEntry (own_entry_shown one) (map own_entry_shown more) (own_there t one (All-head HasEntry (entry_shown t one) (map (entry_shown t) more) all))
    (owns_there t more (All-tail HasEntry (entry_shown t one) (map (entry_shown t) more) all))

writers_there : (t : Tables) (ones : List EntryRow) → All HasEntry (map (entry_shown t) ones) → All (HasWriter t) (map entry_head ones)
writers_there t [] all = All-nil (HasWriter t)
writers_there t (one ∷ more) all =
    let has = All-head HasEntry (entry_shown t one) (map (entry_shown t) more) all in
    All-cons (HasWriter t) (entry_head one) (map entry_head more) (code_there t one.person has.person)
    (writers_there t more (All-tail HasEntry (entry_shown t one) (map (entry_shown t) more) all))

abbrev of_version : Tables → ℤ → List EntryRow
of_version t version = sort_by by_entry (filter (λ (one : EntryRow). int_eq one.version version) t.entries)

pub all_owns : (t : Tables) (version : ℤ) → All HasEntry (entries_shown t version) → All HasOwnEntry (own_entries_shown t version)
all_owns t version all = owns_there t (of_version t version) all

pub all_writers : (t : Tables) (version : ℤ) → All HasEntry (entries_shown t version) → All (HasWriter t) (entry_heads_of t version)
all_writers t version all = writers_there t (of_version t version) all
