-- No row of an old file is left behind (21 CFR 11.10(c), "protection of records to enable their
-- accurate and ready retrieval"; ISO/IEC 17025:2017, 7.11.3(d), "the integrity of the data and
-- information"): each table of the new file has as many rows as that of the old one, whoever wrote
-- it and whatever its rows say. One question asks how many there are; what it shows of a file is
-- what SQL means by it.
use Rattle.std.specs.Prelude.{◌≡◌, ℕ, ◌<◌, pos, min, codes, List, [], ◌∷◌, length, slice_get, option_and_then, Option}
use Rattle.sqlite_value.specs.declared.value.Value.{Value}
use Rattle.sqlite_value.specs.declared.value.Value.TheVariants.{Int}
use Rattle.sqlite_value.specs.Order.{Row}
use Rattle.sqlite.specs.Effect.{Database}
use Rattle.lab_store_tables.specs.Rows.{Tables}
use Rattle.lab_move_tables.specs.Showing.{ShowsOf}
use Rattle.lab_move.specs.declared.counting.TheConstants.{TABLES}

-- ---- the question

abbrev pub counts_text : List ℕ
counts_text = codes "SELECT (SELECT count(*) FROM labs), (SELECT count(*) FROM persons), (SELECT count(*) FROM sessions), (SELECT count(*) FROM forms), (SELECT count(*) FROM fields), (SELECT count(*) FROM choices), (SELECT count(*) FROM records), (SELECT count(*) FROM versions), (SELECT count(*) FROM entries), (SELECT count(*) FROM signatures), (SELECT count(*) FROM trail)"

-- how many tables it asks about: each but `desk`, whose one row names the schema
abbrev pub counted_tables : ℕ
counted_tables = TABLES

-- what stands at a place of the first row
abbrev pub cell : List Row → ℕ → Option Value
cell rows at = option_and_then (λ row. slice_get row at) (slice_get rows 0)

-- ---- the numbers

-- as many as are counted, of so many rows: as far as SQL's numbers go
abbrev pub shown_count : ℕ → Value
shown_count many = Int (pos (min 9223372036854775807 many))

-- in the order of the question
abbrev pub counts_row : Tables → Row
counts_row t =
    shown_count (length t.labs)
    ∷ shown_count (length t.persons)
    ∷ shown_count (length t.sessions)
    ∷ shown_count (length t.forms)
    ∷ shown_count (length t.fields)
    ∷ shown_count (length t.choices)
    ∷ shown_count (length t.records)
    ∷ shown_count (length t.versions)
    ∷ shown_count (length t.entries)
    ∷ shown_count (length t.signatures)
    ∷ shown_count (length t.trail)
    ∷ []

-- both show the same numbers
abbrev pub AreAlike : List Row → List Row → Type 0
AreAlike rows others = (at : ℕ) → at < counted_tables → cell rows at ≡ cell others at

-- they are how many rows the tables have
abbrev pub AreCounts : List Row → Tables → Type 0
AreCounts rows t = AreAlike rows (counts_row t ∷ [])

-- each table of the file has as many rows as that of these tables
pub record HasAsMany (db : Database) (t : Tables) : Type 0 where
  pub rows : List Row
  pub shown : ShowsOf db counts_text [] rows
  pub same : AreCounts rows t
