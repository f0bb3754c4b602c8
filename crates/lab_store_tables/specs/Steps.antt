-- What the changes of a request make of the tables, one after the other, in a database that keeps
-- its own rules. ISO/IEC 17025:2017, 7.11.3(d): a system that manages information is "maintained in
-- a manner that ensures the integrity of the data and information".
use Rattle.std.specs.Prelude.{◌≡◌, ◌⊎◌, ℕ, ℤ, List, [], find, Some}
use Rattle.lab_records_kept.specs.declared.changes.Change.{Change}
use Rattle.lab_records_kept.specs.declared.changes.Change.TheVariants.{Last, Strays, PersonAdded, PersonSet, SessionAdded, SessionSet, SessionsClosed, FormAdded, RecordAdded, RowAdded, VersionOpened, SignatureAdded, TrailAdded}
use Rattle.lab_store_tables.specs.Rows.{LabRow, Tables}
use Rattle.lab_store_tables.specs.Meaning.{has_code}
use Rattle.lab_store_tables.specs.WellKept.{IsWellKept}
use Rattle.lab_store_tables.specs.Held.{AreRising}
use Rattle.lab_store_tables.specs.Changes.{AppliesIn, InTurn}
use Rattle.lab_store_tables.specs.ByRules.{IsByRules}

-- what a change makes of the tables; a person's sessions are closed by the person's id, which in
-- well-kept tables alone are those of the person's code
abbrev pub AppliesWhereKept : ℤ → Change → Tables → Tables → Type 0
AppliesWhereKept lab (Last moment) old new = AppliesIn lab (Last moment) old new
AppliesWhereKept lab (Strays count) old new = AppliesIn lab (Strays count) old new
AppliesWhereKept lab (PersonAdded person) old new = AppliesIn lab (PersonAdded person) old new
AppliesWhereKept lab (PersonSet person) old new = AppliesIn lab (PersonSet person) old new
AppliesWhereKept lab (SessionAdded session) old new = AppliesIn lab (SessionAdded session) old new
AppliesWhereKept lab (SessionSet session) old new = AppliesIn lab (SessionSet session) old new
AppliesWhereKept lab (SessionsClosed person closing) old new =
    AreRising old → IsWellKept old → AppliesIn lab (SessionsClosed person closing) old new
AppliesWhereKept lab (FormAdded form) old new = AppliesIn lab (FormAdded form) old new
AppliesWhereKept lab (RecordAdded kept) old new = AppliesIn lab (RecordAdded kept) old new
AppliesWhereKept lab (RowAdded number row) old new = AppliesIn lab (RowAdded number row) old new
AppliesWhereKept lab (VersionOpened number version) old new =
    AppliesIn lab (VersionOpened number version) old new
AppliesWhereKept lab (SignatureAdded number version signature) old new =
    AppliesIn lab (SignatureAdded number version signature) old new
AppliesWhereKept lab (TrailAdded told) old new = AppliesIn lab (TrailAdded told) old new

-- the change was made of the laboratory whose row has the id, and left tables in which ids rise and
-- the database's own rules hold
pub record StepsBy (lab : ℤ) (one : Change) (old new : Tables) : Type 0 where
  pub applies : AppliesWhereKept lab one old new
  pub rising : AreRising new
  pub rules : IsByRules new

-- the changes were made of the laboratory of the code, the first of them first
pub record AreMade (code : List ℕ) (changes : List Change) (old new : Tables) : Type 0 where
  pub lab : LabRow
  pub found : find (has_code code) old.labs ≡ Some lab
  pub steps : InTurn (StepsBy lab.id) changes old new

-- the changes were made of the laboratory of the code; or there was none to make, and all is as it
-- was
abbrev pub AreMadeIfAny : List ℕ → List Change → Tables → Tables → Type 0
AreMadeIfAny code changes old new = ((changes ≡ []) × (new ≡ old)) ⊎ AreMade code changes old new
