-- What each founding and each request leave true of every laboratory that is kept: that it is
-- within its limits, that it is bound, under dual control and legible, and that it keeps what was.
use Rattle.std.specs.Prelude.{◌≡◌, ℕ, List, Option, Some}
use Rattle.lab_seal_versions.specs.declared.states.State.TheVariants.{Released}
use Rattle.lab_records_kept.specs.declared.labs.Lab.{Lab}
use Rattle.lab_records_kept.specs.declared.records.Record.{Record as KeptRecord}
use Rattle.lab_records_kept.specs.declared.records.Version.{Version}
use Rattle.lab_records_kept.specs.Keeping.{Extends, IsPrefix, KeepsPersons, KeepsSession, KeepsForms, KeepsRecord, Keeps}
use Rattle.lab_records_kept.specs.Limits.{IsWithin}
use Rattle.lab_records_kept.specs.Values.{version_state}
use Rattle.lab_records_keeper.specs.Worlds.{World, Meaning, Given, Shuts, StaysSafe}
use Rattle.lab_records_copy_out.specs.Legible.{IsLegible}
use Rattle.lab_records_laws.specs.Runs.{IsReleasing}
use Rattle.lab_records_laws.specs.Stepping.{HoldsOf, WhereThere}

-- what holds of every laboratory
abbrev pub OfAll : (Lab → Type 0) → Meaning → Type 0
OfAll Holds meaning = (code : List ℕ) → WhereThere Holds (meaning code)

-- what holds of every laboratory of a keeper, where the keeper is live
abbrev pub HoldsIn : (Lab → Type 0) → World → Type 0
HoldsIn Holds world = world.is_live → OfAll Holds world.meaning

-- whatever a crash leaves, it holds of every laboratory in it
abbrev pub LeavesOnly : (Lab → Type 0) → World → Type 0
LeavesOnly Holds world = (held : Meaning) → world.may_leave held → OfAll Holds held

-- every laboratory is within its limits
abbrev pub AreWithin : World → Type 0
AreWithin world = HoldsIn IsWithin world

-- every laboratory is bound and under dual control, and so each version that it released is signed
-- by two persons, or three
abbrev pub AreReleasing : World → Type 0
AreReleasing world = HoldsIn IsReleasing world

-- every laboratory is legible: what a copy shows of it is such as its types admit
abbrev pub AreLegible : World → Type 0
AreLegible world = HoldsIn IsLegible world

-- the premises of a call of the desk: every laboratory was within its limits at its start, the
-- keeper is honest at its end, and its tables were well kept at its start
abbrev pub GivenWithin : World → World → Type 0 → Type 0
GivenWithin old new P = AreWithin old → Given old new P

-- ---- from one moment to a later one

-- a laboratory that was there is there, and the two are related so
abbrev pub Follows : (Lab → Lab → Type 0) → Option Lab → Option Lab → Type 0
Follows Relates before after = WhereThere (λ lab. HoldsOf (Relates lab) after) before

-- every laboratory that was there is there, and the two are related so
abbrev pub EachFollows : (Lab → Lab → Type 0) → Meaning → Meaning → Type 0
EachFollows Relates old new = (code : List ℕ) → Follows Relates (old code) (new code)

-- each laboratory that was there is there and keeps what was, and where its records became others
-- its trail tells of that once (21 CFR 11.10(e), "record changes shall not obscure previously
-- recorded information"; ISO/IEC 17025:2017, 7.5.2); told where the keeper is there to tell
abbrev pub KeptFrom : World → World → Type 0
KeptFrom old new = new.is_live → EachFollows Keeps old.meaning new.meaning

-- a laboratory has all that another recorded, and may have more: whoever had a code, each session,
-- each version of a form, each record with its versions, their rows and their signatures, and the
-- trail from its first row on (ISO/IEC 17025:2017, 7.5.2, "both the original and amended data and
-- files shall be retained"); who was retired is so, and a session that was closed is
pub record Retains (old new : Lab) : Type 0 where
  pub code : new.code ≡ old.code
  pub name : new.name ≡ old.name
  pub persons : KeepsPersons old.persons new.persons
  pub sessions : Extends KeepsSession old.sessions new.sessions
  pub forms : KeepsForms old.forms new.forms
  pub records : Extends KeepsRecord old.records new.records
  pub trail : IsPrefix old.trail new.trail

-- each laboratory that was there is there, and has all that was recorded, whatever number of events
-- lies between
abbrev pub RetainedFrom : World → World → Type 0
RetainedFrom old new = new.is_live → EachFollows Retains old.meaning new.meaning

-- a version that was released has the rows and the signatures that it had, and no more of them
abbrev pub StaysReleased : KeptRecord → Version → Version → Type 0
StaysReleased kept old new =
    version_state kept old ≡ Some Released
    → (new.rows ≡ old.rows) × (new.signatures ≡ old.signatures)

-- so has every version that was released in a laboratory, in its place in its record
abbrev pub KeepsReleased : Lab → Lab → Type 0
KeepsReleased old new =
    Extends (λ one other. Extends (StaysReleased one) one.versions other.versions)
    old.records new.records

-- and in every laboratory that was there
abbrev pub ReleasedFrom : World → World → Type 0
ReleasedFrom old new = new.is_live → EachFollows KeepsReleased old.meaning new.meaning

-- ---- all that stays true

-- over one event; also of what a crash leaves, and that the keeper may be asked again: also after
-- want of memory or a refusal it is live, where it was, or its store failed in that call
pub record Stays (old new : World) : Type 0 where
  pub within : AreWithin old → AreWithin new
  pub releasing : AreReleasing old → AreReleasing new
  pub keeps : KeptFrom old new
  pub reached : new.is_reached
  pub safe : StaysSafe old new
  pub legible : AreLegible old → AreLegible new
  pub left_within : old.is_live → AreWithin old → LeavesOnly IsWithin old → LeavesOnly IsWithin new
  pub left_releasing : old.is_live → AreReleasing old → LeavesOnly IsReleasing old →
      LeavesOnly IsReleasing new
  pub again : Shuts old new

-- over any number of them, from laboratories that are within their limits: each has all that was
-- recorded, and what was released is as it was; and while no fault shuts the keeper, a crash leaves
-- well-kept tables alone, and in them laboratories that are within their limits, bound and under
-- dual control; and the keeper may be asked again, or its store failed in one of them
pub record StaysOn (old new : World) : Type 0 where
  pub within : AreWithin new
  pub releasing : AreReleasing old → AreReleasing new
  pub retains : RetainedFrom old new
  pub released : AreReleasing old → ReleasedFrom old new
  pub reached : new.is_reached
  pub safe : new.is_live → old.is_safe → new.is_safe
  pub legible : AreLegible old → AreLegible new
  pub left_within : new.is_live → LeavesOnly IsWithin old → LeavesOnly IsWithin new
  pub left_releasing : new.is_live → AreReleasing old → LeavesOnly IsReleasing old →
      LeavesOnly IsReleasing new
  pub again : Shuts old new
