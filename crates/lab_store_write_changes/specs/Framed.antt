-- Changes that most requests make: the last moment of the laboratory, some that say nothing of it
-- and add no person, and a row of its trail.
use Rattle.std.specs.Prelude.{◌≡◌, ℕ, Bool, true, false, List, [], ◌∷◌, ◌++◌, IsTrue}
use Rattle.std.specs.List.{list_all}
use Rattle.lab_records_kept.specs.declared.changes.Change.{Change}
use Rattle.lab_records_kept.specs.declared.changes.Change.TheVariants.{Last, Strays, PersonAdded, PersonSet, SessionAdded, SessionSet, SessionsClosed, FormAdded, RecordAdded, RowAdded, VersionOpened, SignatureAdded, TrailAdded}
use Rattle.lab_records_kept.specs.declared.trails.TrailRow.{TrailRow as Told}

-- whether a change is one that says nothing of the last moment, and after which who gives the
-- command is known as before
abbrev pub spares_last : Change → Bool
spares_last (Last moment) = false
spares_last (Strays count) = false
spares_last (PersonAdded person) = false
spares_last (PersonSet person) = true
spares_last (SessionAdded session) = true
spares_last (SessionSet session) = true
spares_last (SessionsClosed person closing) = false
spares_last (FormAdded form) = true
spares_last (RecordAdded kept) = true
spares_last (RowAdded number row) = true
spares_last (VersionOpened number version) = true
spares_last (SignatureAdded number version signature) = true
spares_last (TrailAdded told) = false

abbrev pub framed : ℕ → List Change → Told → List Change
framed moment between told = Last moment ∷ (between ++ TrailAdded told ∷ [])

-- these are all changes, and those between are such
pub record IsFramed (moment : ℕ) (between : List Change) (told : Told) (changes : List Change)
    : Type 0 where
  pub whole : changes ≡ framed moment between told
  pub spared : IsTrue (list_all spares_last between)
