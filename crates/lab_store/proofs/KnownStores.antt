-- Small instances of the definitions: what a connection is as a keeper that shows the small file of
-- lab_store_tables, and what a crash leaves of it.
use Rattle.std.proofs.Common.{◌≡◌, false, Some, None, refl, true≢false, sym, subst, ◌∙◌}
use Rattle.std.specs.Prelude.{codes}
use Rattle.sqlite.specs.State.{State}
use Rattle.lab_records_keeper.specs.Worlds.{Meaning}
use Rattle.lab_store_tables.specs.Rows.{Tables}
use Rattle.lab_store_tables.specs.Meaning.{meaning}
use Rattle.lab_store_tables.specs.Ready.{IsKept, tables_of}
use Rattle.lab_store_tables.proofs.KnownFile.{file}
use Rattle.lab_store_tables.proofs.KnownValues.{aqua}
use Rattle.lab_store.specs.StoreWorlds.{MayLeave, IsSafe, world_of}
use Rattle.lab_store.proofs.StoreWorldWords.{SameRows}

-- a connection after whose crash nothing, or only what it shows, may be found
abbrev leaving_none : State → State
leaving_none s = record s { may_leave = λ trees. ⊥ }

abbrev leaving_shown : State → State
leaving_shown s = record s { may_leave = λ trees. trees ≡ s.now.trees }

-- a crash leaves what is shown, where that may be found, and nothing at all where nothing may
pub known_crash : (s : State) (held : Meaning)
    → MayLeave (leaving_shown s) (meaning (tables_of s)) × (MayLeave (leaving_none s) held → ⊥)
known_crash s held = ((s.now.trees, refl, λ code. refl), λ left. left.1)

-- where nothing may be found the connection is safe, and where what is shown may, if that is well kept
pub known_safe : (s : State) → IsSafe (leaving_none s) × (IsKept s.now → IsSafe (leaving_shown s))
known_safe s = (λ trees left. absurd left, λ kept trees same. (s.now, kept, same))

-- the small file's laboratories are the keeper's, whichever connection shows it; the store may refuse
pub known_world : (s : State) → tables_of s ≡ file
    → ((world_of s).meaning (codes "aqua") ≡ Some aqua) × ((world_of s).meaning (codes "zinc") ≡ None)
    × (world_of s).may_refuse
known_world s shown = (
  subst (λ (t : Tables). meaning t (codes "aqua") ≡ Some aqua) (sym shown) refl,
  subst (λ (t : Tables). meaning t (codes "zinc") ≡ None) (sym shown) refl,
  tt,
)

-- a connection that a fault shut isn't live
pub known_shut : (s : State) → s.is_open ≡ false → (world_of s).is_live → ⊥
known_shut s shut live = true≢false (sym live ∙ shut)

-- the same rows may stand in another state: what a statement counted is none of them
pub known_rows : (s : State) → SameRows s (record s { changes = 7 })
known_rows s = refl
