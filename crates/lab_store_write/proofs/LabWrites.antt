-- What each statement on the row of a laboratory means, and what it makes of the tables.
use Rattle.std.proofs.Common.{ℕ, ℤ, List, [], ◌∷◌, codes, Ok, refl, lit≤}
use Rattle.sqlite_value.specs.declared.value.Value.TheVariants.{Int}
use Rattle.sqlite_tied.specs.Compute.{everything}
use Rattle.sqlite.specs.Listing.{understood}
use Rattle.sqlite.specs.State.{State, Executes}
use Rattle.lab_store_tables.specs.Rows.{LabRow, tables_in, number}
use Rattle.lab_store_tables.specs.Changes.{in_lab}
use Rattle.lab_store_tables.specs.Held.{IsTyped}
use Rattle.lab_store_tables.specs.Family.{Labs}
use Rattle.lab_store_write.specs.Causes.{is_writing, IsOurs}
use Rattle.lab_store_write.proofs.Updates.{IsUpdate, given, by_id, sets}
use Rattle.lab_store_write.proofs.Inside.{Wrote}
use Rattle.lab_store_write.proofs.Ours.{ours}
pub use Rattle.lab_store_write.specs.Statements.{last_text, strays_text, sessions_text, trail_text, row_text}

-- ---- the last moment

last_is : IsUpdate Labs by_id (given 1 (codes "last" ∷ [])) last_text
unfolding understood everything
last_is = ((refl, refl), refl)

pub last_ours : (id : ℤ) (count : ℕ) → IsOurs is_writing last_text (Int id ∷ number count ∷ [])
unfolding understood everything
last_ours id count = ours _ _ (lit≤ tt, refl, refl, refl, refl) refl

pub sets_last : (id : ℤ) (count : ℕ) (old new : State) (rows : ℕ) → IsTyped old.now → Executes last_text (Int id ∷ number count ∷ []) old new (Ok rows)
    → Wrote (in_lab id (λ (one : LabRow). record one { last = count }) (tables_in old.now.trees)) new.now
sets_last id count = sets Labs (given 1 (codes "last" ∷ [])) last_text last_is id (number count ∷ []) (λ (one : LabRow). record one { last = count }) (λ _. refl) (λ _. refl)

-- ---- the number of stray passwords

strays_is : IsUpdate Labs by_id (given 1 (codes "stray" ∷ [])) strays_text
unfolding understood everything
strays_is = ((refl, refl), refl)

pub strays_ours : (id : ℤ) (count : ℕ) → IsOurs is_writing strays_text (Int id ∷ number count ∷ [])
unfolding understood everything
strays_ours id count = ours _ _ (lit≤ tt, refl, refl, refl, refl) refl

pub sets_strays : (id : ℤ) (count : ℕ) (old new : State) (rows : ℕ) → IsTyped old.now → Executes strays_text (Int id ∷ number count ∷ []) old new (Ok rows)
    → Wrote (in_lab id (λ (one : LabRow). record one { stray = count }) (tables_in old.now.trees)) new.now
sets_strays id count = sets Labs (given 1 (codes "stray" ∷ [])) strays_text strays_is id (number count ∷ []) (λ (one : LabRow). record one { stray = count }) (λ _. refl) (λ _. refl)

-- ---- the counter of records

abbrev pub records_text : List ℕ
records_text = codes "UPDATE labs SET records = ?2 WHERE id = ?1"

records_is : IsUpdate Labs by_id (given 1 (codes "records" ∷ [])) records_text
unfolding understood everything
records_is = ((refl, refl), refl)

pub records_ours : (id : ℤ) (count : ℕ) → IsOurs is_writing records_text (Int id ∷ number count ∷ [])
unfolding understood everything
records_ours id count = ours _ _ (lit≤ tt, refl, refl, refl, refl) refl

pub sets_records : (id : ℤ) (count : ℕ) (old new : State) (rows : ℕ) → IsTyped old.now → Executes records_text (Int id ∷ number count ∷ []) old new (Ok rows)
    → Wrote (in_lab id (λ (one : LabRow). record one { records = count }) (tables_in old.now.trees)) new.now
sets_records id count = sets Labs (given 1 (codes "records" ∷ [])) records_text records_is id (number count ∷ []) (λ (one : LabRow). record one { records = count }) (λ _. refl) (λ _. refl)

-- ---- the counter of sessions

sessions_is : IsUpdate Labs by_id (given 1 (codes "sessions" ∷ [])) sessions_text
unfolding understood everything
sessions_is = ((refl, refl), refl)

pub sessions_ours : (id : ℤ) (count : ℕ) → IsOurs is_writing sessions_text (Int id ∷ number count ∷ [])
unfolding understood everything
sessions_ours id count = ours _ _ (lit≤ tt, refl, refl, refl, refl) refl

pub sets_sessions : (id : ℤ) (count : ℕ) (old new : State) (rows : ℕ) → IsTyped old.now → Executes sessions_text (Int id ∷ number count ∷ []) old new (Ok rows)
    → Wrote (in_lab id (λ (one : LabRow). record one { sessions = count }) (tables_in old.now.trees)) new.now
sets_sessions id count = sets Labs (given 1 (codes "sessions" ∷ [])) sessions_text sessions_is id (number count ∷ []) (λ (one : LabRow). record one { sessions = count }) (λ _. refl) (λ _. refl)

-- ---- the counter of the trail

trail_is : IsUpdate Labs by_id (given 1 (codes "trail" ∷ [])) trail_text
unfolding understood everything
trail_is = ((refl, refl), refl)

pub trail_ours : (id : ℤ) (count : ℕ) → IsOurs is_writing trail_text (Int id ∷ number count ∷ [])
unfolding understood everything
trail_ours id count = ours _ _ (lit≤ tt, refl, refl, refl, refl) refl

pub sets_trail : (id : ℤ) (count : ℕ) (old new : State) (rows : ℕ) → IsTyped old.now → Executes trail_text (Int id ∷ number count ∷ []) old new (Ok rows)
    → Wrote (in_lab id (λ (one : LabRow). record one { trail = count }) (tables_in old.now.trees)) new.now
sets_trail id count = sets Labs (given 1 (codes "trail" ∷ [])) trail_text trail_is id (number count ∷ []) (λ (one : LabRow). record one { trail = count }) (λ _. refl) (λ _. refl)

-- ---- the last moment with the counter of the trail

row_is : IsUpdate Labs by_id (given 1 (codes "last" ∷ codes "trail" ∷ [])) row_text
unfolding understood everything
row_is = ((refl, refl), refl)

pub row_ours : (id : ℤ) (moment count : ℕ) → IsOurs is_writing row_text (Int id ∷ number moment ∷ number count ∷ [])
unfolding understood everything
row_ours id moment count = ours _ _ (lit≤ tt, refl, refl, refl, refl) refl

pub sets_row : (id : ℤ) (moment count : ℕ) (old new : State) (rows : ℕ) → IsTyped old.now → Executes row_text (Int id ∷ number moment ∷ number count ∷ []) old new (Ok rows)
    → Wrote (in_lab id (λ (one : LabRow). record one { last = moment; trail = count }) (tables_in old.now.trees)) new.now
sets_row id moment count = sets Labs (given 1 (codes "last" ∷ codes "trail" ∷ [])) row_text row_is id (number moment ∷ number count ∷ []) (λ (one : LabRow). record one { last = moment; trail = count }) (λ _. refl) (λ _. refl)
