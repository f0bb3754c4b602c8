-- What a stop leaves to the next opening, also where the connection was closed.
use Rattle.std.proofs.Common.{ℕ, List, Result, Ok, Err, inl, inr, subst, sym}
use Rattle.std.proofs.Math.Logic.{∥∥₁_map}
use Rattle.sqlite_disk.specs.declared.Disk.{Ghosts as DiskOf}
use Rattle.sqlite_disk.specs.declared.Files.{Files}
use Rattle.sqlite_wal.proofs.LogLemmas.{SeenMayStay}
use Rattle.sqlite_wal.specs.Recovery.{Image}
use Rattle.sqlite_store.specs.declared.store.FileStore.{FileStore}
use Rattle.sqlite_store.specs.FileStore.{recovers, view}
use Rattle.sqlite_store.specs.Laws.{stays_at}
use Rattle.sqlite.specs.declared.error.Error.{Error}
use Rattle.sqlite.specs.Closing.{IsCopied}
use Rattle.sqlite.specs.Files.{HoldsDatabase, file_state}
use Rattle.sqlite.specs.Held.{Held, IsConnected}
use Rattle.sqlite.specs.Start.{FindsIn}
use Rattle.sqlite.specs.State.{HasCleanDisk, State}
use Rattle.sqlite.proofs.Theorems.{next_run}
use Rattle.lab_program_opening.specs.Ends.{Closes}
use Rattle.lab_program_files.specs.Stops.{LieWhole, Lies, LiesClosed}

-- two files that it left whole hold the last commit, with their log or without it
held_whole : {D : Type 0} {g : DiskOf D} (last : Held (FileStore D g)) (files : Files D)
    (held : Image) → IsCopied last files → LieWhole g files held →
    ∥ HoldsDatabase held (view last.store).committed ∥₁
held_whole last files held copied lie =
    let holds = copied.left (record held { log = lie.0 }) lie.1 in
    elim lie.2 [
      | inl same ↦ subst (λ (log : List ℕ). ∥ HoldsDatabase (record held { log = log })
          (view last.store).committed ∥₁) (sym same) holds.both
      | inr none ↦ subst (λ (log : List ℕ). ∥ HoldsDatabase (record held { log = log })
          (view last.store).committed ∥₁) (sym none) holds.alone
    ]

-- what it leaves is what a crash could leave before
closed_left : {D : Type 0} {g : DiskOf D} (stays : SeenMayStay g) (last : Held (FileStore D g))
    (closing : Result (Unit {0}) Error) (closes : Closes last closing) (held : Image) →
    LiesClosed last closing closes held → (was : State) → FindsIn held was →
    ∥ (file_state last).may_leave was.committed.trees ∥₁
closed_left stays last (Ok done) whole held lies was found =
    let copied = whole.copied lies.0 in
    ∥∥₁_map (held_whole last whole.files held copied lies.1)
    (λ holds. subst (recovers last.store) (sym (found.holds (view last.store).committed holds))
    (stays_at last.store stays copied.was_open))
closed_left stays last (Err fault) both held lies was found =
    ∥∥₁_map (next_run both.left lies.1 (both.closed.sound lies.0) held lies.2 was found)
    (λ left. both.closed.quiet.outcomes was.committed.trees left)

-- and so does any stop
pub stop_left : {D : Type 0} {g : DiskOf D} (stays : SeenMayStay g) (last : Held (FileStore D g)) →
    IsConnected (view last.store) (recovers last.store) last.schema last.saved
    last.in_transaction → HasCleanDisk (file_state last) → (held : Image) → Lies last held →
    (was : State) → FindsIn held was → ∥ (file_state last).may_leave was.committed.trees ∥₁
stop_left stays last connected clean held (inl crash) was found =
    next_run last.store (connected.numbered clean) (connected.found clean) held crash was found
stop_left stays last connected clean held (inr shut) was found =
    closed_left stays last shut.0.0 shut.0.1 held shut.1 was found
