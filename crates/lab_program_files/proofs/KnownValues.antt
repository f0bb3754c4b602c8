-- Values from outside, computed on the definitions: small instances of what a founding printed, of a tick that was drawn, of what a
-- close leaves, and of a history.
use Rattle.std.proofs.Common.{codes, lit<, refl, ap, ℕ, List, [], ◌∷◌, true≢false, Some, Ok, Err, inl, inr}
use Rattle.std.specs.Str.{bytes_eq}
use Rattle.sqlite_disk.specs.declared.Disk.{Ghosts as DiskOf}
use Rattle.sqlite_wal.proofs.LogLemmas.{SeenMayStay}
use Rattle.sqlite_wal.specs.Files.{seen_image}
use Rattle.sqlite_wal.specs.Reads.{AreClean}
use Rattle.sqlite_wal.specs.Recovery.{Image}
use Rattle.sqlite_store.specs.declared.store.FileStore.{FileStore}
use Rattle.sqlite.specs.Files.{file_state, over_files}
use Rattle.sqlite.specs.Held.{Held}
use Rattle.sqlite.specs.State.{HasCleanDisk}
use Rattle.lab_records_keeper.specs.Worlds.{Meaning}
use Rattle.lab_program_opening.specs.Ends.{IsLeftWhole}
use Rattle.lab_program_host.specs.declared.faults.ServerFault.TheVariants.{Write, Memory}
use Rattle.lab_program_host.specs.declared.faults.RehearsalFault.TheVariants.{Server}
use Rattle.lab_program_host.specs.Sources.{IsDrawn, drawing_of}
use Rattle.lab_program_files.specs.FileWorlds.{file_world}
use Rattle.lab_program_files.specs.Foundings.{Prints}
use Rattle.lab_program_files.specs.Histories.{Begins, Copied, IsHistory, Work}
use Rattle.lab_program_files.specs.Stops.{Lies}

-- the whole line, or a part where the output failed; where memory ran out, nothing
pub known_printed : Prints (codes "founded aqua\n") (Ok tt) (Some []) (Some (codes "founded aqua\n"))
    × Prints (codes "founded aqua\n") (Err (Server Write)) (Some []) (Some (codes "founded "))
    × Prints (codes "founded aqua\n") (Err (Server Memory)) (Some []) (Some [])
    × (Prints (codes "founded aqua\n") (Err (Server Memory)) (Some []) (Some (codes "founded ")) → ⊥)
known_printed = (
  refl,
  (8, lit< tt, refl),
  refl,
  λ same. true≢false (ap (λ (bytes : List ℕ). bytes_eq bytes (codes "founded ")) same),
)

-- the tick has the first moment and the first words that were given, and no later ones
pub known_drawn :
    IsDrawn (drawing_of (Some (7 ∷ 8 ∷ [])) (Some (8 ∷ [])) (Some ((1 ∷ []) ∷ [])) (Some []))
    (record { moment = 7; words = 1 ∷ [] })
known_drawn = ((8 ∷ [], refl, refl), ([], refl, refl))

-- where a close left both files whole on an honest disk, what reads there is such as may lie there,
-- and so is the database file without its log
pub known_closed : {D : Type 0} {g : DiskOf D} → SeenMayStay g → (last : Held (FileStore D g))
    (whole : IsLeftWhole last) → AreClean g whole.files.log whole.files.db →
    Lies last (seen_image g whole.files.log whole.files.db)
    × Lies last (record (seen_image g whole.files.log whole.files.db) { log = [] })
known_closed {g} stays last whole clean = (
  inr (
    (Ok tt, whole),
    (
      clean,
      (g.seen whole.files.log, (stays whole.files.log, stays whole.files.db), inl refl),
    ),
  ),
  inr (
    (Ok tt, whole),
    (
      clean,
      (g.seen whole.files.log, (stays whole.files.log, stays whole.files.db), inr refl),
    ),
  ),
)

-- a copy that left the connection as it was opened
abbrev copying : {D : Type 0} {g : DiskOf D} → Image → Held (FileStore D g) → Work D g
copying held opened = record { task = Copied; held = held; opened = opened; last = opened }

-- over a file with which a history begins, it is a history of one task
pub known_history : {D : Type 0} {g : DiskOf D} (held : Image) (opened : Held (FileStore D g))
    (first left : Meaning) → Begins first (copying held opened) → HasCleanDisk (file_state opened)
    → (file_world over_files opened).may_leave left → IsHistory first (copying held opened) [] left
known_history held opened first left begins clean may = record {
  begins = begins;
  done = record {
    does = λ within honest reached. record {
      same = λ honest reached live code. refl;
      rested = λ honest reached live. refl;
      quiet = λ honest reached live held left. left;
      safe = λ honest reached live safe. safe;
      reached = λ honest reached. reached;
      passes = record { honest = λ h. h; live = λ h l. l; refusing = λ m. m };
    };
    passes = record { honest = λ h. h; live = λ h l. l; refusing = λ m. m };
  };
  honest = clean;
  may = may;
}
