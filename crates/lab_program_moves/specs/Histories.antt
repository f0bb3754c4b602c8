-- A move as the first task of a history: what it made is opened, and nothing more is done over it.
use Rattle.sqlite_disk.specs.declared.Disk.{Ghosts as DiskOf}
use Rattle.sqlite_wal.specs.Recovery.{Image}
use Rattle.sqlite_store.specs.declared.store.FileStore.{FileStore}
use Rattle.sqlite.specs.Held.{Held}
use Rattle.lab_program_files.specs.Histories.{Moved, Work}

-- over the new file, which it filled and left so; what the file held before plays no part
abbrev pub moved_in : {D : Type 0} {g : DiskOf D} → Image → Held (FileStore D g) → Work D g
moved_in held made = record { task = Moved; held = held; opened = made; last = made }
