-- Values from outside, computed on the definitions: the lines that are told (docs/FORMATS.md), the numbers of faults
-- (docs/REFUSALS.md), and small instances of what a source gives.
use Rattle.std.proofs.Common.{◌≡◌, codes, refl, ap, ℕ, List, [], ◌∷◌, take, true≢false, Some, None, Ok, Err}
use Rattle.std.specs.Prelude.{◌==◌}
use Rattle.std.specs.Str.{bytes_eq}
use Rattle.lab_desk_foundings.specs.declared.run_faults.ServeFault.TheVariants.{Read as Unread, Interim, Reply}
use Rattle.lab_program_host.specs.declared.faults.ServerFault.TheVariants.{Read, Write, Memory}
use Rattle.lab_program_host.specs.declared.faults.ConnectionFault.TheVariants.{Serving, Memory as NoBuffer}
use Rattle.lab_program_host.specs.Faults.{server_fault_word, server_fault_number, connection_fault_word, connection_fault_number, fault_of_connection, told_line, PrintsFault}
use Rattle.lab_program_host.specs.Sources.{GivesInOrder}

-- ---- faults

pub known_told : (told_line (server_fault_word Read) ≡ codes "labdesk: read_fault\n")
    × (told_line (server_fault_word Write) ≡ codes "labdesk: write_fault\n")
    × (told_line (server_fault_word Memory) ≡ codes "labdesk: memory\n")
known_told = (refl, refl, refl)

-- memory alone has a number, that of docs/REFUSALS.md
pub known_numbers : (server_fault_number Read ≡ None) × (server_fault_number Write ≡ None)
    × (server_fault_number Memory ≡ Some 90)
known_numbers = (refl, refl, refl)

-- of a connection the reader's fault is one of reading, and that of either answer one of writing
pub known_connections : (fault_of_connection (Serving Unread) ≡ Read) × (fault_of_connection (Serving (Interim 3)) ≡ Write)
    × (fault_of_connection (Serving (Reply 0)) ≡ Write) × (fault_of_connection NoBuffer ≡ Memory)
known_connections = (refl, refl, refl, refl)

-- that fault is told by the same words, and want of memory alone has a number
pub known_connection_faults : (connection_fault_word (Serving Unread) ≡ codes "read_fault")
    × (connection_fault_word (Serving (Reply 0)) ≡ codes "write_fault")
    × (connection_fault_word NoBuffer ≡ codes "memory")
    × (connection_fault_number (Serving Unread) ≡ None) × (connection_fault_number NoBuffer ≡ Some 90)
known_connection_faults = (refl, refl, refl, refl, refl)

-- the status 0 tells nothing, the status 1 a fault; a fault with the status 0 there isn't
pub known_status : PrintsFault server_fault_word (Ok tt) (Ok 0) (Some []) (Some [])
    × PrintsFault server_fault_word (Err Write) (Ok 1) (Some []) (Some (codes "labdesk: write_fault\n"))
    × (PrintsFault server_fault_word (Err Write) (Ok 0) (Some []) (Some (codes "labdesk: write_fault\n")) → ⊥)
known_status = (
  (refl, refl),
  (refl, refl),
  λ told. true≢false (ap (λ (number : ℕ). number == 0) told.0),
)

-- ---- sources

-- what is given comes first and in order, and the rest is still to come
pub known_given : GivesInOrder {X = ℕ} (Some (3 ∷ 4 ∷ 5 ∷ [])) (Some (5 ∷ [])) (3 ∷ 4 ∷ [])
    × (GivesInOrder {X = ℕ} (Some (3 ∷ 4 ∷ [])) (Some []) (4 ∷ 3 ∷ []) → ⊥) × GivesInOrder {X = ℕ} None (Some (9 ∷ [])) (3 ∷ [])
known_given = (
  (5 ∷ [], refl, refl),
  λ given. true≢false (ap (λ (all : List ℕ). bytes_eq (take 1 all) (3 ∷ [])) given.1),
  tt,
)
