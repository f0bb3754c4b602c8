-- What the definitions come to: numbers and words as docs/REFUSALS.md has them, and none where no reply can tell.
use Rattle.std.proofs.Common.{◌≡◌, ℕ, Some, codes, refl}
use Rattle.lab_desk_foundings.specs.declared.run_faults.RunFault.TheVariants.{Memory}
use Rattle.lab_desk_foundings.specs.declared.run_faults.ServeFault.TheVariants.{Read, Interim, Reply}
use Rattle.lab_desk_foundings.specs.RunFaults.{run_fault_number, run_fault_word, serve_fault_word}

known_number : run_fault_number Memory ≡ Some 90
known_number = refl

known_word : run_fault_word Memory ≡ codes "memory"
known_word = refl

known_read : serve_fault_word Read ≡ codes "read_fault"
known_read = refl

known_interim : (sent : ℕ) → serve_fault_word (Interim sent) ≡ codes "write_fault"
known_interim sent = refl

known_reply : (sent : ℕ) → serve_fault_word (Reply sent) ≡ codes "write_fault"
known_reply sent = refl
