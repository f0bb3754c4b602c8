-- Statements that are ours, and some that are none: texts that our schema doesn't understand or that end the transaction, one that
-- reads the list of tables, one that shows what it writes, and one that gets too few parameters. One that reads isn't one that writes.
use Rattle.std.proofs.Common.{◌≡◌, ℕ, ℤ, Bool, true, List, [], ◌∷◌, codes, length, Ok, Err, sym, ap, ◌∙◌, arith}
use Rattle.std.specs.Prelude.{Option, None}
use Rattle.sqlite_value.specs.declared.value.Value.TheVariants.{Int, Text}
use Rattle.sqlite_value.specs.Order.{Row}
use Rattle.sqlite_schema.specs.declared.command.Command.{Command}
use Rattle.sqlite_schema.specs.declared.command.Returning.{Returning}
use Rattle.sqlite_resolve.specs.declared.compiled.Compiled.{Compiled}
use Rattle.sqlite_resolve.specs.Lowering.{Checked}
use Rattle.sqlite_tied.specs.Compute.{everything}
use Rattle.sqlite.specs.Listing.{understood}
use Rattle.sqlite.proofs.Callers.{command_of}
use Rattle.lab_store_tables.specs.Schema.{lab_schema}
use Rattle.lab_store_tables.specs.Rows.{number}
use Rattle.lab_store_write.specs.Causes.{is_reading, is_writing, IsOurs}
use Rattle.lab_store_write.proofs.KeyLemmas.{person_text, person_ours}
use Rattle.lab_store_write.proofs.LabWrites.{last_text, last_ours}

pub known_ours : (id : ℤ) → IsOurs is_writing last_text (Int id ∷ number 1600 ∷ [])
known_ours id = last_ours id 1600

pub known_reading : (lab : ℤ) (code : List ℕ) → IsOurs is_reading person_text (Int lab ∷ Text code ∷ [])
known_reading = person_ours

-- ---- none of ours

does : (is_so : Command → Bool) (sql : List ℕ) (params : Row) → IsOurs is_so sql params → is_so (command_of (understood lab_schema sql)) ≡ true
does is_so sql params it = ap (λ (r : Checked Compiled). is_so (command_of r)) it.is ∙ it.does

abbrev wanted : Checked Compiled → ℕ
wanted (Ok c) = length c.names
wanted (Err e) = 0

abbrev shown : Checked Compiled → Option Returning
shown (Ok c) = c.returning
shown (Err e) = None

apart : ◌≡◌ {A = ℕ} 1 2 → ⊥
apart same = omega (arith, same)

-- laboratories have no such column
pub known_misspelled : (params : Row) → ¬ IsOurs is_writing (codes "UPDATE labs SET moment = ?2 WHERE id = ?1") params
unfolding understood everything
known_misspelled params it = let wrong = does is_writing _ params it in absurd cc

pub known_ending : (params : Row) → ¬ IsOurs is_writing (codes "COMMIT") params
unfolding understood everything
known_ending params it = let wrong = does is_writing _ params it in absurd cc

-- one that reads isn't executed
pub known_asked : (params : Row) → ¬ IsOurs is_writing person_text params
unfolding understood everything
known_asked params it = let wrong = does is_writing person_text params it in absurd cc

-- nor does one show what it writes
pub known_showing : (params : Row) → ¬ IsOurs is_writing (codes "UPDATE labs SET strays = ?2 WHERE id = ?1 RETURNING id") params
unfolding understood everything
known_showing params it = let wrong = ap shown it.is ∙ it.silent in absurd cc

pub known_listing : (params : Row) → ¬ IsOurs is_reading (codes "SELECT name FROM sqlite_schema") params
unfolding understood everything
known_listing params it = let wrong = it.own in absurd cc

pub known_few : (id : ℤ) → ¬ IsOurs is_writing last_text (Int id ∷ [])
unfolding understood everything
known_few id it = apart (it.given ∙ sym (ap wanted it.is))
