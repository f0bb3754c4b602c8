use Rattle.std.proofs.Common.{◌≡◌, ℕ, List, true, ◌&&◌, Result, Ok, Err, IfErr, IsErrAnd, IsUtf8, refl, sym, subst}
use Rattle.std.specs.Str.{is_utf8}
use Rattle.std.proofs.lemmas.Str.{is_utf8-from_IsUtf8}
use Rattle.lab_forms_texts.specs.declared.refusals.Fault.{Fault}
use Rattle.lab_forms_texts.specs.declared.refusals.Fault.TheVariants.{Memory}
use Rattle.lab_records_keeper.specs.declared.faults.BadStore.{BadStore}
use Rattle.lab_store_read.specs.Cells.{IsNotMade}
use Rattle.lab_store_read.proofs.Unread.{no_text}
use Rattle.lab_store_read_trail.proofs.cells.subject_by.Goals as goal

-- memory runs out for a text alone
for_text : {B : Type 0} (bytes : List ℕ) → IsUtf8 bytes → (end : Result B (Fault BadStore)) → IsErrAnd end (λ told. told ≡ Memory)
    → IfErr end (IsNotMade (is_utf8 bytes && true))
for_text bytes utf8 (Ok b) failed = tt
for_text bytes utf8 (Err told) failed = subst (IsNotMade (is_utf8 bytes && true)) (sym failed) (rw (is_utf8-from_IsUtf8 bytes utf8) refl)

pub returns-in_err-from_str-in-Ok-clause-fault : goal.returns-in_err-from_str-in-Ok-clause-fault
returns-in_err-from_str-in-Ok-clause-fault c = for_text c.args.text.now c.in-Ok.ensures.cases.1 c.from_residual.result c.from_residual.ensures.1

pub returns-in-Err-clause-fault : goal.returns-in-Err-clause-fault
returns-in-Err-clause-fault c = no_text c.args.text.now true c.in-Err.ensures.cases.0
