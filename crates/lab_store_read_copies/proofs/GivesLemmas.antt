-- Rows of a copy that went out of the tables, carried from one call to the next.
use Rattle.std.proofs.Common.{◌≡◌, ℕ, List, Option, Ok, Err, Result, IsTrue, sym, subst}
use Rattle.std.specs.Prelude.{IsErrAnd, OnOk}
use Rattle.sqlite.specs.State.{State, HasCleanDisk, IsUnchanged}
use Rattle.lab_forms_texts.specs.declared.refusals.Fault.{Fault}
use Rattle.lab_records_keeper.specs.declared.faults.BadStore.{BadStore}
use Rattle.lab_copy_rows.specs.declared.outs.CopyOut.{CopyOut}
use Rattle.lab_copy_rows.proofs.SendLemmas.{none_went}
use Rattle.lab_records_copy_out.specs.Faults.{CopyFaultFits, keeper_told}
use Rattle.lab_records_copy_out.specs.declared.faults.CopyOutFault.{CopyOutFault}
use Rattle.lab_records_copy_out.specs.declared.faults.CopyOutFault.TheVariants.{NoSuchLab, Storage, Memory, Write}
use Rattle.lab_store_tables.specs.Rows.{Tables}
use Rattle.lab_store_tables.specs.Ready.{IsReady, PassesBy, tables_of}
use Rattle.lab_store_read.specs.Causes.{HasItsCause}
use Rattle.lab_store_read.proofs.Readers.{passes_on}
use Rattle.lab_store_read_copies.specs.Causes.{CopyHasItsCause}
use Rattle.lab_store_read_copies.specs.Gives.{GivesRows}
use Rattle.lab_store_read_copies.proofs.CauseLemmas.{blamed_too, none_blamed, then_told, told_so}
use Rattle.lab_store_read_copies.proofs.FoundLemmas.{same_through}
use Rattle.lab_store_read_copies.proofs.RowLemmas.{given_as, sends_as}

-- what holds holds after any answer
pub on_any : {T P : Type 0} (result : Result T CopyOutFault) → P → OnOk result P
on_any (Ok done) it = it
on_any (Err fault) it = tt

-- ---- the same with another answer

module _ {A T : Type 0} {Opened : Type 0} {Given : Tables → Type 0}
    {rows : Tables → List (List (List ℕ))} {Readable : Tables → Type 0} {old new : State}
    {before after : Option (List ℕ)} {start out : CopyOut} where
  pub ok_given : {a : A} (b : T) →
      GivesRows Opened Given rows Readable old new before after start out (Ok a) →
      GivesRows Opened Given rows Readable old new before after start out (Ok b)
  ok_given b it = record {
    passes = it.passes;
    same = it.same;
    text = it.text;
    counts = it.counts;
    fault = tt;
    cause = none_blamed it.cause.limit;
  }

  pub err_given : {fault : CopyOutFault} →
      GivesRows {T = A} Opened Given rows Readable old new before after start out (Err fault) →
      GivesRows {T = T} Opened Given rows Readable old new before after start out (Err fault)
  err_given it = record {
    passes = it.passes;
    same = λ clean opened. tt;
    text = it.text;
    counts = λ ready clean opened given. tt;
    fault = it.fault;
    cause = blamed_too it.cause (λ has. has);
  }

  -- a fault that the end passes on
  pub fault_given : {fault : CopyOutFault} (end : Result T CopyOutFault) →
      IsErrAnd end (λ told. told ≡ fault) →
      GivesRows {T = A} Opened Given rows Readable old new before after start out (Err fault) →
      GivesRows Opened Given rows Readable old new before after start out end
  fault_given (Ok done) failed it = absurd failed
  fault_given (Err told) failed it =
      subst (λ (one : CopyOutFault).
      GivesRows {T = T} Opened Given rows Readable old new before after start out (Err one))
      (sym failed) (err_given it)

-- ---- a fault of a call that doesn't read the tables

pub never_unread : (fault : CopyOutFault) → CopyFaultFits ⊥ ⊥ (Unit {0}) fault →
    CopyFaultFits ⊥ (Unit {0}) (Unit {0}) fault
never_unread NoSuchLab fits = fits
never_unread Storage fits = tt
never_unread Memory fits = tt
never_unread Write fits = tt

pub never_blamed : {T : Type 0} {Then : Tables → Type 0} {old new : State} →
    new.step_limit ≡ old.step_limit → (fault : CopyOutFault) → CopyFaultFits ⊥ ⊥ (Unit {0}) fault →
    CopyHasItsCause {T = T} Then old new (Err fault)
never_blamed limit fault fits = record {
  limit = limit;
  cause = λ ready clean readable is. absurd (subst (CopyFaultFits ⊥ ⊥ (Unit {0})) is fits);
}

-- ---- nothing went out

fits_all : (fault : CopyOutFault) → CopyFaultFits ⊥ (Unit {0}) ⊥ fault →
    CopyFaultFits ⊥ (Unit {0}) (Unit {0}) fault
fits_all NoSuchLab fits = fits
fits_all Storage fits = tt
fits_all Memory fits = tt
fits_all Write fits = tt

-- what is wanted of the tables wasn't read
pub none_read : {A T Opened : Type 0} {Given : Tables → Type 0}
    {rows : Tables → List (List (List ℕ))} {Was Then : Tables → Type 0} {old new : State}
    {fault : Fault BadStore} {one : CopyOutFault} {sent : Option (List ℕ)} {out : CopyOut} →
    PassesBy old new → one ≡ keeper_told fault → CopyFaultFits ⊥ (Unit {0}) ⊥ one →
    HasItsCause {T = A} Was old new (Err fault) → (Then (tables_of old) → Was (tables_of old)) →
    GivesRows {T = T} Opened Given rows Then old new sent sent out out (Err one)
none_read {one = one} {sent = sent} passes is fits it f = record {
  passes = passes;
  same = λ clean opened. tt;
  text = λ ready clean opened given. none_went sent _;
  counts = λ ready clean opened given. tt;
  fault = fits_all one fits;
  cause = told_so is it f;
}

-- ---- after a call that read

-- the rows that go out after it are those that are wanted, by the tables as they were before it
pub then_given : {T Opened There : Type 0} {Given Here : Tables → Type 0}
    {rows wanted : Tables → List (List (List ℕ))} {Readable Left : Tables → Type 0}
    {old mid new : State} {before after : Option (List ℕ)} {start out : CopyOut}
    {result : Result T CopyOutFault} → PassesBy old mid →
    (HasCleanDisk mid → IsTrue old.is_open → IsUnchanged old mid) →
    mid.step_limit ≡ old.step_limit → (HasCleanDisk mid → Opened → There) →
    (IsReady old → HasCleanDisk mid → Given (tables_of old) →
    Here (tables_of mid) × (rows (tables_of mid) ≡ wanted (tables_of old))) →
    (IsReady old → HasCleanDisk mid → Readable (tables_of old) → Left (tables_of old)) →
    GivesRows There Here rows Left mid new before after start out result →
    GivesRows Opened Given wanted Readable old new before after start out result
then_given {old = old} {mid} {new} {before} {after} {start} {out} {result} first same limit there
    here left it = record {
      passes = passes_on old mid new first it.passes same;
      same = λ clean opened. same_through old mid new result first it.passes same clean
          (it.same clean (there (it.passes.clean clean) opened));
      text = λ ready clean opened given.
          let was = it.passes.clean clean in
          let now = here ready was given in
          sends_as before after _ _ result now.1
          (it.text (first.ready ready) clean (there was opened) now.0);
      counts = λ ready clean opened given.
          let was = it.passes.clean clean in
          let now = here ready was given in
          given_as start out _ _ result now.1
          (it.counts (first.ready ready) clean (there was opened) now.0);
      fault = it.fault;
      cause = then_told old mid new first same limit it.passes it.cause left;
    }
