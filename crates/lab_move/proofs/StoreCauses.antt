-- Why a move tells of the store: the old file wasn't asked, the tables weren't made, or the new file was being filled.
use Rattle.std.proofs.Common.{◌≡◌, ℕ, List, inl, inr, [], false, Ok, Err, Result, IfErr, IsFalse, sym, ap, subst, ◌∙◌}
use Rattle.std.proofs.lemmas.Bool.{cases_Bool}
use Rattle.sqlite_trees.specs.declared.store.Store.{Ghosts}
use Rattle.sqlite_trees.specs.declared.error.StoreError.{StoreError}
use Rattle.sqlite_trees.specs.declared.error.StoreError.TheVariants.{OutOfMemory, Io, Corrupt, Full, Broken, Unstorable}
use Rattle.sqlite.specs.declared.error.Error.{Error}
use Rattle.sqlite.specs.Effect.{Database}
use Rattle.sqlite.specs.Held.{Held, state}
use Rattle.sqlite.specs.State.{State, FailsToQuery, HasCause, HasCleanDisk, IsNotRun, store_error}
use Rattle.lab_forms_texts.specs.declared.refusals.Fault.{Fault}
use Rattle.lab_records_keeper.specs.declared.faults.BadStore.{BadStore}
use Rattle.lab_store_read.specs.Causes.{IsCaused}
use Rattle.lab_store_read.specs.Faults.{is_out_of_memory, store_fault}
use Rattle.lab_store_read.specs.Reads.{FailsToAsk}
use Rattle.lab_store_files.specs.declared.faults.FileFault.{FileFault}
use Rattle.lab_store_files.specs.declared.faults.FileFault.TheVariants.{Storage, Memory}
use Rattle.lab_store_files.specs.Schemas.{is_taken}
use Rattle.lab_move_tables.specs.declared.older.Older.{Older}
use Rattle.lab_move_write.specs.Causes.{AreUnmade}
use Rattle.lab_move_write.specs.Commits.{MakesAtOnce}
use Rattle.lab_move_write.specs.Unfinished.{Begins, IsBeingFilled}
use Rattle.lab_move.specs.declared.faults.MoveFault.{MoveFault}
use Rattle.lab_move.specs.declared.faults.MoveFault.TheVariants.{File}
use Rattle.lab_move.specs.Causes.{IsFillingRefused, IsMoveCaused, IsUnanswered, StopsAtEnd, StopsAtLab}
use Rattle.lab_move.specs.Faults.{read_told}
use Rattle.lab_move.specs.Private.Moving.{FillsAll}
use Rattle.lab_move.specs.Moving.{IsBegun}
use Rattle.lab_move.specs.OldFiles.{Names}
use Rattle.lab_move.proofs.CountedFiles.{begun_open}

-- ---- a question

-- it isn't told as the store's for want of memory
isnt_memory : (e : Error) (fault : Fault BadStore) → fault ≡ store_fault e → read_told fault ≡ Storage → IsFalse (is_out_of_memory e)
isnt_memory e fault is told = elim (cases_Bool (is_out_of_memory e)) [
  | inl memory ↦ absurd (let one = is in let wrong = rw memory at one in let other = ap read_told wrong in let both : Memory ≡ Storage = sym other ∙ told in cc)
  | inr other ↦ other
]

failed_so : (old new : State) (e : Error) → IsFalse (is_out_of_memory e) → (cause : StoreError) → e ≡ store_error cause → HasCause old new ⊥ cause → IsCaused old new
failed_so old new e told OutOfMemory is _ = absurd (let wrong = rw is at told in cc)
failed_so old new e told Io is fault = inl fault
failed_so old new e told Corrupt is fault = inl fault
failed_so old new e told Full is fault = inl fault
failed_so old new e told Broken is shut = inr (inl shut)
failed_so old new e told Unstorable is big = absurd big

unanswered_by : (text : List ℕ) (old new : State) (e : Error) → IsFalse (is_out_of_memory e) → FailsToQuery text [] old new e → IsUnanswered text old new
unfolding FailsToQuery IsNotRun
unanswered_by text old new e told (inl (inl it)) = inr (record { error = e; told = told; refused = inl it.0 })
unanswered_by text old new e told (inl (inr it)) = inl (failed_so old new e told it.0 it.1 it.2)
unanswered_by text old new e told (inr it) = inr (record { error = e; told = told; refused = inr it })

pub unanswered_so : (text : List ℕ) (old new : State) (fault : Fault BadStore) (answer : FileFault) → answer ≡ read_told fault → FailsToAsk text [] old new fault → answer ≡ Storage → IsUnanswered text old new
unanswered_so text old new fault answer is fails told = unanswered_by text old new fails.0 (isnt_memory fails.0 fault fails.2 (sym is ∙ told)) fails.1

-- ---- a move

-- that was stopped before anything was made
pub never_begun : {D S : Type 0} (seen : D → State) (g : Ghosts S) (before after : D) (fresh new : Held S) (fault : FileFault) → (fault ≡ Storage → AreUnmade g fresh new)
    → File fault ≡ File Storage → IsMoveCaused seen g before after fresh new
never_begun seen g before after fresh new fault why told = inl (why (let same : fault ≡ Storage = cc in same))

-- what is seen of a part is seen of the whole
module _ {C D S : Type 0} (of : C → D) (seen : D → State) (g : Ghosts S) (older : Older) where
  lab_of : (codes : List (List ℕ)) (before after : C) (fresh new : Held S) → StopsAtLab (λ (file : C). seen (of file)) g older codes before after fresh new
      → StopsAtLab seen g older codes (of before) (of after) fresh new
  lab_of codes before after fresh new it =
      record { done = it.done; code = it.code; rest = it.rest; split = it.split; now = of it.now; last = it.last; placed = it.placed; passes = it.passes; clean = it.clean; left = it.left; why = it.why }

  end_of : (codes : List (List ℕ)) (before after : C) (fresh new : Held S) → StopsAtEnd (λ (file : C). seen (of file)) g older codes before after fresh new
      → StopsAtEnd seen g older codes (of before) (of after) fresh new
  end_of codes before after fresh new it = record { now = of it.now; last = it.last; placed = it.placed; passes = it.passes; clean = it.clean; left = it.left; why = it.why }

  filling_of : (before after : C) (fresh new : Held S) → IsFillingRefused (λ (file : C). seen (of file)) g older before after fresh new
      → IsFillingRefused seen g older (of before) (of after) fresh new
  filling_of before after fresh new (inl unread) = inl unread
  filling_of before after fresh new (inr it) = inr (
    it.0,
    of it.1,
    it.2,
    elim it.3 [
      | inl lab ↦ inl (lab_of it.0 it.1 after fresh new lab)
      | inr end ↦ inr (end_of it.0 it.1 after fresh new end)
    ],
  )

-- that was under way
module _ {C D S B : Type 0} (before after : C) (of : C → D) (seen : D → State) (g : Ghosts S) {Made : Database → Type 0} (fresh mid new : Held S) (older : Older)
    (p : MakesAtOnce (Begins (state g fresh).now) {A = Unit {0}} {E = FileFault} (Ok tt) (state g fresh) (state g mid)) (named : Names older (seen (of before)).now)
    (free : is_taken (state g fresh).now.schema ≡ false) (late : HasCleanDisk (state g new)) where
  pub under_way : (r : Result B MoveFault) → FillsAll Made r (state g mid) (state g new)
      → (IsBegun (state g mid).now → IfErr r (λ fault. fault ≡ File Storage → IsFillingRefused (λ (file : C). seen (of file)) g older before after mid new))
      → IfErr r (λ fault. fault ≡ File Storage → IsMoveCaused seen g (of before) (of after) fresh new)
  under_way (Ok b) q why = tt
  under_way (Err fault) q why = λ told. inr (record {
    older = older;
    named = named;
    free = free;
    filling = λ blank clean opened.
        let begun = (begun_open blank p (q.clean clean)).1 in
        elim (q.rows clean opened) [ inl same ↦ subst IsBeingFilled (sym same) begun.filling | inr filling ↦ filling begun ];
    begun = mid;
    made = p;
    why = λ blank. filling_of of seen g older before after mid new (why (begun_open blank p (q.clean late)).1 told);
  })
