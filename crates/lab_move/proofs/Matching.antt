-- Two files whose numbers of rows weren't found equal: which of them gave no answer, or that they differ.
use Rattle.std.proofs.Common.{◌≡◌, ◌≢◌, ◌⊎◌, inl, inr, ◌<◌, zero, suc, ℕ, ℤ, pos, min, Bool, true, false, List, [], ◌∷◌, length, map, None, Option, Some, Ok, Err, Result, IfOk, IfErr, IsTrue, IsFalse, refl, sym, ap, subst, ◌∙◌, arith}
use Rattle.std.specs.Prelude.{Vec, slice_get, option_and_then, OnErr}
use Rattle.std.specs.Option.{option_map_or}
use Rattle.std.specs.declared.alloc.Global.{Global}
use Rattle.sqlite_trees.specs.declared.store.Store.{Ghosts}
use Rattle.sqlite_value.specs.declared.value.Value.TheVariants.{Int}
use Rattle.sqlite_value.specs.Order.{Row}
use Rattle.sqlite.specs.Effect.{Database}
use Rattle.sqlite.specs.Held.{Held, state}
use Rattle.sqlite.specs.State.{State, HasCleanDisk, Shown}
use Rattle.lab_forms_texts.specs.declared.refusals.Fault.{Fault}
use Rattle.lab_records_keeper.specs.declared.faults.BadStore.{BadStore}
use Rattle.lab_store_tables.specs.Rows.{Tables}
use Rattle.lab_store_tables.specs.Ready.{tables_of}
use Rattle.lab_store_read.specs.Causes.{IsCaused}
use Rattle.lab_store_read.specs.Cells.{is_id, stands, storage, IsNotRead}
use Rattle.lab_store_read.specs.Reads.{AsksQuery, FailsToAsk}
use Rattle.lab_store_read.proofs.Queries.{same}
use Rattle.lab_store_files.specs.declared.faults.FileFault.TheVariants.{Storage}
use Rattle.lab_store_write.specs.Transactions.{HasOurTables}
use Rattle.lab_move_tables.specs.Reading.{ReadsAs, ReadsOld}
use Rattle.lab_move_tables.proofs.OldReaders.{may_and}
use Rattle.lab_move_tables.proofs.Wheres.{query_so}
use Rattle.lab_move_write.specs.Causes.{IsNamingRefused, NamingEndsForCause}
use Rattle.lab_move.specs.declared.faults.MoveFault.{MoveFault}
use Rattle.lab_move.specs.declared.faults.MoveFault.TheVariants.{File}
use Rattle.lab_move.specs.Causes.{CountsDiffer, FailsToMatch, IsMoveUnfinished, IsUnanswered}
use Rattle.lab_move.specs.Counting.{AreAlike, AreCounts, cell, counted_tables, counts_row, counts_text}
use Rattle.lab_move.specs.Private.Counting.{LacksNumber, ShowsNumber}
use Rattle.lab_move.specs.Faults.{read_told}
use Rattle.lab_move.proofs.Counts.{counts_known, counts_read, counts_taken}
use Rattle.lab_move.proofs.StoreCauses.{unanswered_so}

-- ---- numbers

pub no_row : (rows : List Row) (at : ℕ) → slice_get rows 0 ≡ None → ¬ ShowsNumber rows at
no_row rows at none here = absurd (let wrong = ap (option_and_then (λ (row : Row). slice_get row at)) none in let both = sym wrong ∙ here.1 in cc)

no_number : (rows : List Row) (row : Row) (at : ℕ) → slice_get rows 0 ≡ Some row → IsFalse (stands is_id row at) → ¬ ShowsNumber rows at
no_number rows row at first none here =
    let there : slice_get row at ≡ Some (Int here.0) = sym (ap (option_and_then (λ (row : Row). slice_get row at)) first) ∙ here.1 in
    absurd (let yes : stands is_id row at ≡ true = ap (λ one. option_map_or is_id one false) there in cc)

pub not_shown : (rows : List Row) (row : Row) (at : ℕ) → slice_get rows 0 ≡ Some row → (r : Result ℤ (Fault BadStore)) → IfErr r (IsNotRead (stands is_id row at)) → IfErr r (λ _. ¬ ShowsNumber rows at)
not_shown rows row at first (Ok many) h = tt
not_shown rows row at first (Err fault) h = no_number rows row at first h.0

mapped : (numbers : List ℤ) (at : ℕ) → at < length numbers → (many : ℤ) × (slice_get (map Int numbers) at ≡ Some (Int many))
mapped [] at within = absurd (omega (arith, within))
mapped (many ∷ numbers) zero within = (many, refl)
mapped (many ∷ numbers) (suc at) within = mapped numbers at (omega (arith, within))

abbrev shown_number : ℕ → ℤ
shown_number many = pos (min 9223372036854775807 many)

counted : (t : Tables) (at : ℕ) → at < counted_tables → ShowsNumber (counts_row t ∷ []) at
counted t at within =
    mapped
    (shown_number (length t.labs)
    ∷ shown_number (length t.persons)
    ∷ shown_number (length t.sessions)
    ∷ shown_number (length t.forms)
    ∷ shown_number (length t.fields)
    ∷ shown_number (length t.choices)
    ∷ shown_number (length t.records)
    ∷ shown_number (length t.versions)
    ∷ shown_number (length t.entries)
    ∷ shown_number (length t.signatures)
    ∷ shown_number (length t.trail)
    ∷ [])
    at within

-- ---- what both show

pub differ_at : (rows others : List Row) (at : ℕ) (one other : ℤ) → at < counted_tables → cell rows at ≡ Some (Int one) → cell others at ≡ Some (Int other) → one ≢ other → ¬ AreAlike rows others
differ_at rows others at one other within here there differ alike =
    absurd (differ (let both : Some (Int one) ≡ Some (Int other) = sym here ∙ alike at within ∙ there in cc))

-- what a file of ours shows has a number at each place
lacks : (rows others : List Row) (t : Tables) → others ≡ counts_row t ∷ [] → LacksNumber rows ⊎ LacksNumber others → ¬ AreCounts rows t
lacks rows others t are (inl (at, within, none)) counts = absurd (none (let here = counted t at within in (here.0, counts at within ∙ here.1)))
lacks rows others t are (inr (at, within, none)) counts = absurd (none (subst (λ (it : List Row). ShowsNumber it at) (sym are) (counted t at within)))

differ_by : (rows others : List Row) (t : Tables) → others ≡ counts_row t ∷ [] → ¬ AreAlike rows others → ¬ AreCounts rows t
differ_by rows others t are differ counts = absurd (differ (subst (AreAlike rows) (sym are) counts))

-- where the new file answered
module _ (old new : State) (others : Vec Row Global) (it : AsksQuery counts_text [] old new (Ok others)) (clean : HasCleanDisk new) (ours : HasOurTables old) (rows : List Row) where
  early : HasCleanDisk new → HasCleanDisk old
  early late = omega (arith, it.survives.clean, late)

  known : others.items ≡ counts_row (tables_of old) ∷ []
  known =
      let unchanged = same counts_text counts_read [] old new early (Ok others) (it.ok clean) in
      counts_known old new others.items (ours (early clean) unchanged.0.was_open) (it.ok clean)

  pub are_unlike : {E : Type 0} (r : Result Bool E) → IfOk r (λ yes. IsFalse yes → ¬ AreAlike rows others.items) → IfOk r (λ yes. IsFalse yes → ¬ AreCounts rows (tables_of old))
  are_unlike (Ok alike) h = λ no. differ_by rows others.items (tables_of old) known (h no)
  are_unlike (Err e) h = tt

  pub are_lacking : {E : Type 0} (Told : E → Type 0) (Else : Type 0) (r : Result Bool E) → IfErr r (λ _. LacksNumber rows ⊎ LacksNumber others.items)
      → IfErr r (λ fault. Told fault → Else ⊎ (¬ AreCounts rows (tables_of old)))
  are_lacking Told Else (Ok alike) h = tt
  are_lacking Told Else (Err e) h = λ told. inr (lacks rows others.items (tables_of old) known h)

-- where it gave none
pub new_caused : (old new : State) (fault : Fault BadStore) → AsksQuery counts_text [] old new (Err fault) → HasCleanDisk new → HasOurTables old → fault ≡ storage → IsCaused old new
new_caused old new fault it clean ours told = by old.is_open refl
  where
    by : (b : Bool) → old.is_open ≡ b → IsCaused old new
    by false shut = inr (inl shut)
    by true opened =
        let early : HasCleanDisk old = omega (arith, it.survives.clean, clean) in
        let fails = it.err clean in
        query_so old new (counts_taken old.now (ours early opened).schema) fails.0 (sym fails.2 ∙ told) it.survives.limit counts_read fails.1

-- where the old one gave none
pub unanswered : (old new : State) (fault : Fault BadStore) → FailsToAsk counts_text [] old new fault → fault ≡ storage → IsUnanswered counts_text old new
unanswered old new fault fails told = unanswered_so counts_text old new fault (read_told fault) refl fails (ap read_told told)

-- ---- both files

module _ {S E : Type 0} (g : Ghosts S) (before after : State) (last new : Held S) (rows : List Row) (shown : Shown counts_text [] before after rows) where
  pub counts_differ : (r : Result Bool E) → IfOk r (λ yes. IsFalse yes → ¬ AreCounts rows (tables_of (state g last))) → IfOk r (λ yes. IsFalse yes → CountsDiffer g before after last)
  counts_differ (Ok all) h = λ no. record { rows = rows; shown = shown; differ = h no }
  counts_differ (Err e) h = tt

  pub unmatched : (Told : E → Type 0) (r : Result Bool E) → IfErr r (λ fault. Told fault → IsCaused (state g last) (state g new) ⊎ (¬ AreCounts rows (tables_of (state g last))))
      → IfErr r (λ fault. Told fault → FailsToMatch g before after last new)
  unmatched Told (Ok all) h = tt
  unmatched Told (Err e) h = λ told. elim (h told) [
    | inl caused ↦ inr (inl caused)
    | inr differ ↦ inr (inr (record { rows = rows; shown = shown; differ = differ }))
  ]

pub differing : {A E : Type 0} {Unlike Why : Type 0} (Told : E → Type 0) (r : Result A E) → OnErr r Unlike → (Unlike → Why) → IfErr r (λ fault. Told fault → Why)
differing Told (Ok a) unlike why = tt
differing Told (Err e) unlike why = λ told. why unlike

-- ---- the schema wasn't named

pub unnamed_by : {S A E : Type 0} (g : Ghosts S) (before after : State) (last mid new : Held S) → ReadsOld {T = Unit {0}} {E = E} (λ t _. Unit {0}) (state g last) (state g mid) (Ok tt)
    → (HasCleanDisk (state g new) → HasCleanDisk (state g mid)) → (r : Result A MoveFault)
    → IfErr r (λ fault. fault ≡ File Storage → IsCaused (state g mid) (state g new) ⊎ IsNamingRefused g mid new) → IfErr r (λ fault. fault ≡ File Storage → IsMoveUnfinished g before after last new)
unnamed_by g here there last mid new reads clean (Ok a) h = tt
unnamed_by g here there last mid new reads clean (Err e) h = λ told. inr (record { asked = mid; reads = may_and reads (λ t file it. tt); clean = clean; why = h told })
