-- What each row of a copy leaves to find, where the reader's bytes are known.
use Rattle.std.proofs.Common.{◌≡◌, ℕ, ◌+◌, ◌≤◌, true, false, List, length, Option, Some, None, Result, Ok, Err, sym, ap, subst, ◌∙◌, arith}
use Rattle.std.specs.Prelude.{◌<◌, IfSome, OnOk, option_map}
use Rattle.csv.specs.Reading.{ReadRecord, default_config, reader_config, reader_state, source_of, strip_bom}
use Rattle.csv.specs.declared.parser.State.TheVariants as st
use Rattle.csv.specs.declared.reader.Reader.{Reader}
use Rattle.lab_copy_rows.specs.Copies.{is_header, verdict}
use Rattle.lab_copy_rows.specs.declared.flaws.Flaw.{Flaw}
use Rattle.lab_copy_rows.specs.declared.flaws.Flaw.TheVariants as flaw
use Rattle.lab_copy_rows.specs.declared.lines.Counts.{Counts}
use Rattle.lab_copy_rows.specs.declared.lines.Line.{Line}
use Rattle.lab_copy.specs.Faults.{IsAnswer}
use Rattle.lab_copy.specs.Private.Faults.{IsNoFlaw}
use Rattle.lab_copy.specs.Private.Checks.{fault_at}
use Rattle.lab_copy.specs.Checks.{most_rows, csv_rows_of}
use Rattle.lab_copy_lines.specs.Lines.{IsRowRead, line_at}
use Rattle.lab_copy.specs.Kept.{IsAt, IsTaken, edition_by, verdict_kept}
use Rattle.lab_copy.specs.Private.Left.{AnswersRest, AreRows, IsLeftOf}
use Rattle.lab_copy.specs.declared.faults.CopyFault.{CopyFault}
use Rattle.lab_copy.specs.declared.faults.CopyFault.TheVariants.{Flawed, Read, Memory}
use Rattle.lab_forms_texts.specs.declared.refusals.Fault.{Fault}
use Rattle.lab_forms_texts.specs.declared.refusals.Fault.TheVariants as row_fault
use Rattle.lab_copy_lines.specs.declared.faults.BadRow.{BadRow}
use Rattle.lab_copy.specs.declared.kept.Kept.{Kept}
use Rattle.lab_copy.proofs.ReadLemmas.{record_reads, when_known, no_header, bad_header, begun_left, at_end, bad_row, taken_left, taken_fault, rows_begun, rows_end}

-- a fault that says nothing of a copy
pub nothing_known : (known : Option (List ℕ)) (fault : CopyFault) → IsNoFlaw fault
    → IfSome known (λ bytes. IsAnswer (verdict (csv_rows_of bytes)) (Err fault))
nothing_known known (Flawed _) none = absurd none
nothing_known None Read none = tt
nothing_known (Some bytes) Read none = tt
nothing_known None (Memory _) none = tt
nothing_known (Some bytes) (Memory _) none = tt

-- ---- the first row

module _ {R : Type 0} (rem : R → Option (List ℕ)) (known : Option (List ℕ)) (old new : Reader R) (fields : List (List ℕ))
    (config : reader_config old ≡ default_config) (state : reader_state old ≡ st.StartRecord)
    (source : source_of rem old ≡ option_map strip_bom known) where
  pub first_none : ReadRecord rem old new false fields
      → IfSome known (λ bytes. IsAnswer (verdict (csv_rows_of bytes)) (Err (Flawed flaw.NoEnd)))
  first_none read =
      when_known known _ (λ bytes is.
      no_header bytes (reader_state new) (source_of rem new) fields
      (rw (state, source ∙ ap (option_map strip_bom) is) at (record_reads rem old new false fields config read)))

  pub first_bad : ReadRecord rem old new true fields → is_header fields ≡ false
      → IfSome known (λ bytes. IsAnswer (verdict (csv_rows_of bytes)) (Err (Flawed (flaw.BadRow 1))))
  first_bad read bad =
      when_known known _ (λ bytes is.
      bad_header bytes (reader_state new) (source_of rem new) fields
      (rw (state, source ∙ ap (option_map strip_bom) is) at (record_reads rem old new true fields config read)) bad)

  pub first_good : ReadRecord rem old new true fields → is_header fields ≡ true → (result : Result Counts CopyFault)
      → AnswersRest (reader_state new) (source_of rem new) result
      → IfSome known (λ bytes. IsAnswer (verdict (csv_rows_of bytes)) result)
  first_good read good result answers =
      when_known known _ (λ bytes is. answers (verdict (csv_rows_of bytes))
      (begun_left bytes (reader_state new) (source_of rem new) fields
      (rw (state, source ∙ ap (option_map strip_bom) is) at (record_reads rem old new true fields config read)) good))

  pub first_rows : ReadRecord rem old new true fields → (result : Result Counts CopyFault)
      → ((total : ℕ) → AreRows total 2 (reader_state new) (source_of rem new) → OnOk result (total ≤ most_rows))
      → IfSome known (λ bytes. OnOk result (length (csv_rows_of bytes) ≤ most_rows))
  first_rows read result few =
      when_known known _ (λ bytes is. few (length (csv_rows_of bytes))
      (rows_begun bytes (reader_state new) (source_of rem new) fields
      (rw (state, source ∙ ap (option_map strip_bom) is) at (record_reads rem old new true fields config read))))

-- ---- every other row

module _ {R : Type 0} (rem : R → Option (List ℕ)) (found : Result Counts Flaw) (old new : Reader R) (fields : List (List ℕ))
    (kept : Kept) (row : ℕ) (config : reader_config old ≡ default_config)
    (left : IsLeftOf found kept row (reader_state old) (source_of rem old)) where
  pub next_none : ReadRecord rem old new false fields → (result : Result Counts CopyFault) → IsAnswer (verdict_kept kept) result
      → IsAnswer found result
  next_none read result answer =
      subst (λ one. IsAnswer one result)
      (sym (at_end found kept row (reader_state old) (reader_state new) (source_of rem old) (source_of rem new) fields left
      (record_reads rem old new false fields config read)))
      answer

  module _ (read : ReadRecord rem old new true fields) where
    pub next_unread : (fault : Fault BadRow) → IsRowRead (line_at (edition_by kept.copy) fields) (Err fault)
        → IsAnswer found (Err (fault_at row fault))
    next_unread (row_fault.Refused _) none =
        bad_row found kept row (reader_state old) (reader_state new) (source_of rem old) (source_of rem new) fields left
        (record_reads rem old new true fields config read) none
    next_unread row_fault.Memory none = tt

    module _ (line : Line) (is_line : line_at (edition_by kept.copy) fields ≡ Some line) where
      pub next_taken : (more : Kept)
          → ((lines : List Line) → row ≡ length lines + 2 → IsAt kept lines → IsTaken lines line more (Ok tt))
          → IsLeftOf found more (row + 1) (reader_state new) (source_of rem new)
      next_taken more takes =
          taken_left found kept row (reader_state old) (reader_state new) (source_of rem old) (source_of rem new) fields left
          (record_reads rem old new true fields config read) line is_line more takes

      pub next_fault : (more : Kept) (fault : CopyFault)
          → ((lines : List Line) → row ≡ length lines + 2 → IsAt kept lines → IsTaken lines line more (Err fault))
          → IsAnswer found (Err fault)
      next_fault more fault takes =
          taken_fault found kept row (reader_state old) (reader_state new) (source_of rem old) (source_of rem new) fields left
          (record_reads rem old new true fields config read) line is_line more fault takes

-- the rows have ended, before so many were read
pub few_rows : {R : Type 0} (rem : R → Option (List ℕ)) (old new : Reader R) (fields : List (List ℕ)) (total row : ℕ)
    → reader_config old ≡ default_config → AreRows total row (reader_state old) (source_of rem old)
    → ReadRecord rem old new false fields → row < most_rows + 2 → (result : Result Counts CopyFault) → OnOk result (total ≤ most_rows)
few_rows rem old new fields total row config rows read within (Ok _) =
    let all = rows_end total row (reader_state old) (reader_state new) (source_of rem old) (source_of rem new) fields rows
    (record_reads rem old new false fields config read) in
    omega (arith, all, within)
few_rows rem old new fields total row config rows read within (Err _) = tt

-- a fault that says nothing of a copy
pub answers_nothing : (found : Result Counts Flaw) (fault : CopyFault) → IsNoFlaw fault → IsAnswer found (Err fault)
answers_nothing found (Flawed _) none = absurd none
answers_nothing found Read none = tt
answers_nothing found (Memory _) none = tt
