-- A copy on its way out: its numbers of rows after more rows, and its end.
use Rattle.std.proofs.Common.{◌≡◌, ℕ, ◌+◌, ◌-◌, ◌<◌, ◌≤◌, ◌^◌, List, ◌++◌, length, Option, None, sym, ap, ◌∙◌, arith, option_to_list}
use Rattle.lab_records_kept.specs.declared.labs.Lab.{Lab}
use Rattle.lab_records_kept.specs.declared.records.Record.{Record}
use Rattle.lab_copy_rows.specs.Csv.{csv_row}
use Rattle.lab_copy_rows.specs.Rows.{fields_in, end_row}
use Rattle.lab_copy_rows.specs.declared.lines.CopyLine.{CopyLine}
use Rattle.lab_copy_rows.specs.declared.lines.Counts.{Counts}
use Rattle.lab_copy_rows.specs.declared.outs.CopyOut.{CopyOut}
use Rattle.lab_copy_rows.specs.Outs.{counted_all, no_counts}
use Rattle.lab_records_copies.specs.CopyLines.{body_lines, end_line}
use Rattle.lab_records_copy_out.specs.CopyTexts.{record_at, record_rows, walked}
use Rattle.lab_records_copy_out.proofs.NumberLemmas.{next_walked}
use Rattle.lab_records_copy_out.proofs.TextLemmas.{end_text, rows_both}
use Rattle.lab_records_copy_out.proofs.CountLemmas.{all_counted, counted_both}

-- the copy after these rows were given
abbrev pub given_rows : CopyOut → List (List (List ℕ)) → CopyOut
given_rows out rows = record out { counts = counted_all out.counts rows }

-- more rows behind those that were given
given_both : (start : CopyOut) (rows more : List (List (List ℕ))) →
    given_rows (given_rows start rows) more ≡ given_rows start (rows ++ more)
given_both start rows more =
    ap (λ (counts : Counts). let out : CopyOut = record start { counts = counts } in out)
    (sym (counted_both start.counts rows more))

pub given_on : (start between new : CopyOut) (rows more : List (List (List ℕ))) →
    between ≡ given_rows start rows → new ≡ given_rows between more →
    new ≡ given_rows start (rows ++ more)
given_on start between new rows more so_far here =
    here ∙ ap (λ (out : CopyOut). given_rows out more) so_far ∙ given_both start rows more

-- ---- one record after the other

-- none before the first number
pub none_given : (lab : List ℕ) (kept : Option Lab) (from number : ℕ) (start : CopyOut) →
    number ≡ from → start ≡ given_rows start (record_rows lab (walked kept from (number - from)))
none_given lab kept from number start first =
    let none : number - from ≡ 0 = omega (arith, first) in
    ap (λ n. given_rows start (record_rows lab (walked kept from n))) (sym none)

-- those of one number more; the laboratory means now what it meant at first
pub record_given : (lab : List ℕ) (first now : Option Lab) (from number : ℕ)
    (start between new : CopyOut) → now ≡ first → from ≤ number →
    between ≡ given_rows start (record_rows lab (walked first from (number - from))) →
    new ≡ given_rows between (record_rows lab (option_to_list (record_at number now))) →
    new ≡ given_rows start (record_rows lab (walked first from (number + 1 - from)))
record_given lab first now from number start between new same le so_far here =
    let this = option_to_list (record_at number first) in
    let before = walked first from (number - from) in
    let gave : new ≡ given_rows between (record_rows lab this) =
    here ∙ ap (λ (kept : Option Lab). given_rows between
    (record_rows lab (option_to_list (record_at number kept)))) same in
    given_on start between new (record_rows lab before) (record_rows lab this) so_far gave
    ∙ ap (given_rows start)
    (sym (ap (record_rows lab) (next_walked first from number le) ∙ rows_both lab before this))

-- ---- the end

-- the end row has the numbers of the rows of these records
pub ended : (first : CopyLine) (records : List Record) (begun given : CopyOut) →
    begun ≡ record { lab = first.lab; counts = no_counts; fault = None } →
    given ≡ given_rows begun (record_rows first.lab records) →
    length (body_lines first.lab records) < 2 ^ 64 →
    csv_row (fields_in (end_row (end_line given.lab given.counts))) ≡ end_text first records
ended first records begun given is_begun is_given few =
    let rows = record_rows first.lab records in
    ap (λ (out : CopyOut). csv_row (fields_in (end_row (end_line out.lab out.counts))))
    (is_given ∙ ap (λ (out : CopyOut). given_rows out rows) is_begun)
    ∙ ap (λ (counts : Counts). csv_row (fields_in (end_row (end_line first.lab counts))))
    (all_counted first.lab records few)
