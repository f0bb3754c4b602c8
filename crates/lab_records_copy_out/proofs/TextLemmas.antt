-- The text of a copy, put together of what went out at one call after the other.
use Rattle.std.proofs.Common.{◌≡◌, ℕ, ◌+◌, ◌-◌, ◌≤◌, List, [], ◌∷◌, ◌++◌, Option, sym, ap, subst, ◌∙◌, append-nil, option_to_list, arith}
use Rattle.std.specs.Io.KnownBytes.{Appends}
use Rattle.std.proofs.KnownBytes.{Appends-nil, Appends-trans}
use Rattle.std.proofs.lemmas.Grind.{flat_map-append}
use Rattle.std.proofs.lemmas.List.{map-append}
use Rattle.lab_records_kept.specs.declared.labs.Lab.{Lab}
use Rattle.lab_records_kept.specs.declared.records.Record.{Record}
use Rattle.lab_copy_rows.specs.Copies.{counts_of}
use Rattle.lab_copy_rows.specs.Csv.{csv_row, csv_text}
use Rattle.lab_copy_rows.specs.Rows.{fields_in, header_row, copy_row, end_row}
use Rattle.lab_copy_rows.specs.declared.lines.CopyLine.{CopyLine}
use Rattle.lab_copy_rows.specs.declared.lines.Line.{Line}
use Rattle.lab_copy_rows.specs.declared.lines.Line.TheVariants as line
use Rattle.lab_copy_rows.specs.Outs.{AppendsFront, start_text}
use Rattle.lab_copy_rows.proofs.SendLemmas.{front_went, second_went}
use Rattle.lab_records_copies.specs.CopyLines.{body_lines, end_line, fields_of_line, record_lines, rows_of_lines}
use Rattle.lab_records_copy_out.specs.CopyTexts.{numbers_between, record_at, record_rows, walked}
use Rattle.lab_records_copy_out.specs.Private.CopyTexts.{text_under}
use Rattle.lab_records_copy_out.proofs.NumberLemmas.{later_walked, next_walked}

-- ---- the rows of more records

pub rows_both : (lab : List ℕ) (records more : List Record) →
    record_rows lab (records ++ more) ≡ record_rows lab records ++ record_rows lab more
rows_both lab records more =
    ap rows_of_lines (flat_map-append (record_lines lab) records more)
    ∙ map-append fields_of_line (body_lines lab records) (body_lines lab more)

abbrev pub records_text : List ℕ → List Record → List ℕ
records_text lab records = csv_text (record_rows lab records)

text_both : (lab : List ℕ) (records more : List Record) →
    records_text lab (records ++ more) ≡ records_text lab records ++ records_text lab more
text_both lab records more =
    ap csv_text (rows_both lab records more)
    ∙ flat_map-append csv_row (record_rows lab records) (record_rows lab more)

-- ---- one record after the other

-- nothing went out before the first number
pub none_walked : (lab : List ℕ) (kept : Option Lab) (from number : ℕ)
    (known : Option (List ℕ)) → number ≡ from →
    Appends known known (records_text lab (walked kept from (number - from)))
none_walked lab kept from number known first =
    let none : number - from ≡ 0 = omega (arith, first) in
    subst (λ n. Appends known known (records_text lab (walked kept from n))) (sym none)
    (Appends-nil known)

-- the record of one number more went out; the laboratory means now what it meant at first
pub walk_more : (lab : List ℕ) (first now : Option Lab) (from number : ℕ)
    (old between new : Option (List ℕ)) → now ≡ first → from ≤ number →
    Appends old between (records_text lab (walked first from (number - from))) →
    Appends between new (records_text lab (option_to_list (record_at number now))) →
    Appends old new (records_text lab (walked first from (number + 1 - from)))
walk_more lab first now from number old between new same le so_far here =
    let this = option_to_list (record_at number first) in
    let went : Appends between new (records_text lab this) =
    subst (λ (kept : Option Lab). Appends between new
    (records_text lab (option_to_list (record_at number kept)))) same here in
    subst (Appends old new)
    (sym (ap (records_text lab) (next_walked first from number le)
    ∙ text_both lab (walked first from (number - from)) this))
    (Appends-trans old between new _ _ so_far went)

-- it was cut
pub walk_cut : (lab : List ℕ) (first now : Option Lab) (from number last : ℕ)
    (old between new : Option (List ℕ)) → now ≡ first → from ≤ number → number ≤ last →
    Appends old between (records_text lab (walked first from (number - from))) →
    AppendsFront between new (records_text lab (option_to_list (record_at number now))) →
    AppendsFront old new (records_text lab (walked first from (numbers_between from last)))
walk_cut lab first now from number last old between new same le within so_far cut =
    let this = option_to_list (record_at number first) in
    let before = walked first from (number - from) in
    let later = later_walked first from number last le within in
    let here : AppendsFront between new (records_text lab this) =
    subst (λ (kept : Option Lab). AppendsFront between new
    (records_text lab (option_to_list (record_at number kept)))) same cut in
    let front : AppendsFront old new (records_text lab (before ++ this)) =
    subst (AppendsFront old new) (sym (text_both lab before this))
    (second_went old between new _ _ so_far here) in
    subst (AppendsFront old new)
    (sym (ap (records_text lab) later.1 ∙ text_both lab (before ++ this) later.0))
    (front_went old new (records_text lab (before ++ this)) (records_text lab later.0) front)

-- ---- the whole text: how it begins, the records, and its end

abbrev pub end_text : CopyLine → List Record → List ℕ
end_text first records =
    csv_row (fields_in (end_row (end_line first.lab (counts_of (body_lines first.lab records)))))

pub whole_text : (first : CopyLine) (records : List Record) →
    text_under first records
    ≡ start_text first ++ (records_text first.lab records ++ end_text first records)
whole_text first records =
    let lines = body_lines first.lab records in
    let last : Line = line.End (end_line first.lab (counts_of lines)) in
    let two : List (List (List ℕ)) =
    fields_in header_row ∷ fields_in (copy_row first) ∷ [] in
    ap (λ (rows : List (List (List ℕ))). csv_text (two ++ rows))
    (map-append fields_of_line lines (last ∷ []))
    ∙ flat_map-append csv_row two (rows_of_lines lines ++ fields_of_line last ∷ [])
    ∙ ap (λ (text : List ℕ). csv_text two ++ text)
    (flat_map-append csv_row (rows_of_lines lines) (fields_of_line last ∷ [])
    ∙ ap (λ (text : List ℕ). csv_text (rows_of_lines lines) ++ text)
    (append-nil (csv_row (fields_of_line last))))

-- the copy was cut as it began
pub cut_at_start : (first : CopyLine) (records : List Record) (old new : Option (List ℕ)) →
    AppendsFront old new (start_text first) → AppendsFront old new (text_under first records)
cut_at_start first records old new cut =
    subst (AppendsFront old new) (sym (whole_text first records))
    (front_went old new (start_text first)
    (records_text first.lab records ++ end_text first records) cut)

-- it was cut within its records
pub cut_in_records : (first : CopyLine) (records : List Record)
    (old started new : Option (List ℕ)) → Appends old started (start_text first) →
    AppendsFront started new (records_text first.lab records) →
    AppendsFront old new (text_under first records)
cut_in_records first records old started new begun cut =
    subst (AppendsFront old new) (sym (whole_text first records))
    (second_went old started new (start_text first)
    (records_text first.lab records ++ end_text first records) begun
    (front_went started new (records_text first.lab records) (end_text first records) cut))

-- it was cut at its end
pub cut_at_end : (first : CopyLine) (records : List Record)
    (old started given new : Option (List ℕ)) → Appends old started (start_text first) →
    Appends started given (records_text first.lab records) →
    AppendsFront given new (end_text first records) →
    AppendsFront old new (text_under first records)
cut_at_end first records old started given new begun walked cut =
    subst (AppendsFront old new) (sym (whole_text first records))
    (second_went old started new (start_text first)
    (records_text first.lab records ++ end_text first records) begun
    (second_went started given new (records_text first.lab records) (end_text first records)
    walked cut))

-- it went out whole
pub went_whole : (first : CopyLine) (records : List Record)
    (old started given new : Option (List ℕ)) → Appends old started (start_text first) →
    Appends started given (records_text first.lab records) →
    Appends given new (end_text first records) → Appends old new (text_under first records)
went_whole first records old started given new begun walked ended =
    subst (Appends old new) (sym (whole_text first records))
    (Appends-trans old started new (start_text first)
    (records_text first.lab records ++ end_text first records) begun
    (Appends-trans started given new (records_text first.lab records) (end_text first records)
    walked ended))
