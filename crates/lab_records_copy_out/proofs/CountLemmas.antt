-- The numbers of a copy's end: counted row by row, they are those of its lines, where there are fewer
-- rows than a number of 64 bits can count.
use Rattle.std.proofs.Common.{◌≡◌, ℕ, ◌+◌, ◌-◌, ◌<◌, ◌≤◌, ◌^◌, min, Bool, true, false, cond, List, [], ◌∷◌, ◌++◌, length, refl, sym, ap, ◌∙◌, arith, append_assoc, length-append, codes, filter}
use Rattle.std.proofs.lemmas.List.{append-nil, length-map}
use Rattle.std.proofs.lemmas.List.Elements.{filter-append}
use Rattle.lab_records_kept.specs.declared.records.Record.{Record}
use Rattle.lab_records_kept.specs.Lookups.{is_within, records_within}
use Rattle.lab_copy_rows.specs.Copies.{counts_of}
use Rattle.lab_copy_rows.specs.declared.lines.Counts.{Counts}
use Rattle.lab_copy_rows.specs.Outs.{counted, counted_all, counted_if, no_counts}
use Rattle.lab_records_copies.specs.CopyLines.{body_lines, fields_of_line, record_lines}
use Rattle.lab_records_copies.specs.Private.CopyLines.{count_of, counts_in, has_kind}
use Rattle.lab_records_copies.proofs.RowLemmas.{counted as counted_lines}
use Rattle.lab_records_copy_out.specs.CopyTexts.{record_rows}

-- ---- one row more

least_of : (n most : ℕ) → n ≤ most → min n most ≡ n
least_of n most le = omega (arith, le)

counted_by : (b : Bool) (before row : List (List (List ℕ))) (n most : ℕ) → n + 1 ≤ most →
    length row ≡ 1 → cond b (min (n + 1) most) n ≡ n + length (cond b row [])
counted_by true before row n most le one = omega (arith, least_of (n + 1) most le, one)
counted_by false before row n most le one = omega arith

few_of_kind : (kind : List ℕ) (rows : List (List (List ℕ))) → count_of kind rows ≤ length rows
few_of_kind kind [] = omega arith
few_of_kind kind (row ∷ rows) = by (has_kind kind row) (few_of_kind kind rows)
  where
    by : (b : Bool) → count_of kind rows ≤ length rows →
        length (cond b (row ∷ filter (has_kind kind) rows) (filter (has_kind kind) rows))
        ≤ length (row ∷ rows)
    by true few = omega (arith, few)
    by false few = omega (arith, few)

kind_counted : (kind : List ℕ) (before : List (List (List ℕ))) (row : List (List ℕ)) →
    length before + 1 ≤ 2 ^ 64 - 1 →
    counted_if (has_kind kind row) (count_of kind before) ≡ count_of kind (before ++ row ∷ [])
kind_counted kind before row few =
    let here = cond (has_kind kind row) (row ∷ []) [] in
    counted_by (has_kind kind row) before (row ∷ []) (count_of kind before) (2 ^ 64 - 1)
    (omega (arith, few, few_of_kind kind before)) refl
    ∙ sym (ap length (filter-append (has_kind kind) before (row ∷ []))
    ∙ length-append (filter (has_kind kind) before) here)

same_counts : (a b c d e f g h : ℕ) → a ≡ e → b ≡ f → c ≡ g → d ≡ h →
    let one : Counts = record { records = a; versions = b; entries = c; signatures = d } in
    let other : Counts = record { records = e; versions = f; entries = g; signatures = h } in
    one ≡ other
same_counts a b c d e f g h p q r s =
    ap (λ (n : ℕ). let it : Counts =
    record { records = n; versions = b; entries = c; signatures = d } in it) p
    ∙ ap (λ (n : ℕ). let it : Counts =
    record { records = e; versions = n; entries = c; signatures = d } in it) q
    ∙ ap (λ (n : ℕ). let it : Counts =
    record { records = e; versions = f; entries = n; signatures = d } in it) r
    ∙ ap (λ (n : ℕ). let it : Counts =
    record { records = e; versions = f; entries = g; signatures = n } in it) s

one_counted : (before : List (List (List ℕ))) (row : List (List ℕ)) →
    length before + 1 ≤ 2 ^ 64 - 1 →
    counted (counts_in before) row ≡ counts_in (before ++ row ∷ [])
one_counted before row few =
    same_counts _ _ _ _ _ _ _ _
    (kind_counted (codes "record") before row few)
    (kind_counted (codes "version") before row few)
    (kind_counted (codes "entry") before row few)
    (kind_counted (codes "signature") before row few)

-- ---- all rows

counted_behind : (before rows : List (List (List ℕ))) →
    length before + length rows ≤ 2 ^ 64 - 1 →
    counted_all (counts_in before) rows ≡ counts_in (before ++ rows)
counted_behind before [] few = ap counts_in (sym (append-nil before))
counted_behind before (row ∷ rows) few =
    ap (λ (counts : Counts). counted_all counts rows)
    (one_counted before row (omega (arith, few)))
    ∙ counted_behind (before ++ row ∷ []) rows
    (omega (arith, few, length-append before (row ∷ [])))
    ∙ ap counts_in (append_assoc before (row ∷ []) rows)

-- the numbers of all rows of records are those of their lines
pub all_counted : (lab : List ℕ) (records : List Record) →
    length (body_lines lab records) < 2 ^ 64 →
    counted_all no_counts (record_rows lab records) ≡ counts_of (body_lines lab records)
all_counted lab records few =
    counted_behind [] (record_rows lab records)
    (omega (arith, few, length-map (body_lines lab records) fields_of_line))
    ∙ counted_lines (body_lines lab records)

-- ---- rows that are counted one after the other

pub counted_both : (counts : Counts) (rows more : List (List (List ℕ))) →
    counted_all counts (rows ++ more) ≡ counted_all (counted_all counts rows) more
counted_both counts [] more = refl
counted_both counts (row ∷ rows) more = counted_both (counted counts row) rows more

-- ---- a range has no more rows than the laboratory

pub few_within : (lab : List ℕ) (from to : ℕ) (records : List Record) →
    length (body_lines lab (records_within from to records)) ≤ length (body_lines lab records)
few_within lab from to [] = omega arith
few_within lab from to (kept ∷ others) =
    by (is_within from to kept.number) (few_within lab from to others)
  where
    by : (b : Bool) → length (body_lines lab (records_within from to others))
        ≤ length (body_lines lab others) →
        length (body_lines lab
        (cond b (kept ∷ records_within from to others) (records_within from to others)))
        ≤ length (body_lines lab (kept ∷ others))
    by true few =
        omega (
          arith,
          few,
          length-append (record_lines lab kept) (body_lines lab others),
          length-append (record_lines lab kept)
              (body_lines lab (records_within from to others)),
        )
    by false few =
        omega (arith, few, length-append (record_lines lab kept) (body_lines lab others))
