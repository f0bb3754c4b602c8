-- Rows of lines, as they are put behind one another.
use Rattle.std.proofs.Common.{◌≡◌, ℕ, suc, ◌+◌, ◌<◌, List, [], ◌∷◌, ◌++◌, length, map, take, get_or, refl, sym, ap, subst, ◌∙◌, append_assoc}
use Rattle.std.specs.Prelude.{filter, if◌then◌else◌, slice_index_or, codes, bytes_eq}
use Rattle.std.specs.List.{flat_map, filter_map}
use Rattle.std.proofs.lemmas.Grind.{flat_map-append}
use Rattle.std.proofs.lemmas.List.{map-append, take_more, append-nil}
use Rattle.lab_seal_versions.specs.declared.rows.EntryRow.{EntryRow}
use Rattle.lab_records_kept.specs.declared.records.Record.{Record}
use Rattle.lab_records_kept.specs.declared.records.Version.{Version}
use Rattle.lab_records_kept.specs.declared.records.Signature.{Signature}
use Rattle.lab_copy_rows.specs.Copies.{counts_of, record_in, version_in, entry_in, signature_in}
use Rattle.lab_copy_rows.specs.Rows.{fields_in, header_row, copy_row, end_row, entry_row, signature_row}
use Rattle.lab_copy_rows.specs.declared.lines.Counts.{Counts}
use Rattle.lab_copy_rows.specs.declared.lines.Line.{Line}
use Rattle.lab_copy_rows.specs.declared.lines.Line.TheVariants as line
use Rattle.lab_records_copies.specs.declared.orders.CopyOrder.{CopyOrder}
use Rattle.lab_records_copies.specs.CopyLines.{copy_line, version_line, entry_line, signature_line, end_line, fields_of_line, rows_of_lines, version_lines, body_lines, copy_rows}
use Rattle.lab_records_copies.specs.Private.CopyLines.{counts_in}

-- ---- a loop that puts one row behind the others

row_more_of : {A : Type 0} (f : A → List (List ℕ)) (before rows : List (List (List ℕ))) (xs : List A) (i : ℕ) (x : A)
    → i < length xs → x ≡ slice_index_or xs i x → rows ≡ before ++ map f (take i xs)
    → rows ++ f x ∷ [] ≡ before ++ map f (take (i + 1) xs)
row_more_of f before rows xs i x lt is_x so_far =
    let more : take (i + 1) xs ≡ take i xs ++ x ∷ [] =
    take_more xs i x lt ∙ ap (λ y. take i xs ++ y ∷ []) (sym is_x) in
    ap (λ l. l ++ f x ∷ []) so_far
    ∙ append_assoc before (map f (take i xs)) (f x ∷ [])
    ∙ ap (λ l. before ++ l) (sym (map-append f (take i xs) (x ∷ [])))
    ∙ ap (λ l. before ++ map f l) (sym more)

pub row_more : {A : Type 0} (f : A → List (List ℕ)) (before rows : List (List (List ℕ))) (xs items : List A) (i : ℕ) (x : A)
    → items ≡ xs → i < length items → x ≡ slice_index_or items i x → rows ≡ before ++ map f (take i xs)
    → rows ++ f x ∷ [] ≡ before ++ map f (take (i + 1) xs)
row_more f before rows xs items i x same lt is_x so_far =
    row_more_of f before rows xs i x (subst (λ l. i < length l) same lt) (subst (λ l. x ≡ slice_index_or l i x) same is_x) so_far

-- ---- a loop that puts rows behind the others

pub flat_map_more : {A B : Type 0} (f : A → List B) (xs : List A) (i : ℕ) (x : A)
    → i < length xs → x ≡ slice_index_or xs i x
    → flat_map f (take (i + 1) xs) ≡ flat_map f (take i xs) ++ f x
flat_map_more f xs i x lt is_x =
    ap (flat_map f) (take_more xs i x lt ∙ ap (λ y. take i xs ++ y ∷ []) (sym is_x))
    ∙ flat_map-append f (take i xs) (x ∷ [])
    ∙ ap (λ l. flat_map f (take i xs) ++ l) (append-nil (f x))

rows_more_of : {A : Type 0} (f : A → List Line) (first : List Line) (before rows : List (List (List ℕ))) (xs : List A)
    (i : ℕ) (x : A)
    → i < length xs → x ≡ slice_index_or xs i x
    → rows ≡ before ++ rows_of_lines (first ++ flat_map f (take i xs))
    → rows ++ rows_of_lines (f x) ≡ before ++ rows_of_lines (first ++ flat_map f (take (i + 1) xs))
rows_more_of f first before rows xs i x lt is_x so_far =
    ap (λ l. l ++ rows_of_lines (f x)) so_far
    ∙ append_assoc before (rows_of_lines (first ++ flat_map f (take i xs))) (rows_of_lines (f x))
    ∙ ap (λ l. before ++ l) (sym (map-append fields_of_line (first ++ flat_map f (take i xs)) (f x)))
    ∙ ap (λ l. before ++ rows_of_lines l) (append_assoc first (flat_map f (take i xs)) (f x))
    ∙ ap (λ l. before ++ rows_of_lines (first ++ l)) (sym (flat_map_more f xs i x lt is_x))

pub rows_more : {A : Type 0} (f : A → List Line) (first : List Line) (before rows : List (List (List ℕ))) (xs items : List A)
    (i : ℕ) (x : A)
    → items ≡ xs → i < length items → x ≡ slice_index_or items i x
    → rows ≡ before ++ rows_of_lines (first ++ flat_map f (take i xs))
    → rows ++ rows_of_lines (f x) ≡ before ++ rows_of_lines (first ++ flat_map f (take (i + 1) xs))
rows_more f first before rows xs items i x same lt is_x so_far =
    rows_more_of f first before rows xs i x (subst (λ l. i < length l) same lt)
    (subst (λ l. x ≡ slice_index_or l i x) same is_x) so_far

-- ---- the rows of a version

pub map_of_map : {A B C : Type 0} (g : B → C) (f : A → B) (xs : List A) → map g (map f xs) ≡ map (λ x. g (f x)) xs
map_of_map g f [] = refl
map_of_map g f (x ∷ xs) = ap (λ l. g (f x) ∷ l) (map_of_map g f xs)

pub version_whole : (lab : List ℕ) (kept : Record) (version : Version)
    → rows_of_lines (version_lines lab kept version)
    ≡ fields_of_line (line.Version (version_line lab kept version))
    ∷ map (λ row. fields_in (entry_row (entry_line lab kept version row))) version.rows
    ++ map (λ signature. fields_in (signature_row (signature_line lab kept version signature))) version.signatures
version_whole lab kept version =
    let entry : EntryRow → Line = λ row. line.Entry (entry_line lab kept version row) in
    let signed : Signature → Line = λ signature. line.Signature (signature_line lab kept version signature) in
    ap (λ l. fields_of_line (line.Version (version_line lab kept version)) ∷ l)
    (map-append fields_of_line (map entry version.rows) (map signed version.signatures)
    ∙ ap (λ l. l ++ map fields_of_line (map signed version.signatures)) (map_of_map fields_of_line entry version.rows)
    ∙ ap (λ l. map (λ row. fields_of_line (entry row)) version.rows ++ l)
    (map_of_map fields_of_line signed version.signatures))

pub version_put : (lab : List ℕ) (kept : Record) (version : Version) (none one more all : List (List (List ℕ)))
    (row : List (List ℕ))
    → none ≡ [] → row ≡ fields_of_line (line.Version (version_line lab kept version)) → one ≡ none ++ row ∷ []
    → more ≡ one ++ map (λ entry. fields_in (entry_row (entry_line lab kept version entry))) version.rows
    → all ≡ more ++ map (λ signature. fields_in (signature_row (signature_line lab kept version signature))) version.signatures
    → all ≡ rows_of_lines (version_lines lab kept version)
version_put lab kept version none one more all row is_none is_row is_one is_more is_all =
    let entries = map (λ entry. fields_in (entry_row (entry_line lab kept version entry))) version.rows in
    let signed = map (λ signature. fields_in (signature_row (signature_line lab kept version signature))) version.signatures in
    let own = fields_of_line (line.Version (version_line lab kept version)) in
    let first : one ≡ own ∷ [] = is_one ∙ ap (λ l. l ++ row ∷ []) is_none ∙ ap (λ (r : List (List ℕ)). r ∷ []) is_row in
    is_all ∙ ap (λ l. l ++ signed) (is_more ∙ ap (λ l. l ++ entries) first) ∙ sym (version_whole lab kept version)

-- ---- rows are counted by their kinds, as lines are

pub counted : (lines : List Line) → counts_in (rows_of_lines lines) ≡ counts_of lines
counted [] = refl
counted (line.Copy one ∷ lines) = counted lines
counted (line.Record one ∷ lines) = ap (λ (counts : Counts). record counts { records = suc counts.records }) (counted lines)
counted (line.Version one ∷ lines) = ap (λ (counts : Counts). record counts { versions = suc counts.versions }) (counted lines)
counted (line.Entry one ∷ lines) = ap (λ (counts : Counts). record counts { entries = suc counts.entries }) (counted lines)
counted (line.Signature one ∷ lines) = ap (λ (counts : Counts). record counts { signatures = suc counts.signatures }) (counted lines)
counted (line.End one ∷ lines) = counted lines

-- ---- a whole copy

pub whole_put : (lab name : List ℕ) (order : CopyOrder) (records : List Record)
    (none first second third all body : List (List (List ℕ))) (header row end : List (List ℕ))
    → none ≡ [] → header ≡ fields_in header_row → row ≡ fields_in (copy_row (copy_line lab name order))
    → body ≡ rows_of_lines (body_lines lab records) → end ≡ fields_in (end_row (end_line lab (counts_in body)))
    → first ≡ none ++ header ∷ [] → second ≡ first ++ row ∷ [] → third ≡ second ++ body → all ≡ third ++ end ∷ []
    → all ≡ copy_rows lab name order records
whole_put lab name order records none first second third all body header row end is_none is_header is_row is_body is_end
    is_first is_second is_third is_all =
    let lines = body_lines lab records in
    let one : first ≡ fields_in header_row ∷ [] =
    is_first ∙ ap (λ l. l ++ header ∷ []) is_none ∙ ap (λ (r : List (List ℕ)). r ∷ []) is_header in
    let two : second ≡ fields_in header_row ∷ fields_in (copy_row (copy_line lab name order)) ∷ [] =
    is_second ∙ ap (λ l. l ++ row ∷ []) one ∙ ap (λ (r : List (List ℕ)). fields_in header_row ∷ r ∷ []) is_row in
    let counts : counts_in body ≡ counts_of lines = ap counts_in is_body ∙ counted lines in
    let last : end ≡ fields_of_line (line.End (end_line lab (counts_of lines))) =
    is_end ∙ ap (λ (n : Counts). fields_in (end_row (end_line lab n))) counts in
    is_all ∙ ap (λ l. l ++ end ∷ []) (is_third ∙ ap (λ l. l ++ body) two)
    ∙ ap (λ (r : List (List ℕ)). fields_in header_row ∷ fields_in (copy_row (copy_line lab name order)) ∷ body ++ r ∷ []) last
    ∙ ap (λ (l : List (List (List ℕ))). fields_in header_row ∷ fields_in (copy_row (copy_line lab name order))
    ∷ l ++ fields_of_line (line.End (end_line lab (counts_of lines))) ∷ []) is_body
    ∙ ap (λ (l : List (List (List ℕ))). fields_in header_row ∷ fields_in (copy_row (copy_line lab name order)) ∷ l)
    (sym (map-append fields_of_line lines (line.End (end_line lab (counts_of lines)) ∷ [])))
