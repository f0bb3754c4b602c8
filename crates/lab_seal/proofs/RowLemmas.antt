-- Rows that are read one after the other.
use Rattle.std.proofs.Common.{◌≡◌, ℕ, suc, ◌+◌, ◌-◌, ◌<◌, ◌≤◌, List, [], ◌∷◌, ◌++◌, Option, Some, None, refl, sym, ap, ◌∙◌, arith, append_assoc}
use Rattle.std.specs.Prelude.{option_map}
use Rattle.std.proofs.lemmas.List.{append-nil}
use Rattle.lab_seal.specs.Reading.{◌>>=◌}
use Rattle.lab_seal.specs.Parts.{first_row, first_rows}
use Rattle.lab_seal_versions.specs.declared.rows.EntryRow.{EntryRow}

-- rows before others
abbrev pub behind_rows : List EntryRow → List EntryRow × List ℕ → List EntryRow × List ℕ
behind_rows rows more = (rows ++ more.0, more.1)

-- so many rows are still to be read
abbrev pub IsRowsSoFar : ℕ → List ℕ → ℕ → List EntryRow → List ℕ → Type 0
IsRowsSoFar count text left rows rest = first_rows count text ≡ option_map (behind_rows rows) (first_rows left rest)

none_yet : (o : Option (List EntryRow × List ℕ)) → o ≡ option_map (behind_rows []) o
none_yet None = refl
none_yet (Some more) = refl

pub rows_start : (count : ℕ) (text : List ℕ) → IsRowsSoFar count text (count - 0) [] text
rows_start count text =
    let all : count ≡ count - 0 = omega arith in
    none_yet (first_rows count text) ∙ ap (λ n. option_map (behind_rows []) (first_rows n text)) all

one_more : (rows : List EntryRow) (row : EntryRow) (o : Option (List EntryRow × List ℕ))
    → option_map (behind_rows rows) (o >>= (λ more. Some (row ∷ more.0, more.1))) ≡ option_map (behind_rows (rows ++ row ∷ [])) o
one_more rows row None = refl
one_more rows row (Some more) = ap (λ l. Some (l, more.1)) (sym (append_assoc rows (row ∷ []) more.0))

-- what the next row makes of the rows that are left
next_rows : (count at : ℕ) (rest : List ℕ) (o : Option (EntryRow × List ℕ)) → at < count → first_row rest ≡ o
    → first_rows (count - at) rest
    ≡ o >>= (λ first. first_rows (count - (at + 1)) first.1 >>= (λ more. Some (first.0 ∷ more.0, more.1)))
unfolding first_rows
next_rows count at rest o within e =
    let step : count - at ≡ suc (count - (at + 1)) = omega arith in
    ap (λ n. first_rows n rest) step
    ∙ ap (λ o. o >>= (λ first. first_rows (count - (at + 1)) first.1 >>= (λ more. Some (first.0 ∷ more.0, more.1)))) e

pub rows_more : (count : ℕ) (text : List ℕ) (at : ℕ) (rows : List EntryRow) (rest after : List ℕ) (row : EntryRow) → at < count
    → IsRowsSoFar count text (count - at) rows rest → first_row rest ≡ Some (row, after)
    → IsRowsSoFar count text (count - (at + 1)) (rows ++ row ∷ []) after
rows_more count text at rows rest after row within so_far e =
    so_far ∙ ap (option_map (behind_rows rows)) (next_rows count at rest (Some (row, after)) within e)
    ∙ one_more rows row (first_rows (count - (at + 1)) after)

pub rows_none : (count : ℕ) (text : List ℕ) (at : ℕ) (rows : List EntryRow) (rest : List ℕ) → at < count
    → IsRowsSoFar count text (count - at) rows rest → first_row rest ≡ None → first_rows count text ≡ None
rows_none count text at rows rest within so_far e =
    so_far ∙ ap (option_map (behind_rows rows)) (next_rows count at rest None within e)

pub rows_end : (count : ℕ) (text : List ℕ) (at : ℕ) (rows : List EntryRow) (rest : List ℕ) → count ≤ at
    → IsRowsSoFar count text (count - at) rows rest → first_rows count text ≡ Some (rows, rest)
unfolding first_rows
rows_end count text at rows rest done so_far =
    let none : count - at ≡ 0 = omega arith in
    so_far
    ∙ ap (λ n. option_map (behind_rows rows) (first_rows n rest)) none
    ∙ ap (λ l. Some (l, rest)) (append-nil rows)

-- ---- what follows them

abbrev pub IsRestOf : ℕ → List ℕ → ℕ → List ℕ → Type 0
IsRestOf count text left rest = option_map (λ found. found.1) (first_rows count text) ≡ option_map (λ found. found.1) (first_rows left rest)

pub rest_start : (count : ℕ) (text : List ℕ) → IsRestOf count text (count - 0) text
rest_start count text =
    let all : count ≡ count - 0 = omega arith in
    ap (λ n. option_map (λ found. found.1) (first_rows n text)) all

same_rest : (row : EntryRow) (o : Option (List EntryRow × List ℕ))
    → option_map (λ (found : List EntryRow × List ℕ). found.1) (o >>= (λ more. Some (row ∷ more.0, more.1))) ≡ option_map (λ found. found.1) o
same_rest row None = refl
same_rest row (Some more) = refl

pub rest_more : (count : ℕ) (text : List ℕ) (at : ℕ) (rest after : List ℕ) (row : EntryRow) → at < count
    → IsRestOf count text (count - at) rest → first_row rest ≡ Some (row, after) → IsRestOf count text (count - (at + 1)) after
rest_more count text at rest after row within so_far e =
    so_far ∙ ap (option_map (λ found. found.1)) (next_rows count at rest (Some (row, after)) within e)
    ∙ same_rest row (first_rows (count - (at + 1)) after)

pub rest_none : (count : ℕ) (text : List ℕ) (at : ℕ) (rest : List ℕ) → at < count
    → IsRestOf count text (count - at) rest → first_row rest ≡ None
    → option_map (λ found. found.1) (first_rows count text) ≡ None
rest_none count text at rest within so_far e =
    so_far ∙ ap (option_map (λ found. found.1)) (next_rows count at rest None within e)

pub rest_end : (count : ℕ) (text : List ℕ) (at : ℕ) (rest : List ℕ) → count ≤ at → IsRestOf count text (count - at) rest
    → option_map (λ found. found.1) (first_rows count text) ≡ Some rest
unfolding first_rows
rest_end count text at rest done so_far =
    let none : count - at ≡ 0 = omega arith in
    so_far ∙ ap (λ n. option_map (λ found. found.1) (first_rows n rest)) none
