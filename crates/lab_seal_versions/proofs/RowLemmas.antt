-- Rows that are written one after the other.
use Rattle.std.proofs.Common.{◌≡◌, ℕ, ◌+◌, ◌<◌, List, [], ◌∷◌, ◌++◌, length, take, slice_index_or, sym, ap, subst, ◌∙◌}
use Rattle.std.specs.Prelude.{All}
use Rattle.std.specs.List.{flat_map}
use Rattle.std.proofs.lemmas.List.{take_more, flat_map_more}
use Rattle.std.proofs.lemmas.List.Elements.{All-push}
use Rattle.lab_seal_versions.specs.Versions.{row_text, IsRow}
use Rattle.lab_seal_versions.specs.declared.rows.EntryRow.{EntryRow}

-- the texts of so many rows are written behind others, and each is a row
abbrev pub AreRowsWritten : List ℕ → List EntryRow → ℕ → List ℕ → Type 0
AreRowsWritten before rows count text =
    (text ≡ before ++ flat_map row_text (take count rows)) × All IsRow (take count rows)

pub row_written : (before : List ℕ) (rows : List EntryRow) (count : ℕ) (text more : List ℕ) (row : EntryRow) → count < length rows
    → row ≡ slice_index_or rows count row → IsRow row → more ≡ text ++ row_text row
    → AreRowsWritten before rows count text → AreRowsWritten before rows (count + 1) more
row_written before rows count text more row lt at is now so_far =
    let grown : take count rows ++ row ∷ [] ≡ take (count + 1) rows =
    ap (λ r. take count rows ++ r ∷ []) at ∙ sym (take_more rows count row lt) in (
      now ∙ ap (λ l. l ++ row_text row) so_far.0 ∙ flat_map_more row_text before (take count rows) row
          ∙ ap (λ l. before ++ flat_map row_text l) grown,
      subst (All IsRow) grown (All-push IsRow (take count rows) row so_far.1 is),
    )
