-- The exact rows of each query, in a file of ours.
use Rattle.std.proofs.Common.{◌≡◌, ℕ, ℤ, pos, ◌&&◌, List, [], ◌∷◌, refl, ap₂, ◌∙◌}
use Rattle.std.specs.Ordering.{nat_cmp}
use Rattle.sqlite_value.specs.declared.value.Value.TheVariants.{Null, Int}
use Rattle.sqlite_value.specs.Order.{Row}
use Rattle.sqlite_sql.specs.Program.{overlay}
use Rattle.sqlite.specs.State.{State, Shown}
use Rattle.sqlite.proofs.Callers.{reads_as}
use Rattle.lab_store_tables.specs.Schema.{lab_schema}
use Rattle.lab_store_tables.specs.Rows.{TrailRow, tables_in, trail_id}
use Rattle.lab_store_tables.proofs.RowWords.{trail_row}
use Rattle.lab_store_tables.specs.Ready.{IsKept}
use Rattle.lab_store_tables.specs.Family.{Trail}
use Rattle.lab_store_read.proofs.Texts.{is_param, range_tests}
use Rattle.lab_records_kept.specs.Lookups.{is_within}
use Rattle.lab_store_read.proofs.Lists.{untied_also}
use Rattle.lab_store_read.proofs.Sorted.{and_true, by_one, from_number, to_number, own_rows}
use Rattle.lab_store_read_trail.specs.Shown.{told_shown, told_shown_within}
use Rattle.lab_store_read_trail.specs.Trails.{is_told_within}
use Rattle.lab_store_read_trail.proofs.Keys.{told_apart}
use Rattle.lab_store_read_trail.proofs.Texts.{told_text, told_columns, told_means}
use Rattle.lab_store_tables.proofs.Comparing.{equal_ints}

pub told_rows_read : (old new : State) (lab : ℤ) (from to : ℕ) (rows : List Row) → IsKept old.now → Shown told_text (Int lab ∷ Int (pos from) ∷ Int (pos to) ∷ []) old new rows
    → rows ≡ told_shown_within (tables_in old.now.trees) lab from to
told_rows_read old new lab from to rows kept h =
    let params = Int lab ∷ Int (pos from) ∷ Int (pos to) ∷ [] in
    let typed = kept.typed in
    let db = overlay old.now.trees [] in
    let t = tables_in old.now.trees in
    let read = reads_as told_text params old new lab_schema typed.schema _ told_means.command told_means.plain told_means.unlisted rows h in
    own_rows db 25 trail_row trail_id t.trail (typed.stored.at Trail) (typed.rising.at Trail) (is_told_within lab from to) (λ one other. nat_cmp one.number other.number)
    (untied_also (λ (x : TrailRow). x.lab) (λ (x : TrailRow). x.number) (λ (x : TrailRow). is_within from to x.number) lab t.trail (told_apart t kept.rows))
    (is_param 2 0 ∷ range_tests 3) told_columns 3 params told_shown (λ x. Int (pos x.number))
    (λ x. ap₂ ◌&&◌ (equal_ints x.lab lab) (ap₂ ◌&&◌ (from_number x.number from) (and_true _ ∙ to_number x.number to))) (λ x. refl) (λ x. refl)
    (λ a b. by_one a.number b.number) rows (read.answer Null)
