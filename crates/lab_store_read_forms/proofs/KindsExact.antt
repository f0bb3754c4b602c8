-- The exact rows of the query of names, in a file of ours.
use Rattle.std.proofs.Common.{◌≡◌, ℤ, pos, List, [], ◌∷◌, refl, ◌∙◌}
use Rattle.std.specs.Ordering.{int_eq, nat_cmp}
use Rattle.sqlite_value.specs.declared.value.Value.TheVariants.{Null, Int}
use Rattle.sqlite_value.specs.Order.{Row}
use Rattle.sqlite_sql.specs.Program.{overlay}
use Rattle.sqlite_sql.specs.Term.{col}
use Rattle.sqlite.specs.State.{State, Shown}
use Rattle.sqlite.proofs.Callers.{reads_as}
use Rattle.lab_store_tables.specs.Schema.{lab_schema}
use Rattle.lab_store_tables.specs.Rows.{ChoiceRow, tables_in, choice_id}
use Rattle.lab_store_tables.proofs.RowWords.{choice_row}
use Rattle.lab_store_tables.specs.Ready.{IsKept}
use Rattle.lab_store_tables.specs.Family.{Choices}
use Rattle.lab_store_read.proofs.Lists.{untied_in}
use Rattle.lab_store_read.proofs.Sorted.{and_true, by_one, own_rows}
use Rattle.lab_store_read.proofs.Texts.{is_param}
use Rattle.lab_store_read_forms.specs.KindsShown.{name_shown, names_shown}
use Rattle.lab_store_read_forms.proofs.KindKeys.{choices_apart}
use Rattle.lab_store_read_forms.proofs.KindTexts.{name_text, name_means}
use Rattle.lab_store_tables.proofs.Comparing.{equal_ints}

pub names_read : (old new : State) (field : ℤ) (rows : List Row) → IsKept old.now → Shown name_text (Int field ∷ []) old new rows → rows ≡ names_shown (tables_in old.now.trees) field
names_read old new field rows kept h =
    let params = Int field ∷ [] in
    let typed = kept.typed in
    let db = overlay old.now.trees [] in
    let t = tables_in old.now.trees in
    let read = reads_as name_text params old new lab_schema typed.schema _ name_means.command name_means.plain name_means.unlisted rows h in
    own_rows db 13 choice_row choice_id t.choices (typed.stored.at Choices) (typed.rising.at Choices) (λ x. int_eq x.field field) (λ one other. nat_cmp one.place other.place)
    (untied_in (λ (x : ChoiceRow). x.field) (λ (x : ChoiceRow). x.place) field t.choices (choices_apart t kept.rows))
    (is_param 2 0 ∷ []) (col 1 4 ∷ []) 3 params name_shown (λ x. Int (pos x.place))
    (λ x. and_true _ ∙ equal_ints x.field field) (λ x. refl) (λ x. refl) (λ a b. by_one a.place b.place) rows (read.answer Null)
