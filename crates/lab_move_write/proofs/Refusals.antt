-- What `open` answers of a file that was left unfinished.
use Rattle.std.proofs.Common.{◌≡◌, ◌⊎◌, ◌≤◌, inl, inr, List, [], ◌∷◌, map, filter, length, true, Err, Result, refl, sym, ap, subst, ◌∙◌, arith}
use Rattle.sqlite_value.specs.declared.value.Value.TheVariants.{Null}
use Rattle.sqlite_value.specs.Order.{Row}
use Rattle.sqlite_sql.specs.Program.{overlay}
use Rattle.sqlite_typed.proofs.AnswerLemmas.{last_table, at_end}
use Rattle.sqlite.specs.Listing.{understood}
use Rattle.sqlite.specs.State.{State, Shown}
use Rattle.sqlite.proofs.Callers.{reads_as}
use Rattle.lab_store_tables.specs.Schema.{lab_schema}
use Rattle.lab_store_tables.specs.Rows.{DeskRow, desk_id, number}
use Rattle.lab_store_tables.proofs.RowWords.{desk_row}
use Rattle.lab_store_tables.specs.Held.{IsTyped}
use Rattle.lab_store_tables.specs.Ready.{tables_of}
use Rattle.lab_store_tables.specs.Family.{Desk}
use Rattle.lab_store_read.proofs.Sorted.{only_answer}
use Rattle.lab_store_files.specs.declared.faults.FileFault.{FileFault}
use Rattle.lab_store_files.specs.declared.faults.FileFault.TheVariants.{NotADeskFile}
use Rattle.lab_store_files.specs.Faults.{FailedInStore}
use Rattle.lab_store_files.specs.NewFiles.{IsBlank}
use Rattle.lab_store_files.specs.Verdicts.{number_query, file_verdict, AnswersVerdict}
use Rattle.lab_move_write.proofs.Statements.{desk_query, query_is, query_unlisted, query_plain, query_refused}

abbrev number_row : DeskRow → Row
number_row one = number one.number ∷ []

-- where no row names the schema, none is shown
none_shown : (old new : State) (rows : List Row) → IsTyped old.now → (tables_of old).desk ≡ [] → Shown number_query [] old new rows → rows ≡ []
none_shown old new rows typed none h =
    let db = overlay old.now.trees [] in
    let read = reads_as number_query [] old new lab_schema typed.schema _ query_is query_plain query_unlisted rows h in
    only_answer desk_query db [] (last_table db 0 desk_row desk_id (tables_of old).desk (typed.stored.at Desk) (typed.rising.at Desk) (at_end db)) (λ _. true) (λ x. refl) refl refl
    (subst (λ (desk : List DeskRow). length (filter (λ _. true) desk) ≤ 1) (sym none) (omega arith)) rows (read.answer Null)
    ∙ ap (λ (desk : List DeskRow). map number_row (filter (λ _. true) desk)) none

-- an empty file doesn't even take the question
never_shown : (old new : State) (rows : List Row) → IsBlank old.now → ¬ Shown number_query [] old new rows
unfolding Shown
never_shown old new rows blank h = absurd (let known = sym query_refused ∙ ap (λ s. understood s number_query) (sym blank) ∙ h.1.is in cc)

pub unnamed_refused : (old new : State) (answer : Result (Unit {0}) FileFault) → IsTyped old.now → (tables_of old).desk ≡ [] → AnswersVerdict old new answer
    → (answer ≡ Err NotADeskFile) ⊎ FailedInStore answer
unnamed_refused old new answer typed none (inl (inl unasked)) = inl unasked.1
unnamed_refused old new answer typed none (inl (inr it)) = inl (it.2 ∙ ap (file_verdict old.now.schema) (none_shown old new it.0 typed none it.1))
unnamed_refused old new answer typed none (inr failed) = inr failed

pub blank_refused : (old new : State) (answer : Result (Unit {0}) FileFault) → IsBlank old.now → AnswersVerdict old new answer → (answer ≡ Err NotADeskFile) ⊎ FailedInStore answer
blank_refused old new answer blank (inl (inl unasked)) = inl unasked.1
blank_refused old new answer blank (inl (inr it)) = absurd (never_shown old new it.0 blank it.1)
blank_refused old new answer blank (inr failed) = inr failed
