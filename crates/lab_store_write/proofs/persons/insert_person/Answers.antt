use Rattle.std.proofs.Common.{◌≡◌, [], ◌∷◌, option_map, refl, ap, ◌∙◌}
use Rattle.sqlite_value.specs.declared.value.Value.TheVariants.{Text}
use Rattle.sqlite.specs.Values.{bound}
use Rattle.sqlite_keyed.specs.Keyed.{next_key}
use Rattle.lab_store_tables.specs.Rows.{person_id}
use Rattle.lab_store_tables.specs.Changes.{person_row_of}
use Rattle.lab_store_tables.specs.Ready.{tables_of}
use Rattle.lab_store_write.specs.Ids.{row_id}
use Rattle.lab_store_write.specs.Private.Persons.{with_person}
use Rattle.lab_store_write.proofs.PersonWords.{person_given}
use Rattle.lab_store_write.specs.Statements.{adding_person}
use Rattle.lab_store_write.specs.Tried.{Only}
use Rattle.lab_store_write.proofs.Writers.{wrote_by}
use Rattle.lab_store_write.proofs.PersonLemmas.{given_is}
use Rattle.lab_store_write.proofs.PersonWrites.{add_person_ours, add_person_text, person_values, adds_person}
use Rattle.lab_store_write.proofs.persons.insert_person.Goals as goal

pub returns : goal.returns
returns g c =
    let old = g.W.Writable.state c.args.tx.now in
    let new = g.W.Writable.state c.run.new.tx in
    let lab = c.args.lab.id in
    let asker = option_map row_id c.args.asker in
    let person = c.args.person.now in
    let row = person_row_of lab (next_key person_id (tables_of old).persons) asker person in
    let first : bound (c.id_value.result ∷ c.text_value.result ∷ c.text_value-2.result ∷ c.small_value.result ∷ c.flag_value.result ∷ c.small_value-2.result ∷ c.moment_or_null.result ∷ c.small_value-3.result ∷ c.salt_or_null.result ∷ c.rounds_or_null.result ∷ c.made_or_null.result ∷ c.salt_or_null-2.result ∷ c.rounds_or_null-2.result ∷ c.made_or_null-2.result ∷ c.moment_or_null-2.result ∷ c.id_or_null.result ∷ c.moment_or_null-3.result ∷ c.salt_or_null-3.result ∷ c.rounds_or_null-3.result ∷ c.made_or_null-3.result ∷ []) ≡ person_given lab person c.roles_sum-roles.result c.password_cells-password.result c.ask_cells-ask.result =
    λ i. c.id_value.ensures i ∷ (c.text_value.ensures ∙ ap Text c.as_str-code.ensures.value) i ∷ (c.text_value-2.ensures ∙ ap Text c.as_str-name.ensures.value) i ∷ c.small_value.ensures i ∷ c.flag_value.ensures i ∷ c.small_value-2.ensures i ∷ c.moment_or_null.ensures i ∷ c.small_value-3.ensures i ∷ c.salt_or_null.ensures i ∷ c.rounds_or_null.ensures i ∷ c.made_or_null.ensures i ∷ c.salt_or_null-2.ensures i ∷ c.rounds_or_null-2.ensures i ∷ c.made_or_null-2.ensures i ∷ c.moment_or_null-2.ensures i ∷ c.id_or_null.ensures i ∷ c.moment_or_null-3.ensures i ∷ c.salt_or_null-3.ensures i ∷ c.rounds_or_null-3.ensures i ∷ c.made_or_null-3.ensures i ∷ [] in
    let second : person_given lab person c.roles_sum-roles.result c.password_cells-password.result c.ask_cells-ask.result ≡ person_values row =
    (λ i. person_given lab person (c.roles_sum-roles.ensures i) (c.password_cells-password.ensures i) (c.ask_cells-ask.ensures i)) ∙ given_is lab (next_key person_id (tables_of old).persons) c.args.asker person in
    wrote_by {tries = Only (adding_person lab asker person)} add_person_text (person_values row) (add_person_ours row) (λ _. (refl, refl)) (with_person lab asker person) c.run.ensures.stays (first ∙ second) c.run.ensures.runs
    (λ count typed did. adds_person row old new count typed refl did)
