-- The tests that decide whether a laboratory is within its limits; the numbers are those of
-- `Limits` of `lab_records_kept`, and this system's own.
use Rattle.std.specs.Prelude.{Bool, false, ◌&&◌, nat_le, List, [], length, None}
use Rattle.std.specs.List.{list_all}
use Rattle.std.specs.Option.{option_map_or}
use Rattle.lab_forms.specs.Forms.{field_limit, form_eq}
use Rattle.lab_people_access.specs.Persons.{person_limit}
use Rattle.lab_records_kept.specs.declared.records.FormVersion.{FormVersion}
use Rattle.lab_records_kept.specs.declared.records.Record.{Record}
use Rattle.lab_records_kept.specs.declared.records.Version.{Version}
use Rattle.lab_records_kept.specs.declared.labs.Lab.{Lab}
use Rattle.lab_records_kept.specs.Limits.{form_version_limit, record_limit, version_limit, row_limit, count_limit, stray_limit}
use Rattle.lab_records_kept.specs.Lookups.{exact_form}
use Rattle.lab_move_tables.specs.Private.Orders.{are_numbered, are_in_order_after, are_forms_in_order_after, are_forms_numbered}

abbrev pub is_small_form : FormVersion → Bool
is_small_form form =
    nat_le form.version form_version_limit && nat_le (length form.form.fields) field_limit

abbrev pub has_few_rows : Version → Bool
has_few_rows version = nat_le (length version.rows) row_limit

abbrev pub is_orderly : Record → Bool
is_orderly kept =
    nat_le 1 (length kept.versions) && nat_le (length kept.versions) version_limit
    && are_numbered (λ version. version.origin.number) kept.versions
    && list_all has_few_rows kept.versions

abbrev pub is_by_form : List FormVersion → Record → Bool
is_by_form forms kept =
    option_map_or (λ (one : FormVersion). form_eq one.form kept.form.form)
    (exact_form forms kept.form.code kept.form.version) false

abbrev pub are_few : Lab → Bool
are_few lab =
    nat_le (length lab.persons) person_limit && nat_le (length lab.sessions) count_limit
    && nat_le (length lab.trail) count_limit && nat_le (length lab.records) record_limit
    && nat_le lab.strays stray_limit

abbrev pub are_forms_kept : Lab → Bool
are_forms_kept lab =
    list_all is_small_form lab.forms && list_all is_orderly lab.records
    && list_all (is_by_form lab.forms) lab.records

abbrev pub are_ordered : Lab → Bool
are_ordered lab =
    are_in_order_after None lab.persons && are_forms_in_order_after None lab.forms
    && are_forms_numbered [] lab.forms && are_numbered (λ session. session.number) lab.sessions
    && are_numbered (λ kept. kept.number) lab.records
    && are_numbered (λ row. row.number) lab.trail

abbrev pub is_kept_within : Lab → Bool
is_kept_within lab = are_few lab && are_forms_kept lab && are_ordered lab
