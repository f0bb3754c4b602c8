-- Whether a laboratory is within its limits: its test is true exactly where it is.
use Rattle.std.proofs.Common.{◌≡◌, ◌≤◌, ℕ, Bool, true, false, ◌&&◌, cond, List, [], ◌∷◌, ◌++◌, length, Option, Some, None, Decides, refl, ap}
use Rattle.std.specs.Prelude.{All, IsTrue, MatchBool}
use Rattle.std.specs.Option.{option_map_or}
use Rattle.std.proofs.lemmas.Bool.{and_parts, and_from}
use Rattle.lab_forms.specs.Forms.{FormSheet, field_limit, form_eq}
use Rattle.lab_forms.proofs.EqualityLemmas.{forms_told}
use Rattle.lab_people_access.specs.declared.persons.Person.{Person}
use Rattle.lab_people_access.specs.declared.sessions.Session.{Session}
use Rattle.lab_people_access.specs.Persons.{person_limit}
use Rattle.lab_records_kept.specs.declared.records.FormVersion.{FormVersion}
use Rattle.lab_records_kept.specs.declared.records.Record.{Record}
use Rattle.lab_records_kept.specs.declared.records.Version.{Version}
use Rattle.lab_records_kept.specs.declared.trails.TrailRow.{TrailRow}
use Rattle.lab_records_kept.specs.declared.labs.Lab.{Lab}
use Rattle.lab_records_kept.specs.Lookups.{comes_before, exact_form, is_form_version, last_form, next_form_version}
use Rattle.lab_records_kept.specs.Limits.{form_version_limit, record_limit, version_limit, row_limit, count_limit, stray_limit, HasFewRows, IsOrderly, IsSmallForm, AreFormsNumbered, AreInOrder, AreFormsInOrder, IsByForm, IsWithin}
use Rattle.lab_move_tables.specs.Private.Orders.{are_in_order_after, are_forms_in_order_after, follows, are_forms_numbered}
use Rattle.lab_move_tables.specs.Private.Within.{is_small_form, has_few_rows, is_orderly, is_by_form, are_few, is_kept_within}
use Rattle.lab_move_tables.proofs.Decisions.{both, as_said, all_decided, texts_decided, not_decided, at_most_decided, equal_decided, numbered_decided}

-- ---- orders

flag_decided : (b : Bool) → Decides b (IsTrue b)
flag_decided b = (λ h. h, λ h. h)

behind_decided : (one : Person) (others : List Person) → Decides (are_in_order_after (Some one) others) (AreInOrder (one ∷ others))
behind_decided one [] = (λ h. tt, λ h. refl)
behind_decided one (other ∷ others) = both (flag_decided (comes_before one.code other.code)) (behind_decided other others)

persons_decided : (persons : List Person) → Decides (are_in_order_after None persons) (AreInOrder persons)
persons_decided [] = (λ h. tt, λ h. refl)
persons_decided (one ∷ others) = behind_decided one others

form_behind_decided : (one : FormVersion) (others : List FormVersion) → Decides (are_forms_in_order_after (Some one) others) (AreFormsInOrder (one ∷ others))
form_behind_decided one [] = (λ h. tt, λ h. refl)
form_behind_decided one (other ∷ others) = both (not_decided (comes_before other.code one.code)) (form_behind_decided other others)

forms_decided : (forms : List FormVersion) → Decides (are_forms_in_order_after None forms) (AreFormsInOrder forms)
forms_decided [] = (λ h. tt, λ h. refl)
forms_decided (one ∷ others) = form_behind_decided one others

versions_decided : (earlier forms : List FormVersion) → Decides (are_forms_numbered earlier forms) (AreFormsNumbered earlier forms)
versions_decided earlier [] = (λ h. tt, λ h. refl)
versions_decided earlier (one ∷ others) =
    both (equal_decided one.version (next_form_version (last_form earlier one.code))) (versions_decided (earlier ++ one ∷ []) others)

-- ---- forms and records

small_decided : (form : FormVersion) → Decides (is_small_form form) (IsSmallForm form)
small_decided form =
    as_said (both (at_most_decided form.version form_version_limit) (at_most_decided (length form.form.fields) field_limit))
    (λ h. record { version = h.0; fields = h.1 }) (λ h. (h.version, h.fields))

orderly_decided : (kept : Record) → Decides (is_orderly kept) (IsOrderly kept)
orderly_decided kept =
    as_said (both (both (both (at_most_decided 1 (length kept.versions)) (at_most_decided (length kept.versions) version_limit))
    (numbered_decided (λ (one : Version). one.origin.number) 0 kept.versions))
    (all_decided has_few_rows HasFewRows (λ (version : Version). at_most_decided (length version.rows) row_limit) kept.versions))
    (λ h. record { some = h.0.0.0; few = h.0.0.1; numbered = h.0.1; rows = h.1 }) (λ h. (((h.some, h.few), h.numbered), h.rows))

sheets_decided : (one other : FormSheet) → Decides (form_eq one other) (one ≡ other)
sheets_decided one other = go (form_eq one other) (forms_told one other (form_eq one other) refl)
  where
    go : (b : Bool) → MatchBool b (one ≡ other) (one ≡ other → ⊥) → Decides b (one ≡ other)
    go true h = (λ e. h, λ e. refl)
    go false h = (λ e. absurd cc, λ e. absurd (h e))

-- what is found by code and number is the record's form, where its form is
by_form_decided : (forms : List FormVersion) (kept : Record) → Decides (is_by_form forms kept) (IsByForm forms kept)
by_form_decided forms kept = go forms
  where
    passes : (one : FormVersion) → is_form_version kept.form.code kept.form.version one ≡ true → form_eq one.form kept.form.form ≡ true → one ≡ kept.form
    passes one named same =
        let parts = and_parts _ _ named in
        let code : one.code ≡ kept.form.code = (texts_decided one.code kept.form.code).0 parts.0 in
        let version : one.version ≡ kept.form.version = (equal_decided one.version kept.form.version).0 parts.1 in
        let form : one.form ≡ kept.form.form = (sheets_decided one.form kept.form.form).0 same in
        λ i. record { code = code i; version = version i; form = form i }

    go : (forms : List FormVersion) → Decides (is_by_form forms kept) (IsByForm forms kept)
    go [] = (λ h. absurd cc, λ h. absurd cc)
    go (one ∷ others) = here (is_form_version kept.form.code kept.form.version one) refl (go others)
      where
        here : (b : Bool) → is_form_version kept.form.code kept.form.version one ≡ b → Decides (is_by_form others kept) (IsByForm others kept)
            → Decides (option_map_or (λ (it : FormVersion). form_eq it.form kept.form.form) (cond b (Some one) (exact_form others kept.form.code kept.form.version)) false)
            (cond b (Some one) (exact_form others kept.form.code kept.form.version) ≡ Some kept.form)
        here true named more = (λ h. ap Some (passes one named h), λ h. let same : one ≡ kept.form = cc in (sheets_decided one.form kept.form.form).1 (ap (λ (it : FormVersion). it.form) same))
        here false named more = more

-- ---- a laboratory

few_decided : (lab : Lab) → Decides (are_few lab)
    ((((length lab.persons ≤ person_limit × length lab.sessions ≤ count_limit) × length lab.trail ≤ count_limit) × length lab.records ≤ record_limit) × lab.strays ≤ stray_limit)
few_decided lab =
    both (both (both (both (at_most_decided (length lab.persons) person_limit) (at_most_decided (length lab.sessions) count_limit))
    (at_most_decided (length lab.trail) count_limit)) (at_most_decided (length lab.records) record_limit)) (at_most_decided lab.strays stray_limit)

pub within_decided : (lab : Lab) → Decides (is_kept_within lab) (IsWithin lab)
within_decided lab =
    let kept = both (both (all_decided is_small_form IsSmallForm small_decided lab.forms) (all_decided is_orderly IsOrderly orderly_decided lab.records))
    (all_decided (is_by_form lab.forms) (IsByForm lab.forms) (by_form_decided lab.forms) lab.records) in
    let ordered = both (both (both (both (both (persons_decided lab.persons) (forms_decided lab.forms)) (versions_decided [] lab.forms))
    (numbered_decided (λ (one : Session). one.number) 0 lab.sessions)) (numbered_decided (λ (one : Record). one.number) 0 lab.records)) (numbered_decided (λ (one : TrailRow). one.number) 0 lab.trail) in
    as_said (both (both (few_decided lab) kept) ordered)
    (λ h. record {
      persons = h.0.0.0.0.0.0;
      sessions = h.0.0.0.0.0.1;
      trail = h.0.0.0.0.1;
      records = h.0.0.0.1;
      strays = h.0.0.1;
      forms = h.0.1.0.0;
      orderly = h.0.1.0.1;
      by_form = h.0.1.1;
      persons_ordered = h.1.0.0.0.0.0;
      forms_ordered = h.1.0.0.0.0.1;
      forms_numbered = h.1.0.0.0.1;
      sessions_numbered = h.1.0.0.1;
      records_numbered = h.1.0.1;
      trail_numbered = h.1.1;
    })
    (λ h. (
      (((((h.persons, h.sessions), h.trail), h.records), h.strays), ((h.forms, h.orderly), h.by_form)),
      (((((h.persons_ordered, h.forms_ordered), h.forms_numbered), h.sessions_numbered), h.records_numbered), h.trail_numbered),
    ))
