-- The form by which a record is filled in, whichever version of it: the row that is found by its code and version shows it.
use Rattle.std.proofs.Common.{◌≡◌, ℤ, Bool, true, false, ◌&&◌, ◌==◌, [], filter, find, Option, Some, None, option_map, unwrap_or, refl, sym, ap, ◌∙◌, int_eq, bytes_eq}
use Rattle.std.proofs.lemmas.Bool.{and_parts, and_from, eq-eqb, eqb-true}
use Rattle.std.proofs.lemmas.Slice.Eq.{bytes_eq-Decides}
use Rattle.sqlite_rules.specs.Lists.{Has}
use Rattle.sqlite_rules.proofs.ListLemmas.{has_filtered, has_found}
use Rattle.sqlite_keyed.specs.Keyed.{get_by}
use Rattle.sqlite_keyed.specs.Lists.{sort_by}
use Rattle.sqlite_keyed.proofs.KeyedLemmas.{same_int}
use Rattle.lab_records_kept.specs.declared.records.FormVersion.{FormVersion}
use Rattle.lab_records_kept.specs.Lookups.{is_form_version, exact_form}
use Rattle.lab_store_tables.specs.Rows.{FormRow, Tables, form_id}
use Rattle.lab_store_tables.specs.Meaning.{form_in, by_form, forms_of, form_at}
use Rattle.lab_store_tables.specs.WellKept.{same_form}
use Rattle.lab_store_tables.specs.Changes.{is_form_row, form_named}
use Rattle.lab_store_tables.proofs.LabLaws.{alike, same_id}
use Rattle.lab_store_tables.proofs.KeptParts.{KeptParts}
use Rattle.lab_store_tables.proofs.OrderLaws.{sorted_has, shown_has, found_alone}
use Rattle.lab_store_tables.proofs.RowSet.{same_key_row}
use Rattle.lab_store_tables.proofs.Comparing.{text_is}

-- what stands for a form where an arrow leads to none
abbrev no_form : FormVersion
no_form = record { code = []; version = 0; form = record { fields = []; approval = false } }

same_key : (one other : FormRow) → one.lab ≡ other.lab → one.code ≡ other.code → one.version ≡ other.version → same_form one other ≡ true
same_key one other labs codes versions =
    and_from (int_eq one.lab other.lab && bytes_eq one.code other.code) (one.version == other.version)
    (and_from (int_eq one.lab other.lab) (bytes_eq one.code other.code) (alike one.lab other.lab labs) ((bytes_eq-Decides one.code other.code).1 codes))
    (eq-eqb one.version other.version versions)

module _ (t : Tables) (parts : KeptParts t) (lab : ℤ) (wanted : FormVersion)
    (exact : exact_form (forms_of t lab) wanted.code wanted.version ≡ Some wanted) where
  abbrev mine : FormRow → Bool
  mine one = int_eq one.lab lab

  -- a row of the laboratory shows it
  shows : (row : FormRow) × Has (sort_by by_form (filter mine t.forms)) row × (wanted ≡ form_in t row)
  shows =
      shown_has (form_in t) (sort_by by_form (filter mine t.forms)) wanted
      (has_found (is_form_version wanted.code wanted.version) (forms_of t lab) wanted exact).0

  its : Has t.forms shows.0 × (mine shows.0 ≡ true)
  its = has_filtered mine t.forms shows.0 (sorted_has by_form (filter mine t.forms) shows.0 shows.1)

  -- and the one that is found is that row
  is_it : (one : FormRow) → find (is_form_row lab wanted.code wanted.version) t.forms ≡ Some one → Has t.forms one × (one ≡ shows.0)
  is_it one found =
      let there = has_found (is_form_row lab wanted.code wanted.version) t.forms one found in
      let both = and_parts (int_eq one.lab lab && bytes_eq one.code wanted.code) (one.version == wanted.version) there.1 in
      let first = and_parts (int_eq one.lab lab) (bytes_eq one.code wanted.code) both.0 in
      let labs : one.lab ≡ shows.0.lab = same_int one.lab lab first.0 ∙ sym (same_int shows.0.lab lab its.1) in
      let codes : one.code ≡ shows.0.code = text_is one.code wanted.code first.1 ∙ ap (λ (form : FormVersion). form.code) shows.2 in
      let versions : one.version ≡ shows.0.version = eqb-true one.version wanted.version both.1 ∙ ap (λ (form : FormVersion). form.version) shows.2 in (
        there.0,
        same_key_row same_form t.forms one shows.0 parts.keys.forms there.0 its.0 (same_key one shows.0 labs codes versions)
            (same_key shows.0 one (sym labs) (sym codes) (sym versions)),
      )

  pub form_is : (form : ℤ) → form_named t lab wanted.code wanted.version ≡ Some form → form_at t form ≡ wanted
  form_is form named = go (find (is_form_row lab wanted.code wanted.version) t.forms) refl named
    where
      go : (o : Option FormRow) → find (is_form_row lab wanted.code wanted.version) t.forms ≡ o → option_map form_id o ≡ Some form → form_at t form ≡ wanted
      go None e h = absurd cc
      go (Some one) e h =
          let is : one.id ≡ form = ap (λ (o : Option ℤ). unwrap_or o one.id) h in
          let it = is_it one e in
          let there : get_by form_id t.forms form ≡ Some one =
          found_alone (λ (x : FormRow). int_eq x.id form) t.forms one it.0 (alike one.id form is)
          (λ x has same. same_id form_id t.forms x one parts.ids.forms has it.0 (same_int x.id form same ∙ sym is)) in
          ap (λ (o : Option FormRow). unwrap_or (option_map (form_in t) o) no_form) there ∙ ap (form_in t) it.1 ∙ sym shows.2
