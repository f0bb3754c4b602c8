-- Changes that may come one after the other where a laboratory is placed whole: each means itself, and keeps the tables well.
use Rattle.std.proofs.Common.{◌≡◌, ℕ, ◌+◌, ℤ, List, [], ◌∷◌, filter, find, length, Option, Some, None, option_map, unwrap_or, sym, ap, subst, ◌∙◌, int_eq}
use Rattle.lab_people_access.specs.declared.persons.Ask.{Ask}
use Rattle.lab_people_access.specs.Persons.{person_of}
use Rattle.lab_records_kept.specs.declared.labs.Lab.{Lab}
use Rattle.lab_records_kept.specs.declared.changes.Change.{Change}
use Rattle.lab_records_kept.specs.declared.changes.Change.TheVariants.{Last, Strays, PersonAdded, PersonSet, SessionAdded, SessionSet, SessionsClosed, FormAdded, RecordAdded, RowAdded, VersionOpened, SignatureAdded, TrailAdded}
use Rattle.lab_records_kept.specs.Changes.{change, changed_in, IsKnownIfAny, ChangesFit}
use Rattle.lab_records_kept.specs.Lookups.{last_form, next_form_version}
use Rattle.lab_records_keeper.specs.Worlds.{Changes}
use Rattle.lab_store_tables.specs.Rows.{LabRow, TrailRow, Tables}
use Rattle.lab_store_tables.specs.Meaning.{told_in, by_trail, lab_in, has_code, meaning}
use Rattle.lab_store_tables.specs.WellKept.{AreWellKept}
use Rattle.lab_store_tables.specs.Held.{AreRising}
use Rattle.lab_store_tables.specs.Changes.{InTurn, Applies}
use Rattle.lab_store_tables.specs.ByRules.{IsByRules}
use Rattle.lab_store_tables.specs.Steps.{AppliesWhereKept, StepsBy}
use Rattle.lab_store_tables.proofs.AllChanges.{changes_then, no_changes}
use Rattle.lab_store_tables.proofs.FormAddedLaws.{form_is_numbered}
use Rattle.lab_store_tables.proofs.FormKept.{form_numbered_keeps}
use Rattle.lab_store_tables.proofs.Ids.{own_ids}
use Rattle.lab_store_tables.proofs.Kept.{all_kept, well_kept}
use Rattle.lab_store_tables.proofs.PersonAddedLaws.{person_is_added}
use Rattle.lab_store_tables.proofs.PersonKept.{person_added_keeps, person_set_keeps}
use Rattle.lab_store_tables.proofs.PersonSetLaws.{person_is_set}
use Rattle.lab_store_tables.proofs.SessionKept.{session_numbered_keeps}
use Rattle.lab_store_tables.proofs.SessionLaws.{session_is_added}
use Rattle.lab_store_tables.proofs.Shown.{as_many}
use Rattle.lab_store_tables.proofs.Spared.{Spares, change_spares}
use Rattle.lab_store_tables.proofs.TrailKept.{told_more}
use Rattle.lab_store_tables.proofs.TrailLaws.{told_is_added}
use Rattle.lab_move_write.proofs.Wholes.{IsWholeRecord}
use Rattle.lab_move_write.proofs.RecordWhole.{record_is_placed}
use Rattle.lab_move_write.proofs.RecordWholeKept.{record_keeps}

-- what comes has the next number, and a person a new code and nothing asked for; a record comes whole
abbrev pub Comes : Lab → Change → Type 0
Comes lab (Last moment) = ⊥
Comes lab (Strays count) = ⊥
Comes lab (PersonAdded person) = (person_of lab.persons person.code ≡ None) × (person.ask ≡ None)
Comes lab (PersonSet person) = Unit {0}
Comes lab (SessionAdded session) = session.number ≡ length lab.sessions + 1
Comes lab (SessionSet session) = ⊥
Comes lab (SessionsClosed person closing) = ⊥
Comes lab (FormAdded form) = form.version ≡ next_form_version (last_form lab.forms form.code)
Comes lab (RecordAdded kept) = IsWholeRecord lab kept
Comes lab (RowAdded number row) = ⊥
Comes lab (VersionOpened number version) = ⊥
Comes lab (SignatureAdded number version signature) = ⊥
Comes lab (TrailAdded told) = told.number ≡ length lab.trail + 1

abbrev pub AllCome : Lab → List Change → Type 0
AllCome lab [] = Unit {0}
AllCome lab (one ∷ others) = Comes lab one × AllCome (change lab one) others

-- what one of them makes of the tables
abbrev Done : List ℕ → Change → Tables → Tables → Type 0
Done code one old new = Changes code (one ∷ []) (meaning old) (meaning new) × AreWellKept new × Spares old new

one_comes : (code : List ℕ) (one : Change) (old new : Tables) (row : LabRow) → find (has_code code) old.labs ≡ Some row → AreRising old → AreWellKept old
    → IsByRules new → Comes (lab_in old row) one → AppliesWhereKept row.id one old new → Done code one old new
one_comes code (Last moment) old new row found rising well rules comes it = absurd comes
one_comes code (Strays count) old new row found rising well rules comes it = absurd comes
one_comes code (PersonAdded person) old new row found rising well rules comes it =
    let made : Applies code (PersonAdded person) old new = record { lab = row; found = found; made = it } in
    let known : IsKnownIfAny (lab_in old row) (option_map (λ (ask : Ask). ask.asker) person.ask) =
    subst (λ (o : Option Ask). IsKnownIfAny (lab_in old row) (option_map (λ (ask : Ask). ask.asker) o)) (sym comes.1) tt in
    let fit : ChangesFit (meaning old code) (PersonAdded person ∷ []) =
    subst (λ (o : Option LabRow). ChangesFit (option_map (lab_in old) o) (PersonAdded person ∷ [])) (sym found) ((comes.0, known), tt) in
    (person_is_added rising well fit made, person_added_keeps well rules made, change_spares row.id (PersonAdded person) old new it)
one_comes code (PersonSet person) old new row found rising well rules comes it =
    let made : Applies code (PersonSet person) old new = record { lab = row; found = found; made = it } in
    (person_is_set well made, person_set_keeps well rules made, change_spares row.id (PersonSet person) old new it)
one_comes code (SessionAdded session) old new row found rising well rules comes it =
    let made : Applies code (SessionAdded session) old new = record { lab = row; found = found; made = it } in (
      session_is_added old new code session rising well.ids well.numbered made comes,
      session_numbered_keeps well rules made comes,
      change_spares row.id (SessionAdded session) old new it,
    )
one_comes code (SessionSet session) old new row found rising well rules comes it = absurd comes
one_comes code (SessionsClosed person closing) old new row found rising well rules comes it = absurd comes
one_comes code (FormAdded form) old new row found rising well rules comes it =
    let made : Applies code (FormAdded form) old new = record { lab = row; found = found; made = it } in
    (form_is_numbered rising well made comes, form_numbered_keeps well rules made comes, change_spares row.id (FormAdded form) old new it)
one_comes code (RecordAdded kept) old new row found rising well rules comes it =
    (record_is_placed rising well found comes it, record_keeps old new row kept well rules comes it, change_spares row.id (RecordAdded kept) old new it)
one_comes code (RowAdded number row) old new lab found rising well rules comes it = absurd comes
one_comes code (VersionOpened number version) old new row found rising well rules comes it = absurd comes
one_comes code (SignatureAdded number version signature) old new row found rising well rules comes it = absurd comes
one_comes code (TrailAdded told) old new row found rising well rules comes it =
    let made : Applies code (TrailAdded told) old new = record { lab = row; found = found; made = it } in
    let next : told.number ≡ length (filter (λ (one : TrailRow). int_eq one.lab row.id) old.trail) + 1 =
    comes ∙ ap (λ n. n + 1) (as_many by_trail (told_in old) (filter (λ (one : TrailRow). int_eq one.lab row.id) old.trail)) in (
      told_is_added old new code told rising well.ids well.numbered made comes,
      well_kept new rules (told_more old (own_ids old well.ids).persons row.id told next new it (all_kept old well)),
      change_spares row.id (TrailAdded told) old new it,
    )

-- ---- and all of them

module _ (code : List ℕ) where
  pub come_in_turn : (changes : List Change) (old new : Tables) (id : ℤ) (row : LabRow) (lab : Lab) → find (has_code code) old.labs ≡ Some row → row.id ≡ id
      → lab_in old row ≡ lab → AreRising old → AreWellKept old → AllCome lab changes → InTurn (StepsBy id) changes old new
      → Changes code changes (meaning old) (meaning new) × AreWellKept new
  come_in_turn [] old new id row lab found is shown rising well all same =
      subst (λ t. Changes code [] (meaning old) (meaning t) × AreWellKept t) (sym same) (no_changes code (meaning old), well)
  come_in_turn (one ∷ others) old new id row lab found is shown rising well all steps =
      let next = steps.0 in
      let step = steps.1 in
      let applies : AppliesWhereKept row.id one old next = subst (λ i. AppliesWhereKept i one old next) (sym is) step.applies in
      let comes : Comes (lab_in old row) one = subst (λ l. Comes l one) (sym shown) all.0 in
      let done = one_comes code one old next row found rising well step.rules comes applies in
      let still = done.2.labs code row found in
      let here : meaning next code ≡ Some (change lab one) =
      done.0.here ∙ ap (λ (o : Option LabRow). changed_in (option_map (lab_in old) o) (one ∷ [])) found ∙ ap (λ l. Some (change l one)) shown in
      let now : lab_in next still.0 ≡ change lab one =
      ap (λ o. unwrap_or o (lab_in next still.0)) (sym (ap (option_map (lab_in next)) still.1) ∙ here) in
      let more = come_in_turn others next new id still.0 (change lab one) still.1 (still.2 ∙ is) now step.rising done.1 all.1 steps.2 in
      (changes_then code one others (meaning old) (meaning next) (meaning new) done.0 more.0, more.1)
