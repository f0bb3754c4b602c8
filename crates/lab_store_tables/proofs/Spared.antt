-- What no change touches: the row of `desk`, and of the rows of laboratories neither ids nor codes.
use Rattle.std.proofs.Common.{◌≡◌, ℕ, ℤ, Bool, true, false, cond, List, [], ◌∷◌, find, Some, option_map, refl, sym, ap, subst, ◌∙◌, int_eq, bytes_eq}
use Rattle.lab_forms.specs.declared.forms.Field.{Field}
use Rattle.lab_seal_versions.specs.declared.rows.EntryRow.{EntryRow as Entry}
use Rattle.lab_records_kept.specs.declared.records.Version.{Version}
use Rattle.lab_records_kept.specs.declared.records.Signature.{Signature}
use Rattle.lab_records_kept.specs.declared.changes.Change.{Change}
use Rattle.lab_records_kept.specs.declared.changes.Change.TheVariants.{Last, Strays, PersonAdded, PersonSet, SessionAdded, SessionSet, SessionsClosed, FormAdded, RecordAdded, RowAdded, VersionOpened, SignatureAdded, TrailAdded}
use Rattle.lab_store_tables.specs.Rows.{LabRow, Tables}
use Rattle.lab_store_tables.specs.Meaning.{has_code}
use Rattle.lab_store_tables.specs.Changes.{InTurn, in_lab, AddsChoice, AddsField, AddsEntry, AddsSignature, AddsVersion, AppliesIn}
use Rattle.lab_store_tables.proofs.LabLaws.{find_set}

pub record Spares (old new : Tables) : Type 0 where
  pub desk : new.desk ≡ old.desk
  pub labs : (code : List ℕ) (lab : LabRow) → find (has_code code) old.labs ≡ Some lab
      → (next : LabRow) × (find (has_code code) new.labs ≡ Some next) × (next.id ≡ lab.id)

-- tables in which both are as they were
pub spared_by : (old new : Tables) → new.desk ≡ old.desk → new.labs ≡ old.labs → Spares old new
spared_by old new desk labs = record { desk = desk; labs = λ code lab found. (lab, ap (find (has_code code)) labs ∙ found, refl) }

pub spared_then : (first next last : Tables) → Spares first next → Spares next last → Spares first last
spared_then first next last p q = record {
  desk = q.desk ∙ p.desk;
  labs = λ code lab found.
      let here = p.labs code lab found in
      let there = q.labs code here.0 here.1 in
      (there.0, there.1, there.2 ∙ here.2);
}

-- a laboratory's own row with its id and its code
module _ (id : ℤ) (next : LabRow → LabRow) (same_id : (one : LabRow) → (next one).id ≡ one.id) (same_code : (one : LabRow) → (next one).code ≡ one.code) (t : Tables) where
  abbrev after : LabRow → LabRow
  after one = cond (int_eq one.id id) (next one) one

  id_stays : (b : Bool) (one : LabRow) → (cond b (next one) one).id ≡ one.id
  id_stays true one = same_id one
  id_stays false one = refl

  pub spared_in_lab : Spares t (in_lab id next t)
  spared_in_lab = record {
    desk = refl;
    labs = λ code lab found. (
      after lab,
      find_set (has_code code) (λ one. int_eq one.id id) next (λ one. ap (λ c. bytes_eq c code) (same_code one)) t.labs ∙ ap (option_map after) found,
      id_stays (int_eq lab.id id) lab,
    );
  }

-- steps in turn, of which each spares both
pub spared_in_turn : {A : Type 0} (step : A → Tables → Tables → Type 0) → ((one : A) (old new : Tables) → step one old new → Spares old new)
    → (items : List A) (old new : Tables) → InTurn step items old new → Spares old new
spared_in_turn step each [] old new same = spared_by old new (ap (λ (t : Tables). t.desk) same) (ap (λ (t : Tables). t.labs) same)
spared_in_turn step each (one ∷ others) old new it =
    spared_then old it.0 new (each one old it.0 it.1) (spared_in_turn step each others it.0 new it.2)

-- tables that are these
as_made : (old made new : Tables) → new ≡ made → Spares old made → Spares old new
as_made old made new is spared = subst (Spares old) (sym is) spared

choice_spares : (field : ℤ) (name : List ℕ) (old new : Tables) → AddsChoice field name old new → Spares old new
choice_spares field name old new it = as_made old _ new it.made (spared_by old _ refl refl)

field_spares : (form : ℤ) (field : Field) (old new : Tables) → AddsField form field old new → Spares old new
field_spares form field old new it =
    spared_then old _ new (spared_by old _ refl refl) (spared_in_turn (AddsChoice it.id) (choice_spares it.id) _ _ new it.choices)

entry_spares : (lab version : ℤ) (entry : Entry) (old new : Tables) → AddsEntry lab version entry old new → Spares old new
entry_spares lab version entry old new it = as_made old _ new it.made (spared_by old _ refl refl)

signature_spares : (lab version : ℤ) (signature : Signature) (old new : Tables) → AddsSignature lab version signature old new → Spares old new
signature_spares lab version signature old new it = as_made old _ new it.made (spared_by old _ refl refl)

version_spares : (lab kept : ℤ) (version : Version) (old new : Tables) → AddsVersion lab kept version old new → Spares old new
version_spares lab kept version old new it =
    spared_then old _ new (spared_by old _ refl refl)
    (spared_then _ it.entered new (spared_in_turn (AddsEntry lab it.id) (entry_spares lab it.id) version.rows _ it.entered it.rows)
    (spared_in_turn (AddsSignature lab it.id) (signature_spares lab it.id) version.signatures it.entered new it.signatures))

-- each change spares both
pub change_spares : (lab : ℤ) (one : Change) (old new : Tables) → AppliesIn lab one old new → Spares old new
change_spares lab (Last moment) old new is =
    as_made old _ new is (spared_in_lab lab (λ (one : LabRow). record one { last = moment }) (λ _. refl) (λ _. refl) old)
change_spares lab (Strays count) old new is =
    as_made old _ new is (spared_in_lab lab (λ (one : LabRow). record one { stray = count }) (λ _. refl) (λ _. refl) old)
change_spares lab (PersonAdded person) old new it = as_made old _ new it.made (spared_by old _ refl refl)
change_spares lab (PersonSet person) old new it = as_made old _ new it.made (spared_by old _ refl refl)
change_spares lab (SessionAdded session) old new it =
    as_made old _ new it.made
    (spared_then old _ _ (spared_by old _ refl refl)
    (spared_in_lab lab (λ (one : LabRow). record one { sessions = session.number }) (λ _. refl) (λ _. refl) _))
change_spares lab (SessionSet session) old new it = as_made old _ new it.made (spared_by old _ refl refl)
change_spares lab (SessionsClosed person closing) old new is = as_made old _ new is (spared_by old _ refl refl)
change_spares lab (FormAdded form) old new it =
    spared_then old _ new (spared_by old _ refl refl) (spared_in_turn (AddsField it.id) (field_spares it.id) form.form.fields _ new it.fields)
change_spares lab (RecordAdded kept) old new it =
    spared_then old _ new (spared_by old _ refl refl)
    (spared_then _ _ new (spared_in_lab lab (λ (one : LabRow). record one { records = kept.number }) (λ _. refl) (λ _. refl) _)
    (spared_in_turn (AddsVersion lab it.id) (version_spares lab it.id) kept.versions _ new it.versions))
change_spares lab (RowAdded number row) old new it = entry_spares lab it.version row old new it.added
change_spares lab (VersionOpened number version) old new it =
    as_made old _ new it.current
    (spared_then old it.opened _ (version_spares lab it.kept.id version old it.opened it.added) (spared_by it.opened _ refl refl))
change_spares lab (SignatureAdded number version signature) old new it =
    signature_spares lab it.signed signature old new it.added
change_spares lab (TrailAdded told) old new it =
    as_made old _ new it.made
    (spared_then old _ _ (spared_by old _ refl refl)
    (spared_in_lab lab (λ (one : LabRow). record one { trail = told.number }) (λ _. refl) (λ _. refl) _))
