-- Steps of several calls that add rows in turn: versions and records.
use Rattle.std.proofs.Common.{◌≡◌, ℕ, ℤ, Option, Some, None, option_map, refl, sym, ap, subst, ◌∙◌}
use Rattle.sqlite_keyed.specs.Keyed.{next_key}
use Rattle.sqlite_keyed.proofs.KeyedLemmas.{next_key_is_free}
use Rattle.sqlite.specs.State.{State}
use Rattle.lab_records_kept.specs.declared.records.Record.{Record}
use Rattle.lab_records_kept.specs.declared.records.Version.{Version}
use Rattle.lab_store_tables.specs.Rows.{LabRow, RecordRow, Tables, record_id, version_id}
use Rattle.lab_store_tables.specs.Changes.{in_lab, person_named, form_named, record_named, InTurn, IsFree, put_record, record_row_of, put_version, version_row_of, set_current, AddsEntry, AddsSignature, AddsVersion, AddsRecord, OpensVersion}
use Rattle.lab_store_tables.specs.Ready.{tables_of}
use Rattle.lab_store_tables.specs.Family.{Records, Versions}
use Rattle.lab_store_write.specs.declared.named.Giver.{Giver}
use Rattle.lab_store_write.specs.Calls.{Steps, Finds, MadeFrom}
use Rattle.lab_store_write.specs.Givers.{Knows}
use Rattle.lab_store_write.specs.Private.Givers.{EachKnowing}
use Rattle.lab_store_write.proofs.Givers.{known_still, known_turns}
use Rattle.lab_store_write_changes.proofs.Leaving.{persons_of, entry_leaves, signature_leaves, version_leaves}
use Rattle.lab_store_write_changes.specs.RecordsAdded.{with_record, with_version}

pub version_added : (lab : ℤ) (giver : Option Giver) (kept : ℤ) (version : Version) (opener id : ℤ) (a b c d e : State)
    → Steps (Finds (λ t. Knows lab giver t → person_named t lab version.opener ≡ Some opener)) a b
    → Steps (λ before after. (id ≡ next_key version_id before.versions) × (after ≡ with_version kept opener version before)) b c
    → Steps (InTurn (EachKnowing lab giver (AddsEntry lab id)) version.rows) c d
    → Steps (InTurn (EachKnowing lab giver (AddsSignature lab id)) version.signatures) d e
    → Steps (MadeFrom (Knows lab giver) (AddsVersion lab kept version)) a e
version_added lab giver kept version opener id a b c d e p q r s = record {
  inside = s.inside;
  made = λ typed.
      let one = p.made typed in
      let two = q.made one.0 in
      let three = r.made two.0 in
      let four = s.made three.0 in
      let t = tables_of a in
      let is : id ≡ next_key version_id t.versions = two.1.0 ∙ ap (λ (x : Tables). next_key version_id x.versions) one.1.1 in
      let put : tables_of c ≡ put_version (version_row_of kept id opener version) t =
      two.1.1 ∙ ap (with_version kept opener version) one.1.1 ∙ ap (λ (i : ℤ). put_version (version_row_of kept i opener version) t) (sym is) in
      let added : Knows lab giver t → AddsVersion lab kept version t (tables_of e) = λ known.
      let rows = known_turns lab giver (AddsEntry lab id) (entry_leaves lab id) version.rows (tables_of c) (tables_of d) three.1
      (known_still lab giver t (tables_of c) (ap persons_of put) known) in
      record {
        id = id;
        free = subst (IsFree version_id t.versions) (sym is) (next_key_is_free version_id t.versions (typed.rising.at Versions));
        opener = opener;
        named = one.1.0 known;
        entered = tables_of d;
        rows = subst (λ (x : Tables). InTurn (AddsEntry lab id) version.rows x (tables_of d)) put rows.0;
        signatures = (known_turns lab giver (AddsSignature lab id) (signature_leaves lab id) version.signatures (tables_of d) (tables_of e) four.1 rows.1).0;
      } in
      (four.0, added);
  sound = λ typed rules. let one = p.made typed in let two = q.made one.0 in s.sound (r.made two.0).0 (r.sound two.0 (q.sound one.0 (p.sound typed rules)));
}

pub record_added : (lab : ℤ) (giver : Option Giver) (kept : Record) (form id : ℤ) (a b c d e : State)
    → Steps (Finds (λ t. form_named t lab kept.form.code kept.form.version ≡ Some form)) a b
    → Steps (λ before after. (id ≡ next_key record_id before.records) × (after ≡ with_record lab form kept before)) b c
    → Steps (λ before after. after ≡ in_lab lab (λ (one : LabRow). record one { records = kept.number }) before) c d
    → Steps (InTurn (EachKnowing lab giver (AddsVersion lab id)) kept.versions) d e → Steps (MadeFrom (Knows lab giver) (AddsRecord lab kept)) a e
record_added lab giver kept form id a b c d e p q r s = record {
  inside = s.inside;
  made = λ typed.
      let one = p.made typed in
      let two = q.made one.0 in
      let three = r.made two.0 in
      let four = s.made three.0 in
      let t = tables_of a in
      let counted = in_lab lab (λ (row : LabRow). record row { records = kept.number }) in
      let is : id ≡ next_key record_id t.records = two.1.0 ∙ ap (λ (x : Tables). next_key record_id x.records) one.1.1 in
      let put : tables_of d ≡ counted (put_record (record_row_of lab id form kept) t) =
      three.1 ∙ ap counted (two.1.1 ∙ ap (with_record lab form kept) one.1.1 ∙ ap (λ (i : ℤ). put_record (record_row_of lab i form kept) t) (sym is)) in
      let added : Knows lab giver t → AddsRecord lab kept t (tables_of e) = λ known.
      let versions = known_turns lab giver (AddsVersion lab id) (version_leaves lab id) kept.versions (tables_of d) (tables_of e) four.1
      (known_still lab giver t (tables_of d) (ap persons_of put) known) in
      record {
        id = id;
        free = subst (IsFree record_id t.records) (sym is) (next_key_is_free record_id t.records (typed.rising.at Records));
        form = form;
        named = one.1.0;
        versions = subst (λ (x : Tables). InTurn (AddsVersion lab id) kept.versions x (tables_of e)) put versions.0;
      } in
      (four.0, added);
  sound = λ typed rules. let one = p.made typed in let two = q.made one.0 in s.sound (r.made two.0).0 (r.sound two.0 (q.sound one.0 (p.sound typed rules)));
}

-- the row that an id was read of
pub row_of_id : (o : Option RecordRow) (id : ℤ) → option_map record_id o ≡ Some id → (kept : RecordRow) × (o ≡ Some kept) × (kept.id ≡ id)
row_of_id None id h = absurd cc
row_of_id (Some kept) id h = let same : kept.id ≡ id = cc in (kept, refl, same)

pub version_opened : (lab : ℤ) (K : Tables → Type 0) (wanted : ℕ) (version : Version) (id : ℤ) (a b c d : State)
    → Steps (Finds (λ t. option_map record_id (record_named t lab wanted) ≡ Some id)) a b
    → Steps (MadeFrom K (AddsVersion lab id version)) b c → Steps (λ before after. after ≡ set_current id version.origin.number before) c d
    → Steps (MadeFrom K (OpensVersion lab wanted version)) a d
version_opened lab K wanted version id a b c d p q r = record {
  inside = r.inside;
  made = λ typed.
      let one = p.made typed in
      let two = q.made one.0 in
      let three = r.made two.0 in
      let it = row_of_id (record_named (tables_of a) lab wanted) id one.1.0 in
      let opened : K (tables_of a) → OpensVersion lab wanted version (tables_of a) (tables_of d) = λ known. record {
        kept = it.0;
        found = it.1;
        opened = tables_of c;
        added = subst (λ (i : ℤ). AddsVersion lab i version (tables_of a) (tables_of c)) (sym it.2)
            (subst (λ (t : Tables). AddsVersion lab id version t (tables_of c)) one.1.1 (two.1 (subst K (sym one.1.1) known)));
        current = three.1 ∙ ap (λ (i : ℤ). set_current i version.origin.number (tables_of c)) (sym it.2);
      } in
      (three.0, opened);
  sound = λ typed rules. let one = p.made typed in r.sound (q.made one.0).0 (q.sound one.0 (p.sound typed rules));
}
