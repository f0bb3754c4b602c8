-- Steps of several calls: a row of the trail.
use Rattle.std.proofs.Common.{◌≡◌, ℕ, ℤ, Bool, true, false, cond, List, [], ◌∷◌, Option, Some, None, refl, sym, ap, ap₂, ◌∙◌, int_eq}
use Rattle.sqlite_keyed.specs.Keyed.{IsKeyedBy, next_key}
use Rattle.sqlite_keyed.specs.Lists.{update_where}
use Rattle.sqlite_keyed.proofs.KeyedLemmas.{next_key_is_free}
use Rattle.sqlite.specs.State.{State}
use Rattle.lab_records_kept.specs.declared.trails.TrailRow.{TrailRow as Told}
use Rattle.lab_store_tables.specs.Rows.{LabRow, Tables, trail_id}
use Rattle.lab_store_tables.specs.Changes.{in_lab, IsNamedIfAny}
use Rattle.lab_store_tables.specs.Ready.{tables_of}
use Rattle.lab_store_tables.specs.Family.{Trail}
use Rattle.lab_store_write.specs.Calls.{Steps, Finds, MadeFrom}
use Rattle.lab_store_write.proofs.Inside.{steps_weaker}
use Rattle.lab_store_write.specs.TrailAdded.{with_told, with_last, AddsLastTold}
use Rattle.lab_store_write.specs.Private.TrailAdded.{with_count}

-- ---- the last moment is set with the counter

set_twice : (id : ℤ) (moment count : ℕ) (labs : List LabRow)
    → update_where (λ (one : LabRow). int_eq one.id id) (λ (one : LabRow). record one { last = moment; trail = count }) labs
    ≡ update_where (λ (one : LabRow). int_eq one.id id) (λ (one : LabRow). record one { trail = count })
    (update_where (λ (one : LabRow). int_eq one.id id) (λ (one : LabRow). record one { last = moment }) labs)
set_twice id moment count [] = refl
set_twice id moment count (x ∷ xs) = ap₂ ◌∷◌ (go (int_eq x.id id) refl) (set_twice id moment count xs)
  where
    go : (b : Bool) → int_eq x.id id ≡ b
        → cond b (record x { last = moment; trail = count }) x
        ≡ cond (int_eq (cond b (record x { last = moment }) x).id id) (record (cond b (record x { last = moment }) x) { trail = count }) (cond b (record x { last = moment }) x)
    go true is = ap (λ (c : Bool). cond c (record x { last = moment; trail = count }) (record x { last = moment })) (sym is)
    go false is = ap (λ (c : Bool). cond c (record x { trail = count }) x) (sym is)

-- the statement that sets both, and the one that sets the counter alone
pub last_and_count : (lab : ℤ) (last : Option ℕ) (moment count : ℕ) (a b : State) → last ≡ Some moment
    → Steps (λ before after. after ≡ in_lab lab (λ (one : LabRow). record one { last = moment; trail = count }) before) a b
    → Steps (λ before after. after ≡ with_count lab last count before) a b
last_and_count lab last moment count a b is =
    steps_weaker _ _ a b
    (λ before after made. made ∙ (λ i. record before { labs = set_twice lab moment count before.labs i }) ∙ ap (λ (o : Option ℕ). with_count lab o count before) (sym is))

pub count_alone : (lab : ℤ) (last : Option ℕ) (count : ℕ) (a b : State) → last ≡ None
    → Steps (λ before after. after ≡ in_lab lab (λ (one : LabRow). record one { trail = count }) before) a b
    → Steps (λ before after. after ≡ with_count lab last count before) a b
count_alone lab last count a b is =
    steps_weaker _ _ a b (λ before after made. made ∙ ap (λ (o : Option ℕ). with_count lab o count before) (sym is))

pub named_still : (lab : ℤ) (moment : ℕ) (t : Tables) (code : Option (List ℕ)) (person : Option ℤ) → IsNamedIfAny t lab code person → IsNamedIfAny (with_last lab (Some moment) t) lab code person
named_still lab moment t None person it = it
named_still lab moment t (Some code) person it = it

-- ---- a row of the trail

-- the row and the counter, where it is known who is named
told_by : (lab : ℤ) (told : Told) (person : Option ℤ) (last : Option ℕ) (t new : Tables) → IsKeyedBy trail_id t.trail → IsNamedIfAny t lab told.person person
    → new ≡ with_count lab last told.number (with_told lab person told t) → AddsLastTold lab last told t new
told_by lab told person None t new rising named made = record {
  id = next_key trail_id t.trail;
  free = next_key_is_free trail_id t.trail rising;
  person = person;
  named = named;
  made = made;
}
told_by lab told person (Some moment) t new rising named made = record {
  id = next_key trail_id t.trail;
  free = next_key_is_free trail_id t.trail rising;
  person = person;
  named = named_still lab moment t told.person person named;
  made = made;
}

-- who is named, the row, and the counter
pub told_added : (lab : ℤ) (K : Tables → Type 0) (told : Told) (person : Option ℤ) (last : Option ℕ) (a b c d : State)
    → Steps (Finds (λ t. K t → IsNamedIfAny t lab told.person person)) a b
    → Steps (λ before after. after ≡ with_told lab person told before) b c
    → Steps (λ before after. after ≡ with_count lab last told.number before) c d → Steps (MadeFrom K (AddsLastTold lab last told)) a d
told_added lab K told person last a b c d p q r = record {
  inside = r.inside;
  made = λ typed.
      let one = p.made typed in
      let two = q.made one.0 in
      let three = r.made two.0 in
      let made = three.1 ∙ ap (with_count lab last told.number) (two.1 ∙ ap (with_told lab person told) one.1.1) in
      (three.0, λ known. told_by lab told person last (tables_of a) (tables_of d) (typed.rising.at Trail) (one.1.0 known) made);
  sound = λ typed rules. let one = p.made typed in r.sound (q.made one.0).0 (q.sound one.0 (p.sound typed rules));
}
