-- What was read of the rows of the trail, as what the tables have.
use Rattle.std.proofs.Common.{◌≡◌, ℕ, ℤ, List, Option, map, filter, sym, ap, ◌∙◌, int_eq}
use Rattle.std.specs.Cmp.{on_total}
use Rattle.std.proofs.lemmas.Cmp.{nat_cmp_total}
use Rattle.sqlite_keyed.specs.Lists.{sort_by}
use Rattle.sqlite_keyed.proofs.ListLemmas.{filter-map, map-map, map_same}
use Rattle.lab_records_kept.specs.declared.trails.TrailRow.{TrailRow as Told}
use Rattle.lab_records_kept.specs.Lookups.{is_within, rows_within}
use Rattle.lab_store_tables.specs.Rows.{TrailRow, Tables}
use Rattle.lab_store_tables.specs.Meaning.{told_in, trail_of, by_trail}
use Rattle.lab_store_read_trail.specs.declared.heads.ToldHead.{ToldHead}
use Rattle.lab_store_read_trail.specs.Private.Trails.{told_head, told_heads_within, told_by}
use Rattle.lab_store_read_trail.specs.Shown.{told_shown, told_shown_within, told_read}
use Rattle.lab_store_read.proofs.Found.{id_back}
use Rattle.lab_store_read.proofs.Lists.{both_filtered}
use Rattle.lab_store_read.proofs.Orders.{filter_sorted}

told_back : (one : TrailRow) → told_read (told_shown one) ≡ told_head one
told_back one = λ i. record (told_head one) { person = id_back one.person i }

pub told_found : (t : Tables) (lab : ℤ) (from to : ℕ) → map told_read (told_shown_within t lab from to) ≡ told_heads_within t lab from to
told_found t lab from to = map-map told_read told_shown _ ∙ map_same _ _ told_back _

pub told_built : (t : Tables) (lab : ℤ) (from to : ℕ) → map (told_by t) (told_heads_within t lab from to) ≡ rows_within from to (trail_of t lab)
told_built t lab from to =
    let mine = λ (one : TrailRow). int_eq one.lab lab in
    let within = λ (one : TrailRow). is_within from to one.number in
    map-map (told_by t) told_head _
    ∙ sym (filter-map (λ (row : Told). is_within from to row.number) (told_in t) (sort_by by_trail (filter mine t.trail))
    ∙ ap (map (told_in t)) (filter_sorted by_trail (on_total (λ (one : TrailRow). one.number) nat_cmp_total) within (filter mine t.trail)
    ∙ ap (sort_by by_trail) (both_filtered mine within t.trail)))

-- a row of the trail, with the code of whoever did it
abbrev pub told_with : ToldHead → Option (List ℕ) → Told
told_with head person = record {
  number = head.number;
  moment = head.moment;
  person = person;
  action = head.action;
  subject = head.subject;
}
