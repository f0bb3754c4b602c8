-- How many a laboratory has, by the counters of its own row.
use Rattle.std.proofs.Common.{◌≡◌, Bool, true, false, cond, List, [], ◌∷◌, map, filter, find, length, Some, Ordering, sym, ◌∙◌, IfSome, int_eq}
use Rattle.std.specs.List.{AllByRecursion}
use Rattle.std.specs.Cmp.{IsTotalOrder, on_total}
use Rattle.std.proofs.lemmas.Bool.{and_parts, eqb-true}
use Rattle.std.proofs.lemmas.Cmp.{nat_cmp_total}
use Rattle.std.proofs.lemmas.List.{length-map}
use Rattle.std.proofs.lemmas.List.Sorted.{length_permutation}
use Rattle.sqlite_keyed.specs.Lists.{sort_by}
use Rattle.sqlite_keyed.proofs.ListLemmas.{all_from_test}
use Rattle.sqlite_keyed.proofs.SortLemmas.{IsPermutation-sort_by}
use Rattle.lab_records_kept.specs.Parts.{counts_of}
use Rattle.lab_store_tables.specs.Rows.{LabRow, SessionRow, RecordRow, TrailRow, Tables}
use Rattle.lab_store_tables.specs.WellKept.{IsWellKept, has_counted}
use Rattle.lab_store_tables.specs.Meaning.{session_in, by_session, record_in, by_record, told_in, by_trail, lab_in}
use Rattle.lab_store_read_records.specs.Heads.{lab_head}
use Rattle.lab_store_load.specs.Lists.{counts_by}

-- what is found is among all
pub found_among : {X : Type 0} (p : X → Bool) (Q : X → Type 0) (xs : List X) → AllByRecursion Q xs → IfSome (find p xs) Q
found_among p Q [] all = tt
found_among p Q (x ∷ xs) all = elim (p x) as (λ b. IfSome (cond b (Some x) (find p xs)) Q) [ true ↦ all.0 | false ↦ found_among p Q xs all.1 ]

-- no row is lost where rows are put in order and read
as_many : {X Y : Type 0} (cmp : X → X → Ordering) → IsTotalOrder cmp → (f : X → Y) (xs : List X) → length xs ≡ length (map f (sort_by cmp xs))
as_many cmp total f xs = length_permutation _ _ (IsPermutation-sort_by cmp total xs) ∙ sym (length-map (sort_by cmp xs) f)

pub counted : (t : Tables) (row : LabRow) → has_counted t row ≡ true → counts_by t (lab_head row) ≡ counts_of (lab_in t row)
counted t row h =
    let last = and_parts _ _ h in
    let first = and_parts _ _ last.0 in
    let records = eqb-true row.records _ first.0 ∙ as_many by_record (on_total (λ (one : RecordRow). one.number) nat_cmp_total) (record_in t row.code) (filter (λ (one : RecordRow). int_eq one.lab row.id) t.records) in
    let sessions = eqb-true row.sessions _ first.1 ∙ as_many by_session (on_total (λ (one : SessionRow). one.number) nat_cmp_total) (session_in t) (filter (λ (one : SessionRow). int_eq one.lab row.id) t.sessions) in
    let trail = eqb-true row.trail _ last.1 ∙ as_many by_trail (on_total (λ (one : TrailRow). one.number) nat_cmp_total) (told_in t) (filter (λ (one : TrailRow). int_eq one.lab row.id) t.trail) in
    λ i. record (counts_of (lab_in t row)) { sessions = sessions i; records = records i; trail = trail i }

pub all_counted : (t : Tables) → IsWellKept t → AllByRecursion (λ row. has_counted t row ≡ true) t.labs
all_counted t kept = all_from_test (has_counted t) t.labs (and_parts _ _ (and_parts _ _ kept.rows.alike).0).0
