-- The sessions that a change of an account closes: which rows the look-ups show, and what closing these in turn makes.
use Rattle.std.proofs.Common.{◌≡◌, ℕ, ℤ, ◌<ℤ◌, pos, Bool, true, false, not, ◌&&◌, ◌==◌, cond, List, [], ◌∷◌, map, filter, fold, IsTrue, IsFalse, codes, Some, refl, ap, ap₂, subst, ◌∙◌, arith, int_eq, int_cmp, Ordering, Less, Equal, Greater, lit≤}
use Rattle.std.specs.List.{AllByRecursion, list_all}
use Rattle.std.specs.Ordering.{is_eq, is_ne}
use Rattle.std.proofs.lemmas.Int.{ints}
use Rattle.std.proofs.lemmas.Bool.Decides.{nat_tests}
use Rattle.sqlite_value.specs.declared.value.Value.TheVariants.{Int}
use Rattle.sqlite_value.specs.declared.keys.Collation.TheVariants.{Binary}
use Rattle.sqlite_value.specs.Order.{Row}
use Rattle.sqlite_value.proofs.OrderLemmas.{value_cmp-Int}
use Rattle.sqlite_sql.specs.Program.{overlay}
use Rattle.sqlite_sql.specs.Ops.{binary, is_true}
use Rattle.sqlite_sql.specs.Term.{Term, lit, col, op2}
use Rattle.sqlite_sql.specs.declared.ops.BinaryOp.TheVariants.{Compare}
use Rattle.sqlite_sql.specs.declared.ops.CompareOp.TheVariants.{Eq, Ne}
use Rattle.sqlite_tied.specs.Compute.{everything}
use Rattle.sqlite_keyed.specs.Keyed.{IsKeyedBy}
use Rattle.sqlite_keyed.specs.Lists.{update_where}
use Rattle.sqlite_keyed.proofs.ListLemmas.{map-map, map_same, all_map, all-filter}
use Rattle.sqlite.specs.Listing.{understood}
use Rattle.sqlite.specs.State.{State, Shown}
use Rattle.lab_people_access.specs.declared.sessions.Closing.{Closing}
use Rattle.lab_people_access.specs.declared.sessions.Closing.TheVariants.{Nothing, All, Others}
use Rattle.lab_store_tables.specs.Rows.{SessionRow, Tables, tables_in, session_id, flag, number}
use Rattle.lab_store_tables.proofs.RowWords.{session_row}
use Rattle.lab_store_tables.specs.Changes.{InTurn, person_named}
use Rattle.lab_store_tables.specs.Held.{IsTyped}
use Rattle.lab_store_tables.specs.Ready.{tables_of}
use Rattle.lab_store_tables.specs.Family.{Sessions}
use Rattle.lab_store_read.proofs.Texts.{Means, is_param}
use Rattle.lab_store_read.proofs.Sorted.{and_true}
use Rattle.lab_store_read.proofs.Lists.{int_alike}
use Rattle.lab_store_write.specs.Calls.{Steps, Finds, MadeFrom}
use Rattle.lab_store_write.specs.Causes.{is_reading, shows_id, IsOurs}
use Rattle.lab_store_write.specs.Ids.{id_read}
use Rattle.lab_store_write.specs.Closings.{is_meant, closed_row, ClosesRow, close_of, is_open_of, opened_shown, ClosesOf}
use Rattle.lab_store_write.proofs.Inside.{steps_then}
use Rattle.lab_store_write.proofs.Lookups.{by_key_query, rows_by_key}
use Rattle.lab_store_write.proofs.Ours.{ours}
use Rattle.lab_store_tables.proofs.Comparing.{truth_is, equal_ints}
pub use Rattle.lab_store_write.specs.Statements.{all_text, others_text}

-- ---- tests

same_test : (a b : ℕ) (x : Bool) → (a == b) ≡ x → is_eq (int_cmp (pos a) (pos b)) ≡ x
same_test a b true e = grind (arith, nat_tests)
same_test a b false e = grind (arith, nat_tests)

ne_is : (o : Ordering) → is_ne o ≡ not (is_eq o)
ne_is Less = refl
ne_is Equal = refl
ne_is Greater = refl

unequal_numbers : (a b : ℕ) → is_true (binary (Compare Ne Binary) (Int (pos a)) (Int (pos b))) ≡ not (a == b)
unfolding binary
unequal_numbers a b = truth_is _ ∙ ap is_ne (value_cmp-Int (pos a) (pos b)) ∙ ne_is (int_cmp (pos a) (pos b)) ∙ ap not (same_test a b (a == b) refl)

is_open : (closed : Bool) → is_true (binary (Compare Eq Binary) (flag closed) (Int (pos 0))) ≡ not closed
is_open true = equal_ints (pos 1) (pos 0)
is_open false = equal_ints (pos 0) (pos 0)

-- ---- the open sessions of a person, and those but one

abbrev open_test : Term
open_test = op2 (Compare Eq Binary) (col 1 8) (lit (Int (pos 0)))

pub all_means : Means all_text (by_key_query 5 (is_param 3 0 ∷ open_test ∷ []) (col 1 0 ∷ [])) (codes "id" ∷ [])
unfolding understood everything
all_means = record { read = (_, refl); command = refl; unlisted = refl; plain = (refl, refl) }

pub all_ours : (person : ℤ) → IsOurs is_reading all_text (Int person ∷ [])
unfolding understood everything
all_ours person = ours _ _ (lit≤ tt, refl, refl, refl, refl) all_means.unlisted

pub all_read : (old new : State) (person : ℤ) (rows : List Row) → IsTyped old.now → Shown all_text (Int person ∷ []) old new rows → rows ≡ opened_shown person All (tables_in old.now.trees)
all_read old new person rows typed h =
    let t = tables_in old.now.trees in
    rows_by_key 5 session_id session_row (λ _. refl) t.sessions (overlay old.now.trees []) (typed.stored.at Sessions) (typed.rising.at Sessions) all_text (is_param 3 0 ∷ open_test ∷ []) (col 1 0 ∷ []) (codes "id" ∷ []) all_means
    (Int person ∷ []) (is_open_of person All) (λ (one : SessionRow). Int one.id ∷ []) (λ x. ap₂ ◌&&◌ (equal_ints x.person person) (ap (λ (b : Bool). b && true) (is_open x.closed))) (λ x. refl) old new typed.schema refl rows h

abbrev others_tests : List Term
others_tests = is_param 3 0 ∷ open_test ∷ op2 (Compare Ne Binary) (col 1 4) (col 0 1) ∷ []

pub others_means : Means others_text (by_key_query 5 others_tests (col 1 0 ∷ [])) (codes "id" ∷ [])
unfolding understood everything
others_means = record { read = (_, refl); command = refl; unlisted = refl; plain = (refl, refl) }

pub others_ours : (person : ℤ) (kept : ℕ) → IsOurs is_reading others_text (Int person ∷ number kept ∷ [])
unfolding understood everything
others_ours person kept = ours _ _ (lit≤ tt, refl, refl, refl, refl) others_means.unlisted

pub others_read : (old new : State) (person : ℤ) (kept : ℕ) (rows : List Row) → IsTyped old.now → Shown others_text (Int person ∷ number kept ∷ []) old new rows → rows ≡ opened_shown person (Others kept) (tables_in old.now.trees)
others_read old new person kept rows typed h =
    let t = tables_in old.now.trees in
    rows_by_key 5 session_id session_row (λ _. refl) t.sessions (overlay old.now.trees []) (typed.stored.at Sessions) (typed.rising.at Sessions) others_text others_tests (col 1 0 ∷ []) (codes "id" ∷ []) others_means
    (Int person ∷ number kept ∷ []) (is_open_of person (Others kept)) (λ (one : SessionRow). Int one.id ∷ [])
    (λ x. ap₂ ◌&&◌ (equal_ints x.person person) (ap₂ ◌&&◌ (is_open x.closed) (and_true _ ∙ unequal_numbers x.number kept))) (λ x. refl) old new typed.schema refl rows h

-- ---- rows closed one after the other, by their ids

abbrev closes : List ℤ → List SessionRow → List SessionRow
closes ids xs = fold (λ (l : List SessionRow) (id : ℤ). update_where (λ (one : SessionRow). int_eq one.id id) closed_row l) xs ids

none_has : (id : ℤ) (xs : List SessionRow) → AllByRecursion (λ (y : SessionRow). id <ℤ y.id) xs → update_where (λ (one : SessionRow). int_eq one.id id) closed_row xs ≡ xs
none_has id [] above = refl
none_has id (x ∷ xs) above = let k = above.0 in let apart : int_eq x.id id ≡ false = grind (arith, ints) in rw apart (ap (λ l. x ∷ l) (none_has id xs above.1))

past : (ids : List ℤ) (x : SessionRow) (xs : List SessionRow) → AllByRecursion (λ id. x.id <ℤ id) ids → closes ids (x ∷ xs) ≡ x ∷ closes ids xs
past [] x xs above = refl
past (id ∷ ids) x xs above =
    let k = above.0 in
    let apart : int_eq x.id id ≡ false = grind (arith, ints) in
    rw apart (past ids x (update_where (λ (one : SessionRow). int_eq one.id id) closed_row xs) above.1)

closes_passing : (p : SessionRow → Bool) (xs : List SessionRow) → IsKeyedBy session_id xs → closes (map session_id (filter p xs)) xs ≡ update_where p closed_row xs
closes_passing p [] up = refl
closes_passing p (x ∷ xs) up = go (p x) (closes_passing p xs up.1)
  where
    above : AllByRecursion (λ id. x.id <ℤ id) (map session_id (filter p xs))
    above = all_map (λ id. x.id <ℤ id) session_id (filter p xs) (all-filter (λ (y : SessionRow). x.id <ℤ y.id) p xs up.0)

    hit : update_where (λ (one : SessionRow). int_eq one.id x.id) closed_row (x ∷ xs) ≡ closed_row x ∷ xs
    hit = rw (int_alike x.id x.id refl) (ap (λ l. closed_row x ∷ l) (none_has x.id xs up.0))

    go : (b : Bool) → closes (map session_id (filter p xs)) xs ≡ update_where p closed_row xs
        → closes (map session_id (cond b (x ∷ filter p xs) (filter p xs))) (x ∷ xs) ≡ cond b (closed_row x) x ∷ update_where p closed_row xs
    go true more = ap (closes (map session_id (filter p xs))) hit ∙ past (map session_id (filter p xs)) (closed_row x) xs above ∙ ap (λ l. closed_row x ∷ l) more
    go false more = past (map session_id (filter p xs)) x xs above ∙ ap (λ l. x ∷ l) more

-- a session that is closed already stays as it is
already : (a b c : Bool) (x : SessionRow) → x.closed ≡ c → cond (a && (not c && b)) (closed_row x) x ≡ cond (a && b) (closed_row x) x
already false b c x e = refl
already true true true x e = λ i. record x { closed = e i }
already true false true x e = refl
already true b false x e = refl

closed_in_turn : (rows : List Row) (a b : Tables) → InTurn ClosesRow rows a b → b ≡ record a { sessions = closes (map id_read rows) a.sessions }
closed_in_turn [] a b h = h
closed_in_turn (row ∷ rows) a b h = closed_in_turn rows h.0 b h.2 ∙ ap (λ (t : Tables). record t { sessions = closes (map id_read rows) t.sessions }) h.1

closed_rows : (person : ℤ) (closing : Closing) (rows : List Row) (a b : Tables) → rows ≡ opened_shown person closing a → IsKeyedBy session_id a.sessions → InTurn ClosesRow rows a b → b ≡ close_of person closing a
closed_rows person closing rows a b are up h =
    let p = is_open_of person closing in
    closed_in_turn rows a b h
    ∙ ap (λ (l : List ℤ). record a { sessions = closes l a.sessions }) (ap (map id_read) are ∙ map-map id_read (λ (one : SessionRow). Int one.id ∷ []) (filter p a.sessions))
    ∙ ap (λ (l : List SessionRow). record a { sessions = l }) (closes_passing p a.sessions up
    ∙ map_same (λ (x : SessionRow). cond (p x) (closed_row x) x) (λ (x : SessionRow). cond (int_eq x.person person && is_meant closing x) (closed_row x) x)
    (λ x. already (int_eq x.person person) (is_meant closing x) x.closed x refl) a.sessions)

-- ---- steps

pub sessions_closed : (person : ℤ) (closing : Closing) (shown rows : List Row) (a b c : State) → shown ≡ rows → Steps (Finds (λ t. rows ≡ opened_shown person closing t)) a b
    → Steps (InTurn ClosesRow shown) b c → Steps (λ before after. after ≡ close_of person closing before) a c
sessions_closed person closing shown rows a b c slice p q = record {
  inside = q.inside;
  made = λ typed.
      let one = p.made typed in
      let two = q.made one.0 in (
        two.0,
        closed_rows person closing shown (tables_of a) (tables_of c) (slice ∙ one.1.0) (typed.rising.at Sessions) (subst (λ (t : Tables). InTurn ClosesRow shown t (tables_of c)) one.1.1 two.1),
      );
  sound = λ typed rules. q.sound (p.made typed).0 (p.sound typed rules);
}

none_meant : (a : Bool) (x : SessionRow) → x ≡ cond (a && false) (closed_row x) x
none_meant true x = refl
none_meant false x = refl

as_they_are : (person : ℤ) (xs : List SessionRow) → xs ≡ update_where (λ (one : SessionRow). int_eq one.person person && false) closed_row xs
as_they_are person [] = refl
as_they_are person (x ∷ xs) = ap₂ ◌∷◌ (none_meant (int_eq x.person person) x) (as_they_are person xs)

pub none_closed : (person : ℤ) (t : Tables) → t ≡ close_of person Nothing t
none_closed person t = ap (λ (l : List SessionRow). record t { sessions = l }) (as_they_are person t.sessions)

pub closes_of : (lab : ℤ) (K : Tables → Type 0) (code : List ℕ) (closing : Closing) (person : ℤ) (a b c : State)
    → Steps (Finds (λ t. K t → person_named t lab code ≡ Some person)) a b
    → Steps (λ before after. after ≡ close_of person closing before) b c → Steps (MadeFrom K (ClosesOf lab code closing)) a c
closes_of lab K code closing person a b c =
    steps_then (Finds (λ t. K t → person_named t lab code ≡ Some person)) (λ before after. after ≡ close_of person closing before) (MadeFrom K (ClosesOf lab code closing)) a b c
    (λ x y z found made known. record { person = person; named = found.0 known; made = made ∙ ap (close_of person closing) found.1 })

pub nothing_closed : (person : ℤ) (s : State) → IsTrue s.in_transaction → Steps (λ before after. after ≡ close_of person Nothing before) s s
nothing_closed person s inside = record { inside = inside; made = λ typed. (typed, none_closed person (tables_of s)); sound = λ _ rules. rules }

-- ---- each row that is shown shows an id

ids_shown : (xs : List SessionRow) → list_all shows_id (map (λ (one : SessionRow). Int one.id ∷ []) xs) ≡ true
ids_shown [] = refl
ids_shown (x ∷ xs) = ids_shown xs

pub opened_read : (person : ℤ) (closing : Closing) (t : Tables) (slice rows : List Row) → slice ≡ rows → rows ≡ opened_shown person closing t → ¬ IsFalse (list_all shows_id slice)
opened_read person closing t slice rows same are unread =
    let all : list_all shows_id slice ≡ true = ap (list_all shows_id) (same ∙ are) ∙ ids_shown (filter (is_open_of person closing) t.sessions) in
    let wrong = unread in absurd cc
