-- What each statement on sessions means, and what it makes of the tables.
use Rattle.std.proofs.Common.{◌≡◌, inl, inr, ℕ, ℤ, ◌<ℤ◌, Bool, true, false, not, ◌&&◌, cond, List, [], ◌∷◌, filter, slice_get, codes, option_map, Ok, refl, sym, ap, ap₂, subst, ◌∙◌, arith, lit≤, int_eq, bytes_eq}
use Rattle.std.proofs.lemmas.Int.{ints}
use Rattle.std.proofs.lemmas.Bool.{and_parts, and_from, not-true, both_ways}
use Rattle.sqlite_value.specs.Keys.{plain, first_key}
use Rattle.sqlite_value.specs.Order.{Row, column}
use Rattle.sqlite_schema.specs.declared.schema.Constraint.TheVariants.{Unique}
use Rattle.sqlite_schema.specs.declared.schema.Schema.{Schema}
use Rattle.sqlite_schema.specs.Rules.{Obeys, agree, differ, clashes}
use Rattle.sqlite_sql.specs.Term.{Term}
use Rattle.sqlite_tied.specs.Compute.{everything}
use Rattle.sqlite_rules.specs.Lists.{Has}
use Rattle.sqlite_rules.proofs.ListLemmas.{all_has, all_from, some_from, has_filtered, has_kept}
use Rattle.sqlite_keyed.specs.Keyed.{IsKeyedBy, next_key}
use Rattle.sqlite_keyed.specs.Lists.{update_where}
use Rattle.sqlite_keyed.specs.Rules.{AreApart}
use Rattle.sqlite_keyed.proofs.ListLemmas.{ascending_weaker, slice_get-filter}
use Rattle.sqlite_keyed.proofs.KeyedLemmas.{int_eq_apart, same_int}
use Rattle.sqlite.specs.Effect.{Database, IsDatabase}
use Rattle.sqlite.specs.Listing.{understood}
use Rattle.sqlite.specs.State.{State, Executes}
use Rattle.lab_people_access.specs.declared.sessions.Session.{Session}
use Rattle.lab_store_tables.specs.Schema.{lab_schema}
use Rattle.lab_store_tables.specs.Rows.{SessionRow, Tables, session_id, tables_in, number}
use Rattle.lab_store_tables.proofs.RowWords.{session_row}
use Rattle.lab_store_tables.specs.Changes.{is_session, put_session, session_row_of}
use Rattle.lab_store_tables.specs.Held.{IsTyped}
use Rattle.lab_store_tables.specs.Family.{Sessions}
use Rattle.lab_store_tables.proofs.FamilyWords.{values_of}
use Rattle.lab_store_tables.proofs.LabLaws.{same_id}
use Rattle.lab_store_tables.proofs.RowSet.{map_alike}
use Rattle.lab_store_read.proofs.Texts.{is_param}
use Rattle.lab_store_read.proofs.Sorted.{and_true}
use Rattle.lab_store_read.proofs.Lists.{int_alike}
use Rattle.lab_store_write.specs.Causes.{is_writing, IsOurs}
use Rattle.lab_store_write.proofs.Inserts.{adds, adds_ours}
use Rattle.lab_store_write.proofs.Updates.{IsUpdate, given, sets_where}
use Rattle.lab_store_write.proofs.Inside.{Wrote}
use Rattle.lab_store_write.proofs.Ours.{ours}
use Rattle.lab_store_write.specs.Private.Added.{SetsIfAny}
use Rattle.lab_store_tables.proofs.Comparing.{equal_ints, text_is, text_alike, equal_blobs, ids_differ}
pub use Rattle.lab_store_write.specs.Statements.{add_session_text, set_session_text, set_session_values}

-- ---- a row more of sessions

-- the columns of the row but its ids
abbrev pub session_values : SessionRow → Row
session_values = values_of Sessions

pub adds_session : (one : SessionRow) (old new : State) (count : ℕ) → IsTyped old.now → one.id ≡ next_key session_id (tables_in old.now.trees).sessions → Executes add_session_text (session_values one) old new (Ok count)
    → Wrote (put_session one (tables_in old.now.trees)) new.now
adds_session = adds Sessions

pub add_session_ours : (one : SessionRow) → IsOurs is_writing add_session_text (session_values one)
add_session_ours = adds_ours Sessions

-- ---- the row of a token set

abbrev set_session_tests : List Term
set_session_tests = is_param 2 0 ∷ is_param 5 1 ∷ []

abbrev setting : List (List ℕ × Term)
setting = given 2 (codes "person" ∷ codes "number" ∷ codes "opened" ∷ codes "last" ∷ codes "closed" ∷ codes "signed" ∷ [])

set_session_is : IsUpdate Sessions set_session_tests setting set_session_text
unfolding understood everything
set_session_is = ((refl, refl), refl)

pub set_session_ours : (lab person : ℤ) (session : Session) → IsOurs is_writing set_session_text (set_session_values lab person session)
unfolding understood everything
set_session_ours lab person session = ours _ _ (lit≤ tt, refl, refl, refl, refl) refl

module _ (lab : ℤ) (token : List ℕ) where
  token_agrees : (a b : SessionRow) → is_session lab token a ≡ true → is_session lab token b ≡ true → agree plain (2 ∷ 5 ∷ []) (session_row a) (2 ∷ 5 ∷ []) (session_row b) ≡ true
  unfolding first_key
  token_agrees a b has_a has_b =
      let one = and_parts (int_eq a.lab lab) (bytes_eq a.token token) has_a in
      let two = and_parts (int_eq b.lab lab) (bytes_eq b.token token) has_b in
      ap₂ ◌&&◌ (equal_ints a.lab b.lab) (and_true _ ∙ equal_blobs a.token b.token)
      ∙ and_from _ _ (int_alike a.lab b.lab (same_int a.lab lab one.0 ∙ sym (same_int b.lab lab two.0)))
      (text_alike a.token b.token (text_is a.token token one.1 ∙ sym (text_is b.token token two.1)))

  -- a database that obeys its rules has no two rows of one laboratory with one token
  one_token : (db : Database) → db.schema ≡ lab_schema → IsDatabase db → (a b : SessionRow) → is_session lab token a ≡ true → is_session lab token b ≡ true → a.id <ℤ b.id
      → Has (db.trees 5) (session_row a) → Has (db.trees 5) (session_row b) → ⊥
  one_token db schema rules a b is_a is_b low has_a has_b =
      let places : List ℕ = 2 ∷ 5 ∷ [] in
      let obeys = subst (λ (s : Schema). Obeys s db.trees) schema rules.obeys in
      let rule = all_has _ (db.trees 5) (session_row b) (obeys.rules Unique).1.1.1.0 has_b in
      let none = not-true _ (and_parts (not (clashes plain places (db.trees 5) (session_row b))) _ rule).0 in
      let some : clashes plain places (db.trees 5) (session_row b) ≡ true =
      some_from (λ (x : Row). agree plain places x places (session_row b) && differ (column x 0) (column (session_row b) 0)) (db.trees 5) (session_row a) has_a
      (and_from _ _ (token_agrees a b is_a is_b) (ids_differ a.id b.id low)) in
      both_ways _ none some

-- a test that one row passes sets that row
module _ (mine : SessionRow → Bool) (next : SessionRow → SessionRow) (xs : List SessionRow) (rise : IsKeyedBy session_id xs) (one : SessionRow) (found : filter mine xs ≡ one ∷ []) where
  is_one : (x : SessionRow) → Has xs x → mine x ≡ true → x ≡ one
  is_one x has is = go (subst (λ (l : List SessionRow). Has l x) found (has_kept mine xs x has is))
    where
      go : Has (one ∷ []) x → x ≡ one
      go (inl same) = same
      go (inr none) = absurd none

  there : Has xs one × (mine one ≡ true)
  there = has_filtered mine xs one (subst (λ (l : List SessionRow). Has l one) (sym found) (inl refl))

  sets_one : (row : SessionRow) → row.id ≡ one.id → next one ≡ row → update_where mine next xs ≡ update_where (λ (x : SessionRow). int_eq x.id row.id) (λ (x : SessionRow). row) xs
  sets_one row id is =
      map_alike _ _ xs (all_from _ xs (λ x has. go x has (mine x) refl))
    where
      own : AreApart (λ (a b : SessionRow). int_eq a.id b.id) xs
      own = ascending_weaker (λ (a b : SessionRow). a.id <ℤ b.id) (λ (a b : SessionRow). int_eq a.id b.id ≡ false) (λ a b low. grind (arith, ints)) xs rise

      go : (x : SessionRow) → Has xs x → (b : Bool) → mine x ≡ b → cond b (next x) x ≡ cond (int_eq x.id row.id) row x
      go x has true e =
          let same = is_one x has e in
          ap next same ∙ is ∙ sym (ap (λ (b : Bool). cond b row x) (int_alike x.id row.id (ap session_id same ∙ sym id)))
      go x has false e =
          let other : int_eq x.id row.id ≡ false =
          int_eq_apart x.id row.id (λ same. let yes = ap mine (same_id session_id xs x one own has there.0 (same ∙ id)) ∙ there.1 in cc) in
          sym (ap (λ (b : Bool). cond b row x) other)

pub sets_session : (lab person : ℤ) (session : Session) (old new : State) (count : ℕ) → IsTyped old.now → Executes set_session_text (set_session_values lab person session) old new (Ok count)
    → (t : Tables) × Wrote t new.now × SetsIfAny lab person session count (tables_in old.now.trees) t
sets_session lab person session old new count typed did =
    let t = tables_in old.now.trees in
    let mine = is_session lab session.token in
    let next = λ (one : SessionRow). record one { person = person; number = session.number; opened = session.opened; last = session.last; closed = session.closed; signed = session.signed } in
    let it = sets_where Sessions set_session_tests setting set_session_text set_session_is (set_session_values lab person session) mine next
    (λ x. ap₂ ◌&&◌ (equal_ints x.lab lab) (and_true _ ∙ equal_blobs x.token session.token)) (λ _. refl) (λ _. refl)
    (λ db named rules a b. one_token lab session.token db named rules (next a) (next b)) old new count typed did in
    let after = record t { sessions = update_where mine next t.sessions } in
    let set : SetsIfAny lab person session count t after = λ asked.
    let one = it.one asked.0 in
    let row = session_row_of lab one.0.id person session in
    let has = and_parts (int_eq one.0.lab lab) (bytes_eq one.0.token session.token) (there mine next t.sessions (typed.rising.at Sessions) one.0 one.1).1 in
    let same : next one.0 ≡ row = λ i. record row { lab = same_int one.0.lab lab has.0 i; token = text_is one.0.token session.token has.1 i } in
    record {
      id = one.0.id;
      found = ap (option_map session_id) (sym (slice_get-filter mine t.sessions) ∙ ap (λ (l : List SessionRow). slice_get l 0) one.1);
      person = person;
      named = asked.1;
      made = ap (λ (l : List SessionRow). record t { sessions = l }) (sets_one mine next t.sessions (typed.rising.at Sessions) one.0 one.1 row refl same);
    } in
    (after, it.wrote, set)
