-- A session that is set: its laboratory has it in the place of the one of its token, and no other laboratory sees it.
use Rattle.std.proofs.Common.{◌≡◌, ℕ, ℤ, Bool, true, false, cond, List, [], ◌∷◌, map, filter, find, Option, Some, None, option_map, unwrap_or, refl, sym, ap, ap₂, subst, ◌∙◌, int_eq, bytes_eq}
use Rattle.std.specs.Prelude.{MatchOption}
use Rattle.std.specs.Ordering.{nat_cmp}
use Rattle.std.specs.List.{AllByRecursion}
use Rattle.std.proofs.lemmas.Bool.{and_parts}
use Rattle.sqlite_rules.specs.Lists.{Has}
use Rattle.sqlite_rules.proofs.ListLemmas.{all_from, has_filtered, has_found}
use Rattle.sqlite_keyed.specs.Lists.{sort_by}
use Rattle.sqlite_keyed.proofs.KeyedLemmas.{same_int}
use Rattle.lab_people_access.specs.declared.sessions.Session.{Session}
use Rattle.lab_people_access.specs.Sessions.{session_of}
use Rattle.lab_records_kept.specs.declared.changes.Change.TheVariants.{SessionSet}
use Rattle.lab_records_kept.specs.Changes.{with_session, SameSession, change, ChangesFit}
use Rattle.lab_records_keeper.specs.Worlds.{Changes}
use Rattle.lab_store_tables.specs.Rows.{LabRow, SessionRow, Tables, session_id}
use Rattle.lab_store_tables.specs.Meaning.{lab_in, has_code, meaning, session_in, by_session, sessions_of}
use Rattle.lab_store_tables.specs.WellKept.{AreWellKept}
use Rattle.lab_store_tables.specs.Changes.{person_named, is_session, session_row_of, set_session, Applies}
use Rattle.lab_store_tables.proofs.SortLaws.{all_sorted}
use Rattle.lab_store_tables.proofs.LabLaws.{alike, rows_changed}
use Rattle.lab_store_tables.proofs.TrailLaws.{code_named}
use Rattle.lab_store_tables.proofs.Premises.{AreOwn, own_by_tests, fits_here}
use Rattle.lab_store_tables.proofs.OneRow.{is_top, told_by_text, set_first, row_is_set}
use Rattle.lab_store_tables.proofs.Comparing.{text_is}

with_session_is : (session : Session) (sessions : List Session)
    → with_session session sessions ≡ set_first (λ (one : Session). bytes_eq one.token session.token) session sessions
with_session_is session [] = refl
with_session_is session (one ∷ others) =
    ap (λ list. cond (bytes_eq one.token session.token) (session ∷ others) (one ∷ list)) (with_session_is session others)

-- what is known of the session that has a token is known of the row, where no other row has it
known_of_row : (t : Tables) (token : List ℕ) (top : SessionRow) (P : Session → Type 0) (rows : List SessionRow)
    → AllByRecursion (λ (one : SessionRow). bytes_eq one.token token ≡ true → one ≡ top) rows
    → MatchOption (session_of (map (session_in t) rows) token) ⊥ P → P (session_in t top)
known_of_row t token top P [] all known = absurd known
known_of_row t token top P (one ∷ others) all known = go (bytes_eq one.token token) refl known (known_of_row t token top P others all.1)
  where
    go : (b : Bool) → bytes_eq one.token token ≡ b → MatchOption (cond b (Some (session_in t one)) (session_of (map (session_in t) others) token)) ⊥ P
        → (MatchOption (session_of (map (session_in t) others) token) ⊥ P → P (session_in t top)) → P (session_in t top)
    go true e here more = subst (λ (x : SessionRow). P (session_in t x)) (all.0 e) here
    go false e here more = more here

module _ (t : Tables) (own : AreOwn t) (code : List ℕ) (row : LabRow) (found : find (has_code code) t.labs ≡ Some row)
    (session : Session) (top : SessionRow) (top_found : find (is_session row.id session.token) t.sessions ≡ Some top)
    (person : ℤ) (named : person_named t row.id session.person ≡ Some person)
    (fits : MatchOption (session_of (sessions_of t row.id) session.token) ⊥ (λ (old : Session). SameSession old session)) where
  abbrev new : SessionRow
  new = session_row_of row.id top.id person session

  abbrev after : Tables
  after = set_session new t

  abbrev lab_of : SessionRow → ℤ
  lab_of one = one.lab

  abbrev mine : ℤ → SessionRow → Bool
  mine lab one = int_eq one.lab lab

  abbrev number_of : SessionRow → ℕ
  number_of one = one.number

  abbrev token_of : SessionRow → List ℕ
  token_of one = one.token

  there : Has t.sessions top × (is_session row.id session.token top ≡ true)
  there = has_found (is_session row.id session.token) t.sessions top top_found

  whose : top.lab ≡ row.id
  whose = same_int top.lab row.id (and_parts (int_eq top.lab row.id) (bytes_eq top.token session.token) there.1).0

  has_token : top.token ≡ session.token
  has_token = text_is top.token session.token (and_parts (int_eq top.lab row.id) (bytes_eq top.token session.token) there.1).1

  -- among the laboratory's sessions no other has the token
  only_top : (one : SessionRow) → Has t.sessions one → int_eq one.lab row.id ≡ true → bytes_eq one.token session.token ≡ true → one ≡ top
  only_top one has here =
      is_top session_id lab_of token_of t.sessions own.session_ids own.session_tokens top there.0 session.token has_token one has
      (alike one.lab top.lab (same_int one.lab row.id here ∙ sym whose))

  fits_row : SameSession (session_in t top) session
  fits_row =
      known_of_row t session.token top (λ (old : Session). SameSession old session) (sort_by by_session (filter (mine row.id) t.sessions))
      (all_sorted by_session (λ (one : SessionRow). bytes_eq one.token session.token ≡ true → one ≡ top) (filter (mine row.id) t.sessions)
      (all_from (λ (one : SessionRow). bytes_eq one.token session.token ≡ true → one ≡ top) (filter (mine row.id) t.sessions)
      (λ one has. let it = has_filtered (mine row.id) t.sessions one has in only_top one it.0 it.1)))
      fits

  session_back : session_in t new ≡ session
  session_back = λ i. record session { person = code_named t own.persons row.id session.person person named i }

  sessions_law : (lab : ℤ) → sessions_of after lab ≡ cond (int_eq lab row.id) (with_session session (sessions_of t lab)) (sessions_of t lab)
  sessions_law lab =
      row_is_set session_id t.sessions own.session_ids top there.0 new refl lab_of number_of nat_cmp (sym whose) fits_row.number
      (session_in t) (λ (one : Session). bytes_eq one.token session.token)
      (told_by_text session_id lab_of token_of t.sessions own.session_ids own.session_tokens top there.0 session.token has_token) lab
      ∙ ap₂ (λ at list. cond (int_eq lab at) list (sessions_of t lab)) whose
      (ap (λ one. set_first (λ (x : Session). bytes_eq x.token session.token) one (sessions_of t lab)) session_back
      ∙ sym (with_session_is session (sessions_of t lab)))

  by_case : (lab : LabRow) → lab_in after lab ≡ cond (int_eq lab.id row.id) (change (lab_in t lab) (SessionSet session)) (lab_in t lab)
  by_case lab = go (int_eq lab.id row.id) (sessions_law lab.id)
    where
      go : (b : Bool) → sessions_of after lab.id ≡ cond b (with_session session (sessions_of t lab.id)) (sessions_of t lab.id)
          → lab_in after lab ≡ cond b (change (lab_in t lab) (SessionSet session)) (lab_in t lab)
      go true law = λ i. record (lab_in t lab) { sessions = law i }
      go false law = λ i. record (lab_in t lab) { sessions = law i }

  session_changes : Changes code (SessionSet session ∷ []) (meaning t) (meaning after)
  session_changes = rows_changed t after refl own.labs code row found (SessionSet session) by_case

-- a session is set: it keeps its number, and is found by its token
pub session_is_set : {old new : Tables} {code : List ℕ} {session : Session} → AreWellKept old
    → ChangesFit (meaning old code) (SessionSet session ∷ []) → Applies code (SessionSet session) old new
    → Changes code (SessionSet session ∷ []) (meaning old) (meaning new)
session_is_set {old} {new} {code} {session} well fit it =
    subst (λ t. Changes code (SessionSet session ∷ []) (meaning old) (meaning t)) (sym it.made.made)
    (go (find (is_session it.lab.id session.token) old.sessions) refl it.made.found)
  where
    go : (o : Option SessionRow) → find (is_session it.lab.id session.token) old.sessions ≡ o → option_map session_id o ≡ Some it.made.id
        → Changes code (SessionSet session ∷ []) (meaning old) (meaning (set_session (session_row_of it.lab.id it.made.id it.made.person session) old))
    go None e h = absurd cc
    go (Some top) e h =
        let is : top.id ≡ it.made.id = ap (λ o. unwrap_or o top.id) h in
        subst (λ id. Changes code (SessionSet session ∷ []) (meaning old) (meaning (set_session (session_row_of it.lab.id id it.made.person session) old))) is
        (session_changes old (own_by_tests old well.ids well.keys) code it.lab it.found session top e it.made.person it.made.named
        (fits_here old code it.lab (SessionSet session) it.found fit))
