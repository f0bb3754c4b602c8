-- What was read of the rows that a query shows, as what the tables have.
use Rattle.std.proofs.Common.{◌≡◌, ℕ, ℤ, cond, List, [], ◌∷◌, map, filter, find, slice_get, Some, option_map, refl, sym, ap, ◌∙◌, int_eq, bytes_eq}
use Rattle.std.specs.Cmp.{on_total}
use Rattle.std.proofs.lemmas.Cmp.{nat_cmp_total}
use Rattle.sqlite_keyed.proofs.ListLemmas.{slice_get-filter}
use Rattle.lab_people_access.specs.declared.sessions.Session.{Session}
use Rattle.lab_people_access.specs.Sessions.{session_of}
use Rattle.lab_store_tables.specs.Rows.{SessionRow, Tables}
use Rattle.lab_store_tables.specs.WellKept.{IsWellKept}
use Rattle.lab_store_tables.specs.Changes.{is_session}
use Rattle.lab_store_tables.specs.Meaning.{session_in, sessions_of, by_session}
use Rattle.lab_store_read.proofs.Finds.{found_alone}
use Rattle.lab_store_read_people.specs.SessionsShown.{session_shown, sessions_shown}
use Rattle.lab_store_read_people.specs.Private.SessionsShown.{session_read}
use Rattle.lab_store_read_people.proofs.SessionKeys.{tokens_apart}
use Rattle.lab_store_read.proofs.Lists.{alone_texts}
use Rattle.lab_store_read.proofs.Found.{flag_back}

session_back : (t : Tables) (one : SessionRow) → session_read (session_shown t one) ≡ session_in t one
session_back t one = λ i. record (session_in t one) { closed = flag_back one.closed i; signed = flag_back one.signed i }

session_is_found : (token : List ℕ) (sessions : List Session) → session_of sessions token ≡ find (λ (one : Session). bytes_eq one.token token) sessions
session_is_found token [] = refl
session_is_found token (one ∷ others) = ap (λ more. cond (bytes_eq one.token token) (Some one) more) (session_is_found token others)

first_session_read : (t : Tables) (found : List SessionRow) → option_map session_read (slice_get (map (session_shown t) found) 0) ≡ option_map (session_in t) (slice_get found 0)
first_session_read t [] = refl
first_session_read t (one ∷ more) = ap Some (session_back t one)

pub session_found : (t : Tables) → IsWellKept t → (lab : ℤ) (token : List ℕ)
    → option_map session_read (slice_get (sessions_shown t lab token) 0) ≡ session_of (sessions_of t lab) token
session_found t kept lab token =
    first_session_read t (filter (is_session lab token) t.sessions) ∙ ap (option_map (session_in t)) (slice_get-filter (is_session lab token) t.sessions)
    ∙ sym (session_is_found token (sessions_of t lab)
    ∙ found_alone by_session (on_total (λ (one : SessionRow). one.number) nat_cmp_total) (λ (one : SessionRow). int_eq one.lab lab) (session_in t) (λ (one : Session). bytes_eq one.token token) t.sessions
    (alone_texts (λ (one : SessionRow). one.lab) (λ (one : SessionRow). one.token) lab token t.sessions (tokens_apart t kept)))
