-- Sessions: by which token one is found, how long it lives, and which of them a change of its
-- person's account closes (21 CFR 11.200(a)(1)(i), a "single, continuous period of controlled
-- system access"; the spans of time are this system's own).
use Rattle.std.specs.Prelude.{ℕ, ◌-◌, Bool, true, false, not, ◌&&◌, ◌==◌, nat_le, List, [], ◌∷◌, map, Option, Some, None, is_some, bytes_eq, if◌then◌else◌}
use Rattle.lab_people_access.specs.declared.sessions.Session.{Session}
use Rattle.lab_people_access.specs.declared.sessions.Closing.{Closing}
use Rattle.lab_people_access.specs.declared.sessions.Closing.TheVariants.{Nothing, All, Others}
use Rattle.lab_people_access.specs.declared.sessions.TheConstants.{REST_SPAN, SECONDS_OF_SESSION}

-- the session whose token has the digest, open or closed, among those of a laboratory
abbrev pub session_of : List Session → List ℕ → Option Session
session_of [] digest = None
session_of (one ∷ others) digest =
    if bytes_eq one.token digest then Some one else session_of others digest

-- a session has the token of that digest
abbrev pub has_token : List Session → List ℕ → Bool
has_token sessions digest = is_some (session_of sessions digest)

-- the seconds that a session lives after its last request, and those after its opening: 15 minutes
-- and 8 hours
abbrev pub rest_span : ℕ
rest_span = REST_SPAN

abbrev pub session_span : ℕ
session_span = SECONDS_OF_SESSION

-- a session lives while it isn't closed, until one of its spans has passed
abbrev pub is_live : Session → ℕ → Bool
is_live session moment =
    not session.closed && nat_le (moment - session.last) rest_span
    && nat_le (moment - session.opened) session_span

-- a session after a request at the moment
abbrev pub touched_session : ℕ → Session → Session
touched_session moment session = record session { last = moment }

-- a session that was closed
abbrev pub closed_session : Session → Session
closed_session session = record session { closed = true }

-- a session that is marked, since something was signed in it
abbrev pub signed_session : Session → Session
signed_session session = record session { signed = true }

-- which sessions are closed: nothing, all of a person's, or all of a person's but the one of that
-- number
abbrev pub is_closed_by : Closing → List ℕ → Session → Bool
is_closed_by Nothing person session = false
is_closed_by All person session = bytes_eq session.person person
is_closed_by (Others number) person session =
    bytes_eq session.person person && not (session.number == number)

-- one session after that
abbrev pub session_after : Closing → List ℕ → Session → Session
session_after closing person session =
    if is_closed_by closing person session then closed_session session else session

-- all sessions of a laboratory after that
abbrev pub sessions_after : Closing → List ℕ → List Session → List Session
sessions_after closing person sessions = map (session_after closing person) sessions
