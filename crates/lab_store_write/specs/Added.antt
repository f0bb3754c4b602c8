-- Tables with a session more, under the next id, and tables with a session set.
use Rattle.std.specs.Prelude.{ℤ}
use Rattle.sqlite_keyed.specs.Keyed.{next_key}
use Rattle.lab_people_access.specs.declared.sessions.Session.{Session}
use Rattle.lab_store_tables.specs.Rows.{Tables, session_id}
use Rattle.lab_store_tables.specs.Changes.{put_session, session_row_of}

abbrev pub with_session : ℤ → ℤ → Session → Tables → Tables
with_session lab person session t =
    put_session (session_row_of lab (next_key session_id t.sessions) person session) t
