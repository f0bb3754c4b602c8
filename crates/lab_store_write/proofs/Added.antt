-- Steps of several calls: a session more, a session set.
use Rattle.std.proofs.Common.{◌≡◌, ℕ, ◌<◌, ℤ, Some, sym, ap, subst, ◌∙◌}
use Rattle.sqlite_keyed.specs.Keyed.{next_key}
use Rattle.sqlite_keyed.proofs.KeyedLemmas.{next_key_is_free}
use Rattle.sqlite.specs.State.{State}
use Rattle.lab_people_access.specs.declared.sessions.Session.{Session}
use Rattle.lab_store_tables.specs.Rows.{LabRow, Tables, session_id}
use Rattle.lab_store_tables.specs.Changes.{in_lab, person_named, AddsSession, SetsSession}
use Rattle.lab_store_tables.specs.Ready.{tables_of}
use Rattle.lab_store_tables.specs.Family.{Sessions}
use Rattle.lab_store_write.specs.Calls.{Steps, Finds, MadeFrom}
use Rattle.lab_store_write.proofs.Inside.{steps_then}
use Rattle.lab_store_write.specs.Added.{with_session}
use Rattle.lab_store_write.specs.Private.Added.{SetsIfAny}

-- a session: whose it is, the row, and the counter
pub session_added : (lab : ℤ) (K : Tables → Type 0) (session : Session) (person : ℤ) (a b c d : State)
    → Steps (Finds (λ t. K t → person_named t lab session.person ≡ Some person)) a b
    → Steps (λ before after. after ≡ with_session lab person session before) b c
    → Steps (λ before after. after ≡ in_lab lab (λ (one : LabRow). record one { sessions = session.number }) before) c d → Steps (MadeFrom K (AddsSession lab session)) a d
session_added lab K session person a b c d p q r = record {
  inside = r.inside;
  made = λ typed.
      let one = p.made typed in
      let two = q.made one.0 in
      let three = r.made two.0 in
      let t = tables_of a in
      let added : K t → AddsSession lab session (tables_of a) (tables_of d) = λ known. record {
        id = next_key session_id t.sessions;
        free = next_key_is_free session_id t.sessions (typed.rising.at Sessions);
        person = person;
        named = one.1.0 known;
        made = three.1 ∙ ap (in_lab lab (λ (row : LabRow). record row { sessions = session.number })) (two.1 ∙ ap (with_session lab person session) one.1.1);
      } in
      (three.0, added);
  sound = λ typed rules. let one = p.made typed in r.sound (q.made one.0).0 (q.sound one.0 (p.sound typed rules));
}

-- a session: whose it is, and the row that was set
pub session_set : (lab : ℤ) (K : Tables → Type 0) (session : Session) (person : ℤ) (count : ℕ) (a b c : State) → 0 < count
    → Steps (Finds (λ t. K t → person_named t lab session.person ≡ Some person)) a b → Steps (SetsIfAny lab person session count) b c
    → Steps (MadeFrom K (SetsSession lab session)) a c
session_set lab K session person count a b c some =
    steps_then (Finds (λ t. K t → person_named t lab session.person ≡ Some person)) (SetsIfAny lab person session count) (MadeFrom K (SetsSession lab session)) a b c
    (λ x y z found set known. subst (λ (t : Tables). SetsSession lab session t z) found.1
    (set (some, subst (λ (t : Tables). person_named t lab session.person ≡ Some person) (sym found.1) (found.0 known))))
