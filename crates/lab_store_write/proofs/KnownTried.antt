-- Values from outside, computed on the definitions over the small file of lab_store_tables: which statements the writers try, and
-- over which tables; and statements that they don't. One that is refused meets the cause of its writer (docs/TABLES.md).
use Rattle.std.proofs.Common.{◌≡◌, inl, inr, ℕ, ℤ, pos, Bool, ◌==◌, [], ◌∷◌, codes, length, get_or, Some, None, Err, refl, ap}
use Rattle.sqlite_value.specs.declared.value.Value.TheVariants.{Int}
use Rattle.sqlite.specs.declared.error.Error.{Error}
use Rattle.sqlite.specs.State.{State, ExecutesInside}
use Rattle.lab_people_access.specs.declared.sessions.Closing.TheVariants.{Nothing, All}
use Rattle.lab_store_tables.specs.Rows.{Tables}
use Rattle.lab_store_tables.proofs.KnownFile.{file}
use Rattle.lab_store_tables.proofs.KnownValues.{eve}
use Rattle.lab_store_write.specs.Added.{with_session}
use Rattle.lab_store_write.specs.Causes.{statement, Statement, RunsInside, FailsTrying}
use Rattle.lab_store_write.specs.Statements.{asking_person, adding_person, setting_person, adding_session, setting_session, counting_sessions, asking_sessions, closing_session, setting_last, setting_strays, adding_told, counting_trail}
use Rattle.lab_store_write.specs.Tried.{Only, TriesToAddPerson, TriesToSetPerson, TriesToAddSession, TriesToSetSession, TriesToCloseOf, TriesToAddTold}
use Rattle.lab_store_write.specs.TrailAdded.{with_told}
use Rattle.lab_store_write.proofs.Failing.{ran_badly_by}
use Rattle.lab_store_write.proofs.KnownSessions.{third, later}
use Rattle.lab_store_write.proofs.KnownValues.{locked}
use Rattle.lab_store_write.proofs.LabWrites.{last_text, last_ours}

-- ---- the laboratory's row

pub known_last : Only (setting_last (pos 7) 1600) file (statement (codes "UPDATE labs SET last = ?2 WHERE id = ?1") (Int (pos 7) ∷ Int (pos 1600) ∷ [])) file
known_last = (refl, refl)

pub known_strays : Only (setting_strays (pos 7) 4) file (statement (codes "UPDATE labs SET stray = ?2 WHERE id = ?1") (Int (pos 7) ∷ Int (pos 4) ∷ [])) file
known_strays = (refl, refl)

-- the statement was refused
pub known_refused : {T : Type 0} (state : T → State) (lab : ℤ) (a b : T) (e : Error) → RunsInside (state a) (state b) → ExecutesInside 0 last_text (Int lab ∷ Int (pos 1600) ∷ []) (state a) (state b) (Err e)
    → FailsTrying (Only (setting_last lab 1600)) state a b e
known_refused state lab a b e goes ran = ran_badly_by state (Only (setting_last lab 1600)) last_text (Int lab ∷ Int (pos 1600) ∷ []) (last_ours lab 1600) a b e (refl, refl) goes ran

-- ---- what tells statements apart

abbrev begins : ℕ → Statement → Bool
begins letter one = get_or one.sql 0 0 == letter

abbrev wants : ℕ → Statement → Bool
wants count one = length one.params == count

-- the trail's counter isn't set with it
pub known_other : Only (setting_last (pos 7) 1600) file (counting_trail (pos 7) (Some 1600) 13) file → ⊥
known_other it = let wrong = ap (wants 3) it.0 in cc

-- ---- persons

-- who asked for eve's one-time word is looked up; and the row is added with that person's id
pub known_person_added : TriesToAddPerson (pos 7) eve file (asking_person (pos 7) (codes "ann")) file × TriesToAddPerson (pos 7) eve file (adding_person (pos 7) (Some (pos 4)) eve) file
known_person_added = (inl (codes "ann", refl, (refl, refl)), inr (Some (pos 4), (pos 4, refl, refl), (refl, refl)))

pub known_person_set : TriesToSetPerson (pos 7) eve file (setting_person (pos 7) (pos 6) (Some (pos 4)) eve) file
known_person_set = inr (inr (pos 6, refl, Some (pos 4), (pos 4, refl, refl), (refl, refl)))

-- ---- sessions

-- whose it is, the row, and the counter over the tables with the row
pub known_session_added : TriesToAddSession (pos 7) third file (asking_person (pos 7) (codes "dan")) file × TriesToAddSession (pos 7) third file (adding_session (pos 7) (pos 2) third) file
    × TriesToAddSession (pos 7) third file (counting_sessions (pos 7) 3) (with_session (pos 7) (pos 2) third file)
known_session_added = (inl (refl, refl), inr (pos 2, refl, inl (refl, refl)), inr (pos 2, refl, inr (refl, refl)))

grown : (person : ℤ) → file ≡ with_session (pos 7) person third file → ⊥
grown person same = let wrong = ap (λ (t : Tables). length t.sessions == 4) same in cc

-- the sessions aren't counted before the row is there
pub known_uncounted : TriesToAddSession (pos 7) third file (counting_sessions (pos 7) 3) file → ⊥
known_uncounted (inl asked) = let wrong = ap (begins 85) asked.0 in cc
known_uncounted (inr it) = elim it.2 [ inl row ↦ (let wrong = ap (begins 85) row.0 in cc) | inr counter ↦ grown it.0 counter.1 ]

pub known_session_set : TriesToSetSession (pos 7) later file (setting_session (pos 7) (pos 2) later) file
known_session_set = inr (pos 2, refl, (refl, refl))

-- dan's one open session is looked up, and closed by its id
pub known_closed : TriesToCloseOf (pos 7) (codes "dan") All file (asking_sessions (pos 2)) file × TriesToCloseOf (pos 7) (codes "dan") All file (closing_session (pos 3)) file
known_closed = (
  inr (pos 2, refl, inl (refl, refl)),
  inr (pos 2, refl, inr (record { before = []; one = Int (pos 3) ∷ []; behind = []; whole = refl; begun = file; made = refl; next = (refl, refl) })),
)

-- where nothing is closed, the person alone is looked up
pub known_unclosed : TriesToCloseOf (pos 7) (codes "dan") Nothing file (closing_session (pos 3)) file → ⊥
known_unclosed (inl asked) = let wrong = ap (begins 85) asked.0 in cc
known_unclosed (inr it) = it.2

-- ---- the trail

-- nobody is named
pub known_told : TriesToAddTold (pos 7) (Some 1600) locked file (adding_told (pos 7) None locked) file
    × TriesToAddTold (pos 7) (Some 1600) locked file (counting_trail (pos 7) (Some 1600) 13) (with_told (pos 7) None locked file)
known_told = (inr (None, refl, inl (refl, refl)), inr (None, refl, inr (refl, refl)))
