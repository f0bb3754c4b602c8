-- What readable rows of persons and of the trail have, as those who are made of them have it.
use Rattle.std.proofs.Common.{◌≡◌, ℤ, All, List, map, sym, ◌∙◌, subst, refl, Result, Ok, Err, IfErr}
use Rattle.std.proofs.lemmas.List.Elements.{All-map}
use Rattle.sqlite.specs.Effect.{Database}
use Rattle.lab_store_tables.specs.Rows.{Tables}
use Rattle.lab_store_read_people.specs.declared.heads.PersonHead.{PersonHead}
use Rattle.lab_store_read_people.specs.Private.Heads.{person_heads_of}
use Rattle.lab_store_read_trail.specs.declared.heads.ToldHead.{ToldHead}
use Rattle.lab_store_read_trail.specs.Shown.{told_read}
use Rattle.lab_move_tables.specs.declared.older.Older.{Older}
use Rattle.lab_move_tables.specs.Standing.{AreLifted}
use Rattle.lab_move_tables.specs.Shown.{persons_shown, trail_shown}
use Rattle.lab_move_read_people.specs.Persons.{person_read}
use Rattle.lab_move_read_people.specs.Readable.{HasAsker, HasDoer}
use Rattle.lab_move_read_people.specs.Private.Trails.{told_heads_of}
use Rattle.lab_move_read_people.proofs.PeopleFound.{persons_found, told_done}

pub all_askers : (older : Older) (t : Tables) → AreLifted older t → (db : Database) (lab : ℤ) (heads : List PersonHead) → heads ≡ person_heads_of t lab
    → All (λ row. HasAsker db t (person_read older row)) (persons_shown older t lab) → All (HasAsker db t) heads
all_askers older t of db lab heads is all =
    subst (All (HasAsker db t)) (persons_found older t of lab ∙ sym is) (All-map (HasAsker db t) (person_read older) (persons_shown older t lab) all)

pub all_doers : (t : Tables) (db : Database) (lab : ℤ) (heads : List ToldHead) → heads ≡ told_heads_of t lab
    → All (λ row. HasDoer db t (told_read row)) (trail_shown t lab) → All (HasDoer db t) heads
all_doers t db lab heads is all =
    subst (All (HasDoer db t)) ((told_done t lab 0 (trail_shown t lab) refl).1 ∙ sym is) (All-map (HasDoer db t) told_read (trail_shown t lab) all)

-- where what is read is there, the fault of what isn't readable isn't told
pub unread_none : {T F Q : Type 0} (one : F) → Q → (r : Result T F) → IfErr r (λ fault. fault ≡ one → ¬ Q) → IfErr r (λ fault. ¬ (fault ≡ one))
unread_none one q (Ok it) h = tt
unread_none one q (Err fault) h = λ told. h told q
