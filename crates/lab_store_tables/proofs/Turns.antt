-- Steps that are made in turn: what each of them leaves, all of them do.
use Rattle.std.proofs.Common.{◌≡◌, List, [], ◌∷◌, sym, ap, subst, ◌∙◌}
use Rattle.lab_store_tables.specs.Rows.{Tables}
use Rattle.lab_store_tables.specs.Changes.{InTurn}

-- what is read of the tables
pub turns_leave : {A B : Type 0} (step : A → Tables → Tables → Type 0) (read : Tables → B)
    → ((one : A) (old new : Tables) → step one old new → read new ≡ read old)
    → (items : List A) (old new : Tables) → InTurn step items old new → read new ≡ read old
turns_leave step read leaves [] old new turns = ap read turns
turns_leave step read leaves (one ∷ others) old new turns = turns_leave step read leaves others turns.0 new turns.2 ∙ leaves one old turns.0 turns.1

-- what holds of them
pub turns_keep : {A : Type 0} (step : A → Tables → Tables → Type 0) (Holds : Tables → Type 0)
    → ((one : A) (old new : Tables) → step one old new → Holds old → Holds new)
    → (items : List A) (old new : Tables) → InTurn step items old new → Holds old → Holds new
turns_keep step Holds keeps [] old new turns held = subst Holds (sym turns) held
turns_keep step Holds keeps (one ∷ others) old new turns held = turns_keep step Holds keeps others turns.0 new turns.2 (keeps one old turns.0 turns.1 held)
