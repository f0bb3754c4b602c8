-- Calls inside a transaction: what a statement that ended well makes, and calls one after the other.
use Rattle.std.proofs.Common.{◌⊎◌, inl, inr, ℕ, ◌+◌, ◌<◌, List, [], ◌∷◌, ◌++◌, take, length, get_or, Ok, Err, Result, IfOk, IsTrue, refl, sym, subst, ◌∙◌}
use Rattle.std.proofs.lemmas.List.{take_more}
use Rattle.sqlite_value.specs.Order.{Row}
use Rattle.sqlite.specs.declared.error.Error.{Error}
use Rattle.sqlite.specs.Effect.{Database, IsDatabase}
use Rattle.sqlite.specs.State.{State, Executes, ExecutesInside, IsUnchanged, IsRolledBack, KeepsCommit, Survives}
use Rattle.sqlite.proofs.StateLemmas.{survives_then}
use Rattle.lab_store_tables.specs.Rows.{Tables}
use Rattle.lab_store_tables.specs.Changes.{InTurn}
use Rattle.lab_store_tables.specs.Held.{IsTyped, Holds}
use Rattle.lab_store_tables.specs.Ready.{tables_of}
use Rattle.lab_store_write.specs.Calls.{Steps, Finds, MadeFrom}

-- ---- a statement

-- the database holds these tables, and obeys its own rules
pub record Wrote (t : Tables) (db : Database) : Type 0 where
  pub held : Holds db t
  pub sound : IsDatabase db

-- a statement that makes a step, by the number of rows that it returns
pub made_as : (sql : List ℕ) (params : Row) (old new : State) (step : ℕ → Tables → Tables → Type 0) (r : Result ℕ Error) → ExecutesInside 0 sql params old new r
    → ((count : ℕ) → IsTyped old.now → Executes sql params old new (Ok count) → (t : Tables) × Wrote t new.now × step count (tables_of old) t)
    → IfOk r (λ count. Steps (step count) old new)
made_as sql params old new step (Ok count) ran wrote = record {
  inside = ran.1.mode;
  made = λ typed. let it = wrote count typed ran.0 in (it.1.held.typed, subst (step count (tables_of old)) (sym it.1.held.tables) it.2);
  sound = λ typed _. (wrote count typed ran.0).1.sound;
}
made_as sql params old new step (Err e) ran wrote = tt

pub ended_keeps : (old new : State) → IsUnchanged old new ⊎ IsRolledBack old new → KeepsCommit old new
ended_keeps old new (inl it) = record { was_open = λ _. it.0.was_open; committed = λ _. it.0.committed_is }
ended_keeps old new (inr it) = record { was_open = it.was_open; committed = λ opened. (it.undone opened).1 }

-- however a statement ends, it commits nothing
pub inside_keeps : (sql : List ℕ) (params : Row) (old new : State) (r : Result ℕ Error) → ExecutesInside 0 sql params old new r → KeepsCommit old new
inside_keeps sql params old new (Ok count) h = record { was_open = λ _. h.1.was_open; committed = λ _. h.1.committed_is }
inside_keeps sql params old new (Err e) (inl h) = ended_keeps old new h.1
inside_keeps sql params old new (Err e) (inr h) = ended_keeps old new (inl h.2)

-- ---- steps

pub steps_weaker : (first second : Tables → Tables → Type 0) (a b : State) → ((before after : Tables) → first before after → second before after) → Steps first a b → Steps second a b
steps_weaker first second a b f p = record {
  inside = p.inside;
  made = λ typed. let one = p.made typed in (one.0, f (tables_of a) (tables_of b) one.1);
  sound = p.sound;
}

-- one after the other
pub steps_then : (first second both : Tables → Tables → Type 0) (a b c : State) → ((x y z : Tables) → first x y → second y z → both x z) → Steps first a b → Steps second b c → Steps both a c
steps_then first second both a b c f p q = record {
  inside = q.inside;
  made = λ typed. let one = p.made typed in let two = q.made one.0 in (two.0, f (tables_of a) (tables_of b) (tables_of c) one.1 two.1);
  sound = λ typed rules. q.sound (p.made typed).0 (p.sound typed rules);
}

-- what a step is given was found before it
pub found_then : (P : Tables → Type 0) (step : Tables → Tables → Type 0) (a b c : State) → Steps (Finds P) a b → Steps (MadeFrom P step) b c → Steps step a c
found_then P step a b c =
    steps_then (Finds P) (MadeFrom P step) step a b c (λ x y z found does. subst (λ (t : Tables). step t z) found.1 (does (subst P (sym found.1) found.0)))

pub known_then : (K P : Tables → Type 0) (step : Tables → Tables → Type 0) (a b c : State) → Steps (Finds (λ t. K t → P t)) a b → Steps (MadeFrom P step) b c
    → Steps (MadeFrom K step) a c
known_then K P step a b c =
    steps_then (Finds (λ t. K t → P t)) (MadeFrom P step) (MadeFrom K step) a b c
    (λ x y z found does known. subst (λ (t : Tables). step t z) found.1 (does (subst P (sym found.1) (found.0 known))))

-- nothing is asked
pub steps_none : (P : Tables → Type 0) (s : State) → IsTrue s.in_transaction → ((t : Tables) → P t) → Steps (Finds P) s s
steps_none P s inside all = record { inside = inside; made = λ typed. (typed, (all (tables_of s), refl)); sound = λ _ rules. rules }

-- ---- what is kept, one call after the other

pub keeps_then : (a b c : State) → KeepsCommit a b → KeepsCommit b c → KeepsCommit a c
keeps_then a b c p q = record { was_open = λ opened. p.was_open (q.was_open opened); committed = λ opened. q.committed opened ∙ p.committed (q.was_open opened) }

pub none_then : (a b c : State) → Survives a b (λ _. ⊥) → Survives b c (λ _. ⊥) → Survives a c (λ _. ⊥)
none_then a b c = survives_then a b c (λ _. ⊥) (λ _. ⊥) (λ _. ⊥) (λ _ db none. none) (λ _ db none. none)

-- ---- steps in turn, for the items of a list

turns_then : {A : Type 0} (step : A → Tables → Tables → Type 0) (xs ys : List A) (a b c : Tables) → InTurn step xs a b → InTurn step ys b c → InTurn step (xs ++ ys) a c
turns_then step [] ys a b c p q = subst (λ t. InTurn step ys t c) p q
turns_then step (x ∷ xs) ys a b c p q = (p.0, p.1, turns_then step xs ys p.0 b c p.2 q)

pub turn_more : {A : Type 0} (step : A → Tables → Tables → Type 0) (xs : List A) (i : ℕ) (d : A) → i < length xs → (a b c : Tables) → InTurn step (take i xs) a b → step (get_or xs i d) b c
    → InTurn step (take (i + 1) xs) a c
turn_more step xs i d within a b c p q =
    subst (λ l. InTurn step l a c) (sym (take_more xs i d within)) (turns_then step (take i xs) (get_or xs i d ∷ []) a b c p (c, q, refl))

pub turns_none : {A : Type 0} (step : A → Tables → Tables → Type 0) (s : State) → IsTrue s.in_transaction → Steps (InTurn step []) s s
turns_none step s inside = record { inside = inside; made = λ typed. (typed, refl); sound = λ _ rules. rules }

pub turns_more : {A : Type 0} (step : A → Tables → Tables → Type 0) (xs : List A) (i : ℕ) (d : A) → i < length xs → (a b c : State) → Steps (InTurn step (take i xs)) a b
    → Steps (step (get_or xs i d)) b c → Steps (InTurn step (take (i + 1) xs)) a c
turns_more step xs i d within a b c = steps_then (InTurn step (take i xs)) (step (get_or xs i d)) (InTurn step (take (i + 1) xs)) a b c (turn_more step xs i d within)
