-- Small instances of the definitions of a move, so that none is empty: where it stops, how it ends, what lasts, and why it tells of
-- the store; and a body that always tells of the store has no cause for it.
use Rattle.std.proofs.Common.{◌≡◌, inl, inr, ℕ, ◌-◌, ◌<◌, ◌^◌, pos, true, false, List, [], ◌∷◌, length, map, None, Ok, Err, IsTrue, refl, sym, ap, subst, ◌∙◌, arith}
use Rattle.std.specs.Prelude.{codes}
use Rattle.std.proofs.lemmas.List.Elements.{All-nil}
use Rattle.sqlite_trees.specs.declared.store.Store.{Ghosts}
use Rattle.sqlite_schema.specs.declared.schema.Schema.{Schema}
use Rattle.sqlite_value.specs.Order.{Row}
use Rattle.sqlite.specs.Effect.{Database}
use Rattle.sqlite.specs.Held.{Held, state}
use Rattle.sqlite.specs.State.{State, ExecutesIn, Fails, HasCleanDisk, IsNotRun, IsRolledBack, Shown, Survives}
use Rattle.sqlite.specs.declared.error.Error.TheVariants.{SqliteFailure}
use Rattle.sqlite.specs.declared.error.ErrorCode.TheVariants as code
use Rattle.lab_store_tables.specs.Schema.{lab_schema}
use Rattle.lab_store_tables.specs.Family.{Name, Desk, empty_tables, id_of, rows, tables_in}
use Rattle.lab_store_tables.specs.Meaning.{meaning}
use Rattle.lab_store_tables.specs.Ready.{IsAtRest, IsKept, tables_of}
use Rattle.lab_store_tables.specs.Rows.{Tables}
use Rattle.lab_store_tables.proofs.FamilyWords.{stored_row, tree_of, trees_of}
use Rattle.lab_store_tables.proofs.KnownFile.{desk}
use Rattle.lab_store_tables.proofs.Tests.{are_rising, kept_by_tests, keyed_from_test}
use Rattle.lab_store_read.specs.Causes.{IsCaused}
use Rattle.lab_store_files.specs.declared.faults.FileFault.TheVariants.{NotADeskFile}
use Rattle.lab_store_files.specs.NewFiles.{IsBlank, no_schema}
use Rattle.lab_store_files.specs.Schemas.{has_number, is_taken}
use Rattle.lab_move_tables.specs.declared.older.Older.TheVariants.{Two}
use Rattle.lab_move_tables.proofs.KnownOldFile.{lifted}
use Rattle.lab_move_tables.proofs.OldReaders.{none_read}
use Rattle.lab_move_tables.specs.Standing.{StandsBy}
use Rattle.lab_move_tables.specs.declared.older.Older.{Older}
use Rattle.lab_store_write.proofs.Failing.{unmoved}
use Rattle.lab_move_write.specs.Causes.{EndsMaking, IsNamingRefused, making_texts}
use Rattle.lab_move_read.specs.Laboratories.{codes_of}
use Rattle.lab_move.specs.declared.faults.MoveFault.TheVariants.{File, NotSound}
use Rattle.lab_move.specs.Causes.{CountsDiffer, IsMoveCaused, IsMoveUnfinished, IsSchemaUnnamed, IsUnanswered, StopsAtEnd, StopsAtLab}
use Rattle.lab_move.specs.Counting.{AreCounts, cell, counts_row, counts_text}
use Rattle.lab_move.specs.Private.Moving.{AreCounted}
use Rattle.lab_move.specs.Moving.{IsFirstUnsound, IsSoundIn, Lasts}
use Rattle.lab_move.specs.OldFiles.{StandsFor}
use Rattle.lab_move.specs.Owed.{AnswersOldOwed, MovesAsOwed, StopsAt}
use Rattle.lab_move.proofs.EachLab.{HasMoved, none_moved}
use Rattle.lab_move.proofs.FirstUnsound.{first_is_least}
use Rattle.lab_move.proofs.MoveOwed.{filled_moves, refused_moves}
use Rattle.lab_move.proofs.OldOwed.{unnamed_answered}

-- ---- where a move stops

-- the small file of schema 2, whose records have lost their versions
abbrev lost : Tables
lost = record lifted { versions = [] }

first_lost : IsFirstUnsound lost (codes_of lost) (codes "aqua")
first_lost = ([], codes "brick" ∷ [], refl, All-nil (IsSoundIn lost), inl refl)

-- of both laboratories the move stops at aqua, and not at brick
pub known_stop : StopsAt lost (codes "aqua") × ¬ StopsAt lost (codes "brick")
known_stop = (first_is_least lost (codes "aqua") first_lost, λ it. let wrong = it.least (codes "aqua") (inl refl) in absurd cc)

-- ---- how a move ends

-- an empty old file is refused
pub known_refused : (before after fresh : State) → before.now.schema ≡ no_schema → MovesAsOwed before after fresh {A = ℕ} (Err (File NotADeskFile))
known_refused before after fresh empty =
    let unnamed : has_number before.now.schema ≡ false = ap has_number empty in
    refused_moves before after fresh NotADeskFile (λ clean. unnamed_answered before.now (Err NotADeskFile) unnamed refl)

-- a file of schema 2 that stands for those tables alone stops the move at aqua, and one without a laboratory is moved
module _ (before after fresh : State) (answers : AnswersOldOwed before.now (Ok Two)) (free : is_taken fresh.now.schema ≡ false) where
  pub known_stopped : ((t : Tables) → StandsFor before.now t → t ≡ lost) → MovesAsOwed before after fresh {A = ℕ} (Err (NotSound (codes "aqua")))
  known_stopped alone =
      filled_moves before after fresh Two (Err (NotSound (codes "aqua"))) (λ clean. (answers, free)) (λ t stands clean. tt)
      (λ t so. subst (λ one. IsFirstUnsound one (codes_of one) (codes "aqua")) (sym (alone t so.0)) first_lost)

  pub known_moved : ((t : Tables) → StandsFor before.now t → t ≡ empty_tables) → MovesAsOwed before after fresh {A = ℕ} (Ok 0)
  known_moved alone =
      filled_moves before after fresh Two (Ok 0) (λ clean. (answers, free))
      (λ t stands clean. subst (λ one. AreCounted (codes_of one) one 0) (sym (alone t stands)) (refl, All-nil (IsSoundIn empty_tables))) tt

-- ---- what lasts

-- a file that names the schema, without a laboratory
abbrev named : Tables
named = record empty_tables { desk = desk (pos 1) 3 ∷ [] }

abbrev whole : Database
whole = record { schema = lab_schema; trees = trees_of named }

ids_rise : (k : Name) → are_rising (id_of k) (rows k named) ≡ true
ids_rise Desk = refl
ids_rise _ = refl

stands : (k : Name) → trees_of named (tree_of k) ≡ map (stored_row k) (rows k (tables_in (trees_of named)))
stands Desk = refl
stands _ = refl

whole_kept : IsKept whole
whole_kept = record {
  typed = record { schema = refl; stored = record { at = stands }; rising = record { at = λ k. keyed_from_test (id_of k) (rows k named) (ids_rise k) } };
  rows = kept_by_tests named refl refl refl refl refl refl refl refl refl refl refl refl refl refl;
}

none_meant : (t : Tables) (code : List ℕ) → t ≡ empty_tables → meaning t code ≡ None
none_meant t code is = ap (λ (one : Tables). meaning one code) is

-- it lasts where a crash leaves what it shows, of an old file that stands for no laboratory
pub known_lasting : (before after new : State) → ((t : Tables) → StandsFor before.now t → t ≡ empty_tables)
    → Lasts before after (record new { now = whole; may_leave = λ trees. trees ≡ whole.trees })
known_lasting before after new alone = record {
  left = λ trees left. left;
  stays = refl;
  whole = record { file = whole_kept; sound = λ code. tt; same = λ t so code. sym (none_meant t code (alone t so.0)) };
}

-- and it doesn't where a crash leaves nothing
pub known_lost : (before after new : State) → ¬ Lasts before after (record new { may_leave = λ trees. ⊥ })
known_lost before after new it = it.stays

-- ---- why a move tells of the store

module _ {S : Type 0} (g : Ghosts S) (held : Held S) (before : State) where
  -- a connection that was shut is told of, to the old file as it is opened, to the new one as it is filled
  pub known_shut : (text : List ℕ) → before.is_open ≡ false → IsUnanswered text before before
  known_shut text shut = inl (inr (inl shut))

  pub known_new_shut : (state g held).is_open ≡ false → IsMoveCaused (λ (_ : Unit {0}). before) g tt tt held held
  known_new_shut shut = inl (inl (inr (inl shut)))

  -- nor is a move finished over one
  pub known_end_shut : before.is_open ≡ false → IsMoveUnfinished g before before held held
  known_end_shut shut = inl (inl (known_shut counts_text shut))

  -- the counts of two files that show the same don't differ
  pub known_alike : (it : CountsDiffer g before before held) → ¬ ◌≡◌ {A = List Row} it.rows (counts_row (tables_of (state g held)) ∷ [])
  known_alike it same = it.differ (λ at within. ap (λ (rows : List Row). cell rows at) same)

  -- where the old one shows two laboratories, and the new one has none, they do
  pub known_differ : Shown counts_text [] before before (counts_row lost ∷ []) → tables_of (state g held) ≡ empty_tables → CountsDiffer g before before held
  known_differ shown none = record { rows = counts_row lost ∷ []; shown = shown; differ = λ counts. unlike (subst (AreCounts (counts_row lost ∷ [])) none counts) }
    where
      unlike : ¬ AreCounts (counts_row lost ∷ []) empty_tables
      unlike counts = let wrong = counts 0 (omega arith) in cc

  -- an empty new file that stays as it was isn't, where its connection is open and has no limit, its disk had no fault, and no transaction
  -- was undone
  pub known_uncaused : IsBlank (state g held).now → HasCleanDisk (state g held) → IsTrue (state g held).is_open → (state g held).step_limit ≡ None
      → (state g held).faults < 2 ^ 64 - 1 → ((state g held).marks ≡ [] → ⊥) → ¬ IsMoveCaused (λ (_ : Unit {0}). before) g tt tt held held
  known_uncaused blank clean opened limit few marked told = elim told [
    | inl unmade ↦ elim unmade [
      | inl caused ↦ uncaused (state g held) opened limit few caused
      | inr inside ↦ marked inside.undone.unmarked
    ]
    | inr way ↦ (let is = (way.filling blank clean opened).typed.schema in unlike (sym blank ∙ is))
  ]
    where
      uncaused : (s : State) → IsTrue s.is_open → s.step_limit ≡ None → s.faults < 2 ^ 64 - 1 → IsCaused s s → ⊥
      uncaused s opened limit few (inl faulted) = omega (arith, few, faulted)
      uncaused s opened limit few (inr (inl shut)) = let o = opened in let wrong = shut in cc
      uncaused s opened limit few (inr (inr limited)) = let wrong = rw limit at limited.0 in cc

      unlike : no_schema ≡ lab_schema → ⊥
      unlike same = let wrong = ap (λ (one : Schema). one.tables) same in cc

-- a disk that fails under the statement that names the schema is told of, and then the schema is unnamed
module _ {S : Type 0} (g : Ghosts S) (asked last new : Held S)
    (fails : Fails (state g (record asked { in_transaction = true })) (state g last) ⊥ (SqliteFailure code.SystemIoFailure))
    (back : IsRolledBack (state g (record asked { in_transaction = true })) (state g last))
    (survives : Survives (state g (record asked { in_transaction = true })) (state g last) (λ _. ⊥))
    (ended : Survives (state g last) (state g new) (λ _. ⊥)) (undone : IsRolledBack (state g last) (state g new)) where
  pub known_unnamed : IsNamingRefused g asked new
  unfolding IsNotRun ExecutesIn
  known_unnamed =
      record { last = last; error = SqliteFailure code.SystemIoFailure; told = refl; refused = inl (inl (inr fails), inr back); survives = survives; ended = ended; undone = undone }

  pub known_schema : IsSchemaUnnamed g asked new
  known_schema = record { asked = asked; reads = none_read (λ t. tt); clean = λ late. early late; why = inr known_unnamed }
    where
      early : HasCleanDisk (state g new) → HasCleanDisk (state g (record asked { in_transaction = true }))
      early late = omega (arith, survives.clean, ended.clean, late)

-- a disk that fails under the first statement that makes the tables is told of
pub known_making : {T : Type 0} (state : T → State) (old new : T) → IsTrue (state old).in_transaction → HasCleanDisk (state old)
    → Fails (state old) (state new) ⊥ (SqliteFailure code.SystemIoFailure) → IsRolledBack (state old) (state new) → Survives (state old) (state new) (λ _. ⊥)
    → EndsMaking IsBlank state old new (SqliteFailure code.SystemIoFailure)
unfolding IsNotRun ExecutesIn
known_making state old new inside clean fails back survives = record {
  last = old;
  led = unmoved (state old);
  inside = inside;
  clean = clean;
  survives = survives;
  at = 0;
  within = (let texts : length making_texts ≡ 13 = refl in omega (arith, texts));
  made = λ was. record { schema_is = was; empty = tt };
  refused = inl (inl (inr fails), inr back);
}

-- an old file that was shut stops the move at its first laboratory, and at the end where it has none
module _ {D S : Type 0} (seen : D → State) (g : Ghosts S) (older : Older) (before : D) (fresh : Held S) (rest : IsAtRest (state g fresh)) (shut : (seen before).is_open ≡ false) where
  none : HasMoved (StandsBy older) [] (seen before) (seen before) (state g fresh) (state g fresh)
  none = none_moved (seen before) (state g fresh) rest

  pub known_stops_at_lab : (code : List ℕ) → StopsAtLab seen g older (code ∷ []) before before fresh fresh
  known_stops_at_lab code = record {
    done = [];
    code = code;
    rest = [];
    split = refl;
    now = before;
    last = fresh;
    placed = record { read = none.reads; moved = none.fills };
    passes = none.reads.passes;
    clean = λ late. late;
    left = λ clean opened. refl;
    why = inl (λ t stands whole. inr (inl shut));
  }

  pub known_stops_at_end : StopsAtEnd seen g older [] before before fresh fresh
  known_stops_at_end = record {
    now = before;
    last = fresh;
    placed = record { read = none.reads; moved = none.fills };
    passes = none.reads.passes;
    clean = λ late. late;
    left = λ clean opened. refl;
    why = inl (inl (inl (inr (inl shut))));
  }

-- no state between is shut or has another limit, where both files were open before and no fault went unseen
module _ {D S : Type 0} (seen : D → State) (g : Ghosts S) (older : Older) (codes : List (List ℕ)) (before after : D) (fresh new : Held S) (clean : HasCleanDisk (seen after)) (late : HasCleanDisk (state g new))
    (opened : IsTrue (seen before).is_open) (too : IsTrue (state g fresh).is_open) where
  abbrev Between : State → State → Type 0
  Between old now = IsTrue now.is_open × (now.step_limit ≡ old.step_limit)

  pub known_lab : (it : StopsAtLab seen g older codes before after fresh new) → Between (seen before) (seen it.now) × Between (state g fresh) (state g it.last)
  known_lab it =
      (((it.placed.read.same (it.passes.clean clean) opened).0.is_open, it.placed.read.passes.limit), ((it.placed.moved.made (it.clean late) too).0, it.placed.moved.limit))

  pub known_end : (it : StopsAtEnd seen g older codes before after fresh new) → Between (seen before) (seen it.now) × Between (state g fresh) (state g it.last)
  known_end it =
      (((it.placed.read.same (it.passes.clean clean) opened).0.is_open, it.placed.read.passes.limit), ((it.placed.moved.made (it.clean late) too).0, it.placed.moved.limit))

  pub known_asked : (last : Held S) (it : IsSchemaUnnamed g last new) → IsTrue (state g last).is_open → Between (state g last) (state g it.asked)
  known_asked last it here = ((it.reads.same (it.clean late) here).0.is_open, it.reads.passes.limit)
