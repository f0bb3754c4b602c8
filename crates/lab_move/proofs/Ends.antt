-- How a move ends: the new file as a start asks it, and what is left of it where the move failed or was stopped.
use Rattle.std.proofs.Common.{◌≡◌, inl, inr, Ok, Err, Result, OnOk, OnErr, IsTrue, sym, ap, subst, ◌∙◌}
use Rattle.sqlite_trees.specs.Tree.{Trees}
use Rattle.sqlite_trees.specs.declared.store.Store.{Ghosts}
use Rattle.sqlite.specs.Effect.{Database}
use Rattle.sqlite.specs.Held.{Held, state}
use Rattle.sqlite.specs.State.{State, HasCleanDisk}
use Rattle.lab_records_kept.proofs.ReleaseLemmas.{all_released}
use Rattle.lab_records_kept.specs.Limits.{IsWithin}
use Rattle.lab_records_copy_out.specs.Legible.{IsLegible}
use Rattle.lab_records_laws.specs.Runs.{IsReleasing}
use Rattle.lab_store_tables.specs.Meaning.{meaning}
use Rattle.lab_store_tables.specs.Rows.{Tables}
use Rattle.lab_store_tables.specs.Ready.{IsAtRest, tables_of}
use Rattle.lab_store_files.specs.NewFiles.{IsBlank}
use Rattle.lab_move_write.specs.Commits.{MakesAtOnce}
use Rattle.lab_move_write.specs.Unfinished.{Begins, IsBeingFilled}
use Rattle.lab_move_write.proofs.Refusals.{unnamed_refused, blank_refused}
use Rattle.lab_move.specs.OldFiles.{StandsFor}
use Rattle.lab_move.specs.Moving.{IsBegun, IsNoInstallation, IsSoundLab, IsStart, IsWhole, Lasts, LeavesUnfinished}
use Rattle.lab_move.specs.Private.Moving.{FillsAll}
use Rattle.lab_move.proofs.FilledFiles.{all_weaker, carried_from}

-- ---- refused by `open`

module _ {S : Type 0} (g : Ghosts S) where
  pub filling_refused : (db : Database) → IsBeingFilled db → IsNoInstallation g db
  filling_refused db filling old new answer is answers =
      let here : IsBeingFilled (state g old).now = subst IsBeingFilled (sym is) filling in
      unnamed_refused (state g old) (state g new) answer here.typed here.unnamed answers

  pub empty_refused : (db : Database) → IsBlank db → IsNoInstallation g db
  empty_refused db blank old new answer is answers = blank_refused (state g old) (state g new) answer (subst IsBlank (sym is) blank) answers

-- ---- all that a start asks

pub starts : {Stands : Database → Tables → Type 0} (before after s : State) → IsAtRest s → IsTrue s.is_open → IsWhole Stands before after s.now → IsStart s
starts before after s rest opened whole = record {
  live = opened;
  ready = record { at_rest = rest; kept = λ clean opened. whole.file };
  within = all_weaker IsSoundLab IsWithin (meaning (tables_of s)) (λ lab it. it.within) whole.sound;
  releasing = all_weaker IsSoundLab IsReleasing (meaning (tables_of s)) (λ lab it. record { bound = it.bound; dual = it.dual; released = all_released lab it.bound it.dual }) whole.sound;
  legible = all_weaker IsSoundLab IsLegible (meaning (tables_of s)) (λ lab it. it.legible) whole.sound;
}

-- ---- where the file wasn't begun

on_err_with : {A E P Q : Type 0} (r : Result A E) → (P → Q) → OnErr r P → OnErr r Q
on_err_with (Ok a) f p = tt
on_err_with (Err e) f p = f p

pub begun_of : (was db : Database) → IsBlank was → Begins was db → IsBegun db
begun_of was db blank it = let made = it blank in record { filling = made.0; empty = made.1 }

module _ {S : Type 0} (g : Ghosts S) {old new : State} (blank : IsBlank old.now) where
  pub unbegun : {A B E F : Type 0} {e : E} (f : F) (before after : State) → MakesAtOnce (Begins old.now) {A = A} (Err e) old new
      → LeavesUnfinished g before after {A = B} (Err f) old new
  unbegun f before after p = record {
    crash = λ clean opened trees found. elim (p.once.crash clean opened trees found) [
      | inl same ↦ inl same
      | inr it ↦ inr (it.0, inl (filling_refused g it.0 (begun_of old.now it.0 blank it.1).filling), it.2)
    ];
    rows = λ clean opened. subst (IsNoInstallation g) (sym (p.rows clean opened)) (empty_refused g old.now blank);
  }

-- ---- where it was

module _ {Stands : Database → Tables → Type 0} {S : Type 0} (g : Ghosts S) {A B E F : Type 0} {a : A} {r : Result B F} {old mid new : State} (blank : IsBlank old.now)
    (p : MakesAtOnce (Begins old.now) {E = E} (Ok a) old mid) (before between after : State) (same : HasCleanDisk after → between.now ≡ before.now)
    (so : HasCleanDisk after → (t : Tables) → StandsFor before.now t → Stands before.now t)
    (q : FillsAll (IsWhole Stands between after) r mid new) where
  begun : HasCleanDisk new → IsBegun mid.now
  begun clean = begun_of old.now mid.now blank (p.made (q.clean clean)).2

  pub left_unfinished : LeavesUnfinished g before after r old new
  left_unfinished = record {
    crash = λ clean opened trees found.
        let early = q.clean clean in
        elim (q.crash clean (p.made early).1 trees found) [
          | inl middle ↦ elim (p.once.crash early opened trees middle) [
            | inl first ↦ inl first
            | inr it ↦ inr (it.0, inl (filling_refused g it.0 (begun_of old.now it.0 blank it.1).filling), it.2)
          ]
          | inr it ↦ elim (it.1 (begun clean)) [
            | inl filling ↦ inr (it.0, inl (filling_refused g it.0 filling), it.2)
            | inr whole ↦ inr (it.0, inr (carried_from it.0 same so whole), it.2)
          ]
        ];
    rows = λ clean opened. on_err_with r (λ it. elim it [
      | inl middle ↦ filling_refused g new.now (subst IsBeingFilled (sym middle) (begun clean).filling)
      | inr filling ↦ filling_refused g new.now (filling (begun clean))
    ]) (q.rows clean opened);
  }

  -- at Ok the file is whole
  pub whole_now : HasCleanDisk new → OnOk r (IsTrue new.is_open × IsWhole StandsFor before after new.now)
  whole_now clean = go r (q.made clean (p.made (q.clean clean)).1)
    where
      go : (end : Result B F) → OnOk end (IsTrue new.is_open × (IsBegun mid.now → IsWhole Stands between after new.now))
          → OnOk end (IsTrue new.is_open × IsWhole StandsFor before after new.now)
      go (Ok b) it = (it.0, carried_from new.now same so (it.1 (begun clean)))
      go (Err e) it = tt

  pub started : HasCleanDisk new → OnOk r (IsStart new)
  started clean = go r (whole_now clean)
    where
      go : (end : Result B F) → OnOk end (IsTrue new.is_open × IsWhole StandsFor before after new.now) → OnOk end (IsStart new)
      go (Ok b) it = starts before after new q.at_rest it.0 it.1
      go (Err e) it = tt

-- ---- what lasts: while the file is open, a crash leaves what was committed, which is what is shown

module _ {S : Type 0} (g : Ghosts S) (stays : (s : S) → IsTrue (g.view s).is_open → g.recovers s (g.view s).committed)
    (settled : (s : S) (db : Trees) → IsTrue (g.view s).is_open → g.recovers s db → db ≡ (g.view s).committed) (before after : State) (h : Held S) where
  lasts_now : IsAtRest (state g h) → HasCleanDisk (state g h) → IsTrue (state g h).is_open → IsWhole StandsFor before after (state g h).now → Lasts before after (state g h)
  lasts_now rest clean opened whole =
      let same : (state g h).now.trees ≡ (state g h).committed.trees = ap (λ (db : Database). db.trees) (rest.settled clean opened) in
      record {
        left = λ trees left. settled h.store trees opened left ∙ sym same;
        stays = subst (λ (trees : Trees). (state g h).may_leave trees) (sym same) (stays h.store opened);
        whole = whole;
      }

  pub lasting : {B F : Type 0} (r : Result B F) → IsAtRest (state g h) → HasCleanDisk (state g h) → OnOk r (IsTrue (state g h).is_open × IsWhole StandsFor before after (state g h).now)
      → OnOk r (Lasts before after (state g h))
  lasting (Ok b) rest clean it = lasts_now rest clean it.0 it.1
  lasting (Err e) rest clean it = tt
