-- The new file finished after a look at both, and that each table then has as many rows as the old file's.
use Rattle.std.proofs.Common.{◌≡◌, inl, inr, ℕ, List, [], ◌∷◌, Ok, Err, Result, OnOk, OnErr, IsTrue, sym, ap, subst, ◌∙◌, arith}
use Rattle.sqlite_value.specs.Order.{Row}
use Rattle.sqlite.specs.Effect.{Database}
use Rattle.sqlite.specs.State.{State, HasCleanDisk}
use Rattle.lab_store_tables.specs.Rows.{Tables}
use Rattle.lab_store_tables.specs.Held.{IsTyped}
use Rattle.lab_store_tables.specs.Ready.{IsAtRest, IsMadeBy, tables_of}
use Rattle.lab_move_tables.specs.Reading.{ReadsAs}
use Rattle.lab_move_write.specs.Namings.{NamesSchema}
use Rattle.lab_move_write.specs.Commits.{MakesAtOnce}
use Rattle.lab_move_write.specs.Unfinished.{Begins, Finishes, IsBeingFilled}
use Rattle.lab_store_files.specs.NewFiles.{IsBlank}
use Rattle.lab_move.specs.Counting.{AreAlike, AreCounts, HasAsMany, counts_row}
use Rattle.lab_move.specs.Moving.{Fills, HasThese, IsBegun}
use Rattle.lab_move.proofs.Ends.{begun_of}

on_ok : {A E P Q : Type 0} (r : Result A E) → (P → Q) → OnOk r P → OnOk r Q
on_ok (Ok a) f p = f p
on_ok (Err e) f p = tt

on_err : {A E P Q : Type 0} (r : Result A E) → (P → Q) → OnErr r P → OnErr r Q
on_err (Ok a) f p = tt
on_err (Err e) f p = f p

-- a commit after a call that read
module _ {Stands : Database → Tables → Type 0} {A E : Type 0} {a : A} {old mid : State} (read : ReadsAs Stands {E = E} (λ t x. Unit {0}) old mid (Ok a)) where
  pub finishes_then : {B F : Type 0} (r : Result B F) {new : State} → MakesAtOnce (Finishes mid.now) r mid new → MakesAtOnce (Finishes old.now) r old new
  finishes_then r {new} q = record {
    once = record {
      at_rest = q.once.at_rest;
      clean = λ clean. read.passes.clean (q.once.clean clean);
      crash = λ clean opened trees left.
          let early = q.once.clean clean in
          let same = read.same early opened in
          elim (q.once.crash clean same.0.is_open trees left) [
            | inl before ↦ inl (read.passes.crash early opened trees before)
            | inr it ↦ inr (it.0, subst (λ (db : Database). Finishes db it.0) (read.shows early) it.1, it.2)
          ];
    };
    live = λ clean opened. read.passes.live (q.once.clean clean) (q.live clean opened);
    made = λ clean.
        let early = q.once.clean clean in
        on_ok r (λ it. (read.passes.live early it.0, it.1, subst (λ (db : Database). Finishes db new.now) (read.shows early) it.2)) (q.made clean);
    rows = λ clean opened. on_err r (λ same. same ∙ read.shows (q.once.clean clean)) (q.rows clean opened);
    counts = omega (arith, read.passes.counts, q.counts);
    limit = q.limit ∙ read.passes.limit;
  }

-- one that read and gave no answer
pub fails_then : {Stands : Database → Tables → Type 0} {T A E F : Type 0} {Made : Database → Type 0} {e : E} {f : F} {old mid : State} → IsAtRest old → ReadsAs Stands {T = T} (λ t x. Unit {0}) old mid (Err e)
    → MakesAtOnce Made {A = A} (Err f) old mid
fails_then rest read = record {
  once = record { at_rest = read.passes.at_rest rest; clean = read.passes.clean; crash = λ clean opened trees left. inl (read.passes.crash clean opened trees left) };
  live = read.passes.live;
  made = λ clean. tt;
  rows = read.passes.shows rest;
  counts = read.passes.counts;
  limit = read.passes.limit;
}

-- ---- the row that names the schema is none of those that are counted

same_counts : (t other : Tables) → NamesSchema t other → counts_row t ≡ counts_row other
same_counts t other it = sym (ap counts_row it.made)

counts_on : (rows : List Row) (t other : Tables) → counts_row t ≡ counts_row other → AreCounts rows t → AreCounts rows other
counts_on rows t other same it = subst (λ (row : Row). AreAlike rows (row ∷ [])) same it

pub named_counted : {B F : Type 0} (db : Database) (r : Result B F) {mid new : State} → HasCleanDisk new → IsTyped mid.now → HasAsMany db (tables_of mid)
    → MakesAtOnce (IsMadeBy NamesSchema mid) r mid new → OnOk r (HasAsMany db (tables_of new))
named_counted db r {mid} {new} clean typed many q =
    on_ok r (λ it. record { rows = many.rows; shown = many.shown; same = counts_on many.rows (tables_of mid) (tables_of new) (same_counts (tables_of mid) (tables_of new) (it.2 typed).1) many.same })
    (q.made clean)

-- ---- of the old file as it was before another call

pub counted_since : {B F : Type 0} (r : Result B F) (before mid : Database) (t : Tables) → mid ≡ before → OnOk r (HasAsMany mid t) → OnOk r (HasAsMany before t)
counted_since r before mid t same it = on_ok r (subst (λ (db : Database). HasAsMany db t) same) it

-- a file that was filled is one that is being filled
pub filling_of : {Stands : Database → Tables → Type 0} {E : Type 0} (codes : List (List ℕ)) {before after old mid : State} → Fills {A = Unit {0}} {E = E} (HasThese Stands before after codes) (Ok tt) old mid
    → HasCleanDisk mid → IsTrue old.is_open → IsBegun old.now → IsBeingFilled mid.now
filling_of codes p clean opened begun = ((p.made clean opened).1 begun).file

pub begun_open : {A E : Type 0} {a : A} {old mid : State} → IsBlank old.now → MakesAtOnce (Begins old.now) {E = E} (Ok a) old mid → HasCleanDisk mid
    → IsTrue mid.is_open × IsBegun mid.now
begun_open {old = old} {mid = mid} blank p clean = let it = p.made clean in (it.1, begun_of old.now mid.now blank it.2)
