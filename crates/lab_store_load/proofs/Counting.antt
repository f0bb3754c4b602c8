-- Persons that were counted before: what is read with them is right where they are, and so is what is kept after it.
use Rattle.std.proofs.Common.{◌≡◌, ◌⊎◌, inl, inr, ℕ, ℤ, List, length, find, Option, Some, None, option_map, Result, Ok, Err, IfOk, IfSome, OnOk, OnErr, IsTrue, refl, sym, ap, subst, ◌∙◌}
use Rattle.sqlite.specs.Effect.{Database}
use Rattle.sqlite.specs.State.{State, HasCleanDisk, IsUnchanged}
use Rattle.lab_records_kept.specs.declared.needs.Need.{Need}
use Rattle.lab_records_kept.specs.declared.needs.Slice.{Slice}
use Rattle.lab_store_tables.specs.Rows.{LabRow, Tables, lab_id, tables_in}
use Rattle.lab_store_tables.specs.Meaning.{has_code, persons_of}
use Rattle.lab_store_tables.specs.Ready.{IsAtRest, IsKept, IsReady, tables_of}
use Rattle.lab_store_read.specs.Reads.{Reads, MayRead}
use Rattle.lab_store_read.proofs.Queries.{if_then}
use Rattle.lab_store_read_records.specs.declared.heads.LabHead.{LabHead}
use Rattle.lab_store_load.specs.declared.counts.Counted.{Counted}
use Rattle.lab_store_read_records.specs.Heads.{lab_head}
use Rattle.lab_store_load.specs.Counts.{IsCounted, IsCountedIn, IsOpenIn, lab_id_of}
use Rattle.lab_store_load.specs.Private.Parts.{slice_by}

abbrev pub lab_head_id : LabHead → ℤ
lab_head_id head = head.id

-- the row that was found has its id
pub found_id : (o : Option LabRow) → option_map lab_head_id (option_map lab_head o) ≡ option_map lab_id o
found_id None = refl
found_id (Some lab) = refl

-- a part was read by the row of its laboratory, and says how many persons that has
pub slice_kept : (t : Tables) (need : Need) (head : LabHead) (slice : Slice) (code given : List ℕ) (id : ℤ) → id ≡ head.id → code ≡ given
    → Some head ≡ option_map lab_head (find (has_code given) t.labs) → slice ≡ slice_by t need head
    → IsCounted t (record { code = code; lab = id; persons = slice.counts.persons })
slice_kept t need head slice code given id same copied there is = record {
  found =
      ap Some same ∙ ap (option_map lab_head_id) there ∙ found_id (find (has_code given) t.labs)
      ∙ ap (λ (text : List ℕ). lab_id_of t text) (sym copied);
  persons = ap (λ (one : Slice). one.counts.persons) is ∙ ap (λ (lab : ℤ). length (persons_of t lab)) (sym same);
}

-- ---- a call that reads

-- the answer in other words
pub may_as : {A E : Type 0} {Was Then : Tables → A → Type 0} {old new : State} {r : Result A E} → MayRead Was old new r → ((a : A)
    → Was (tables_of old) a → Then (tables_of old) a) → MayRead Then old new r
may_as {r = r} it f = record { passes = it.passes; shows = it.shows; same = it.same; answer = λ ready clean. if_then r f (it.answer ready clean) }

-- by what was counted before, and what is kept after it
abbrev pub Counting : {A : Type 0} → (Tables → A → Type 0) → Option Counted → Option Counted → Tables → A → Type 0
Counting Answer before after t one = IfSome before (IsCounted t) → Answer t one × IfSome after (IsCounted t)

module _ {A E : Type 0} (Answer : Tables → A → Type 0) (before after : Option Counted) (old new : State) where
  pub answer_counted : (r : Result A E) → Reads (Counting Answer before after) old new r → IsCountedIn old before → Reads Answer old new r
  answer_counted r it right = record {
    passes = it.passes;
    same = it.same;
    answer = λ ready clean. go r ready (it.passes.clean clean) (it.same clean) (it.answer ready clean);
  }
    where
      go : (r : Result A E) → IsReady old → HasCleanDisk old → OnOk r (IsUnchanged old new) → IfOk r (Counting Answer before after (tables_of old))
          → IfOk r (Answer (tables_of old))
      go (Ok one) ready clean same answer = (answer (right clean same.0.was_open (ready.kept clean same.0.was_open))).0
      go (Err e) ready clean same answer = tt

  pub counted_after : (r : Result A E) → Reads (Counting Answer before after) old new r → OnErr r (after ≡ None) → IsAtRest old → IsCountedIn old before
      → IsCountedIn new after
  counted_after (Ok one) it failed rest right = λ clean opened kept.
      let early = it.passes.clean clean in
      let same = (it.same clean).0 in
      let was : IsKept old.now = subst IsKept same.now_is kept in
      let ready : IsReady old = record { at_rest = rest; kept = λ _ _. was } in
      let is : IfSome after (IsCounted (tables_of old)) = (it.answer ready clean (right early same.was_open was)).1 in
      subst (λ (db : Database). IfSome after (IsCounted (tables_in db.trees))) (sym same.now_is) is
  counted_after (Err e) it failed rest right = λ clean opened kept. subst (λ (o : Option Counted). IfSome o (IsCounted (tables_of new))) (sym failed) tt

-- ---- the connection is open, where anything is kept

open_for : (s : State) (counted : Option Counted) → IsTrue s.is_open → IfSome counted (λ _. IsTrue s.is_open)
open_for s None opened = tt
open_for s (Some one) opened = opened

pub open_after : {A E : Type 0} (Answer : Tables → A → Type 0) (before after : Option Counted) (old new : State) (r : Result A E) → Reads (Counting Answer before after) old new r
    → OnErr r (after ≡ None) → IsOpenIn new after
open_after Answer before after old new (Ok one) it failed = λ clean. open_for new after (it.same clean).0.is_open
open_after Answer before after old new (Err e) it failed = λ clean. subst (λ (o : Option Counted). IfSome o (λ _. IsTrue new.is_open)) (sym failed) tt

pub open_or_none : (P : Type 0) (old new : State) (before after : Option Counted) → (P × (after ≡ before)) ⊎ (after ≡ None) → (P → HasCleanDisk new → IsUnchanged old new)
    → IsOpenIn new after
open_or_none P old new before after (inl it) same = λ clean. open_for new after (same it.0 clean).0.is_open
open_or_none P old new before after (inr none) same = subst (IsOpenIn new) (sym none) (λ _. tt)

-- ---- a call that leaves all as it is

pub counted_still : (old new : State) (counted : Option Counted) → (HasCleanDisk new → HasCleanDisk old) → (HasCleanDisk new → IsUnchanged old new)
    → IsCountedIn old counted → IsCountedIn new counted
counted_still old new counted clean same right = λ is opened kept.
    let so = (same is).0 in
    let was : IfSome counted (IsCounted (tables_of old)) = right (clean is) so.was_open (subst IsKept so.now_is kept) in
    subst (λ (db : Database). IfSome counted (IsCounted (tables_in db.trees))) (sym so.now_is) was

-- what is kept of what was counted: all of it, where the call was such, or nothing
pub counted_or_none : (P : Type 0) (old new : State) (before after : Option Counted) → (P × (after ≡ before)) ⊎ (after ≡ None)
    → (HasCleanDisk new → HasCleanDisk old) → (P → HasCleanDisk new → IsUnchanged old new) → IsCountedIn old before → IsCountedIn new after
counted_or_none P old new before after (inl it) clean same right = subst (IsCountedIn new) (sym it.1) (counted_still old new before clean (same it.0) right)
counted_or_none P old new before after (inr none) clean same right = subst (IsCountedIn new) (sym none) (λ _ _ _. tt)
