-- The cause of rows that don't go out, carried from one call to the next.
use Rattle.std.proofs.Common.{◌≡◌, ◌≤◌, inl, inr, ℕ, ℤ, Bool, true, false, List, [], ◌∷◌, map, Option, Some, Ok, Err, Result, IfErr, IsTrue, refl, sym, ap, subst, ◌∙◌, arith}
use Rattle.std.specs.Prelude.{All, IfSome, IsErrAnd, IsFalse, IsSome}
use Rattle.std.specs.List.{AllByRecursion}
use Rattle.std.proofs.lemmas.List.Elements.{All-head, All-rest}
use Rattle.std.proofs.lemmas.Result.{IfErr-weaker}
use Rattle.sqlite.specs.Effect.{Database}
use Rattle.sqlite.specs.State.{State, HasCleanDisk, IsUnchanged}
use Rattle.lab_forms_texts.specs.declared.refusals.Fault.{Fault}
use Rattle.lab_forms_texts.specs.declared.refusals.Fault.TheVariants.{Refused, Memory as NoMemory}
use Rattle.lab_records_keeper.specs.declared.faults.BadStore.{BadStore}
use Rattle.lab_records_keeper.specs.Worlds.{HasFaulted}
use Rattle.lab_records_copy_out.specs.Faults.{CopyFaultFits, keeper_told}
use Rattle.lab_records_copy_out.specs.declared.faults.CopyOutFault.{CopyOutFault}
use Rattle.lab_records_copy_out.specs.declared.faults.CopyOutFault.TheVariants.{NoSuchLab, Storage, Memory, Write}
use Rattle.lab_store_tables.specs.Rows.{Tables, tables_in}
use Rattle.lab_store_tables.specs.Meaning.{Leaf}
use Rattle.lab_store_tables.specs.Ready.{IsReady, PassesBy, Shuts, tables_of}
use Rattle.lab_store_read.specs.Causes.{HasItsCause, IsCaused}
use Rattle.lab_store_read.specs.Cells.{storage}
use Rattle.lab_store_read_records.specs.declared.heads.LabHead.{LabHead}
use Rattle.lab_store_read_records.specs.declared.heads.VersionHead.{VersionHead}
use Rattle.lab_store_read_records.specs.declared.leaves.VersionLeaf.{VersionLeaf}
use Rattle.lab_store_read_records.specs.Heads.{versions_of}
use Rattle.lab_store_read_records.specs.Leaves.{leaf_by, leaf_of}
use Rattle.lab_store_read_records.specs.Readable.{ArePlaced, HasLeaf, is_placed}
use Rattle.lab_store_read_records.proofs.Below.{leaves_below}
use Rattle.lab_store_read_records.proofs.RetrievalFound.{leaves_found}
use Rattle.lab_store_read_copies.specs.Causes.{CopyHasItsCause, HasNumbered, HasPlacedVersion, HasRange}
use Rattle.lab_store_read_copies.specs.Private.Causes.{HasPlacedVersions, HasVersions}
use Rattle.lab_store_read_copies.specs.GivenRows.{lab_at}

-- ---- faults

fits_weaker : {P Q : Type 0} → (P → Q) → (fault : CopyOutFault) →
    CopyFaultFits ⊥ P (Unit {0}) fault → CopyFaultFits ⊥ Q (Unit {0}) fault
fits_weaker f NoSuchLab fits = fits
fits_weaker f Storage fits = f fits
fits_weaker f Memory fits = tt
fits_weaker f Write fits = tt

pub fit_weaker : {T P Q : Type 0} → (P → Q) → (result : Result T CopyOutFault) →
    IfErr result (CopyFaultFits ⊥ P (Unit {0})) → IfErr result (CopyFaultFits ⊥ Q (Unit {0}))
fit_weaker f (Ok done) fits = tt
fit_weaker f (Err fault) fits = fits_weaker f fault fits

-- and of one that the end passes on
pub fit_passed : {T P Q : Type 0} → (P → Q) → (fault : CopyOutFault) →
    CopyFaultFits ⊥ P (Unit {0}) fault → (end : Result T CopyOutFault) →
    IsErrAnd end (λ told. told ≡ fault) → IfErr end (CopyFaultFits ⊥ Q (Unit {0}))
fit_passed f fault fits (Ok done) failed = tt
fit_passed {P = P} f fault fits (Err told) failed =
    fits_weaker f told (subst (CopyFaultFits ⊥ P (Unit {0})) (sym failed) fits)

-- ---- calls

-- rows that went out
pub none_blamed : {T : Type 0} {Then : Tables → Type 0} {old new : State} {done : T} →
    new.step_limit ≡ old.step_limit → CopyHasItsCause Then old new (Ok done)
none_blamed limit = record { limit = limit; cause = λ ready clean readable. tt }

-- a reader's fault
told_of : (fault : Fault BadStore) → keeper_told fault ≡ Storage → fault ≡ storage
told_of (Refused bad) told = refl
told_of NoMemory told = absurd cc

pub told_so : {A T : Type 0} {Was Then : Tables → Type 0} {old new : State} {fault : Fault BadStore}
    {one : CopyOutFault} → one ≡ keeper_told fault → HasItsCause {T = A} Was old new (Err fault) →
    (Then (tables_of old) → Was (tables_of old)) →
    CopyHasItsCause {T = T} Then old new (Err one)
told_so {fault = fault} is it f = record {
  limit = it.limit;
  cause = λ ready clean readable told.
      it.cause ready clean (f readable) (told_of fault (sym is ∙ told));
}

-- a fault that is passed on
pub blamed_too : {A T : Type 0} {Was Then : Tables → Type 0} {old new : State}
    {fault : CopyOutFault} → CopyHasItsCause {T = A} Was old new (Err fault) →
    (Then (tables_of old) → Was (tables_of old)) →
    CopyHasItsCause {T = T} Then old new (Err fault)
blamed_too it f = record {
  limit = it.limit;
  cause = λ ready clean readable. it.cause ready clean (f readable);
}

since : (first mid last : ℕ) → first ≤ mid → HasFaulted mid last → HasFaulted first last
since first mid last later faulted = omega (arith, later, faulted)

-- a cause of the second call is one of both
caused_since : (old mid new : State) → Shuts old mid → mid.step_limit ≡ old.step_limit →
    IsTrue mid.is_open → IsCaused mid new → IsCaused old new
caused_since old mid new shuts limit opened (inl fault) =
    inl (since old.faults mid.faults new.faults shuts.counts fault)
caused_since old mid new shuts limit opened (inr (inl shut)) = absurd (let is = opened in cc)
caused_since old mid new shuts limit opened (inr (inr few)) =
    inr (inr (subst IsSome limit few.0, few.1))

all_caused : {T P : Type 0} (result : Result T CopyOutFault) → P →
    IfErr result (λ fault. fault ≡ Storage → P)
all_caused (Ok done) cause = tt
all_caused (Err fault) cause = λ told. cause

-- another call after one that left all as it was where the connection was open
pub then_told : {T : Type 0} {There Then : Tables → Type 0} {result : Result T CopyOutFault}
    (old mid new : State) → PassesBy old mid →
    (HasCleanDisk mid → IsTrue old.is_open → IsUnchanged old mid) →
    mid.step_limit ≡ old.step_limit → PassesBy mid new →
    CopyHasItsCause There mid new result →
    (IsReady old → HasCleanDisk mid → Then (tables_of old) → There (tables_of old)) →
    CopyHasItsCause Then old new result
then_told {T} {There} {Then} {result} old mid new passes same limit next it f = record {
  limit = it.limit ∙ limit;
  cause = λ ready clean readable. by ready clean readable old.is_open refl;
}
  where
    by : IsReady old → HasCleanDisk new → Then (tables_of old) → (b : Bool) → old.is_open ≡ b →
        IfErr result (λ fault. fault ≡ Storage → IsCaused old new)
    by ready clean readable false shut = all_caused result (inr (inl shut))
    by ready clean readable true opened =
        let was = next.clean clean in
        let is = same was opened in
        IfErr-weaker result (λ fault. fault ≡ Storage → IsCaused mid new)
        (λ fault. fault ≡ Storage → IsCaused old new)
        (λ fault why told. caused_since old mid new passes.shuts limit is.0.is_open (why told))
        (it.cause (passes.ready ready) clean
        (subst (λ (db : Database). There (tables_in db.trees)) (sym is.0.now_is)
        (f ready was readable)))

-- ---- versions

-- a version stands where its row has it
is_unplaced : (t : Tables) (behind : Bool) (leaf : VersionLeaf) (head : VersionHead) →
    leaf_of leaf ≡ leaf_by t head → IsTrue (is_placed behind head.number head.reason) →
    IsFalse (is_placed behind leaf.number leaf.reason) → ⊥
is_unplaced t behind leaf head is placed unplaced =
    let there : IsTrue (is_placed behind leaf.number leaf.reason) =
    subst (λ (one : Leaf). IsTrue (is_placed behind one.number one.reason)) (sym is) placed in
    absurd (let other = unplaced in cc)

pub leaf_told : {T : Type 0} (P : Type 0) (t : Tables) (behind : Bool) (leaf : VersionLeaf)
    (head : VersionHead) (result : Result T CopyOutFault) → leaf_of leaf ≡ leaf_by t head →
    IsTrue (is_placed behind head.number head.reason) →
    IfErr result (CopyFaultFits ⊥ (IsFalse (is_placed behind leaf.number leaf.reason)) (Unit {0})) →
    IfErr result (λ fault. fault ≡ Storage → P)
leaf_told P t behind leaf head (Ok done) is placed fits = tt
leaf_told P t behind leaf head (Err fault) is placed fits = λ told.
    absurd (is_unplaced t behind leaf head is placed
    (subst (CopyFaultFits ⊥ (IsFalse (is_placed behind leaf.number leaf.reason)) (Unit {0})) told fits))

placed_behind : (others : List Leaf) →
    AllByRecursion (λ (other : Leaf). IsTrue (is_placed true other.number other.reason)) others →
    ArePlaced true others
placed_behind [] placed = tt
placed_behind (one ∷ more) placed = placed

-- the next of them, and those behind it
module _ (t : Tables) (behind : Bool) (items rest : List VersionHead) (head : VersionHead)
    (steps : items ≡ head ∷ rest) (has : HasPlacedVersions t behind items) where
  placed : ArePlaced behind (map (leaf_by t) (head ∷ rest))
  placed = subst (λ (list : List VersionHead). ArePlaced behind (map (leaf_by t) list)) steps has.placed

  leaves : All (λ (one : VersionHead). HasLeaf t one.id) (head ∷ rest)
  leaves = subst (All (λ (one : VersionHead). HasLeaf t one.id)) steps has.leaves

  pub version_next : HasPlacedVersion t behind head
  version_next = record {
    leaf = All-head (λ (one : VersionHead). HasLeaf t one.id) head rest leaves;
    placed = placed.0;
  }

  pub versions_next : HasPlacedVersions t true rest
  versions_next = record {
    leaves = All-rest (λ (one : VersionHead). HasLeaf t one.id) head rest items steps has.leaves;
    placed = placed_behind (map (leaf_by t) rest) placed.1;
  }

-- all of a record
pub versions_placed : (t : Tables) (kept : ℤ) (heads : List VersionHead) →
    heads ≡ versions_of t kept →
    HasVersions t kept → HasPlacedVersions t false heads
versions_placed t kept heads given has = record {
  leaves = leaves_below t kept heads given has.versions;
  placed = subst (ArePlaced false) (sym (ap (map (leaf_by t)) given ∙ leaves_found t kept))
      has.placed;
}

-- ---- records

-- those of the laboratory that was found
pub range_of : (t : Tables) (code : List ℕ) (from last : ℕ) (lab : LabHead) →
    Some lab ≡ lab_at t code → HasRange t code from last → HasNumbered t lab.id from last
range_of t code from last lab there has =
    subst (λ (found : Option LabHead). IfSome found (λ (one : LabHead).
    HasNumbered t one.id from last)) (sym there) has.records
