-- A keeper that is read twice, or not at all, is as it was but for what was read.
use Rattle.std.proofs.Common.{◌≤◌, ℕ, inl, inr, refl, ◌∙◌, arith}
use Rattle.lab_records_keeper.specs.Worlds.{World, Given, HasFaulted, Shuts}
use Rattle.lab_records_copy_out.specs.Resting.{IsOnlyRead}

pub read_none : {S : Type 0} (world : S → World) (rests : S → S → Type 0) (it : S) →
    rests it it → IsOnlyRead world rests it it
read_none world rests it still = record {
  same = λ honest reached live code. refl;
  rested = λ honest reached live. still;
  quiet = λ honest reached live held left. left;
  safe = λ honest reached live safe. safe;
  reached = λ honest reached. reached;
  passes = record { honest = λ is. is; live = λ honest is. is; refusing = λ is. is };
}

-- between the two no fault may have shut it
pub read_on : {S : Type 0} (world : S → World) (rests : S → S → Type 0) (first next last : S) →
    (rests first next → rests next last → rests first last) →
    Given (world first) (world next) ((world first).is_live → (world next).is_live) →
    IsOnlyRead world rests first next → IsOnlyRead world rests next last →
    IsOnlyRead world rests first last
read_on world rests first next last on alive one other = record {
  same = λ honest reached live code.
      let earlier = other.passes.honest honest in
      let middle = one.reached earlier reached in
      other.same honest middle live code
      ∙ one.same earlier reached (other.passes.live honest live) code;
  rested = λ honest reached live.
      let earlier = other.passes.honest honest in
      on (one.rested earlier reached (other.passes.live honest live))
      (other.rested honest (one.reached earlier reached) live);
  quiet = λ honest reached live held left.
      let earlier = other.passes.honest honest in
      one.quiet earlier reached live held
      (other.quiet honest (one.reached earlier reached) (alive earlier reached live) held left);
  safe = λ honest reached live safe.
      let earlier = other.passes.honest honest in
      other.safe honest (one.reached earlier reached) (alive earlier reached live)
      (one.safe earlier reached live safe);
  reached = λ honest reached.
      let earlier = other.passes.honest honest in
      other.reached honest (one.reached earlier reached);
  passes = record {
    honest = λ honest. one.passes.honest (other.passes.honest honest);
    live = λ honest live.
        one.passes.live (other.passes.honest honest) (other.passes.live honest live);
    refusing = λ refuses. one.passes.refusing (other.passes.refusing refuses);
  };
}

-- ---- a fault alone shuts it

pub shuts_none : (world : World) → Given world world (Shuts world world)
shuts_none world = λ honest reached. record { counts = omega arith; cause = λ live. inl live }

faulted_later : (first next last : ℕ) → HasFaulted first next → next ≤ last → HasFaulted first last
faulted_later first next last faulted later = omega (arith, faulted, later)

faulted_since : (first next last : ℕ) → first ≤ next → HasFaulted next last → HasFaulted first last
faulted_since first next last later faulted = omega (arith, later, faulted)

pub shuts_on : {S : Type 0} (world : S → World) (rests : S → S → Type 0) (first next last : S) →
    IsOnlyRead world rests first next → IsOnlyRead world rests next last →
    Given (world first) (world next) (Shuts (world first) (world next)) →
    Given (world next) (world last) (Shuts (world next) (world last)) →
    Given (world first) (world last) (Shuts (world first) (world last))
shuts_on world rests first next last one other early late = λ honest reached.
    let earlier = other.passes.honest honest in
    let before = early earlier reached in
    let after = late honest (one.reached earlier reached) in
    record {
      counts = omega (arith, before.counts, after.counts);
      cause = λ live. elim (before.cause live) [
        | inl still ↦ elim (after.cause still) [
          | inl yet ↦ inl yet
          | inr faulted ↦ inr (faulted_since (world first).faults (world next).faults
              (world last).faults before.counts faulted)
        ]
        | inr faulted ↦ inr (faulted_later (world first).faults (world next).faults
            (world last).faults faulted after.counts)
      ];
    }
