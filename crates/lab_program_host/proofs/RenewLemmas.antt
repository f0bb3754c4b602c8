-- Bytes that were put where they were read leave the file as it was; and one whose bytes were all
-- written is left as it is read.
use Rattle.std.proofs.Common.{arith, ◌≡◌, ◌+◌, ◌-◌, ◌<◌, ◌≤◌, ◌∙◌, ℕ, List, length, inl, inr, sym, subst}
use Rattle.std.specs.Prelude.{Err, Ok, OnOk, Result, slice_index, max}
use Rattle.std.proofs.lemmas.Bool.{cases_lt}
use Rattle.std.proofs.lemmas.List.{ext_get_or}
use Rattle.lab_program_host.specs.Renewing.{HasAt, IsLeft, IsPutAt}

module _ (at : ℕ) (bytes old new : List ℕ) (read : HasAt at bytes old) (put : IsPutAt at bytes old new) where
  inside : (i : ℕ) → i < length bytes → slice_index new (at + i) ≡ slice_index old (at + i)
  inside i short = put.has.each i short ∙ sym (read.each i short)

  same_byte : (i : ℕ) → i < length old → slice_index new i ≡ slice_index old i
  same_byte i short = elim (cases_lt i at) [
    | inl before ↦ put.before i short before
    | inr behind ↦ elim (cases_lt i (at + length bytes)) [
      | inl within ↦ let place : at + (i - at) ≡ i = omega arith in
          subst (λ (k : ℕ). slice_index new k ≡ slice_index old k) place (inside (i - at) (omega arith))
      | inr past ↦ put.behind i short past
    ]
  ]

  pub put_as_read : new ≡ old
  put_as_read =
      let whole = read.within in
      let long = put.same_length in
      let same : length new ≡ length old = omega arith in
      ext_get_or 0 new old same (λ i short. same_byte i (omega arith))

pub left_as_seen : (written : ℕ → Type 0) (seen left : List ℕ) → ((i : ℕ) → i < length seen → written i) →
    IsLeft written seen left → left ≡ seen
left_as_seen written seen left all is =
    let same = is.same_length in
    ext_get_or 0 left seen same (λ i short. is.each i (omega arith) (all i (omega arith)))

-- the same where a call wrote them, if it answered well
pub part_same : {E : Type 0} (result : Result (Unit {0}) E) (middle last : Type 0) (at : ℕ)
    (bytes first seen new : List ℕ) → (last → middle) → (middle → HasAt at bytes first) →
    (middle → seen ≡ first) → OnOk result (last → IsPutAt at bytes seen new) →
    OnOk result (last → new ≡ first)
part_same (Ok done) middle last at bytes first seen new back read same put = λ honest.
    put_as_read at bytes first new (read (back honest))
    (subst (λ (old : List ℕ). IsPutAt at bytes old new) (same (back honest)) (put honest))
part_same (Err fault) middle last at bytes first seen new back read same put = put
