-- What a laboratory's head tells of the laboratory that is meant, and why the text that goes out is
-- that of its copy.
use Rattle.std.proofs.Common.{◌≡◌, ℕ, ◌<◌, ◌≤◌, ◌^◌, ◌&&◌, Bool, true, false, nat_le, IsTrue, List, length, Option, Some, None, refl, sym, ap, subst, ◌∙◌, arith, unwrap_or}
use Rattle.std.proofs.lemmas.Bool.{leb-true}
use Rattle.lab_forms_texts.specs.Ordinals.{is_ordinal, last_ordinal}
use Rattle.lab_records_kept.specs.declared.labs.Lab.{Lab}
use Rattle.lab_records_kept.specs.declared.needs.Slice.{Slice}
use Rattle.lab_records_kept.specs.declared.records.Record.{Record}
use Rattle.lab_records_kept.specs.Lookups.{records_within}
use Rattle.lab_records_kept.specs.Parts.{part, part_of}
use Rattle.lab_records_keeper.specs.Worlds.{Meaning}
use Rattle.lab_copy_rows.specs.declared.lines.CopyLine.{CopyLine}
use Rattle.lab_records_copies.specs.declared.orders.CopyOrder.{CopyOrder}
use Rattle.lab_records_copies.specs.CopyLines.{body_lines, copy_line}
use Rattle.lab_records_copy_out.specs.CopyTexts.{IsWalkable, copy_text, numbers_between, record_need, walked}
use Rattle.lab_records_copy_out.specs.Private.CopyTexts.{last_walked, text_under}
use Rattle.lab_records_copy_out.proofs.NumberLemmas.{walked_range}
use Rattle.lab_records_copy_out.proofs.CountLemmas.{few_within}

-- ---- ordinals

first_holds : (one other : Bool) → (one && other) ≡ true → one ≡ true
first_holds true other is = refl
first_holds false other is = is

pub from_one : (number : ℕ) → IsTrue (is_ordinal number) → 1 ≤ number
from_one number is =
    leb-true 1 number (first_holds (nat_le 1 number) (nat_le number last_ordinal) is)

-- ---- a head

-- a head is that of a laboratory
pub record IsHeadOf (slice : Slice) (kept : Option Lab) : Type 0 where
  pub lab : Lab
  pub there : kept ≡ Some lab
  pub code : slice.code ≡ lab.code
  pub name : slice.name ≡ lab.name
  pub count : slice.counts.records ≡ length lab.records

pub head_there : (slice : Slice) (kept : Option Lab) →
    Some slice ≡ part_of (record_need None) kept → IsHeadOf slice kept
head_there slice None found = absurd (cc)
head_there slice (Some lab) found =
    let same : slice ≡ part (record_need None) lab =
    ap (λ (one : Option Slice). unwrap_or one slice) found in
    record {
      lab = lab;
      there = refl;
      code = ap (λ (one : Slice). one.code) same;
      name = ap (λ (one : Slice). one.name) same;
      count = ap (λ (one : Slice). one.counts.records) same;
    }

-- ---- the text

-- what a copy is written of: its first line and the number of its last record, by the head of the
-- laboratory of a code, which can be walked
pub record IsOrdered (code : List ℕ) (order : CopyOrder) (first : CopyLine) (last : ℕ)
    (slice : Slice) (before now : Meaning) : Type 0 where
  pub head : IsHeadOf slice (before code)
  pub own : head.lab.code ≡ code
  pub same : now code ≡ before code
  pub walkable : IsWalkable head.lab
  pub first_is : first ≡ copy_line slice.code slice.name order
  pub last_is : last ≡ last_walked order.to slice.counts.records

module _ (code : List ℕ) (order : CopyOrder) (first : CopyLine) (last : ℕ) (slice : Slice)
    (before now : Meaning) (is : IsOrdered code order first last slice before now) where
  abbrev asked : List Record
  asked = records_within order.from order.to is.head.lab.records

  records_are : walked (now first.lab) first.from (numbers_between first.from last) ≡ asked
  records_are =
      let lab = is.head.lab in
      let meant : now first.lab ≡ Some lab =
      ap now (ap (λ (line : CopyLine). line.lab) is.first_is ∙ is.head.code ∙ is.own)
      ∙ is.same ∙ is.head.there in
      ap (λ (kept : Option Lab). walked kept first.from (numbers_between first.from last)) meant
      ∙ ap (λ n. walked (Some lab) n (numbers_between n last))
      (ap (λ (line : CopyLine). line.from) is.first_is)
      ∙ ap (λ n. walked (Some lab) order.from (numbers_between order.from n))
      (is.last_is ∙ ap (last_walked order.to) is.head.count)
      ∙ walked_range lab order.from order.to is.walkable.numbered

  -- the rows that are written can be counted
  pub few_walked : length (body_lines first.lab
      (walked (now first.lab) first.from (numbers_between first.from last))) < 2 ^ 64
  few_walked =
      let lab = is.head.lab in
      let few : length (body_lines lab.code asked) < 2 ^ 64 =
      omega (arith, few_within lab.code order.from order.to lab.records, is.walkable.few) in
      let own : lab.code ≡ first.lab =
      sym (ap (λ (line : CopyLine). line.lab) is.first_is ∙ is.head.code) in
      subst (λ (records : List Record). length (body_lines first.lab records) < 2 ^ 64)
      (sym records_are)
      (subst (λ (mine : List ℕ). length (body_lines mine asked) < 2 ^ 64) own few)

  -- the text that is written is that of the copy
  pub text_is : text_under first
      (walked (now first.lab) first.from (numbers_between first.from last))
      ≡ copy_text order (before code)
  text_is =
      let lab = is.head.lab in
      ap (text_under first) records_are
      ∙ ap (λ (line : CopyLine). text_under line asked)
      (is.first_is ∙ ap (λ (mine : List ℕ). copy_line mine slice.name order) is.head.code
      ∙ ap (λ (name : List ℕ). copy_line lab.code name order) is.head.name)
      ∙ sym (ap (copy_text order) is.head.there)
