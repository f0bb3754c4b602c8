-- The copy of a laboratory that is bound, under dual control and within its limits is sound.
use Rattle.std.proofs.Common.{◌≡◌, ℕ, ◌+◌, ◌<◌, ◌≤◌, Bool, true, false, List, [], ◌∷◌, ◌++◌, map, length, Option, Some, None, refl, sym, ap, subst, ◌∙◌, append_assoc, append-nil, arith}
use Rattle.std.specs.Prelude.{◌==◌, ◌&&◌, cond, All, MatchOption, nat_le, nat_lt, filter, if◌then◌else◌}
use Rattle.std.specs.List.{flat_map, filter_map, AllByRecursion}
use Rattle.std.proofs.lemmas.Bool.Decides.{Decides-ltb}
use Rattle.std.proofs.lemmas.Bool.{le-leb}
use Rattle.std.proofs.lemmas.List.Elements.{All-head, All-tail, filter_map-append}
use Rattle.lab_records_kept.specs.declared.labs.Lab.{Lab}
use Rattle.lab_records_kept.specs.declared.records.Record.{Record as KeptRecord}
use Rattle.lab_records_kept.specs.Bound.{IsBound, IsBoundRecord}
use Rattle.lab_records_kept.specs.Dual.{IsDual, IsDualRecord}
use Rattle.lab_records_kept.specs.Limits.{IsWithin, AreNumberedAfter, IsOrderly}
use Rattle.lab_records_kept.specs.Lookups.{is_within, records_within}
use Rattle.lab_seal.specs.Reading.{◌>>=◌}
use Rattle.lab_copy_rows.specs.Copies.{AreFlawless, StandFor, IsSoundCopy, edition_of, is_end, is_of_edition, line_in, may_follow, is_some_and, is_none_or, is_of_version, was_asked, is_later_record, has_its_numbers, last_of, last_record, counts_of, are_same_counts, record_in, version_in, entry_in, signature_in, is_in_place, flaw_shown, flaw_of_last_version, flaw_of_line}
use Rattle.lab_copy_rows.specs.Lines.{IsLine}
use Rattle.lab_copy_rows.specs.Reading.{columns_of, line_of}
use Rattle.lab_copy_rows.specs.Rows.{fields_in, header_row, columns_of_line}
use Rattle.lab_copy_rows.specs.declared.flaws.Flaw.TheVariants as flaw
use Rattle.lab_copy_rows.specs.declared.lines.CopyLine.{CopyLine}
use Rattle.lab_copy_rows.specs.declared.lines.Counts.{Counts}
use Rattle.lab_copy_rows.specs.declared.lines.Edition.TheVariants.{Two}
use Rattle.lab_copy_rows.specs.declared.lines.EndLine.{EndLine}
use Rattle.lab_copy_rows.specs.declared.lines.Line.{Line}
use Rattle.lab_copy_rows.specs.declared.lines.Line.TheVariants.{Copy, Record, Version, Entry, Signature, End}
use Rattle.lab_copy_rows.specs.declared.lines.RecordLine.{RecordLine}
use Rattle.lab_copy_rows.proofs.ReadLemmas.{read_back}
use Rattle.lab_records_copies.specs.declared.orders.CopyOrder.{CopyOrder}
use Rattle.lab_records_copies.specs.CopyLines.{copy_line, record_line, end_line, record_lines, body_lines, copy_lines, copy_of, fields_of_line, rows_of_lines}
use Rattle.lab_records_copies.specs.Soundness.{AreLines, CopiesAreSound}
use Rattle.lab_copy_rows.proofs.ListLemmas.{last_push, skip_push, never}
use Rattle.lab_records_copies.proofs.PlaceLemmas.{same_number, both, in_place, no_flaw}
use Rattle.lab_records_copies.proofs.VersionLemmas.{flawless_append}
use Rattle.lab_records_copies.proofs.WholeLemmas.{Ends, record_flawless}

-- ---- records that were asked for, by their numbers

-- a record that a copy may show
pub record IsGood (lab : List ℕ) (kept : KeptRecord) : Type 0 where
  pub bound : IsBoundRecord lab kept
  pub dual : IsDualRecord kept
  pub orderly : IsOrderly kept

-- records with numbers behind this one, in order and in the range
abbrev pub AreAsked : List ℕ → ℕ → ℕ → ℕ → List KeptRecord → Type 0
AreAsked lab from to before [] = Unit {0}
AreAsked lab from to before (kept ∷ others) =
    (before < kept.number) × (is_within from to kept.number ≡ true) × IsGood lab kept
    × AreAsked lab from to kept.number others

asked_later : (lab : List ℕ) (from to before later : ℕ) (records : List KeptRecord) → before ≤ later
    → AreAsked lab from to later records → AreAsked lab from to before records
asked_later lab from to before later [] le are_asked = tt
asked_later lab from to before later (kept ∷ others) le are_asked =
    (omega (arith, are_asked.0, le), are_asked.1, are_asked.2, are_asked.3)

asked_here : (lab : List ℕ) (from to before : ℕ) (kept : KeptRecord) (others : List KeptRecord) (within : Bool)
    → is_within from to kept.number ≡ within → kept.number ≡ before + 1 → IsGood lab kept
    → AreAsked lab from to (before + 1) others
    → AreAsked lab from to before (cond within (kept ∷ others) others)
asked_here lab from to before kept others true is number good are_asked =
    (omega (arith, number), is, good, subst (λ n. AreAsked lab from to n others) (sym number) are_asked)
asked_here lab from to before kept others false is number good are_asked =
    asked_later lab from to before (before + 1) others (omega arith) are_asked

asked : (lab : List ℕ) (from to before : ℕ) (records : List KeptRecord)
    → AreNumberedAfter (λ (kept : KeptRecord). kept.number) before records
    → All (IsBoundRecord lab) records → All IsDualRecord records → All IsOrderly records
    → AreAsked lab from to before (records_within from to records)
asked lab from to before [] numbered bound dual orderly = tt
asked lab from to before (kept ∷ others) numbered bound dual orderly =
    asked_here lab from to before kept (records_within from to others) (is_within from to kept.number) refl numbered.0
    (record {
      bound = All-head (IsBoundRecord lab) kept others bound;
      dual = All-head IsDualRecord kept others dual;
      orderly = All-head IsOrderly kept others orderly;
    })
    (asked lab from to (before + 1) others numbered.1 (All-tail (IsBoundRecord lab) kept others bound)
    (All-tail IsDualRecord kept others dual) (All-tail IsOrderly kept others orderly))

-- ---- lines between records

-- lines without a flaw, behind which a record or the end may come; no record of them has a number behind this one
record Between (lines : List Line) (number : ℕ) : Type 0 where
  last : Line
  last_is : last_of lines ≡ Some last
  record_may : (line : RecordLine) → may_follow last (Record line) ≡ true
  end_may : (line : EndLine) → may_follow last (End line) ≡ true
  good : flaw_of_last_version lines ≡ None
  earlier : MatchOption (last_record lines) (Unit {0}) (λ (about : RecordLine). about.record_number ≤ number)

record_behind : (last : Line) (line : RecordLine) → is_of_version last ≡ true → may_follow last (Record line) ≡ true
record_behind (Copy _) line of = never of
record_behind (Record _) line of = never of
record_behind (Version _) line of = refl
record_behind (Entry _) line of = refl
record_behind (Signature _) line of = refl
record_behind (End _) line of = never of

end_behind : (last : Line) (line : EndLine) → is_of_version last ≡ true → may_follow last (End line) ≡ true
end_behind (Copy _) line of = never of
end_behind (Record _) line of = never of
end_behind (Version _) line of = refl
end_behind (Entry _) line of = refl
end_behind (Signature _) line of = refl
end_behind (End _) line of = never of

after_record : (lines : List Line) (about : RecordLine) → Ends lines about → Between lines about.record_number
after_record lines about ends = record {
  last = ends.last;
  last_is = ends.last_is;
  record_may = λ line. record_behind ends.last line ends.of_version;
  end_may = λ line. end_behind ends.last line ends.of_version;
  good = ends.good;
  earlier =
      subst (λ found. MatchOption found (Unit {0}) (λ (one : RecordLine). one.record_number ≤ about.record_number))
      (sym ends.about_is) (omega arith);
}

later : (found : Option RecordLine) (line : RecordLine) (number : ℕ)
    → MatchOption found (Unit {0}) (λ (about : RecordLine). about.record_number ≤ number) → number < line.record_number
    → is_none_or (is_later_record line) found ≡ true
later None line number earlier lt = refl
later (Some about) line number earlier lt = (Decides-ltb about.record_number line.record_number).1 (omega (arith, earlier, lt))

module _ (lab name : List ℕ) (order : CopyOrder) where
  abbrev copy : CopyLine
  copy = copy_line lab name order

  record_own : (rest : List Line) (kept : KeptRecord) (number : ℕ) → Between (Copy copy ∷ rest) number
      → number < kept.number → is_within order.from order.to kept.number ≡ true
      → flaw_of_line (Copy copy ∷ rest) (Record (record_line lab kept)) ≡ None
  record_own rest kept number between lt within =
      let line = record_line lab kept in
      no_flaw copy rest (Record line)
      (in_place copy rest between.last (Record line) between.last_is refl (between.record_may line)
      (both (was_asked copy line) (is_none_or (is_later_record line) (last_record (Copy copy ∷ rest))) within
      (later (last_record (Copy copy ∷ rest)) line number between.earlier lt)))
      between.good

  records_flawless : (rest : List Line) (number : ℕ) (records : List KeptRecord) → Between (Copy copy ∷ rest) number
      → AreAsked lab order.from order.to number records
      → AreFlawless (Copy copy ∷ rest) (body_lines lab records)
      × (last : ℕ) × Between (Copy copy ∷ rest ++ body_lines lab records) last
  unfolding AreFlawless
  records_flawless rest number [] between are_asked =
      (tt, number, subst (λ lines. Between (Copy copy ∷ lines) number) (sym (append-nil rest)) between)
  records_flawless rest number (kept ∷ others) between are_asked =
      let good = are_asked.2 in
      let one =
      record_flawless copy lab kept refl rest good.bound good.dual good.orderly (record_own rest kept number between are_asked.0 are_asked.1) in
      let more =
      records_flawless (rest ++ record_lines lab kept) kept.number others
      (after_record (Copy copy ∷ rest ++ record_lines lab kept) (record_line lab kept) one.1) are_asked.3 in (
        flawless_append (Copy copy ∷ rest) (record_lines lab kept) (body_lines lab others) one.0 more.0,
        more.1,
        subst (λ lines. Between (Copy copy ∷ lines) more.1)
            (append_assoc rest (record_lines lab kept) (body_lines lab others)) more.2,
      )

  -- ---- the first line, and the last one

  first_own : order.from ≤ order.to → flaw_of_line [] (Copy copy) ≡ None
  unfolding flaw_of_line is_in_place flaw_of_last_version
  first_own le =
      let range : nat_le order.from order.to ≡ true = le-leb order.from order.to le in
      (λ i. if range i then flaw_of_last_version [] else Some (flaw.Order 2))

  begins : Between (Copy copy ∷ []) 0
  unfolding flaw_of_last_version
  begins = record {
    last = Copy copy;
    last_is = refl;
    record_may = λ line. refl;
    end_may = λ line. refl;
    good = refl;
    earlier = tt;
  }

  end_own : (rest : List Line) (number : ℕ) → Between (Copy copy ∷ rest) number
      → flaw_of_line (Copy copy ∷ rest) (End (end_line lab (counts_of (Copy copy ∷ rest)))) ≡ None
  end_own rest number between =
      let counts = counts_of (Copy copy ∷ rest) in
      let line = end_line lab counts in
      let same : are_same_counts counts counts ≡ true =
      (λ i. same_number counts.records i && same_number counts.versions i && same_number counts.entries i
      && same_number counts.signatures i) in
      no_flaw copy rest (End line)
      (in_place copy rest between.last (End line) between.last_is refl (between.end_may line) same) between.good

  pub copy_flawless : (records : List KeptRecord) → order.from ≤ order.to → AreAsked lab order.from order.to 0 records
      → AreFlawless [] (copy_lines lab name order records)
  unfolding AreFlawless
  copy_flawless records le are_asked =
      let body = records_flawless [] 0 records begins are_asked in (
        first_own le,
        flawless_append (Copy copy ∷ []) (body_lines lab records) (End (end_line lab (counts_of (body_lines lab records))) ∷ [])
            body.0 (end_own (body_lines lab records) body.1 body.2, tt),
      )

-- ---- rows stand for their lines

read_in : (before : List Line) (line : Line) → IsLine line → is_of_edition (edition_of before) line ≡ true
    → line_in before (fields_of_line line) ≡ Some line
read_in before line is edition =
    ap (λ (found : Option Line). found >>= (λ (one : Line). if is_of_edition (edition_of before) one then Some one else None)) (read_back line is)
    ∙ ap (λ b. if b then Some line else None) edition

stand_behind : (first : CopyLine) (rest lines : List Line) → first.edition ≡ Two → AllByRecursion IsLine lines
    → StandFor (Copy first ∷ rest) (rows_of_lines lines) lines
unfolding StandFor
stand_behind first rest [] two are = tt
stand_behind first rest (line ∷ lines) two are = (
  read_in (Copy first ∷ rest) line are.0 (ap (λ edition. is_of_edition edition line) two),
  stand_behind first (rest ++ (line ∷ [])) lines two are.1,
)

-- ---- the whole copy

counts_push : (lines : List Line) (line : EndLine) → counts_of (lines ++ (End line ∷ [])) ≡ counts_of lines
counts_push lines line =
    (λ i. record {
      records = length (skip_push record_in lines (End line) refl i);
      versions = length (skip_push version_in lines (End line) refl i);
      entries = length (skip_push entry_in lines (End line) refl i);
      signatures = length (skip_push signature_in lines (End line) refl i);
    })

pub copies_are_sound : CopiesAreSound
unfolding StandFor
copies_are_sound lab order le bound dual within are =
    let records = records_within order.from order.to lab.records in
    let first = copy_line lab.code lab.name order in
    let body = body_lines lab.code records in
    let end = end_line lab.code (counts_of body) in
    record {
      after_header = rows_of_lines (copy_lines lab.code lab.name order records);
      lines = copy_lines lab.code lab.name order records;
      begins = refl;
      reads = (
        read_in [] (Copy first) are.0 refl,
        stand_behind first [] (body ++ (End end ∷ [])) refl are.1,
      );
      flawless =
          copy_flawless lab.code lab.name order records le
          (asked lab.code order.from order.to 0 lab.records within.records_numbered bound dual within.orderly);
      ends = ap (is_some_and is_end) (last_push (Copy first ∷ body) (End end));
      counted = counts_push (Copy first ∷ body) end;
    }
