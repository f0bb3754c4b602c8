-- From the bytes that a reader has left to what is found of a copy.
use Rattle.std.specs.Prelude.{◌==◌, IfSome}
use Rattle.std.proofs.Common.{◌≡◌, ℕ, ◌+◌, ◌-◌, ◌≤◌, zero, suc, Bool, true, false, if◌then◌else◌, List, [], ◌∷◌, ◌++◌, length, Option, Some, None, Result, Ok, Err, refl, sym, ap, subst, ◌∙◌, arith}
use Rattle.std.proofs.lemmas.List.{length_push}
use Rattle.csv.specs.Machine.{Read as RecordRead, next_record, step, start_record, start_field, ends_with, ends_at_end, is_end, fields_after, field_after}
use Rattle.csv.specs.Reading.{ReadRecord, ReadsNext, NextIs, default_config, reader_config, reader_state, records_from, records_next, source_of, strip_bom}
use Rattle.csv.specs.declared.reader.Reader.{Reader}
use Rattle.csv.specs.declared.parser.Action.{Action}
use Rattle.csv.specs.declared.parser.Action.TheVariants as act
use Rattle.csv.specs.declared.parser.Config.{Config}
use Rattle.csv.specs.declared.parser.Terminator.TheVariants as term
use Rattle.csv.specs.declared.parser.State.{State}
use Rattle.csv.specs.declared.parser.State.TheVariants as st
use Rattle.lab_copy_rows.specs.Copies.{flaw_of_line, is_header, line_in, verdict, verdict_after, verdict_of_line, verdict_or}
use Rattle.lab_copy_rows.specs.declared.flaws.Flaw.{Flaw}
use Rattle.lab_copy_rows.specs.declared.flaws.Flaw.TheVariants as flaw
use Rattle.lab_copy_rows.specs.declared.lines.Counts.{Counts}
use Rattle.lab_copy_rows.specs.declared.lines.Line.{Line}
use Rattle.lab_copy.specs.Faults.{IsAnswer}
use Rattle.lab_copy.specs.Checks.{csv_rows_of}
use Rattle.lab_copy_lines.specs.Lines.{line_at}
use Rattle.lab_copy.specs.Kept.{IsAt, IsTaken, edition_by, kept_none, verdict_kept}
use Rattle.lab_copy.specs.Private.Left.{AreRows, IsEnough, IsLeftOf}
use Rattle.lab_copy.specs.declared.faults.CopyFault.{CopyFault}
use Rattle.lab_copy.specs.declared.faults.CopyFault.TheVariants.{Flawed, Read, Memory}
use Rattle.lab_copy.specs.declared.kept.Kept.{Kept}
use Rattle.lab_copy.proofs.KeptLemmas.{at_none, edition_is, verdict_at_end}
use Rattle.lab_copy_rows.proofs.ListLemmas.{never, no_some, some_same}

-- ---- each record takes a byte at least, and ends between records

pub shorter : (cfg : Config) (s : State) (fields : List (List ℕ)) (field xs : List ℕ) (p : RecordRead)
    → next_record cfg s fields field xs ≡ Some p → length p.2 ≤ length xs - 1
unfolding next_record
shorter cfg s fields field [] p is = by (ends_at_end s) is
  where
    by : (b : Bool) → (if b then Some (fields ++ (field ∷ []), st.StartRecord, []) else None) ≡ Some p → length p.2 ≤ 0
    by true e = subst (λ (q : RecordRead). length q.2 ≤ 0) (some_same _ p e) (omega arith)
    by false e = no_some p e
shorter cfg s fields field (c ∷ rest) p is =
    by (is_end (step cfg s c).1) _ is
    (shorter cfg (step cfg s c).0 (fields_after (step cfg s c).1 fields field) (field_after (step cfg s c).1 c field) rest p)
  where
    by : (b : Bool) (more : Option RecordRead)
        → (if b then Some (fields_after (step cfg s c).1 fields field, (step cfg s c).0, rest) else more) ≡ Some p
        → (more ≡ Some p → length p.2 ≤ length rest - 1) → length p.2 ≤ length (c ∷ rest) - 1
    by true more e less = subst (λ (q : RecordRead). length q.2 ≤ length (c ∷ rest) - 1) (some_same _ p e) (omega arith)
    by false more e less = omega (arith, less e)

abbrev pub field_step : Bool → Bool → Bool → State × Action
field_step comma ends ret =
    if comma then (st.StartField, act.EndField)
    else if ends then ((if ret then st.AfterCr else st.StartRecord), act.EndRecord) else (st.InField, act.Copy)

abbrev pub quote_step : Bool → Bool → Bool → Bool → State × Action
quote_step quote comma ends ret = if quote then (st.InQuoted, act.Skip) else field_step comma ends ret

abbrev pub copy_step : Bool → Bool → Bool → Bool → State × Action
copy_step quote comma ends ret = if quote then (st.InQuoted, act.Copy) else field_step comma ends ret

abbrev skip_step : Bool → State → State → State × Action
skip_step b one other = if b then (one, act.Skip) else (other, act.Skip)

abbrev pub inside_step : Bool → State × Action
inside_step b = if b then (st.AfterQuote, act.Skip) else (st.InQuoted, act.Copy)

abbrev pub record_step : Bool → ℕ → State × Action
record_step ends c = if ends then (st.StartRecord, act.Skip) else start_field default_config c

abbrev pub return_step : Bool → ℕ → State × Action
return_step b c = if b then (st.StartRecord, act.Skip) else start_record default_config c

field_end : (comma ends ret : Bool)
    → is_end (field_step comma ends ret).1 ≡ true
    → ends_at_end (field_step comma ends ret).0 ≡ false
field_end true ends ret e = never e
field_end false true true e = refl
field_end false true false e = refl
field_end false false ret e = never e

quote_end : (quote comma ends ret : Bool)
    → is_end (quote_step quote comma ends ret).1 ≡ true
    → ends_at_end (quote_step quote comma ends ret).0 ≡ false
quote_end true comma ends ret e = never e
quote_end false comma ends ret e = field_end comma ends ret e

copy_end : (quote comma ends ret : Bool)
    → is_end (copy_step quote comma ends ret).1 ≡ true
    → ends_at_end (copy_step quote comma ends ret).0 ≡ false
copy_end true comma ends ret e = never e
copy_end false comma ends ret e = field_end comma ends ret e

record_end : (c : ℕ) → is_end (start_record default_config c).1 ≡ true → ends_at_end (start_record default_config c).0 ≡ false
record_end c = by (ends_with term.CRLF c)
  where
    by : (ends : Bool)
        → is_end (record_step ends c).1 ≡ true
        → ends_at_end (record_step ends c).0 ≡ false
    by true e = never e
    by false e = quote_end (c == 34) (c == 44) (ends_with term.CRLF c) (c == 13) e

skip_end : (b : Bool) (one other : State) → is_end (skip_step b one other).1 ≡ true
    → ends_at_end (skip_step b one other).0 ≡ false
skip_end true one other e = never e
skip_end false one other e = never e

inside_end : (b : Bool) → is_end (inside_step b).1 ≡ true
    → ends_at_end (inside_step b).0 ≡ false
inside_end true e = never e
inside_end false e = never e

return_end : (c : ℕ) (b : Bool) → is_end (return_step b c).1 ≡ true
    → ends_at_end (return_step b c).0 ≡ false
return_end c true e = never e
return_end c false e = record_end c e

-- a step that ends a record leads between records
step_end : (s : State) (c : ℕ) → is_end (step default_config s c).1 ≡ true → ends_at_end (step default_config s c).0 ≡ false
step_end st.StartRecord c e = record_end c e
step_end st.StartField c e = quote_end (c == 34) (c == 44) (ends_with term.CRLF c) (c == 13) e
step_end st.InField c e = field_end (c == 44) (ends_with term.CRLF c) (c == 13) e
step_end st.InQuoted c e = inside_end (c == 34) e
step_end st.AfterQuote c e = copy_end (c == 34) (c == 44) (ends_with term.CRLF c) (c == 13) e
step_end st.InEscape c e = never e
step_end st.InComment c e = skip_end (c == 10) st.StartRecord st.InComment e
step_end st.AfterCr c e = return_end c (c == 10) e

between : (s : State) (fields : List (List ℕ)) (field xs : List ℕ) (p : RecordRead)
    → next_record default_config s fields field xs ≡ Some p → ends_at_end p.1 ≡ false
unfolding next_record
between s fields field [] p is = by (ends_at_end s) is
  where
    by : (b : Bool) → (if b then Some (fields ++ (field ∷ []), st.StartRecord, []) else None) ≡ Some p → ends_at_end p.1 ≡ false
    by true e = subst (λ (q : RecordRead). ends_at_end q.1 ≡ false) (some_same _ p e) refl
    by false e = no_some p e
between s fields field (c ∷ rest) p is =
    by (is_end (step default_config s c).1) _ refl is
    (between (step default_config s c).0 (fields_after (step default_config s c).1 fields field) (field_after (step default_config s c).1 c field) rest p)
  where
    by : (b : Bool) (more : Option RecordRead) → is_end (step default_config s c).1 ≡ b
        → (if b then Some (fields_after (step default_config s c).1 fields field, (step default_config s c).0, rest) else more) ≡ Some p
        → (more ≡ Some p → ends_at_end p.1 ≡ false) → ends_at_end p.1 ≡ false
    by true more ends e deeper = subst (λ (q : RecordRead). ends_at_end q.1 ≡ false) (some_same _ p e) (step_end s c ends)
    by false more ends e deeper = deeper e

pub nothing_left : (s : State) → ends_at_end s ≡ false → next_record default_config s [] [] [] ≡ None
unfolding next_record
nothing_left s e = rw e refl

-- ---- the records that are left

pub some_left : (fuel : ℕ) (s : State) (xs : List ℕ) (p : RecordRead) → IsEnough fuel s xs → next_record default_config s [] [] xs ≡ Some p
    → (less : ℕ) × (records_from default_config fuel s xs ≡ p.0 ∷ records_from default_config less p.1 p.2) × IsEnough less p.1 p.2
unfolding records_from
some_left zero s [] p enough is = no_some p (sym (nothing_left s enough.between) ∙ is)
some_left zero s (x ∷ xs) p enough is = absurd (omega (arith, enough.few))
some_left (suc fuel) s xs p enough is = (
  fuel,
  ap (records_next (records_from default_config fuel)) is,
  record {
    between = between s [] [] xs p is;
    few = omega (arith, enough.few, shorter default_config s [] [] xs p is);
  },
)

pub none_left : (fuel : ℕ) (s : State) (xs : List ℕ) → next_record default_config s [] [] xs ≡ None → records_from default_config fuel s xs ≡ []
unfolding records_from
none_left zero s xs is = refl
none_left (suc fuel) s xs is = ap (records_next (records_from default_config fuel)) is

-- what a read shows, where the bytes before it are known
read_some : (s after : State) (xs : List ℕ) (next : Option (List ℕ)) (fields : List (List ℕ))
    → ReadsNext default_config s (Some xs) next true fields after
    → (p : RecordRead) × (next_record default_config s [] [] xs ≡ Some p) × (fields ≡ p.0) × (after ≡ p.1) × (next ≡ Some p.2)
read_some s after xs None fields reads = absurd reads
read_some s after xs (Some rest) fields reads = by (next_record default_config s [] [] xs) refl reads
  where
    by : (o : Option RecordRead) → next_record default_config s [] [] xs ≡ o → NextIs o true fields after rest
        → (p : RecordRead) × (next_record default_config s [] [] xs ≡ Some p) × (fields ≡ p.0) × (after ≡ p.1) × (Some rest ≡ Some p.2)
    by None e n = never (sym n)
    by (Some p) e n = (p, e, n.1, n.2, ap (λ bytes. Some bytes) n.3)

read_none : (s after : State) (xs : List ℕ) (next : Option (List ℕ)) (fields : List (List ℕ))
    → ReadsNext default_config s (Some xs) next false fields after → next_record default_config s [] [] xs ≡ None
read_none s after xs None fields reads = absurd reads
read_none s after xs (Some rest) fields reads = by (next_record default_config s [] [] xs) refl reads
  where
    by : (o : Option RecordRead) → next_record default_config s [] [] xs ≡ o → NextIs o false fields after rest
        → next_record default_config s [] [] xs ≡ None
    by None e n = e
    by (Some p) e n = never n.0

-- ---- a reader

-- what a read of a record shows, by the bytes that the reader has before and after it
pub record_reads : {R : Type 0} (rem : R → Option (List ℕ)) (old new : Reader R) (found : Bool) (fields : List (List ℕ))
    → reader_config old ≡ default_config → ReadRecord rem old new found fields
    → ReadsNext default_config (reader_state old) (source_of rem old) (source_of rem new) found fields (reader_state new)
record_reads rem old new found fields config read = rw read.1 (rw config at read.0)

-- what is said of known bytes
pub when_known : (known : Option (List ℕ)) (Q : List ℕ → Type 0) → ((bytes : List ℕ) → known ≡ Some bytes → Q bytes) → IfSome known Q
when_known None Q more = tt
when_known (Some bytes) Q more = more bytes refl

-- ---- the header

pub no_header : (bytes : List ℕ) (after : State) (next : Option (List ℕ)) (fields : List (List ℕ))
    → ReadsNext default_config st.StartRecord (Some (strip_bom bytes)) next false fields after
    → verdict (csv_rows_of bytes) ≡ Err flaw.NoEnd
unfolding verdict
no_header bytes after next fields reads =
    ap verdict (none_left (length (strip_bom bytes) + 1) st.StartRecord (strip_bom bytes)
    (read_none st.StartRecord after (strip_bom bytes) next fields reads))

first_left : (bytes : List ℕ) (after : State) (next : Option (List ℕ)) (fields : List (List ℕ))
    → ReadsNext default_config st.StartRecord (Some (strip_bom bytes)) next true fields after
    → (rest : List ℕ) × (fuel : ℕ) × (next ≡ Some rest) × IsEnough fuel after rest
    × (csv_rows_of bytes ≡ fields ∷ records_from default_config fuel after rest)
first_left bytes after next fields reads =
    let found = read_some st.StartRecord after (strip_bom bytes) next fields reads in
    let left = some_left (length (strip_bom bytes) + 1) st.StartRecord (strip_bom bytes) found.0
    (record { between = refl; few = omega arith }) found.1 in (
      found.0.2,
      left.0,
      found.4,
      subst (λ s. IsEnough left.0 s found.0.2) (sym found.3) left.2,
      left.1 ∙ (λ i. sym found.2 i ∷ records_from default_config left.0 (sym found.3 i) found.0.2),
    )

pub bad_header : (bytes : List ℕ) (after : State) (next : Option (List ℕ)) (fields : List (List ℕ))
    → ReadsNext default_config st.StartRecord (Some (strip_bom bytes)) next true fields after
    → is_header fields ≡ false → verdict (csv_rows_of bytes) ≡ Err (flaw.BadRow 1)
unfolding verdict
bad_header bytes after next fields reads bad =
    let left = first_left bytes after next fields reads in
    ap verdict left.4
    ∙ ap (λ b. if b then verdict_after [] (records_from default_config left.1 after left.0) else Err (flaw.BadRow 1)) bad

pub begun_left : (bytes : List ℕ) (after : State) (next : Option (List ℕ)) (fields : List (List ℕ))
    → ReadsNext default_config st.StartRecord (Some (strip_bom bytes)) next true fields after
    → is_header fields ≡ true → IsLeftOf (verdict (csv_rows_of bytes)) kept_none 2 after next
unfolding verdict
begun_left bytes after next fields reads good =
    let left = first_left bytes after next fields reads in (
      left.0,
      left.2,
      record {
        lines = [];
        fuel = left.1;
        row_is = refl;
        kept_at = at_none;
        enough = left.3;
        found_is = ap verdict left.4
            ∙ ap (λ b. if b then verdict_after [] (records_from default_config left.1 after left.0) else Err (flaw.BadRow 1)) good;
      },
    )

-- ---- a row more

-- what is found, once a row came
record IsAhead (found : Result Counts Flaw) (kept : Kept) (row : ℕ) (fields : List (List ℕ)) (state : State) (source : Option (List ℕ)) : Type 0 where
  lines : List Line
  rest : List ℕ
  fuel : ℕ
  row_is : row ≡ length lines + 2
  kept_at : IsAt kept lines
  source_is : source ≡ Some rest
  enough : IsEnough fuel state rest
  found_is : found ≡ verdict_of_line lines (line_in lines fields) (λ all. verdict_after all (records_from default_config fuel state rest))

ahead : (found : Result Counts Flaw) (kept : Kept) (row : ℕ) (before after : State) (source next : Option (List ℕ)) (fields : List (List ℕ))
    → IsLeftOf found kept row before source → ReadsNext default_config before source next true fields after
    → IsAhead found kept row fields after next
unfolding verdict_after
ahead found kept row before after source next fields left reads =
    let bytes = left.0 in
    let is = left.2 in
    let came = read_some before after bytes next fields (subst (λ bytes. ReadsNext default_config before bytes next true fields after) left.1 reads) in
    let more = some_left is.fuel before bytes came.0 is.enough came.1 in
    let rows : records_from default_config is.fuel before bytes ≡ fields ∷ records_from default_config more.0 after came.0.2 =
    more.1 ∙ (λ i. sym came.2 i ∷ records_from default_config more.0 (sym came.3 i) came.0.2) in
    record {
      lines = is.lines;
      rest = came.0.2;
      fuel = more.0;
      row_is = is.row_is;
      kept_at = is.kept_at;
      source_is = came.4;
      enough = subst (λ s. IsEnough more.0 s came.0.2) (sym came.3) more.2;
      found_is = is.found_is ∙ ap (verdict_after is.lines) rows;
    }

pub line_same : (kept : Kept) (lines : List Line) (fields : List (List ℕ)) → IsAt kept lines
    → line_at (edition_by kept.copy) fields ≡ line_in lines fields
line_same kept lines fields kept_at = ap (λ edition. line_at edition fields) (edition_is kept lines kept_at)

module _ (found : Result Counts Flaw) (kept : Kept) (row : ℕ) (before after : State) (source next : Option (List ℕ)) (fields : List (List ℕ))
    (left : IsLeftOf found kept row before source) where
  pub at_end : ReadsNext default_config before source next false fields after → found ≡ verdict_kept kept
  unfolding verdict_after
  at_end reads =
      let is = left.2 in
      is.found_is
      ∙ ap (verdict_after is.lines) (none_left is.fuel before left.0 (read_none before after left.0 next fields
      (subst (λ bytes. ReadsNext default_config before bytes next false fields after) left.1 reads)))
      ∙ sym (verdict_at_end kept is.lines is.kept_at)

  module _ (reads : ReadsNext default_config before source next true fields after) where
    pub bad_row : line_at (edition_by kept.copy) fields ≡ None → found ≡ Err (flaw.BadRow row)
    bad_row none =
        let is = ahead found kept row before after source next fields left reads in
        is.found_is
        ∙ ap (λ line. verdict_of_line is.lines line (λ all. verdict_after all (records_from default_config is.fuel after is.rest)))
        (sym (line_same kept is.lines fields is.kept_at) ∙ none)
        ∙ ap (λ n. Err (flaw.BadRow n)) (sym is.row_is)

    -- a line came
    module _ (line : Line) (is_line : line_at (edition_by kept.copy) fields ≡ Some line) where
      behind : IsAhead found kept row fields after next
      behind = ahead found kept row before after source next fields left reads

      abbrev later : Result Counts Flaw
      later = verdict_after (behind.lines ++ (line ∷ [])) (records_from default_config behind.fuel after behind.rest)

      found_by : found ≡ verdict_or later (flaw_of_line behind.lines line)
      found_by =
          behind.found_is
          ∙ ap (λ one. verdict_of_line behind.lines one (λ all. verdict_after all (records_from default_config behind.fuel after behind.rest)))
          (sym (line_same kept behind.lines fields behind.kept_at) ∙ is_line)

      pub taken_left : (more : Kept)
          → ((lines : List Line) → row ≡ length lines + 2 → IsAt kept lines → IsTaken lines line more (Ok tt))
          → IsLeftOf found more (row + 1) after next
      taken_left more takes =
          let took = takes behind.lines behind.row_is behind.kept_at in (
            behind.rest,
            behind.source_is,
            record {
              lines = behind.lines ++ (line ∷ []);
              fuel = behind.fuel;
              row_is = omega (arith, behind.row_is, length_push behind.lines line);
              kept_at = took.1;
              enough = behind.enough;
              found_is = found_by ∙ ap (verdict_or later) took.0;
            },
          )

      pub taken_fault : (more : Kept) (fault : CopyFault)
          → ((lines : List Line) → row ≡ length lines + 2 → IsAt kept lines → IsTaken lines line more (Err fault))
          → IsAnswer found (Err fault)
      taken_fault more (Flawed told) takes = found_by ∙ ap (verdict_or later) (takes behind.lines behind.row_is behind.kept_at)
      taken_fault more Read takes = tt
      taken_fault more (Memory _) takes = tt

-- ---- how many rows there are

pub rows_begun : (bytes : List ℕ) (after : State) (next : Option (List ℕ)) (fields : List (List ℕ))
    → ReadsNext default_config st.StartRecord (Some (strip_bom bytes)) next true fields after
    → AreRows (length (csv_rows_of bytes)) 2 after next
rows_begun bytes after next fields reads =
    let left = first_left bytes after next fields reads in
    (left.0, left.1, left.2, left.3, omega (arith, ap length left.4))

module _ (total row : ℕ) (before after : State) (source next : Option (List ℕ)) (fields : List (List ℕ))
    (rows : AreRows total row before source) where
  pub rows_end : ReadsNext default_config before source next false fields after → total + 1 ≡ row
  rows_end reads =
      let none = none_left rows.1 before rows.0 (read_none before after rows.0 next fields
      (subst (λ bytes. ReadsNext default_config before bytes next false fields after) rows.2 reads)) in
      omega (arith, rows.4, ap length none)

  pub rows_next : ReadsNext default_config before source next true fields after → AreRows total (row + 1) after next
  rows_next reads =
      let came = read_some before after rows.0 next fields
      (subst (λ bytes. ReadsNext default_config before bytes next true fields after) rows.2 reads) in
      let more = some_left rows.1 before rows.0 came.0 rows.3 came.1 in
      let here : records_from default_config more.0 came.0.1 came.0.2 ≡ records_from default_config more.0 after came.0.2 =
      ap (λ s. records_from default_config more.0 s came.0.2) (sym came.3) in (
        came.0.2,
        more.0,
        came.4,
        subst (λ s. IsEnough more.0 s came.0.2) (sym came.3) more.2,
        omega (arith, rows.4, ap length more.1, ap length here),
      )
