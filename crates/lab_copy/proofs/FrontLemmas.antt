-- What is read of a copy has the verdict of the whole.
use Rattle.std.specs.Prelude.{◌==◌, ◌&&◌, ◌||◌, IfSome, OnOk, nat_le, nat_lt, option_map}
use Rattle.std.proofs.Common.{◌≡◌, ◌⊎◌, inl, inr, ℕ, ◌+◌, ◌-◌, ◌≤◌, ◌<◌, zero, suc, Bool, true, false, if◌then◌else◌, List, [], ◌∷◌, ◌++◌, take, drop, length, Option, Some, None, Result, Ok, Err, refl, sym, ap, subst, ◌∙◌, true≢false, arith}
use Rattle.std.proofs.lemmas.Bool.{leb-true, ltb-true, or_cases, and_parts, eqb-true}
use Rattle.std.proofs.lemmas.List.{length_push}
use Rattle.csv.specs.Machine.{Read as RecordRead, next_record, step, ends_at_end, ends_with, is_end, fields_after, field_after}
use Rattle.csv.specs.Reading.{default_config, is_bom, records_from, strip_bom}
use Rattle.csv.specs.declared.parser.Action.{Action}
use Rattle.csv.specs.declared.parser.Action.TheVariants as act
use Rattle.csv.specs.declared.parser.Terminator.TheVariants as term
use Rattle.csv.specs.declared.parser.State.{State}
use Rattle.csv.specs.declared.parser.State.TheVariants as st
use Rattle.lab_copy_rows.specs.Copies.{flaw_of_line, is_header, line_in, verdict, verdict_after, verdict_of_line, verdict_or}
use Rattle.lab_copy_rows.specs.declared.flaws.Flaw.{Flaw}
use Rattle.lab_copy_rows.specs.declared.flaws.Flaw.TheVariants as flaw
use Rattle.lab_copy_rows.specs.declared.lines.Counts.{Counts}
use Rattle.lab_copy_rows.specs.declared.lines.Line.{Line}
use Rattle.lab_copy_rows.proofs.ListLemmas.{never}
use Rattle.lab_copy.specs.Checks.{most_rows, csv_rows_of}
use Rattle.lab_copy.specs.Faults.{IsAnswer}
use Rattle.lab_copy.specs.Fronts.{SoFar, after, done_by, front, is_too_long, mark_after, most_bytes, most_fields, row_begun, stepped}
use Rattle.lab_copy.specs.Private.Fronts.{text_begun}
use Rattle.lab_copy.proofs.FrontWords.{front_of}
use Rattle.lab_copy.specs.Private.Left.{IsEnough}
use Rattle.lab_copy.specs.declared.faults.CopyFault.{CopyFault}
use Rattle.lab_copy.proofs.LongLemmas.{HasLong, IsLong, no_header, no_line}
use Rattle.lab_copy.proofs.ReadLemmas.{copy_step, field_step, inside_step, none_left, nothing_left, quote_step, record_step, return_step, shorter, some_left}

abbrev Rows : Type 0
Rows = List (List (List ℕ))

-- ---- a row that is too long stays so

long_front : (fields : List (List ℕ)) (field : List ℕ) → HasLong fields → HasLong (fields ++ (field ∷ []))
long_front [] field long = absurd long
long_front (one ∷ fields) field (inl long) = inl long
long_front (one ∷ fields) field (inr long) = inr (long_front fields field long)

long_last : (fields : List (List ℕ)) (field : List ℕ) → most_bytes < length field → HasLong (fields ++ (field ∷ []))
long_last [] field long = inl long
long_last (one ∷ fields) field long = inr (long_last fields field long)

-- of a row whose last field is being read
abbrev IsLongBy : List (List ℕ) → List ℕ → Type 0
IsLongBy fields field = (most_fields ≤ length fields) ⊎ (HasLong fields ⊎ (most_bytes < length field))

long_ended : (fields : List (List ℕ)) (field : List ℕ) → IsLongBy fields field → IsLong (fields ++ (field ∷ []))
long_ended fields field (inl long) = inl (omega (arith, long, length_push fields field))
long_ended fields field (inr (inl long)) = inr (long_front fields field long)
long_ended fields field (inr (inr long)) = inr (long_last fields field long)

long_on : (a : Action) (c : ℕ) (fields : List (List ℕ)) (field : List ℕ) → is_end a ≡ false → IsLongBy fields field
    → IsLongBy (fields_after a fields field) (field_after a c field)
long_on act.Skip c fields field e long = long
long_on act.Copy c fields field e (inl long) = inl long
long_on act.Copy c fields field e (inr (inl long)) = inr (inl long)
long_on act.Copy c fields field e (inr (inr long)) = inr (inr (omega (arith, long, length_push field c)))
long_on act.EndField c fields field e (inl long) = inl (omega (arith, long, length_push fields field))
long_on act.EndField c fields field e (inr (inl long)) = inr (inl (long_front fields field long))
long_on act.EndField c fields field e (inr (inr long)) = inr (inl (long_last fields field long))
long_on act.EndRecord c fields field e long = absurd (true≢false e)

long_end : (a : Action) (fields : List (List ℕ)) (field : List ℕ) → is_end a ≡ true → IsLongBy fields field
    → IsLong (fields_after a fields field)
long_end act.EndRecord fields field e long = long_ended fields field long
long_end act.Skip fields field e long = never e
long_end act.Copy fields field e long = never e
long_end act.EndField fields field e long = never e

none_by : (fields : List (List ℕ)) (field : List ℕ) → fields ≡ [] → field ≡ [] → IsLongBy fields field → ⊥
none_by fields field none empty (inl long) = absurd (omega (arith, long, ap length none))
none_by fields field none empty (inr (inl long)) = subst HasLong none long
none_by fields field none empty (inr (inr long)) = absurd (omega (arith, long, ap length empty))

-- ---- between rows nothing is begun

-- nothing is escaped here, and there is no comment
abbrev IsBegun : State → List (List ℕ) → List ℕ → Type 0
IsBegun st.StartRecord fields field = (fields ≡ []) × (field ≡ [])
IsBegun st.AfterCr fields field = (fields ≡ []) × (field ≡ [])
IsBegun st.StartField fields field = Unit {0}
IsBegun st.InField fields field = Unit {0}
IsBegun st.InQuoted fields field = Unit {0}
IsBegun st.AfterQuote fields field = Unit {0}
IsBegun st.InEscape fields field = ⊥
IsBegun st.InComment fields field = ⊥

abbrev IsBegunBy : State × Action → ℕ → List (List ℕ) → List ℕ → Type 0
IsBegunBy to c fields field = IsBegun to.0 (fields_after to.1 fields field) (field_after to.1 c field)

module _ (c : ℕ) (fields : List (List ℕ)) (field : List ℕ) where
  field_begun : (comma ends ret : Bool) → is_end (field_step comma ends ret).1 ≡ false → IsBegunBy (field_step comma ends ret) c fields field
  field_begun true ends ret e = tt
  field_begun false true ret e = absurd (true≢false e)
  field_begun false false ret e = tt

  quote_begun : (quote comma ends ret : Bool) → is_end (quote_step quote comma ends ret).1 ≡ false
      → IsBegunBy (quote_step quote comma ends ret) c fields field
  quote_begun true comma ends ret e = tt
  quote_begun false comma ends ret e = field_begun comma ends ret e

  copy_begun : (quote comma ends ret : Bool) → is_end (copy_step quote comma ends ret).1 ≡ false
      → IsBegunBy (copy_step quote comma ends ret) c fields field
  copy_begun true comma ends ret e = tt
  copy_begun false comma ends ret e = field_begun comma ends ret e

  inside_begun : (b : Bool) → IsBegunBy (inside_step b) c fields field
  inside_begun true = tt
  inside_begun false = tt

  module _ (none : fields ≡ []) (empty : field ≡ []) where
    record_begun : (ends : Bool) → is_end (record_step ends c).1 ≡ false → IsBegunBy (record_step ends c) c fields field
    record_begun true e = (none, empty)
    record_begun false e = quote_begun (c == 34) (c == 44) (ends_with term.CRLF c) (c == 13) e

    return_begun : (b : Bool) → is_end (return_step b c).1 ≡ false → IsBegunBy (return_step b c) c fields field
    return_begun true e = (none, empty)
    return_begun false e = record_begun (ends_with term.CRLF c) e

  step_begun : (s : State) → IsBegun s fields field → is_end (step default_config s c).1 ≡ false
      → IsBegunBy (step default_config s c) c fields field
  step_begun st.StartRecord begun e = record_begun begun.0 begun.1 (ends_with term.CRLF c) e
  step_begun st.AfterCr begun e = return_begun begun.0 begun.1 (c == 10) e
  step_begun st.StartField begun e = quote_begun (c == 34) (c == 44) (ends_with term.CRLF c) (c == 13) e
  step_begun st.InField begun e = field_begun (c == 44) (ends_with term.CRLF c) (c == 13) e
  step_begun st.InQuoted begun e = inside_begun (c == 34)
  step_begun st.AfterQuote begun e = copy_begun (c == 34) (c == 44) (ends_with term.CRLF c) (c == 13) e
  step_begun st.InEscape begun e = absurd begun
  step_begun st.InComment begun e = absurd begun

between_begun : (s : State) → ends_at_end s ≡ false → IsBegun s [] []
between_begun st.StartRecord e = (refl, refl)
between_begun st.AfterCr e = (refl, refl)
between_begun st.StartField e = tt
between_begun st.InField e = tt
between_begun st.InQuoted e = tt
between_begun st.AfterQuote e = tt
between_begun st.InEscape e = absurd (true≢false e)
between_begun st.InComment e = absurd (true≢false e)

-- so a row that is too long is one at the end of the text
long_ends : (s : State) (fields : List (List ℕ)) (field : List ℕ) → IsBegun s fields field → IsLongBy fields field → ends_at_end s ≡ true
long_ends st.StartRecord fields field begun long = absurd (none_by fields field begun.0 begun.1 long)
long_ends st.AfterCr fields field begun long = absurd (none_by fields field begun.0 begun.1 long)
long_ends st.StartField fields field begun long = refl
long_ends st.InField fields field begun long = refl
long_ends st.InQuoted fields field begun long = refl
long_ends st.AfterQuote fields field begun long = refl
long_ends st.InEscape fields field begun long = refl
long_ends st.InComment fields field begun long = refl

-- whatever follows, there is a row then, and it is too long
record IsLongRead (found : Option RecordRead) : Type 0 where
  read : RecordRead
  is : found ≡ Some read
  long : IsLong read.0

long_read : (s : State) (fields : List (List ℕ)) (field xs : List ℕ) → IsBegun s fields field → IsLongBy fields field
    → IsLongRead (next_record default_config s fields field xs)
unfolding next_record
long_read s fields field [] begun long =
    record {
      read = (fields ++ (field ∷ []), st.StartRecord, []);
      is = ap (λ b. if b then Some (fields ++ (field ∷ []), st.StartRecord, []) else None) (long_ends s fields field begun long);
      long = long_ended fields field long;
    }
long_read s fields field (c ∷ rest) begun long =
    by (is_end (step default_config s c).1) _ refl
    (long_read (step default_config s c).0 (fields_after (step default_config s c).1 fields field) (field_after (step default_config s c).1 c field) rest)
  where
    by : (b : Bool) (more : Option RecordRead) → is_end (step default_config s c).1 ≡ b
        → (IsBegunBy (step default_config s c) c fields field
        → IsLongBy (fields_after (step default_config s c).1 fields field) (field_after (step default_config s c).1 c field)
        → IsLongRead more)
        → IsLongRead (if b then Some (fields_after (step default_config s c).1 fields field, (step default_config s c).0, rest) else more)
    by true more e later =
        record {
          read = (fields_after (step default_config s c).1 fields field, (step default_config s c).0, rest);
          is = refl;
          long = long_end (step default_config s c).1 fields field e long;
        }
    by false more e later =
        later (step_begun c fields field s begun e) (long_on (step default_config s c).1 c fields field e long)

-- ---- what is kept of a row

abbrev row_with : State → ℕ → ℕ → SoFar
row_with s fields bytes = record { mark = 3; state = s; fields = fields; bytes = bytes }

abbrev row_at : State → List (List ℕ) → List ℕ → SoFar
row_at s fields field = row_with s (length fields) (length field)

too_long_is : (fields : List (List ℕ)) (field : List ℕ) → (nat_le most_fields (length fields) || nat_lt most_bytes (length field)) ≡ true
    → IsLongBy fields field
too_long_is fields field e = by (or_cases _ _ e)
  where
    by : (nat_le most_fields (length fields) ≡ true) ⊎ (nat_lt most_bytes (length field) ≡ true) → IsLongBy fields field
    by (inl many) = inl (leb-true most_fields (length fields) many)
    by (inr long) = inr (inr (ltb-true most_bytes (length field) long))

done_is : (s to : State) (a : Action) (c : ℕ) (fields : List (List ℕ)) (field : List ℕ) → is_end a ≡ false
    → stepped (to, a) (row_at s fields field) ≡ row_at to (fields_after a fields field) (field_after a c field)
done_is s to act.Skip c fields field e = refl
done_is s to act.Copy c fields field e = ap (row_with to (length fields)) (sym (length_push field c))
done_is s to act.EndField c fields field e = ap (λ n. row_with to n 0) (sym (length_push fields field))
done_is s to act.EndRecord c fields field e = absurd (true≢false e)

done_ends : (s to : State) (a : Action) (fields : List (List ℕ)) (field : List ℕ) → is_end a ≡ true
    → stepped (to, a) (row_at s fields field) ≡ row_at to [] []
done_ends s to act.EndRecord fields field e = refl
done_ends s to act.Skip fields field e = never e
done_ends s to act.Copy fields field e = never e
done_ends s to act.EndField fields field e = never e

-- ---- a row of what is read, beside one of the whole

-- the row itself, and then what is read of the rest; or both are too long
abbrev IsFrontRead : Option RecordRead → Option RecordRead → Type 0
IsFrontRead None None = Unit {0}
IsFrontRead (Some whole) (Some part) =
    (part ≡ (whole.0, whole.1, front (row_at whole.1 [] []) whole.2)) ⊎ (IsLong whole.0 × IsLong part.0)
IsFrontRead None (Some part) = ⊥
IsFrontRead (Some whole) None = ⊥

module _ (s : State) (fields : List (List ℕ)) (field : List ℕ) (c : ℕ) (rest : List ℕ) (begun : IsBegun s fields field) where
  abbrev to : State × Action
  to = step default_config s c

  abbrev row_on : SoFar
  row_on = stepped to (row_at s fields field)

  abbrev on : List ℕ → Option RecordRead
  on bytes = next_record default_config to.0 (fields_after to.1 fields field) (field_after to.1 c field) bytes

  abbrev ended : List ℕ → RecordRead
  ended bytes = (fields_after to.1 fields field, to.0, bytes)

  abbrev Later : Type 0
  Later =
      IsBegunBy to c fields field
      → IsFrontRead (on rest) (on (front (row_at to.0 (fields_after to.1 fields field) (field_after to.1 c field)) rest))

  within_row : (b : Bool) → is_end to.1 ≡ b → Later
      → IsFrontRead (if b then Some (ended rest) else on rest)
      (if b then Some (ended (front row_on rest)) else on (front row_on rest))
  within_row true e more = inl (ap (λ row. ended (front row rest)) (done_ends s to.0 to.1 fields field e))
  within_row false e more =
      subst (λ row. IsFrontRead (on rest) (on (front row rest))) (sym (done_is s to.0 to.1 c fields field e))
      (more (step_begun c fields field s begun e))

  row_front : (t : Bool) → is_too_long (row_at s fields field) ≡ t → Later
      → IsFrontRead (next_record default_config s fields field (c ∷ rest))
      (next_record default_config s fields field (if t then [] else c ∷ front row_on rest))
  unfolding next_record
  row_front true e more =
      let long = too_long_is fields field e in
      let whole = long_read s fields field (c ∷ rest) begun long in
      let part = long_read s fields field [] begun long in
      let both : IsFrontRead (Some whole.read) (Some part.read) = inr (whole.long, part.long) in
      subst (λ one. IsFrontRead one (next_record default_config s fields field [])) (sym whole.is)
      (subst (IsFrontRead (Some whole.read)) (sym part.is) both)
  row_front false e more = within_row (is_end to.1) refl more

both_ended : (b : Bool) (one : RecordRead) → one.2 ≡ front (row_at one.1 [] []) one.2
    → IsFrontRead (if b then Some one else None) (if b then Some one else None)
both_ended true one e = inl (λ i. (one.0, one.1, e i))
both_ended false one e = tt

next_front : (s : State) (fields : List (List ℕ)) (field xs : List ℕ) → IsBegun s fields field
    → IsFrontRead (next_record default_config s fields field xs)
    (next_record default_config s fields field (front (row_at s fields field) xs))
unfolding next_record front
next_front s fields field [] begun = both_ended (ends_at_end s) (fields ++ (field ∷ []), st.StartRecord, []) refl
next_front s fields field (c ∷ rest) begun =
    row_front s fields field c rest begun (is_too_long (row_at s fields field)) refl
    (next_front (step default_config s c).0 (fields_after (step default_config s c).1 fields field)
    (field_after (step default_config s c).1 c field) rest)

-- ---- the rows of what is read, beside those of the whole

-- the same, or the same up to one that is too long
abbrev AreFront : Rows → Rows → Type 0
AreFront [] [] = Unit {0}
AreFront (row ∷ rows) (one ∷ more) = ((row ≡ one) × AreFront rows more) ⊎ (IsLong row × IsLong one)
AreFront [] (one ∷ more) = ⊥
AreFront (row ∷ rows) [] = ⊥

module _ (s : State) (xs : List ℕ) (fuel less : ℕ) (enough : IsEnough fuel s xs)
    (enough_less : IsEnough less s (front (row_at s [] []) xs)) where
  both_end : next_record default_config s [] [] xs ≡ None → next_record default_config s [] [] (front (row_at s [] []) xs) ≡ None
      → AreFront (records_from default_config fuel s xs) (records_from default_config less s (front (row_at s [] []) xs))
  both_end none none_less =
      let left = none_left fuel s xs none in
      let left_less = none_left less s (front (row_at s [] []) xs) none_less in
      subst (λ rows. AreFront rows (records_from default_config less s (front (row_at s [] []) xs))) (sym left)
      (subst (AreFront []) (sym left_less) tt)

  both_long : (whole part : RecordRead) → next_record default_config s [] [] xs ≡ Some whole
      → next_record default_config s [] [] (front (row_at s [] []) xs) ≡ Some part → IsLong whole.0 → IsLong part.0
      → AreFront (records_from default_config fuel s xs) (records_from default_config less s (front (row_at s [] []) xs))
  both_long whole part is is_less long long_less =
      let left = some_left fuel s xs whole enough is in
      let left_less = some_left less s (front (row_at s [] []) xs) part enough_less is_less in
      subst (λ rows. AreFront rows (records_from default_config less s (front (row_at s [] []) xs))) (sym left.1)
      (subst (AreFront (whole.0 ∷ records_from default_config left.0 whole.1 whole.2)) (sym left_less.1) (inr (long, long_less)))

  both_same : (whole : RecordRead) → next_record default_config s [] [] xs ≡ Some whole
      → next_record default_config s [] [] (front (row_at s [] []) xs)
      ≡ Some (whole.0, whole.1, front (row_at whole.1 [] []) whole.2)
      → ((one two : ℕ) → IsEnough one whole.1 whole.2 → IsEnough two whole.1 (front (row_at whole.1 [] []) whole.2)
      → AreFront (records_from default_config one whole.1 whole.2)
      (records_from default_config two whole.1 (front (row_at whole.1 [] []) whole.2)))
      → AreFront (records_from default_config fuel s xs) (records_from default_config less s (front (row_at s [] []) xs))
  both_same whole is is_less more =
      let left = some_left fuel s xs whole enough is in
      let left_less = some_left less s (front (row_at s [] []) xs)
      (whole.0, whole.1, front (row_at whole.1 [] []) whole.2) enough_less is_less in
      subst (λ rows. AreFront rows (records_from default_config less s (front (row_at s [] []) xs))) (sym left.1)
      (subst (AreFront (whole.0 ∷ records_from default_config left.0 whole.1 whole.2)) (sym left_less.1)
      (inl (refl, more left.0 left_less.0 left.2 left_less.2)))

fronts_none : (s : State) (xs : List ℕ) (fuel less : ℕ) → length xs ≤ 0 → IsEnough fuel s xs
    → IsEnough less s (front (row_at s [] []) xs)
    → AreFront (records_from default_config fuel s xs) (records_from default_config less s (front (row_at s [] []) xs))
unfolding front
fronts_none s [] fuel less within enough enough_less =
    both_end s [] fuel less enough enough_less (nothing_left s enough.between) (nothing_left s enough.between)
fronts_none s (x ∷ xs) fuel less within enough enough_less = absurd (omega (arith, within))

fronts : (n : ℕ) (s : State) (xs : List ℕ) (fuel less : ℕ) → length xs ≤ n → IsEnough fuel s xs
    → IsEnough less s (front (row_at s [] []) xs)
    → AreFront (records_from default_config fuel s xs) (records_from default_config less s (front (row_at s [] []) xs))
fronts zero s xs fuel less within enough enough_less = fronts_none s xs fuel less within enough enough_less
fronts (suc n) s xs fuel less within enough enough_less =
    by (next_record default_config s [] [] xs) (next_record default_config s [] [] (front (row_at s [] []) xs)) refl refl
    (next_front s [] [] xs (between_begun s enough.between)) (fronts n)
  where
    by : (whole part : Option RecordRead) → next_record default_config s [] [] xs ≡ whole
        → next_record default_config s [] [] (front (row_at s [] []) xs) ≡ part → IsFrontRead whole part
        → ((s : State) (xs : List ℕ) (fuel less : ℕ) → length xs ≤ n → IsEnough fuel s xs
        → IsEnough less s (front (row_at s [] []) xs)
        → AreFront (records_from default_config fuel s xs) (records_from default_config less s (front (row_at s [] []) xs)))
        → AreFront (records_from default_config fuel s xs) (records_from default_config less s (front (row_at s [] []) xs))
    by None None is is_less both later = both_end s xs fuel less enough enough_less is is_less
    by None (Some part) is is_less both later = absurd both
    by (Some whole) None is is_less both later = absurd both
    by (Some whole) (Some part) is is_less (inr long) later = both_long s xs fuel less enough enough_less whole part is is_less long.0 long.1
    by (Some whole) (Some part) is is_less (inl same) later =
        both_same s xs fuel less enough enough_less whole is (is_less ∙ ap (λ (one : RecordRead). Some one) same)
        (λ one two. later whole.1 whole.2 one two (omega (arith, within, shorter default_config s [] [] xs whole is)))

-- ---- their verdicts

same_after : (rows more : Rows) (lines : List Line) → AreFront rows more → verdict_after lines rows ≡ verdict_after lines more
unfolding verdict_after
same_after [] [] lines part = refl
same_after [] (one ∷ more) lines part = absurd part
same_after (row ∷ rows) [] lines part = absurd part
same_after (row ∷ rows) (one ∷ more) lines (inl same) =
    λ i. verdict_of_line lines (line_in lines (same.0 i)) (λ all. same_after rows more all same.1 i)
same_after (row ∷ rows) (one ∷ more) lines (inr long) =
    ap (λ found. verdict_of_line lines found (λ all. verdict_after all rows)) (no_line lines row long.0)
    ∙ sym (ap (λ found. verdict_of_line lines found (λ all. verdict_after all more)) (no_line lines one long.1))

same_verdict : (rows more : Rows) → AreFront rows more → verdict rows ≡ verdict more
unfolding verdict
same_verdict [] [] part = refl
same_verdict [] (one ∷ more) part = absurd part
same_verdict (row ∷ rows) [] part = absurd part
same_verdict (row ∷ rows) (one ∷ more) (inl same) =
    λ i. if is_header (same.0 i) then same_after rows more [] same.1 i else Err (flaw.BadRow 1)
same_verdict (row ∷ rows) (one ∷ more) (inr long) =
    ap (λ b. if b then verdict_after [] rows else Err (flaw.BadRow 1)) (no_header row long.0)
    ∙ sym (ap (λ b. if b then verdict_after [] more else Err (flaw.BadRow 1)) (no_header one long.1))

-- where a part is sound, it is the whole

abbrev IsOk : Result Counts Flaw → Type 0
IsOk found = (counts : Counts) × (found ≡ Ok counts)

no_flaw : {A : Type 0} (told : Flaw) → IsOk (Err told) → A
no_flaw told ok = let never : Err told ≡ Ok ok.0 = ok.1 in absurd (cc)

all_after : (rows more : Rows) (lines : List Line) → AreFront rows more → IsOk (verdict_after lines more) → length rows ≡ length more
unfolding verdict_after
all_after [] [] lines part ok = refl
all_after [] (one ∷ more) lines part ok = absurd part
all_after (row ∷ rows) [] lines part ok = absurd part
all_after (row ∷ rows) (one ∷ more) lines (inl same) ok =
    by (line_in lines one) ok (λ all. all_after rows more all same.1)
  where
    flawless : (all : List Line) (shown : Option Flaw) → IsOk (verdict_or (verdict_after all more) shown)
        → (IsOk (verdict_after all more) → length rows ≡ length more) → length (row ∷ rows) ≡ length (one ∷ more)
    flawless all None ok later = let same : length rows ≡ length more = later ok in omega (arith, same)
    flawless all (Some told) ok later = no_flaw told ok

    by : (found : Option Line) → IsOk (verdict_of_line lines found (λ all. verdict_after all more))
        → ((all : List Line) → IsOk (verdict_after all more) → length rows ≡ length more)
        → length (row ∷ rows) ≡ length (one ∷ more)
    by None ok later = no_flaw _ ok
    by (Some line) ok later =
        flawless (lines ++ (line ∷ [])) (flaw_of_line lines line) ok (later (lines ++ (line ∷ [])))
all_after (row ∷ rows) (one ∷ more) lines (inr long) ok =
    no_flaw _ (subst (λ found. IsOk (verdict_of_line lines found (λ all. verdict_after all more))) (no_line lines one long.1) ok)

all_rows : (rows more : Rows) → AreFront rows more → IsOk (verdict more) → length rows ≡ length more
unfolding verdict
all_rows [] [] part ok = refl
all_rows [] (one ∷ more) part ok = absurd part
all_rows (row ∷ rows) [] part ok = absurd part
all_rows (row ∷ rows) (one ∷ more) (inl same) ok = by (is_header one) ok
  where
    by : (t : Bool) → IsOk (if t then verdict_after [] more else Err (flaw.BadRow 1)) → length (row ∷ rows) ≡ length (one ∷ more)
    by true ok = let all : length rows ≡ length more = all_after rows more [] same.1 ok in omega (arith, all)
    by false ok = no_flaw _ ok
all_rows (row ∷ rows) (one ∷ more) (inr long) ok =
    no_flaw _ (subst (λ b. IsOk (if b then verdict_after [] more else Err (flaw.BadRow 1))) (no_header one long.1) ok)

-- ---- a byte order mark

abbrev IsFew : ℕ → SoFar → Type 0
IsFew n row = row.fields + row.bytes ≤ n

few_fine : (row : SoFar) → IsFew 2 row → is_too_long row ≡ false
few_fine row few = by (is_too_long row) refl
  where
    many : (nat_le most_fields row.fields ≡ true) ⊎ (nat_lt most_bytes row.bytes ≡ true) → ⊥
    many (inl e) = let long = leb-true most_fields row.fields e in absurd (omega (arith, few, long))
    many (inr e) = let long = ltb-true most_bytes row.bytes e in absurd (omega (arith, few, long))

    by : (t : Bool) → is_too_long row ≡ t → t ≡ false
    by true e = absurd (many (or_cases _ _ e))
    by false e = refl

few_done : (a : Action) (row : SoFar) (n : ℕ) → IsFew n row → IsFew (n + 1) (done_by a row)
few_done act.Skip row n few = omega (arith, few)
few_done act.Copy row n few = omega (arith, few)
few_done act.EndField row n few = omega (arith, few)
few_done act.EndRecord row n few = omega arith

few_either : (t : Bool) (row : SoFar) (n : ℕ) → IsFew (n + 1) row → IsFew (n + 1) (if t then row_begun else row)
few_either true row n few = omega arith
few_either false row n few = few

few_after : (row : SoFar) (c n : ℕ) → IsFew n row → IsFew (n + 1) (after row c)
few_after row c n few =
    few_either ((row.mark == 2) && (c == 0xBF)) (stepped (step default_config row.state c) (record row { mark = mark_after row.mark c })) n
    (few_done (step default_config row.state c).1
    (record row { mark = mark_after row.mark c; state = (step default_config row.state c).0 }) n few)

front_one : (row : SoFar) (c : ℕ) (xs : List ℕ) → IsFew 2 row → front row (c ∷ xs) ≡ c ∷ front (after row c) xs
unfolding front
front_one row c xs few = ap (λ t. if t then [] else c ∷ front (after row c) xs) (few_fine row few)

front_two : (row : SoFar) (a b : ℕ) (xs : List ℕ) → IsFew 0 row
    → front row (a ∷ b ∷ xs) ≡ a ∷ b ∷ front (after (after row a) b) xs
front_two row a b xs few =
    let one = few_after row a 0 few in
    front_one row a (b ∷ xs) (omega (arith, few)) ∙ ap (λ l. a ∷ l) (front_one (after row a) b xs (omega (arith, one)))

front_three : (row : SoFar) (a b c : ℕ) (xs : List ℕ) → IsFew 0 row
    → front row (a ∷ b ∷ c ∷ xs) ≡ a ∷ b ∷ c ∷ front (after (after (after row a) b) c) xs
front_three row a b c xs few =
    let two = few_after (after row a) b 1 (few_after row a 0 few) in
    front_two row a b (c ∷ xs) few ∙ ap (λ l. a ∷ b ∷ l) (front_one (after (after row a) b) c xs two)

-- the same of a text that is no byte order mark so far
abbrev seen : SoFar → SoFar
seen row = record row { mark = 3 }

done_seen : (a : Action) (row : SoFar) → done_by a (seen row) ≡ seen (done_by a row)
done_seen act.Skip row = refl
done_seen act.Copy row = refl
done_seen act.EndField row = refl
done_seen act.EndRecord row = refl

done_mark : (a : Action) (row : SoFar) → (done_by a row).mark ≡ row.mark
done_mark act.Skip row = refl
done_mark act.Copy row = refl
done_mark act.EndField row = refl
done_mark act.EndRecord row = refl

module _ (row : SoFar) (c : ℕ) (none : ((row.mark == 2) && (c == 0xBF)) ≡ false) where
  abbrev stepped_on : SoFar
  stepped_on = stepped (step default_config row.state c) (record row { mark = mark_after row.mark c })

  after_on : after row c ≡ stepped_on
  after_on = ap (λ t. if t then row_begun else stepped_on) none

  mark_on : (after row c).mark ≡ mark_after row.mark c
  mark_on = ap (λ (one : SoFar). one.mark) after_on
      ∙ done_mark (step default_config row.state c).1
      (record row { mark = mark_after row.mark c; state = (step default_config row.state c).0 })

  seen_on : after (seen row) c ≡ seen (after row c)
  seen_on = done_seen (step default_config row.state c).1
      (record row { mark = mark_after row.mark c; state = (step default_config row.state c).0 })
      ∙ ap seen (sym after_on)

seen_same : (row : SoFar) → row.mark ≡ 3 → seen row ≡ row
seen_same row e = λ i. record row { mark = sym e i }

first_mark : (a : ℕ) → mark_after 0 a ≡ (if a == 0xEF then 1 else 3)
first_mark a = refl

no_second : (p : Bool) (b : ℕ) → (((if p then 1 else 3) == 2) && (b == 0xBF)) ≡ false
no_second true b = refl
no_second false b = refl

no_third : (p : Bool) (b c : ℕ) → (p && (b == 0xBB) && (c == 0xBF)) ≡ false
    → ((mark_after (if p then 1 else 3) b == 2) && (c == 0xBF)) ≡ false
no_third true b c e = by (b == 0xBB) e
  where
    by : (q : Bool) → (q && (c == 0xBF)) ≡ false → (((if q then 2 else 3) == 2) && (c == 0xBF)) ≡ false
    by true e = e
    by false e = refl
no_third false b c e = refl

third_mark : (p : Bool) (b c : ℕ) → mark_after (mark_after (if p then 1 else 3) b) c ≡ 3
third_mark true b c = by (b == 0xBB)
  where
    by : (q : Bool) → mark_after (if q then 2 else 3) c ≡ 3
    by true = refl
    by false = refl
third_mark false b c = refl

no_mark : (a b c : ℕ) → is_bom a b c ≡ false
    → after (after (after text_begun a) b) c ≡ after (after (after row_begun a) b) c
no_mark a b c e =
    let one : SoFar = after text_begun a in
    let two : SoFar = after one b in
    let three : SoFar = after two c in
    let mark_one : one.mark ≡ (if a == 0xEF then 1 else 3) = mark_on text_begun a refl in
    let second : ((one.mark == 2) && (b == 0xBF)) ≡ false = ap (λ m. (m == 2) && (b == 0xBF)) mark_one ∙ no_second (a == 0xEF) b in
    let mark_two : two.mark ≡ mark_after (if a == 0xEF then 1 else 3) b = mark_on one b second ∙ ap (λ m. mark_after m b) mark_one in
    let third : ((two.mark == 2) && (c == 0xBF)) ≡ false = ap (λ m. (m == 2) && (c == 0xBF)) mark_two ∙ no_third (a == 0xEF) b c e in
    let mark_three : three.mark ≡ 3 = mark_on two c third ∙ ap (λ m. mark_after m c) mark_two ∙ third_mark (a == 0xEF) b c in
    sym (ap (λ row. after (after row b) c) (seen_on text_begun a refl)
    ∙ ap (λ row. after row c) (seen_on one b second) ∙ seen_on two c third ∙ seen_same three mark_three)

marked : (a b c : ℕ) → is_bom a b c ≡ true → after (after (after text_begun a) b) c ≡ row_begun
marked a b c e =
    let all = and_parts ((a == 0xEF) && (b == 0xBB)) (c == 0xBF) e in
    let both = and_parts (a == 0xEF) (b == 0xBB) all.0 in
    let first : a ≡ 0xEF = eqb-true a 0xEF both.0 in
    let second : b ≡ 0xBB = eqb-true b 0xBB both.1 in
    let third : c ≡ 0xBF = eqb-true c 0xBF all.1 in
    λ i. after (after (after text_begun (first i)) (second i)) (third i)

stripped_three : (a b c : ℕ) (rest : List ℕ) (t : Bool) → is_bom a b c ≡ t
    → (if t then front (after (after (after text_begun a) b) c) rest
    else a ∷ b ∷ c ∷ front (after (after (after text_begun a) b) c) rest)
    ≡ front row_begun (if t then rest else a ∷ b ∷ c ∷ rest)
stripped_three a b c rest true e = ap (λ row. front row rest) (marked a b c e)
stripped_three a b c rest false e =
    ap (λ row. a ∷ b ∷ c ∷ front row rest) (no_mark a b c e) ∙ sym (front_three row_begun a b c rest (omega arith))

-- what is read of a text is what is read of it without a byte order mark
stripped : (bytes : List ℕ) → strip_bom (front_of bytes) ≡ front row_begun (strip_bom bytes)
unfolding front strip_bom
stripped [] = refl
stripped (a ∷ []) = refl
stripped (a ∷ b ∷ []) =
    ap strip_bom (front_two text_begun a b [] (omega arith)) ∙ sym (front_two row_begun a b [] (omega arith))
stripped (a ∷ b ∷ c ∷ rest) =
    ap strip_bom (front_three text_begun a b c rest (omega arith)) ∙ stripped_three a b c rest (is_bom a b c) refl

-- ---- a copy

fronts_of : (bytes : List ℕ) → AreFront (csv_rows_of bytes) (csv_rows_of (front_of bytes))
fronts_of bytes =
    let xs = strip_bom bytes in
    let enough : IsEnough (length xs + 1) st.StartRecord xs = record { between = refl; few = omega arith } in
    let enough_less : IsEnough (length (front row_begun xs) + 1) st.StartRecord (front row_begun xs) = record { between = refl; few = omega arith } in
    subst (λ part. AreFront (csv_rows_of bytes) (records_from default_config (length part + 1) st.StartRecord part)) (sym (stripped bytes))
    (fronts (length xs) st.StartRecord xs (length xs + 1) (length (front row_begun xs) + 1) (omega arith) enough enough_less)

pub answers_whole : (known : Option (List ℕ)) (result : Result Counts CopyFault)
    → IfSome (option_map front_of known) (λ bytes. IsAnswer (verdict (csv_rows_of bytes)) result)
    → IfSome known (λ bytes. IsAnswer (verdict (csv_rows_of bytes)) result)
answers_whole None result answers = tt
answers_whole (Some bytes) result answers =
    subst (λ found. IsAnswer found result) (sym (same_verdict (csv_rows_of bytes) (csv_rows_of (front_of bytes)) (fronts_of bytes))) answers

pub rows_whole : (known : Option (List ℕ)) (result : Result Counts CopyFault)
    → IfSome (option_map front_of known) (λ bytes. IsAnswer (verdict (csv_rows_of bytes)) result)
    → IfSome (option_map front_of known) (λ bytes. OnOk result (length (csv_rows_of bytes) ≤ most_rows))
    → IfSome known (λ bytes. OnOk result (length (csv_rows_of bytes) ≤ most_rows))
rows_whole None result answers few = tt
rows_whole (Some bytes) (Err fault) answers few = tt
rows_whole (Some bytes) (Ok counts) answers few =
    let all = all_rows (csv_rows_of bytes) (csv_rows_of (front_of bytes)) (fronts_of bytes) (counts, answers) in
    omega (arith, few, all)
