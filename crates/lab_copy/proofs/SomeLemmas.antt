-- What each row of a copy leaves to find, whatever the reader's bytes are: the rows that came.
use Rattle.std.proofs.Common.{◌≡◌, ℕ, ◌+◌, ◌≤◌, zero, suc, Bool, true, false, if◌then◌else◌, List, [], ◌∷◌, ◌++◌, length, map, Option, Some, None, Result, Ok, Err, refl, sym, ap, subst, ◌∙◌, arith}
use Rattle.std.specs.Prelude.{IfSome}
use Rattle.std.proofs.lemmas.List.{length-append, length_push}
use Rattle.csv.specs.Reading.{default_config, records_from, records_next, strip_bom}
use Rattle.csv.specs.Writing.{default_writer, is_blank, read_back, row_body, row_text}
use Rattle.csv.specs.declared.parser.State.TheVariants as st
use Rattle.csv.proofs.RoundTrip.{read-write, rows_text}
use Rattle.lab_copy_rows.specs.Copies.{counts_of, flaw_at_end, flaw_of_line, is_header, line_in, verdict, verdict_after, verdict_of_line, verdict_or}
use Rattle.lab_copy_rows.specs.declared.flaws.Flaw.{Flaw}
use Rattle.lab_copy_rows.specs.declared.flaws.Flaw.TheVariants as flaw
use Rattle.lab_copy_rows.specs.declared.lines.Counts.{Counts}
use Rattle.lab_copy_rows.specs.declared.lines.Line.{Line}
use Rattle.lab_copy.specs.Checks.{OfVerdict, csv_rows_of}
use Rattle.lab_copy.specs.Private.Checks.{fault_at}
use Rattle.lab_copy.specs.Faults.{IsAnswer}
use Rattle.lab_copy.specs.Private.Faults.{IsNoFlaw}
use Rattle.lab_copy.specs.Kept.{IsAt, IsTaken, edition_by, kept_none, verdict_kept}
use Rattle.lab_copy.specs.Private.Left.{AnswersSome, AnswersSomeRest}
use Rattle.lab_copy.specs.declared.faults.CopyFault.{CopyFault}
use Rattle.lab_copy.specs.declared.faults.CopyFault.TheVariants.{Flawed, Read, Memory}
use Rattle.lab_copy.specs.declared.kept.Kept.{Kept}
use Rattle.lab_copy_lines.specs.Lines.{IsRowRead, line_at}
use Rattle.lab_copy_lines.specs.declared.faults.BadRow.{BadRow}
use Rattle.lab_forms_texts.specs.declared.refusals.Fault.{Fault}
use Rattle.lab_forms_texts.specs.declared.refusals.Fault.TheVariants as row_fault
use Rattle.lab_copy.proofs.CheckLemmas.{answers_nothing}
use Rattle.lab_copy.proofs.KeptLemmas.{at_none, verdict_at_end}
use Rattle.lab_copy.proofs.LeftWords.{FollowsSome}
use Rattle.lab_copy.proofs.ReadLemmas.{line_same, none_left, nothing_left}

abbrev Rows : Type 0
Rows = List (List (List ℕ))

-- ---- the first row

pub some_none : AnswersSome (Err (Flawed flaw.NoEnd))
unfolding verdict
some_none = ([], refl)

pub some_bad : (fields : List (List ℕ)) → is_header fields ≡ false → AnswersSome (Err (Flawed (flaw.BadRow 1)))
unfolding verdict
some_bad fields bad = (
  fields ∷ [],
  ap (λ (b : Bool). if b then verdict_after [] [] else Err (flaw.BadRow 1)) bad,
)

pub some_good : (fields : List (List ℕ)) (result : Result Counts CopyFault) → is_header fields ≡ true
    → AnswersSomeRest result → AnswersSome result
unfolding verdict
some_good fields result good some = (
  fields ∷ some.0,
  subst (λ one. IsAnswer one result)
      (ap (λ (b : Bool). if b then verdict_after [] some.0 else Err (flaw.BadRow 1)) (sym good)) some.1,
)

pub some_nothing : (fault : CopyFault) → IsNoFlaw fault → AnswersSome (Err fault)
some_nothing fault none = ([], answers_nothing (verdict []) fault none)

-- ---- rows that came, as a text

-- the text of some rows, behind a byte order mark
text_of : Rows → List ℕ
text_of rows = 0xEF ∷ 0xBB ∷ 0xBF ∷ rows_text rows

some_byte : (xs ys : List ℕ) → 1 ≤ length (xs ++ (ys ++ (10 ∷ [])))
some_byte xs ys = omega (arith, length-append xs (ys ++ (10 ∷ [])), length-append ys (10 ∷ []))

rows_few : (rows : Rows) → length rows ≤ length (rows_text rows)
unfolding rows_text
rows_few [] = omega arith
rows_few (row ∷ rows) =
    omega (
      arith,
      rows_few rows,
      length-append (row_text default_writer row) (rows_text rows),
      some_byte (row_body default_writer row) (if is_blank default_writer row then 34 ∷ 34 ∷ [] else []),
    )

rows_read : (fuel : ℕ) (rows : Rows) → length rows ≤ fuel
    → records_from default_config fuel st.StartRecord (rows_text rows) ≡ map read_back rows
unfolding records_from rows_text
rows_read fuel [] few = none_left fuel st.StartRecord [] (nothing_left st.StartRecord refl)
rows_read zero (row ∷ rows) few = absurd (omega (arith, few))
rows_read (suc fuel) (row ∷ rows) few =
    ap (records_next (records_from default_config fuel)) (read-write row (rows_text rows))
    ∙ ap (λ (rest : Rows). read_back row ∷ rest) (rows_read fuel rows (omega (arith, few)))

text_rows : (rows : Rows) → csv_rows_of (text_of rows) ≡ map read_back rows
unfolding strip_bom text_of
text_rows rows = rows_read (length (rows_text rows) + 1) rows (omega (arith, rows_few rows))

-- a row of no field reads back as one of an empty field, which stands for no line either
line_back : (lines : List Line) (row : List (List ℕ)) → line_in lines (read_back row) ≡ line_in lines row
line_back lines [] = refl
line_back lines (field ∷ fields) = refl

back_by : (lines : List Line) (more rows : Rows) (line : Option Line)
    → ((line : Line) → verdict_after (lines ++ (line ∷ [])) more ≡ verdict_after (lines ++ (line ∷ [])) rows)
    → verdict_of_line lines line (λ all. verdict_after all more) ≡ verdict_of_line lines line (λ all. verdict_after all rows)
back_by lines more rows None same = refl
back_by lines more rows (Some line) same =
    ap (λ (found : Result Counts Flaw). verdict_or found (flaw_of_line lines line)) (same line)

rest_back : (lines : List Line) (rows : Rows) → verdict_after lines (map read_back rows) ≡ verdict_after lines rows
unfolding verdict_after
rest_back lines [] = refl
rest_back lines (row ∷ rows) =
    ap (λ line. verdict_of_line lines line (λ all. verdict_after all (map read_back rows))) (line_back lines row)
    ∙ back_by lines (map read_back rows) rows (line_in lines row) (λ line. rest_back (lines ++ (line ∷ [])) rows)

found_back : (rows : Rows) → verdict (map read_back rows) ≡ verdict rows
unfolding verdict
found_back [] = refl
found_back ([] ∷ rows) = refl
found_back ((field ∷ fields) ∷ rows) =
    ap (λ (found : Result Counts Flaw). if is_header (field ∷ fields) then found else Err (flaw.BadRow 1))
    (rest_back [] rows)

-- the bytes are the input's, where these are known
pub of_verdict : (known : Option (List ℕ)) (result : Result Counts CopyFault)
    → IfSome known (λ bytes. IsAnswer (verdict (csv_rows_of bytes)) result) → AnswersSome result
    → OfVerdict known (λ found. IsAnswer found result)
of_verdict None result answers some = (
  text_of some.0,
  tt,
  subst (λ found. IsAnswer found result) (sym (ap verdict (text_rows some.0) ∙ found_back some.0)) some.1,
)
of_verdict (Some bytes) result answers some = (bytes, refl, answers)

-- ---- every other row

pub follows_none : FollowsSome kept_none 2
follows_none = record { lines = []; row_is = refl; kept_at = at_none; whole = λ rest. (rest, refl) }

pub rest_nothing : (fault : CopyFault) → IsNoFlaw fault → AnswersSomeRest (Err fault)
rest_nothing fault none = ([], answers_nothing (verdict_after [] []) fault none)

at_no_row : (lines : List Line) → verdict_or (Ok (counts_of lines)) (flaw_at_end lines) ≡ verdict_after lines []
unfolding verdict_after
at_no_row lines = refl

module _ (kept : Kept) (row : ℕ) (follows : FollowsSome kept row) where
  pub rest_end : (result : Result Counts CopyFault) → IsAnswer (verdict_kept kept) result → AnswersSomeRest result
  rest_end result answer =
      let all = follows.whole [] in (
        all.0,
        subst (λ one. IsAnswer one result)
            (verdict_at_end kept follows.lines follows.kept_at ∙ at_no_row follows.lines ∙ sym all.1) answer,
      )

  module _ (fields : List (List ℕ)) where
    -- the row, and those that follow it
    with_row : (rest : Rows) → (all : Rows) × (verdict_after [] all
        ≡ verdict_of_line follows.lines (line_at (edition_by kept.copy) fields) (λ lines. verdict_after lines rest))
    unfolding verdict_after
    with_row rest =
        let all = follows.whole (fields ∷ rest) in (
          all.0,
          all.1 ∙ ap (λ line. verdict_of_line follows.lines line (λ lines. verdict_after lines rest))
              (sym (line_same kept follows.lines fields follows.kept_at)),
        )

    pub rest_unread : (fault : Fault BadRow) → IsRowRead (line_at (edition_by kept.copy) fields) (Err fault)
        → AnswersSomeRest (Err (fault_at row fault))
    rest_unread (row_fault.Refused _) none =
        let all = with_row [] in (
          all.0,
          all.1 ∙ ap (λ line. verdict_of_line follows.lines line (λ lines. verdict_after lines [])) none
              ∙ ap (λ n. Err (flaw.BadRow n)) (sym follows.row_is),
        )
    rest_unread row_fault.Memory none = ([], tt)

    module _ (line : Line) (is_line : line_at (edition_by kept.copy) fields ≡ Some line) where
      with_line : (rest : Rows) → (all : Rows) × (verdict_after [] all
          ≡ verdict_or (verdict_after (follows.lines ++ (line ∷ [])) rest) (flaw_of_line follows.lines line))
      with_line rest =
          let all = with_row rest in (
            all.0,
            all.1 ∙ ap (λ one. verdict_of_line follows.lines one (λ lines. verdict_after lines rest)) is_line,
          )

      pub rest_taken : (more : Kept)
          → ((lines : List Line) → row ≡ length lines + 2 → IsAt kept lines → IsTaken lines line more (Ok tt))
          → FollowsSome more (row + 1)
      rest_taken more takes =
          let took = takes follows.lines follows.row_is follows.kept_at in
          record {
            lines = follows.lines ++ (line ∷ []);
            row_is = omega (arith, follows.row_is, length_push follows.lines line);
            kept_at = took.1;
            whole = λ rest.
                let all = with_line rest in (
                  all.0,
                  all.1 ∙ ap (verdict_or (verdict_after (follows.lines ++ (line ∷ [])) rest)) took.0,
                );
          }

      pub rest_fault : (more : Kept) (fault : CopyFault)
          → ((lines : List Line) → row ≡ length lines + 2 → IsAt kept lines → IsTaken lines line more (Err fault))
          → AnswersSomeRest (Err fault)
      rest_fault more (Flawed told) takes =
          let all = with_line [] in (
            all.0,
            all.1 ∙ ap (verdict_or (verdict_after (follows.lines ++ (line ∷ [])) []))
                (takes follows.lines follows.row_is follows.kept_at),
          )
      rest_fault more Read takes = ([], tt)
      rest_fault more (Memory _) takes = ([], tt)
