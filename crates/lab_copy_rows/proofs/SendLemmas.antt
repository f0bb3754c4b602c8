-- What of bytes went out, one send after the other; rows that were written, and counted.
use Rattle.std.proofs.Common.{◌≡◌, ℕ, ◌+◌, ◌-◌, ◌<◌, ◌≤◌, false, List, [], ◌∷◌, ◌++◌, Option, Some, None, length, take, drop, refl, sym, ap, subst, ◌∙◌, append_assoc, arith}
use Rattle.std.specs.Prelude.{slice_index_or, slice_range}
use Rattle.std.specs.Io.KnownBytes.{Appends, Keeps}
use Rattle.std.proofs.KnownBytes.{Appends-nil, Appends-trans, Appends-kept, Keeps-refl}
use Rattle.std.proofs.Math.Seq.{take-add}
use Rattle.std.proofs.lemmas.Grind.{flat_map-append}
use Rattle.std.proofs.lemmas.List.{append-nil, take-append-drop, take_all, take_more}
use Rattle.lab_copy_rows.specs.Csv.{csv_row, csv_text}
use Rattle.csv.specs.Writing.{fields_written, has_written, row_text, text_written, writer_setup}
use Rattle.csv.specs.declared.writer.Writer.{Writer}
use Rattle.lab_copy_rows.specs.declared.lines.Counts.{Counts}
use Rattle.lab_copy_rows.specs.declared.outs.CopyOut.{CopyOut}
use Rattle.lab_copy_rows.specs.Outs.{AppendsFront, counted, counted_all}
use Rattle.lab_copy_rows.specs.Private.Outs.{HasWritten}

pub nothing_went : (old new : Option (List ℕ)) (bytes : List ℕ) → Keeps old new → AppendsFront old new bytes
nothing_went old new bytes kept = record {
  front = [];
  rest = bytes;
  parts = refl;
  went = Appends-kept old old new [] (Appends-nil old) kept;
}

pub stays : (old : Option (List ℕ)) → Keeps old old
stays old = Keeps-refl old

pub none_went : (old : Option (List ℕ)) (bytes : List ℕ) → AppendsFront old old bytes
none_went old bytes = record { front = []; rest = bytes; parts = refl; went = Appends-nil old }

-- so many bytes went out
pub taken_went : (old new : Option (List ℕ)) (count : ℕ) (bytes : List ℕ)
    → Appends old new (take count bytes) → AppendsFront old new bytes
taken_went old new count bytes went = record {
  front = take count bytes;
  rest = drop count bytes;
  parts = sym (take-append-drop count bytes);
  went = went;
}

-- all of them
pub all_went : (old new : Option (List ℕ)) (count : ℕ) (bytes : List ℕ) → length bytes ≤ count
    → Appends old new (take count bytes) → Appends old new bytes
all_went old new count bytes all went = subst (Appends old new) (take_all count bytes all) went

-- the front of the first part
pub front_went : (old new : Option (List ℕ)) (bytes more : List ℕ)
    → AppendsFront old new bytes → AppendsFront old new (bytes ++ more)
front_went old new bytes more cut = record {
  front = cut.front;
  rest = cut.rest ++ more;
  parts = ap (λ l. l ++ more) cut.parts ∙ append_assoc cut.front cut.rest more;
  went = cut.went;
}

-- the first part whole
pub first_went : (old new : Option (List ℕ)) (bytes more : List ℕ)
    → Appends old new bytes → AppendsFront old new (bytes ++ more)
first_went old new bytes more went = record { front = bytes; rest = more; parts = refl; went = went }

-- the first part whole, and the front of the second
pub second_went : (old between new : Option (List ℕ)) (bytes more : List ℕ)
    → Appends old between bytes → AppendsFront between new more → AppendsFront old new (bytes ++ more)
second_went old between new bytes more first cut = record {
  front = bytes ++ cut.front;
  rest = cut.rest;
  parts = ap (λ l. bytes ++ l) cut.parts ∙ sym (append_assoc bytes cut.front cut.rest);
  went = Appends-trans old between new bytes cut.front first cut.went;
}

-- ---- rows, one after the other

-- the text of rows, up to one of them and up to a later one
rows_more : (rows : List (List (List ℕ))) (sent next : ℕ) → sent ≤ next
    → csv_text (take next rows) ≡ csv_text (take sent rows) ++ csv_text (slice_range rows sent next)
rows_more rows sent next le =
    let whole : sent + (next - sent) ≡ next = omega arith in
    ap (λ n. csv_text (take n rows)) (sym whole)
    ∙ ap csv_text (take-add sent (next - sent) rows)
    ∙ flat_map-append csv_row (take sent rows) (slice_range rows sent next)

pub rows_went : (old between new : Option (List ℕ)) (rows : List (List (List ℕ)))
    (sent next : ℕ) → sent ≤ next → Appends old between (csv_text (take sent rows))
    → Appends between new (csv_text (slice_range rows sent next))
    → Appends old new (csv_text (take next rows))
rows_went old between new rows sent next le so_far went =
    subst (Appends old new) (sym (rows_more rows sent next le))
    (Appends-trans old between new _ _ so_far went)

pub rows_were_cut : (old between new : Option (List ℕ)) (rows : List (List (List ℕ)))
    (sent next : ℕ) → sent ≤ next → Appends old between (csv_text (take sent rows))
    → AppendsFront between new (csv_text (slice_range rows sent next))
    → AppendsFront old new (csv_text rows)
rows_were_cut old between new rows sent next le so_far cut =
    let all : csv_text rows ≡ csv_text (take next rows) ++ csv_text (drop next rows) =
    ap csv_text (sym (take-append-drop next rows))
    ∙ flat_map-append csv_row (take next rows) (drop next rows) in
    let front : AppendsFront old new
    (csv_text (take sent rows) ++ csv_text (slice_range rows sent next)) =
    second_went old between new _ _ so_far cut in
    subst (AppendsFront old new) (sym all)
    (front_went old new (csv_text (take next rows)) (csv_text (drop next rows))
    (subst (AppendsFront old new) (sym (rows_more rows sent next le)) front))

pub one_row : (row : List (List ℕ)) → csv_text (row ∷ []) ≡ csv_row row
one_row row = append-nil (csv_row row)

-- one row of a list more
row_more : (rows : List (List (List ℕ))) (count : ℕ) (row : List (List ℕ))
    → count < length rows → row ≡ slice_index_or rows count row
    → take (count + 1) rows ≡ take count rows ++ row ∷ []
row_more rows count row lt is_row =
    take_more rows count row lt ∙ ap (λ r. take count rows ++ r ∷ []) (sym is_row)

pub text_more : (rows : List (List (List ℕ))) (count : ℕ) (row : List (List ℕ))
    → count < length rows → row ≡ slice_index_or rows count row
    → csv_text (take count rows) ++ csv_row row ≡ csv_text (take (count + 1) rows)
text_more rows count row lt is_row =
    ap (λ l. csv_text (take count rows) ++ l) (sym (append-nil (csv_row row)))
    ∙ sym (ap csv_text (row_more rows count row lt is_row)
    ∙ flat_map-append csv_row (take count rows) (row ∷ []))

-- a writer that wrote a row more
pub row_written : {W : Type 0} (contents : W → Option (List ℕ)) (old new : Writer W)
    (bytes : List ℕ) (row : List (List ℕ)) → HasWritten contents old bytes
    → Appends (text_written contents old) (text_written contents new)
    (row_text (writer_setup old) row)
    → writer_setup new ≡ writer_setup old → fields_written new ≡ 0 → has_written new ≡ false
    → HasWritten contents new (bytes ++ csv_row row)
row_written contents old new bytes row was went setup fields wrote = record {
  setup = setup ∙ was.setup;
  fields = fields;
  wrote = wrote;
  text = grown (text_written contents new)
      (subst (λ text. Appends text (text_written contents new) (csv_row row)) was.text
      (subst (λ setup. Appends (text_written contents old) (text_written contents new)
      (row_text setup row)) was.setup went));
}
  where
    grown : (text : Option (List ℕ)) → Appends (Some bytes) text (csv_row row)
        → text ≡ Some (bytes ++ csv_row row)
    grown None went = absurd went
    grown (Some all) went = ap Some went

-- ---- rows that are counted one after the other

counted_one : (counts : Counts) (rows : List (List (List ℕ))) (row : List (List ℕ))
    → counted_all counts (rows ++ row ∷ []) ≡ counted (counted_all counts rows) row
counted_one counts [] row = refl
counted_one counts (one ∷ rows) row = counted_one (counted counts one) rows row

pub row_counted : (start between new : CopyOut) (rows : List (List (List ℕ))) (count : ℕ)
    (row : List (List ℕ)) → count < length rows → row ≡ slice_index_or rows count row
    → between ≡ record start { counts = counted_all start.counts (take count rows) }
    → new ≡ record between { counts = counted between.counts row }
    → new ≡ record start { counts = counted_all start.counts (take (count + 1) rows) }
row_counted start between new rows count row lt is_row so_far here =
    let more : counted_all start.counts (take (count + 1) rows)
    ≡ counted (counted_all start.counts (take count rows)) row =
    ap (counted_all start.counts) (row_more rows count row lt is_row)
    ∙ counted_one start.counts (take count rows) row in
    here ∙ ap (λ (out : CopyOut). let new : CopyOut =
    record out { counts = counted out.counts row } in new) so_far
    ∙ ap (λ (counts : Counts). let out : CopyOut = record start { counts = counts } in out)
    (sym more)
