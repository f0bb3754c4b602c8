-- The parts of a version are read exactly, so a version is read from its text alone: no two versions share a text, and none is
-- the front of another.
use Rattle.std.proofs.Common.{◌≡◌, ◌≢◌, ℕ, zero, suc, ◌<◌, ◌^◌, Bool, true, false, List, [], ◌∷◌, ◌++◌, length, Option, Some, None, ◌==◌, refl, sym, ap, subst, ◌∙◌, arith, append_assoc}
use Rattle.std.specs.Prelude.{codes, decimal, if◌then◌else◌, option_map, All}
use Rattle.std.specs.List.{flat_map}
use Rattle.std.proofs.lemmas.Bool.{eqb-true}
use Rattle.std.proofs.lemmas.List.{append-nil}
use Rattle.std.proofs.lemmas.List.Elements.{All-nil, All-cons, All-head, All-tail}
use Rattle.lab_forms_texts.specs.Moment.{moment_text}
use Rattle.lab_forms_texts.specs.Names.{is_lab_code, is_person_code, is_key, is_name, is_note, is_unit}
use Rattle.lab_seal_versions.specs.Origins.{first_number, AmendsUnlessFirst}
use Rattle.lab_seal_versions.specs.Versions.{item, format_word, approval_text, reason_text, row_text, heading_text, subject_text, origin_text, opening_text, front_text, version_text, IsAmendment, IsRow, IsFrontAdmitted, IsVersion, IsNoVersion, IsSomeVersion, OneSpelling}
use Rattle.lab_seal.specs.Reading.{first_as, ◌>>=◌}
use Rattle.lab_seal.specs.Parts.{first_heading, first_format, first_subject, first_no_amendment, first_amendment, first_origin, first_opening, first_front, first_row, first_rows, HeadingValue, SubjectValue, OpeningValue, FrontValue}
use Rattle.lab_seal.specs.Private.Parts.{version_parts_of, AreAllRows}
use Rattle.lab_seal.specs.Faults.{TextFaultFits}
use Rattle.lab_seal.specs.declared.faults.BadText.{BadText}
use Rattle.lab_forms_texts.specs.declared.refusals.Fault.{Fault}
use Rattle.lab_forms_texts.specs.declared.refusals.Fault.TheVariants.{Refused, Memory}
use Rattle.lab_seal_versions.specs.declared.origins.Amendment.{Amendment}
use Rattle.lab_seal_versions.specs.declared.rows.EntryRow.{EntryRow}
use Rattle.lab_seal_versions.specs.declared.versions.Format.{Format}
use Rattle.lab_seal_versions.specs.declared.versions.Format.TheVariants.{One, Two}
use Rattle.lab_seal_versions.specs.declared.versions.VersionParts.{VersionParts}
use Rattle.lab_seal.proofs.PartLemmas.{Spelling, Reader, Part, item_reader, part, behind, reader}
use Rattle.lab_seal.proofs.ReadLemmas.{bind_some, some_same}
use Rattle.lab_seal.proofs.SpellingLemmas.{text_spelling, word_spelling, picked, choice_spelling, count_spelling, ordinal_spelling, moment_spelling, digest_spelling, reason_spelling}
use Rattle.lab_seal.proofs.TextLemmas.{lab_code_utf8, person_code_utf8, key_utf8, name_utf8, note_utf8, unit_utf8, lab_code_short, person_code_short, key_short, name_short, note_short, unit_short}

-- ---- the same texts, grouped otherwise

right_6 : (a b c d e f : List ℕ) → a ++ (b ++ (c ++ (d ++ (e ++ f)))) ≡ a ++ b ++ c ++ d ++ e ++ f
right_6 a b c d e f = simp append_assoc

right_12 : (a b c d e f g h i j k l : List ℕ)
    → (a ++ (b ++ (c ++ d))) ++ ((e ++ (f ++ (g ++ h))) ++ (i ++ (j ++ (k ++ l))))
    ≡ (a ++ b ++ c ++ d) ++ (e ++ f ++ g ++ h) ++ i ++ (j ++ k ++ l)
right_12 a b c d e f g h i j k l = simp append_assoc

-- ---- items

abbrev lab_part : {R : Type 0} → Part R (List ℕ)
lab_part = part (item_reader (text_spelling is_lab_code lab_code_utf8 lab_code_short))

abbrev person_part : {R : Type 0} → Part R (List ℕ)
person_part = part (item_reader (text_spelling is_person_code person_code_utf8 person_code_short))

abbrev key_part : {R : Type 0} → Part R (List ℕ)
key_part = part (item_reader (text_spelling is_key key_utf8 key_short))

abbrev name_part : {R : Type 0} → Part R (List ℕ)
name_part = part (item_reader (text_spelling is_name name_utf8 name_short))

abbrev note_part : {R : Type 0} → Part R (List ℕ)
note_part = part (item_reader (text_spelling is_note note_utf8 note_short))

abbrev unit_part : {R : Type 0} → Part R (List ℕ)
unit_part = part (item_reader (text_spelling is_unit unit_utf8 unit_short))

abbrev ordinal_part : {R : Type 0} → Part R ℕ
ordinal_part = part (item_reader ordinal_spelling)

abbrev moment_part : {R : Type 0} → Part R ℕ
moment_part = part (item_reader moment_spelling)

abbrev newer_spelling : Spelling Bool
newer_spelling = choice_spelling (codes "labrecord 2") (codes "labrecord 1") refl (omega arith) (omega arith)

abbrev approval_spelling : Spelling Bool
approval_spelling = choice_spelling (codes "yes") (codes "no") refl (omega arith) (omega arith)

-- ---- headings and subjects

abbrev heading_made : Bool × (List ℕ × (ℕ × ℕ)) → HeadingValue
heading_made x = (x.0, x.1.0, x.1.1.0, x.1.1.1)

abbrev heading_part : {R : Type 0} → Part R (Bool × (List ℕ × (ℕ × ℕ)))
heading_part = behind (part (item_reader newer_spelling)) (λ _. behind lab_part (λ _. behind ordinal_part (λ _. ordinal_part)))

heading_same : (text : List ℕ) → first_heading text ≡ heading_part.reads text (λ x rest. Some (heading_made x, rest))
unfolding first_heading
heading_same text = refl

abbrev heading_reader : Reader HeadingValue
heading_reader = reader heading_made (λ y. (y.0, (y.1, (y.2, y.3)))) (λ x. refl) (λ y. refl) heading_part first_heading heading_same

-- whether a format is the newer one
abbrev is_newer : Format → Bool
is_newer One = false
is_newer (Two _) = true

record IsFormat (newer : Bool) (format : Format) : Type 0 where
  pub told : is_newer format ≡ newer

format_sound : (newer : Bool) (text : List ℕ) (found : Format × List ℕ) → first_format newer text ≡ Some found
    → IsFormat newer found.0 × (text ≡ approval_text found.0 ++ found.1)
unfolding first_format
format_sound false text found e =
    let P : Format × List ℕ → Type 0 = λ p. IsFormat false p.0 × (text ≡ approval_text p.0 ++ p.1) in
    subst P (some_same (One, text) found e) (record { told = refl }, refl)
format_sound true text found e =
    let a = bind_some (first_as approval_spelling.reads text) _ found e in
    let approval : Bool × List ℕ = a.0 in
    let has = (item_reader approval_spelling).sound text approval a.1 in
    let P : Format × List ℕ → Type 0 = λ p. IsFormat true p.0 × (text ≡ approval_text p.0 ++ p.1) in
    subst P (some_same (Two approval.0, approval.1) found a.2) (record { told = refl }, has.1 ∙ ap (λ l. l ++ approval.1) (worded approval.0))
  where
    worded : (approval : Bool) → item (picked (codes "yes") (codes "no") approval) ≡ approval_text (Two approval)
    worded true = refl
    worded false = refl

format_complete : (newer : Bool) (format : Format) (rest : List ℕ) → IsFormat newer format
    → first_format newer (approval_text format ++ rest) ≡ Some (format, rest)
unfolding first_format
format_complete false One rest good = refl
format_complete true (Two true) rest good =
    ap (λ (o : Option (Bool × List ℕ)). o >>= (λ found. Some (Two found.0, found.1))) ((item_reader approval_spelling).complete true rest tt)
format_complete true (Two false) rest good =
    ap (λ (o : Option (Bool × List ℕ)). o >>= (λ found. Some (Two found.0, found.1))) ((item_reader approval_spelling).complete false rest tt)
format_complete false (Two approval) rest good = let never : true ≡ false = good.told in absurd (cc)
format_complete true One rest good = let never : false ≡ true = good.told in absurd (cc)

abbrev format_reader : Bool → Reader Format
format_reader newer = record {
  first = first_format newer;
  IsGood = IsFormat newer;
  text_of = approval_text;
  sound = format_sound newer;
  complete = format_complete newer;
}

abbrev subject_made : List ℕ × (ℕ × (Format × List ℕ)) → SubjectValue
subject_made x = (x.0, x.1.0, x.1.1.0, x.1.1.1)

abbrev subject_part : {R : Type 0} → Bool → Part R (List ℕ × (ℕ × (Format × List ℕ)))
subject_part newer = behind key_part (λ _. behind ordinal_part (λ _. behind (part (format_reader newer)) (λ _. name_part)))

subject_same : (newer : Bool) (text : List ℕ)
    → first_subject newer text ≡ (subject_part newer).reads text (λ x rest. Some (subject_made x, rest))
unfolding first_subject
subject_same newer text = refl

abbrev subject_reader : Bool → Reader SubjectValue
subject_reader newer =
    reader subject_made (λ y. (y.0, (y.1, (y.2, y.3)))) (λ x. refl) (λ y. refl) (subject_part newer) (first_subject newer) (subject_same newer)

-- ---- what a version amends

abbrev hyphen_spelling : Spelling (Unit {0})
hyphen_spelling = word_spelling (codes "-") (omega arith)

abbrev empty_spelling : Spelling (Unit {0})
empty_spelling = word_spelling [] (omega arith)

abbrev amendment_part : {R : Type 0} → Part R (List ℕ × List ℕ)
amendment_part = behind (part (item_reader digest_spelling)) (λ _. note_part)

abbrev amendment_made : List ℕ × List ℕ → Amendment
amendment_made x = record { previous = x.0; reason = x.1 }

amendment_same : (text : List ℕ) → first_amendment text ≡ amendment_part.reads text (λ x rest. Some (amendment_made x, rest))
unfolding first_amendment
amendment_same text = refl

abbrev amendment_reader : Reader Amendment
amendment_reader = reader amendment_made (λ y. (y.previous, y.reason)) (λ x. refl) (λ y. refl) amendment_part first_amendment amendment_same

abbrev IsOriginOf : ℕ → Option Amendment → Type 0
IsOriginOf number amends = AmendsUnlessFirst number amends × IsAmendment amends

first_sound : (number : ℕ) (text : List ℕ) (found : Option Amendment × List ℕ) → number ≡ first_number
    → first_no_amendment text >>= (λ end. Some (None, end.1)) ≡ Some found
    → IsOriginOf number found.0 × (text ≡ origin_text found.0 ++ found.1)
unfolding first_no_amendment origin_text
first_sound number text found is e =
    let a = bind_some (first_no_amendment text) _ found e in
    let end : Unit {0} × List ℕ = a.0 in
    let b = bind_some (first_as hyphen_spelling.reads text) _ end a.1 in
    let hyphen : Unit {0} × List ℕ = b.0 in
    let one = (item_reader hyphen_spelling).sound text hyphen b.1 in
    let other = (item_reader empty_spelling).sound hyphen.1 end b.2 in
    let P : Option Amendment × List ℕ → Type 0 = λ p. IsOriginOf number p.0 × (text ≡ origin_text p.0 ++ p.1) in
    subst P (some_same (None, end.1) found a.2)
    ((is, tt), one.1 ∙ ap (λ l. item (codes "-") ++ l) other.1 ∙ sym (append_assoc (item (codes "-")) (item []) end.1))

later_sound : (number : ℕ) (text : List ℕ) (found : Option Amendment × List ℕ) → number ≢ first_number
    → first_amendment text >>= (λ end. Some (Some end.0, end.1)) ≡ Some found
    → IsOriginOf number found.0 × (text ≡ origin_text found.0 ++ found.1)
unfolding origin_text
later_sound number text found later e =
    let a = bind_some (first_amendment text) _ found e in
    let end : Amendment × List ℕ = a.0 in
    let has = amendment_reader.sound text end a.1 in
    let P : Option Amendment × List ℕ → Type 0 = λ p. IsOriginOf number p.0 × (text ≡ origin_text p.0 ++ p.1) in
    subst P (some_same (Some end.0, end.1) found a.2) ((later, has.0), has.1)

origin_sound : (number : ℕ) (text : List ℕ) (found : Option Amendment × List ℕ) → first_origin number text ≡ Some found
    → IsOriginOf number found.0 × (text ≡ origin_text found.0 ++ found.1)
unfolding first_origin
origin_sound number text found e = by (number == first_number) refl e
  where
    by : (t : Bool) → (number == first_number) ≡ t
        → (if t then first_no_amendment text >>= (λ end. Some (None, end.1)) else first_amendment text >>= (λ end. Some (Some end.0, end.1)))
        ≡ Some found
        → IsOriginOf number found.0 × (text ≡ origin_text found.0 ++ found.1)
    by true is e = first_sound number text found (eqb-true number first_number is) e
    by false is e =
        later_sound number text found
        (λ first. let never : true ≡ false = sym (ap (λ n. n == first_number) first) ∙ is in absurd (cc)) e

later_is : (number : ℕ) → number ≢ first_number → (number == first_number) ≡ false
later_is number later = by (number == first_number) refl
  where
    by : (t : Bool) → (number == first_number) ≡ t → (number == first_number) ≡ false
    by true is = absurd (later (eqb-true number first_number is))
    by false is = is

none_back : (rest : List ℕ) → first_no_amendment (origin_text None ++ rest) ≡ Some (tt, rest)
unfolding first_no_amendment origin_text
none_back rest =
    let regroup = append_assoc (item (codes "-")) (item []) rest in
    let one = (item_reader hyphen_spelling).complete tt (item [] ++ rest) tt in
    let other = (item_reader empty_spelling).complete tt rest tt in
    rw (regroup, one, other) refl

some_back : (amendment : Amendment) (rest : List ℕ) → IsAmendment (Some amendment)
    → first_amendment (origin_text (Some amendment) ++ rest) ≡ Some (amendment, rest)
unfolding origin_text
some_back amendment rest is = amendment_reader.complete amendment rest is

origin_complete : (number : ℕ) (amends : Option Amendment) (rest : List ℕ) → IsOriginOf number amends
    → first_origin number (origin_text amends ++ rest) ≡ Some (amends, rest)
unfolding first_origin
origin_complete number None rest good = rw (good.0, none_back rest) refl
origin_complete number (Some amendment) rest good = rw (later_is number good.0, some_back amendment rest good.1) refl

abbrev origin_reader : ℕ → Reader (Option Amendment)
origin_reader number = record {
  first = first_origin number;
  IsGood = IsOriginOf number;
  text_of = origin_text;
  sound = origin_sound number;
  complete = origin_complete number;
}

-- ---- openings and fronts

abbrev opening_made : List ℕ × (ℕ × ℕ) → OpeningValue
opening_made x = (x.0, x.1.0, x.1.1)

abbrev opening_part : {R : Type 0} → Part R (List ℕ × (ℕ × ℕ))
opening_part = behind person_part (λ _. behind moment_part (λ _. part (item_reader count_spelling)))

opening_same : (text : List ℕ) → first_opening text ≡ opening_part.reads text (λ x rest. Some (opening_made x, rest))
unfolding first_opening
opening_same text = refl

abbrev opening_reader : Reader OpeningValue
opening_reader = reader opening_made (λ y. (y.0, (y.1, y.2))) (λ x. refl) (λ y. refl) opening_part first_opening opening_same

abbrev FrontParts : Type 0
FrontParts = HeadingValue × (SubjectValue × (Option Amendment × OpeningValue))

abbrev front_made : FrontParts → FrontValue
front_made x = record { heading = x.0; subject = x.1.0; amendment = x.1.1.0; opening = x.1.1.1 }

abbrev front_part : {R : Type 0} → Part R FrontParts
front_part =
    behind (part heading_reader) (λ heading. behind (part (subject_reader heading.0))
    (λ _. behind (part (origin_reader heading.3)) (λ _. part opening_reader)))

front_same : (text : List ℕ) → first_front text ≡ front_part.reads text (λ x rest. Some (front_made x, rest))
unfolding first_front
front_same text = refl

abbrev front_reader : Reader FrontValue
front_reader =
    reader front_made (λ y. (y.heading, (y.subject, (y.amendment, y.opening)))) (λ x. refl) (λ y. refl) front_part first_front front_same

-- ---- rows

abbrev RowParts : Type 0
RowParts = List ℕ × (List ℕ × (List ℕ × (List ℕ × (ℕ × Option (List ℕ)))))

abbrev row_made : RowParts → EntryRow
row_made x = record {
  key = x.0;
  value = x.1.0;
  unit = x.1.1.0;
  person = x.1.1.1.0;
  moment = x.1.1.1.1.0;
  reason = x.1.1.1.1.1;
}

abbrev row_part : {R : Type 0} → Part R RowParts
row_part =
    behind key_part (λ _. behind note_part (λ _. behind unit_part (λ _. behind person_part
    (λ _. behind moment_part (λ _. part (item_reader reason_spelling))))))

row_same : (text : List ℕ) → first_row text ≡ row_part.reads text (λ x rest. Some (row_made x, rest))
unfolding first_row
row_same text = refl

abbrev row_reader : Reader EntryRow
row_reader =
    reader row_made (λ y. (y.key, (y.value, (y.unit, (y.person, (y.moment, y.reason)))))) (λ x. refl) (λ y. refl) row_part first_row row_same

pub record HasRow (text : List ℕ) (row : EntryRow) (rest : List ℕ) : Type 0 where
  pub row_is : IsRow row
  pub text_is : text ≡ row_text row ++ rest

row_grouped : (row : EntryRow) → row_reader.text_of row ≡ row_text row
unfolding row_text
row_grouped row =
    right_6 (item row.key) (item row.value) (item row.unit) (item row.person) (item (moment_text row.moment))
    (item (reason_text row.reason))

pub row_sound : (text : List ℕ) (row : EntryRow) (rest : List ℕ) → first_row text ≡ Some (row, rest) → HasRow text row rest
row_sound text row rest e =
    let has = row_reader.sound text (row, rest) e in
    let good = has.0 in
    record {
      row_is = record {
        key = good.0;
        value = good.1.0;
        unit = good.1.1.0;
        person = good.1.1.1.0;
        moment = good.1.1.1.1.0;
        reason = good.1.1.1.1.1;
      };
      text_is = has.1 ∙ ap (λ l. l ++ rest) (row_grouped row);
    }

row_complete : (row : EntryRow) (rest : List ℕ) → IsRow row → first_row (row_text row ++ rest) ≡ Some (row, rest)
row_complete row rest is =
    ap (λ l. first_row (l ++ rest)) (sym (row_grouped row))
    ∙ row_reader.complete row rest (is.key, (is.value, (is.unit, (is.person, (is.moment, is.reason)))))

record HasRows (count : ℕ) (text : List ℕ) (rows : List EntryRow) (rest : List ℕ) : Type 0 where
  pub rows_are : All IsRow rows
  pub counted : length rows ≡ count
  pub text_is : text ≡ flat_map row_text rows ++ rest

rows_sound : (count : ℕ) (text : List ℕ) (found : List EntryRow × List ℕ) → first_rows count text ≡ Some found
    → HasRows count text found.0 found.1
unfolding first_rows
rows_sound zero text found e =
    let P : List EntryRow × List ℕ → Type 0 = λ p. HasRows zero text p.0 p.1 in
    subst P (some_same ([], text) found e) (record { rows_are = All-nil IsRow; counted = refl; text_is = refl })
rows_sound (suc n) text found e =
    let a = bind_some (first_row text) _ found e in
    let row : EntryRow × List ℕ = a.0 in
    let b = bind_some (first_rows n row.1) _ found a.2 in
    let rows : List EntryRow × List ℕ = b.0 in
    let same : (row.0 ∷ rows.0, rows.1) ≡ found = some_same (row.0 ∷ rows.0, rows.1) found b.2 in
    let has_row = row_sound text row.0 row.1 a.1 in
    let has_rows = rows_sound n row.1 rows b.1 in
    let whole = has_row.text_is ∙ ap (λ l. row_text row.0 ++ l) has_rows.text_is
    ∙ sym (append_assoc (row_text row.0) (flat_map row_text rows.0) rows.1) in
    let P : List EntryRow × List ℕ → Type 0 = λ p. HasRows (suc n) text p.0 p.1 in
    subst P same (record {
      rows_are = All-cons IsRow row.0 rows.0 has_row.row_is has_rows.rows_are;
      counted = ap (λ k. suc k) has_rows.counted;
      text_is = whole;
    })

rows_complete : (rows : List EntryRow) (rest : List ℕ) → All IsRow rows
    → first_rows (length rows) (flat_map row_text rows ++ rest) ≡ Some (rows, rest)
unfolding first_rows
rows_complete [] rest are = refl
rows_complete (row ∷ rows) rest are =
    let more : List ℕ = flat_map row_text rows ++ rest in
    let regroup = append_assoc (row_text row) (flat_map row_text rows) rest in
    let first = row_complete row more (All-head IsRow row rows are) in
    let others = rows_complete rows rest (All-tail IsRow row rows are) in
    rw (regroup, first, others) refl

-- ---- versions

-- what stands before a version's rows
abbrev front_value : VersionParts → FrontValue
front_value parts = record {
  heading = (is_newer parts.format, parts.lab, parts.record_number, parts.origin.number);
  subject = (parts.form, parts.form_version, parts.format, parts.sample);
  amendment = parts.origin.amendment;
  opening = (parts.opener, parts.opened, length parts.rows);
}

format_worded : (format : Format) → picked (codes "labrecord 2") (codes "labrecord 1") (is_newer format) ≡ format_word format
format_worded One = refl
format_worded (Two approval) = refl

front_written : (parts : VersionParts) → front_reader.text_of (front_value parts) ≡ front_text parts
unfolding front_text heading_text subject_text opening_text
front_written parts =
    ap (λ word. (item word ++ (item parts.lab ++ (item (decimal parts.record_number) ++ item (decimal parts.origin.number))))
    ++ ((item parts.form ++ (item (decimal parts.form_version) ++ (approval_text parts.format ++ item parts.sample)))
    ++ (origin_text parts.origin.amendment
    ++ (item parts.opener ++ (item (moment_text parts.opened) ++ item (decimal (length parts.rows))))))) (format_worded parts.format)
    ∙ right_12 (item (format_word parts.format)) (item parts.lab) (item (decimal parts.record_number)) (item (decimal parts.origin.number))
    (item parts.form) (item (decimal parts.form_version)) (approval_text parts.format) (item parts.sample)
    (origin_text parts.origin.amendment) (item parts.opener) (item (moment_text parts.opened)) (item (decimal (length parts.rows)))

front_good : (parts : VersionParts) → IsFrontAdmitted parts → front_reader.IsGood (front_value parts)
front_good parts is = (
  (tt, (is.heading.lab, (is.heading.record_number, is.heading.number))),
  (
    (is.subject.form, (is.subject.form_version, (record { told = refl }, is.subject.sample))),
    ((is.origin.order, is.origin.amendment), (is.opening.opener, (is.opening.opened, is.opening.few))),
  ),
)

-- the version that was read, part by part
pub record HasVersion (bytes : List ℕ) (front : FrontValue) (rows : List EntryRow) (rest : List ℕ) : Type 0 where
  pub version : IsVersion (version_parts_of front rows)
  pub text_is : bytes ≡ version_text (version_parts_of front rows) ++ rest

pub version_sound : (bytes : List ℕ) (front : FrontValue) (more : List ℕ) (rows : List EntryRow) (rest : List ℕ)
    → first_front bytes ≡ Some (front, more) → first_rows front.opening.2 more ≡ Some (rows, rest)
    → HasVersion bytes front rows rest
unfolding version_text
version_sound bytes front more rows rest e f =
    let has = front_reader.sound bytes (front, more) e in
    let good = has.0 in
    let all = rows_sound front.opening.2 more (rows, rest) f in
    let parts : VersionParts = version_parts_of front rows in
    let newer : front.heading.0 ≡ is_newer parts.format = sym good.1.0.1.1.0.told in
    let count : front.opening.2 ≡ length rows = sym all.counted in
    let same : front ≡ front_value parts = λ i. record {
      heading = (newer i, front.heading.1, front.heading.2, front.heading.3);
      subject = front.subject;
      amendment = front.amendment;
      opening = (front.opening.0, front.opening.1, count i);
    } in
    let number : length rows < 2 ^ 64 = subst (λ n. n < 2 ^ 64) count good.1.1.1.1.1 in
    record {
      version = record {
        front = record {
          heading = record { lab = good.0.1.0; record_number = good.0.1.1.0; number = good.0.1.1.1 };
          subject = record { form = good.1.0.0; form_version = good.1.0.1.0; sample = good.1.0.1.1.1 };
          origin = record { order = good.1.1.0.0; amendment = good.1.1.0.1 };
          opening = record { opener = good.1.1.1.0; opened = good.1.1.1.1.0; few = number };
        };
        rows = all.rows_are;
      };
      text_is = has.1 ∙ ap (λ f. front_reader.text_of f ++ more) same ∙ ap (λ l. l ++ more) (front_written parts)
          ∙ ap (λ l. front_text parts ++ l) all.text_is
          ∙ sym (append_assoc (front_text parts) (flat_map row_text rows) rest);
    }

-- a version's text is read as its front and its rows
record IsReadBack (parts : VersionParts) (bytes rest : List ℕ) : Type 0 where
  pub front : first_front bytes ≡ Some (front_value parts, flat_map row_text parts.rows ++ rest)
  pub rows : first_rows (length parts.rows) (flat_map row_text parts.rows ++ rest) ≡ Some (parts.rows, rest)

version_complete : (parts : VersionParts) (rest : List ℕ) → IsVersion parts → IsReadBack parts (version_text parts ++ rest) rest
unfolding version_text
version_complete parts rest is =
    let more : List ℕ = flat_map row_text parts.rows ++ rest in
    record {
      front = ap first_front (append_assoc (front_text parts) (flat_map row_text parts.rows) rest
          ∙ ap (λ l. l ++ more) (sym (front_written parts)))
          ∙ front_reader.complete (front_value parts) more (front_good parts is.front);
      rows = rows_complete parts.rows rest is.rows;
    }

pub one_spelling : OneSpelling
one_spelling one other rest more is_one is_other e =
    let a = version_complete one rest is_one in
    let b = version_complete other more is_other in
    let fronts : (front_value one, flat_map row_text one.rows ++ rest) ≡ (front_value other, flat_map row_text other.rows ++ more) =
    some_same _ _ (sym a.front ∙ ap first_front e ∙ b.front) in
    let front : front_value one ≡ front_value other = ap (λ (p : FrontValue × List ℕ). p.0) fronts in
    let behind_front : flat_map row_text one.rows ++ rest ≡ flat_map row_text other.rows ++ more =
    ap (λ (p : FrontValue × List ℕ). p.1) fronts in
    let count : length one.rows ≡ length other.rows = ap (λ (f : FrontValue). f.opening.2) front in
    let rows : (one.rows, rest) ≡ (other.rows, more) =
    some_same _ _ (sym a.rows ∙ ap (λ n. first_rows n (flat_map row_text one.rows ++ rest)) count
    ∙ ap (first_rows (length other.rows)) behind_front ∙ b.rows) in (
      λ i. version_parts_of (front i) (rows i).0,
      ap (λ (p : List EntryRow × List ℕ). p.1) rows,
    )

none_some : {A : Type 0} (x : A) → None ≡ Some x → ⊥
none_some x e = absurd (cc)

back : (bytes : List ℕ) (parts : VersionParts) → IsVersion parts → version_text parts ≡ bytes → IsReadBack parts bytes []
back bytes parts is e =
    let P : List ℕ → Type 0 = λ l. IsReadBack parts l [] in
    subst P (append-nil (version_text parts) ∙ e) (version_complete parts [] is)

-- bytes with no front
pub no_front : (bytes : List ℕ) → first_front bytes ≡ None → IsNoVersion bytes
no_front bytes none = λ parts is at.
    none_some (front_value parts, flat_map row_text parts.rows ++ []) (sym none ∙ (back bytes parts is at).front)

ends : (bytes : List ℕ) (front : FrontValue) (more : List ℕ) → first_front bytes ≡ Some (front, more)
    → (parts : VersionParts) → IsVersion parts → version_text parts ≡ bytes
    → AreAllRows front.opening.2 more
ends bytes front more e parts is at =
    let b = back bytes parts is at in
    let same : (front, more) ≡ (front_value parts, flat_map row_text parts.rows ++ []) = some_same _ _ (sym e ∙ b.front) in
    ap (λ (p : FrontValue × List ℕ). option_map (λ found. found.1) (first_rows p.0.opening.2 p.1)) same ∙ ap (option_map (λ found. found.1)) b.rows

-- bytes that are read to their end
pub record IsRead (bytes : List ℕ) (front : FrontValue) (rows : List EntryRow) : Type 0 where
  pub version : IsVersion (version_parts_of front rows)
  pub text : version_text (version_parts_of front rows) ≡ bytes

pub read_whole : (bytes : List ℕ) (front : FrontValue) (more : List ℕ) (rows : List EntryRow)
    → first_front bytes ≡ Some (front, more) → first_rows front.opening.2 more ≡ Some (rows, []) → IsRead bytes front rows
read_whole bytes front more rows e f =
    let has = version_sound bytes front more rows [] e f in
    record {
      version = has.version;
      text = sym (has.text_is ∙ append-nil (version_text (version_parts_of front rows)));
    }

pub some_version : {bytes : List ℕ} {front : FrontValue} {rows : List EntryRow} → IsRead bytes front rows → IsSomeVersion bytes
some_version {bytes} {front} {rows} read = record { parts = version_parts_of front rows; version = read.version; text = read.text }

rows_before : (o : Option (List EntryRow × List ℕ)) (rest : List ℕ) → option_map (λ found. found.1) o ≡ Some rest
    → (rows : List EntryRow) × (o ≡ Some (rows, rest))
rows_before None rest e = let never : None ≡ Some rest = e in absurd (cc)
rows_before (Some found) rest e =
    (found.0, ap (λ l. Some (found.0, l)) (some_same found.1 rest e))

-- what is said of the rows behind a front is said of the bytes
pub rows_fault : (bytes : List ℕ) (front : FrontValue) (more : List ℕ) (fault : Fault BadText)
    → first_front bytes ≡ Some (front, more)
    → TextFaultFits (AreAllRows front.opening.2 more → ⊥) (AreAllRows front.opening.2 more) fault
    → TextFaultFits (IsNoVersion bytes) (IsSomeVersion bytes) fault
rows_fault bytes front more (Refused _) e none = λ parts is at. none (ends bytes front more e parts is at)
rows_fault bytes front more Memory e all =
    let found = rows_before (first_rows front.opening.2 more) [] all in
    some_version (read_whole bytes front more found.0 e found.1)
