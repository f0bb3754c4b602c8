-- A row that is too long stands for no line: what stands for one has thirteen fields, none longer than a note.
use Rattle.std.proofs.Common.{◌≡◌, ◌⊎◌, inl, inr, ℕ, ◌+◌, ◌≤◌, ◌<◌, Bool, true, false, List, [], ◌∷◌, ◌++◌, length, Option, Some, None, refl, sym, ap, subst, ◌∙◌, arith, IsTrue, true≢false}
use Rattle.std.specs.Prelude.{codes, decimal, is_some, if◌then◌else◌, ◌&&◌, ◌==◌, nat_le, nat_lt, option_map, not}
use Rattle.std.specs.List.{list_all}
use Rattle.std.specs.Str.{bytes_eq}
use Rattle.std.specs.Cmp.Lexicographic.{pointwise}
use Rattle.std.proofs.lemmas.Bool.{and_parts, leb-true, eqb-true, or_cases}
use Rattle.std.proofs.lemmas.Fmt.{length-decimal-le}
use Rattle.std.proofs.lemmas.List.{length_push}
use Rattle.std.proofs.lemmas.Slice.Eq.{bytes_eq-Decides, slice_eq-Decides}
use Rattle.lab_forms_texts.specs.Moment.{moment_text}
use Rattle.lab_forms_texts.specs.Names.{is_lab_code, is_person_code, is_key, is_name, is_note, is_unit}
use Rattle.lab_seal_hashes.specs.Digits.{bytes_of_digits}
use Rattle.lab_seal_hashes.proofs.DigitsLemmas.{digits_exact}
use Rattle.lab_seal_versions.specs.Origins.{first_number}
use Rattle.lab_seal_versions.specs.declared.versions.Format.{Format}
use Rattle.lab_seal_versions.specs.declared.seals.Meaning.{Meaning}
use Rattle.lab_seal_versions.specs.declared.seals.Meaning.TheVariants as meaning
use Rattle.lab_seal_versions.specs.declared.states.State.{State}
use Rattle.lab_seal.specs.Reading.{◌>>=◌, number_written, text_where, ordinal_in, reason_in, moment_in}
use Rattle.lab_seal.proofs.ReadLemmas.{bind_some, when_some, number_sound}
use Rattle.lab_seal.proofs.SpellingLemmas.{text_sound, ordinal_sound, moment_in_sound}
use Rattle.lab_copy_rows.specs.Rows.{Columns, fields_in, header_row}
use Rattle.lab_copy_rows.specs.Reading.{columns_of, all_empty, person_in, count_in, edition_in, format_in, state_in, meaning_in, version_reason_in, copy_line, record_line, version_line, entry_line, signature_line, end_line, line_of}
use Rattle.lab_copy_rows.specs.Copies.{is_header, line_in}
use Rattle.lab_copy_rows.specs.declared.lines.Edition.{Edition}
use Rattle.lab_copy_rows.specs.declared.lines.CopyLine.{CopyLine}
use Rattle.lab_copy_rows.specs.declared.lines.RecordLine.{RecordLine}
use Rattle.lab_copy_rows.specs.declared.lines.VersionLine.{VersionLine}
use Rattle.lab_copy_rows.specs.declared.lines.EntryLine.{EntryLine}
use Rattle.lab_copy_rows.specs.declared.lines.SignatureLine.{SignatureLine}
use Rattle.lab_copy_rows.specs.declared.lines.EndLine.{EndLine}
use Rattle.lab_copy_rows.specs.declared.lines.Line.{Line}
use Rattle.lab_copy_rows.specs.declared.lines.Line.TheVariants.{Copy, Record, Version, Entry, Signature, End}
use Rattle.lab_copy_rows.proofs.ListLemmas.{never, no_some}
use Rattle.lab_copy_lines.proofs.RowLemmas.{columns_back}
use Rattle.lab_copy.specs.Fronts.{most_fields, most_bytes}

-- ---- fields that aren't too long

abbrev pub IsShort : List ℕ → Type 0
IsShort field = length field ≤ most_bytes

abbrev pub AreShort : List (List ℕ) → Type 0
AreShort [] = Unit {0}
AreShort (field ∷ fields) = IsShort field × AreShort fields

short_text : (admits : List ℕ → Bool) (text found : List ℕ) → text_where admits text ≡ Some found
    → ((one : List ℕ) → IsTrue (admits one) → IsShort one) → IsShort text
short_text admits text found e few =
    let has = text_sound admits text found e in
    subst IsShort (sym has.1) (few found has.0)

lab_short : (text : List ℕ) → IsTrue (is_lab_code text) → IsShort text
unfolding is_lab_code
lab_short text is =
    let few : length text ≤ 12 = leb-true (length text) 12 (and_parts _ _ (and_parts _ _ (and_parts _ _ is).0).0).1 in omega (arith, few)

person_short : (text : List ℕ) → IsTrue (is_person_code text) → IsShort text
unfolding is_person_code
person_short text is =
    let few : length text ≤ 16 = leb-true (length text) 16 (and_parts _ _ (and_parts _ _ (and_parts _ _ is).0).0).1 in omega (arith, few)

key_short : (text : List ℕ) → IsTrue (is_key text) → IsShort text
unfolding is_key
key_short text is =
    let few : length text ≤ 24 = leb-true (length text) 24 (and_parts _ _ (and_parts _ _ (and_parts _ _ is).0).0).1 in omega (arith, few)

name_short : (text : List ℕ) → IsTrue (is_name text) → IsShort text
unfolding is_name
name_short text is =
    let few : length text ≤ 120 = leb-true (length text) 120 (and_parts _ _ (and_parts _ _ (and_parts _ _ (and_parts _ _ is).0).0).0).1 in omega (arith, few)

note_short : (text : List ℕ) → IsTrue (is_note text) → IsShort text
unfolding is_note
note_short text is = leb-true (length text) 1000 (and_parts _ _ (and_parts _ _ is).0).1

unit_short : (text : List ℕ) → IsTrue (is_unit text) → IsShort text
unfolding is_unit
unit_short text is = by (or_cases _ _ is)
  where
    by : ((length text == 0) ≡ true) ⊎ ((nat_le (length text) 20 && is_name text) ≡ true) → IsShort text
    by (inl e) = let none : length text ≡ 0 = eqb-true (length text) 0 e in omega (arith, none)
    by (inr e) = let few : length text ≤ 20 = leb-true (length text) 20 (and_parts _ _ e).0 in omega (arith, few)

-- ---- what is read of a field

lab_of_short : (text found : List ℕ) → text_where is_lab_code text ≡ Some found → IsShort text
lab_of_short text found e = short_text is_lab_code text found e lab_short

person_of_short : (text found : List ℕ) → text_where is_person_code text ≡ Some found → IsShort text
person_of_short text found e = short_text is_person_code text found e person_short

key_of_short : (text found : List ℕ) → text_where is_key text ≡ Some found → IsShort text
key_of_short text found e = short_text is_key text found e key_short

name_of_short : (text found : List ℕ) → text_where is_name text ≡ Some found → IsShort text
name_of_short text found e = short_text is_name text found e name_short

note_of_short : (text found : List ℕ) → text_where is_note text ≡ Some found → IsShort text
note_of_short text found e = short_text is_note text found e note_short

unit_of_short : (text found : List ℕ) → text_where is_unit text ≡ Some found → IsShort text
unit_of_short text found e = short_text is_unit text found e unit_short

number_short : (text : List ℕ) (found : ℕ) → number_written text ≡ Some found → IsShort text
number_short text found e =
    let has = number_sound text found e in
    let few : length (decimal found) ≤ 20 = length-decimal-le 20 found (omega arith) (omega arith) has.0 in
    subst IsShort (sym has.1) (omega (arith, few))

ordinal_short : (text : List ℕ) (found : ℕ) → ordinal_in text ≡ Some found → IsShort text
ordinal_short text found e = let read = bind_some (number_written text) _ found e in number_short text read.0 read.1

count_short : (text : List ℕ) (found : ℕ) → count_in text ≡ Some found → IsShort text
count_short text found e = let read = bind_some (number_written text) _ found e in number_short text read.0 read.1

moment_long : (n : ℕ) → length (moment_text n) ≡ 20
unfolding moment_text
moment_long n = refl

moment_short : (text : List ℕ) (found : ℕ) → moment_in text ≡ Some found → IsShort text
moment_short text found e =
    let has = moment_in_sound text found e in
    subst IsShort (sym has.1) (omega (arith, moment_long found))

digest_short : (text found : List ℕ) → bytes_of_digits 32 text ≡ Some found → IsShort text
digest_short text found e =
    let has = (digits_exact 32 text).0 (ap is_some e) in omega (arith, has.0)

person_or_none_short : (text : List ℕ) (found : Option (List ℕ)) → person_in text ≡ Some found → IsShort text
person_or_none_short [] found e = omega arith
person_or_none_short (b ∷ bs) found e =
    let read = bind_some (text_where is_person_code (b ∷ bs)) _ found e in person_of_short (b ∷ bs) read.0 read.1

reason_short : (text : List ℕ) (found : Option (List ℕ)) → reason_in text ≡ Some found → IsShort text
reason_short [] found e = omega arith
reason_short (b ∷ bs) found e =
    let read = bind_some (text_where is_note (b ∷ bs)) _ found e in note_of_short (b ∷ bs) read.0 read.1

empty_short : (texts : List (List ℕ)) (found : Unit {0}) → all_empty texts ≡ Some found → AreShort texts
empty_short texts found e = by texts (when_some _ tt found e).0
  where
    by : (all : List (List ℕ)) → list_all (λ (text : List ℕ). length text == 0) all ≡ true → AreShort all
    by [] e = tt
    by (text ∷ all) e =
        let both = and_parts _ _ e in
        let none : length text ≡ 0 = eqb-true (length text) 0 both.0 in (omega (arith, none), by all both.1)

word_short : (text word : List ℕ) → length word ≤ most_bytes → bytes_eq text word ≡ true → IsShort text
word_short text word few e = subst IsShort (sym ((bytes_eq-Decides text word).0 e)) few

-- a choice of words
chosen : {A : Type 0} (text word : List ℕ) (value : A) (other : Option A) (found : A) → length word ≤ most_bytes
    → (if bytes_eq text word then Some value else other) ≡ Some found → (other ≡ Some found → IsShort text) → IsShort text
chosen {A} text word value other found few e more = by (bytes_eq text word) refl e
  where
    by : (t : Bool) → bytes_eq text word ≡ t → (if t then Some value else other) ≡ Some found → IsShort text
    by true is e = word_short text word few is
    by false is e = more e

edition_short : (text : List ℕ) (found : Edition) → edition_in text ≡ Some found → IsShort text
edition_short text found e =
    chosen text (codes "1") _ _ found (omega arith) e (λ e.
    chosen text (codes "2") _ _ found (omega arith) e (λ e. no_some found e))

state_short : (text : List ℕ) (found : State) → state_in text ≡ Some found → IsShort text
state_short text found e =
    chosen text (codes "open") _ _ found (omega arith) e (λ e.
    chosen text (codes "signed") _ _ found (omega arith) e (λ e.
    chosen text (codes "reviewed") _ _ found (omega arith) e (λ e.
    chosen text (codes "released") _ _ found (omega arith) e (λ e.
    chosen text (codes "rejected") _ _ found (omega arith) e (λ e. no_some found e)))))

-- two words
chosen_both : {A : Type 0} (text word name other : List ℕ) (value : A) (rest : Option A) (found : A)
    → length word ≤ most_bytes → length other ≤ most_bytes
    → (if bytes_eq text word && bytes_eq name other then Some value else rest) ≡ Some found
    → (rest ≡ Some found → IsShort text × IsShort name) → IsShort text × IsShort name
chosen_both {A} text word name other value rest found few less e more = by (bytes_eq text word && bytes_eq name other) refl e
  where
    by : (t : Bool) → (bytes_eq text word && bytes_eq name other) ≡ t → (if t then Some value else rest) ≡ Some found
        → IsShort text × IsShort name
    by true is e =
        let both = and_parts _ _ is in (word_short text word few both.0, word_short name other less both.1)
    by false is e = more e

format_short : (key name : List ℕ) (found : Format) → format_in key name ≡ Some found → IsShort key × IsShort name
format_short key name found e =
    chosen_both key (codes "1") name [] _ _ found (omega arith) (omega arith) e (λ e.
    chosen_both key (codes "2") name [] _ _ found (omega arith) (omega arith) e (λ e.
    chosen_both key (codes "2") name (codes "approval") _ _ found (omega arith) (omega arith) e (λ e. no_some found e)))

meaning_short : (word reason : List ℕ) (found : Meaning) → meaning_in word reason ≡ Some found → IsShort word × IsShort reason
meaning_short word reason found e = by (bytes_eq word (codes "rejection")) refl e
  where
    plain : (t : Bool) → (length reason == 0) ≡ t
        → (if not t then None
        else if bytes_eq word (codes "authorship") then Some meaning.Authorship
        else if bytes_eq word (codes "review") then Some meaning.Review
        else if bytes_eq word (codes "approval") then Some meaning.Approval else None) ≡ Some found
        → IsShort word × IsShort reason
    plain true is e =
        let none : length reason ≡ 0 = eqb-true (length reason) 0 is in (
          chosen word (codes "authorship") _ _ found (omega arith) e (λ e.
              chosen word (codes "review") _ _ found (omega arith) e (λ e.
              chosen word (codes "approval") _ _ found (omega arith) e (λ e. no_some found e))),
          omega (arith, none),
        )
    plain false is e = no_some found e

    by : (t : Bool) → bytes_eq word (codes "rejection") ≡ t
        → (if t then text_where is_note reason >>= (λ note. Some (meaning.Rejection note))
        else if not (length reason == 0) then None
        else if bytes_eq word (codes "authorship") then Some meaning.Authorship
        else if bytes_eq word (codes "review") then Some meaning.Review
        else if bytes_eq word (codes "approval") then Some meaning.Approval else None) ≡ Some found
        → IsShort word × IsShort reason
    by true is e =
        let read = bind_some (text_where is_note reason) _ found e in
        (word_short word (codes "rejection") (omega arith) is, note_of_short reason read.0 read.1)
    by false is e = plain (length reason == 0) refl e

version_reason_short : (number : ℕ) (text : List ℕ) (found : Option (List ℕ)) → version_reason_in number text ≡ Some found → IsShort text
version_reason_short number text found e = by (number == first_number) e
  where
    by : (t : Bool)
        → (if t then all_empty (text ∷ []) >>= (λ empty. Some None) else text_where is_note text >>= (λ note. Some (Some note))) ≡ Some found
        → IsShort text
    by true e = let read = bind_some (all_empty (text ∷ [])) _ found e in (empty_short (text ∷ []) read.0 read.1).0
    by false e = let read = bind_some (text_where is_note text) _ found e in note_of_short text read.0 read.1

-- ---- rows

module _ (row : Columns) (kind : IsShort row.kind) where
  copy_short : (line : CopyLine) → copy_line row ≡ Some line → AreShort (fields_in row)
  unfolding copy_line
  copy_short line e =
      let lab = bind_some (text_where is_lab_code row.lab) _ line e in
      let first = bind_some (ordinal_in row.record_number) _ line lab.2 in
      let last = bind_some (ordinal_in row.version) _ line first.2 in
      let key = bind_some (edition_in row.key) _ line last.2 in
      let person = bind_some (person_in row.person) _ line key.2 in
      let name = bind_some (text_where is_name row.name) _ line person.2 in
      let moment = bind_some (moment_in row.moment) _ line name.2 in
      let none = bind_some (all_empty (row.value ∷ row.unit ∷ row.reason ∷ row.digest ∷ row.seal ∷ [])) _ line moment.2 in
      let empty = empty_short (row.value ∷ row.unit ∷ row.reason ∷ row.digest ∷ row.seal ∷ []) none.0 none.1 in (
        kind,
        (
          lab_of_short _ _ lab.1,
          (
            ordinal_short _ _ first.1,
            (
              ordinal_short _ _ last.1,
              (
                edition_short _ _ key.1,
                (
                  empty.0,
                  (
                    empty.1.0,
                    (
                      person_or_none_short _ _ person.1,
                      (
                        name_of_short _ _ name.1,
                        (
                          moment_short _ _ moment.1,
                          (empty.1.1.0, (empty.1.1.1.0, (empty.1.1.1.1.0, tt))),
                        ),
                      ),
                    ),
                  ),
                ),
              ),
            ),
          ),
        ),
      )

  record_short : (line : RecordLine) → record_line row ≡ Some line → AreShort (fields_in row)
  unfolding record_line
  record_short line e =
      let lab = bind_some (text_where is_lab_code row.lab) _ line e in
      let number = bind_some (ordinal_in row.record_number) _ line lab.2 in
      let version = bind_some (ordinal_in row.version) _ line number.2 in
      let form = bind_some (text_where is_key row.key) _ line version.2 in
      let sample = bind_some (text_where is_name row.value) _ line form.2 in
      let none = bind_some (all_empty
      (row.unit ∷ row.person ∷ row.name ∷ row.moment ∷ row.reason ∷ row.digest ∷ row.seal ∷ [])) _ line sample.2 in
      let empty = empty_short
      (row.unit ∷ row.person ∷ row.name ∷ row.moment ∷ row.reason ∷ row.digest ∷ row.seal ∷ []) none.0 none.1 in (
        kind,
        (
          lab_of_short _ _ lab.1,
          (
            ordinal_short _ _ number.1,
            (
              ordinal_short _ _ version.1,
              (
                key_of_short _ _ form.1,
                (name_of_short _ _ sample.1, empty),
              ),
            ),
          ),
        ),
      )

  version_short : (line : VersionLine) → version_line row ≡ Some line → AreShort (fields_in row)
  unfolding version_line
  version_short line e =
      let lab = bind_some (text_where is_lab_code row.lab) _ line e in
      let number = bind_some (ordinal_in row.record_number) _ line lab.2 in
      let version = bind_some (ordinal_in row.version) _ line number.2 in
      let format = bind_some (format_in row.key row.name) _ line version.2 in
      let state = bind_some (state_in row.value) _ line format.2 in
      let opener = bind_some (text_where is_person_code row.person) _ line state.2 in
      let opened = bind_some (moment_in row.moment) _ line opener.2 in
      let reason = bind_some (version_reason_in version.0 row.reason) _ line opened.2 in
      let digest = bind_some (bytes_of_digits 32 row.digest) _ line reason.2 in
      let none = bind_some (all_empty (row.unit ∷ row.seal ∷ [])) _ line digest.2 in
      let empty = empty_short (row.unit ∷ row.seal ∷ []) none.0 none.1 in
      let names = format_short _ _ format.0 format.1 in (
        kind,
        (
          lab_of_short _ _ lab.1,
          (
            ordinal_short _ _ number.1,
            (
              ordinal_short _ _ version.1,
              (
                names.0,
                (
                  state_short _ _ state.1,
                  (
                    empty.0,
                    (
                      person_of_short _ _ opener.1,
                      (
                        names.1,
                        (
                          moment_short _ _ opened.1,
                          (version_reason_short version.0 _ _ reason.1, (digest_short _ _ digest.1, (empty.1.0, tt))),
                        ),
                      ),
                    ),
                  ),
                ),
              ),
            ),
          ),
        ),
      )

  entry_short : (line : EntryLine) → entry_line row ≡ Some line → AreShort (fields_in row)
  unfolding entry_line
  entry_short line e =
      let lab = bind_some (text_where is_lab_code row.lab) _ line e in
      let number = bind_some (ordinal_in row.record_number) _ line lab.2 in
      let version = bind_some (ordinal_in row.version) _ line number.2 in
      let key = bind_some (text_where is_key row.key) _ line version.2 in
      let value = bind_some (text_where is_note row.value) _ line key.2 in
      let unit = bind_some (text_where is_unit row.unit) _ line value.2 in
      let person = bind_some (text_where is_person_code row.person) _ line unit.2 in
      let moment = bind_some (moment_in row.moment) _ line person.2 in
      let reason = bind_some (reason_in row.reason) _ line moment.2 in
      let none = bind_some (all_empty (row.name ∷ row.digest ∷ row.seal ∷ [])) _ line reason.2 in
      let empty = empty_short (row.name ∷ row.digest ∷ row.seal ∷ []) none.0 none.1 in (
        kind,
        (
          lab_of_short _ _ lab.1,
          (
            ordinal_short _ _ number.1,
            (
              ordinal_short _ _ version.1,
              (
                key_of_short _ _ key.1,
                (
                  note_of_short _ _ value.1,
                  (
                    unit_of_short _ _ unit.1,
                    (
                      person_of_short _ _ person.1,
                      (
                        empty.0,
                        (moment_short _ _ moment.1, (reason_short _ _ reason.1, empty.1)),
                      ),
                    ),
                  ),
                ),
              ),
            ),
          ),
        ),
      )

  signature_short : (line : SignatureLine) → signature_line row ≡ Some line → AreShort (fields_in row)
  unfolding signature_line
  signature_short line e =
      let lab = bind_some (text_where is_lab_code row.lab) _ line e in
      let number = bind_some (ordinal_in row.record_number) _ line lab.2 in
      let version = bind_some (ordinal_in row.version) _ line number.2 in
      let meaning = bind_some (meaning_in row.value row.reason) _ line version.2 in
      let person = bind_some (text_where is_person_code row.person) _ line meaning.2 in
      let name = bind_some (text_where is_name row.name) _ line person.2 in
      let moment = bind_some (moment_in row.moment) _ line name.2 in
      let digest = bind_some (bytes_of_digits 32 row.digest) _ line moment.2 in
      let seal = bind_some (bytes_of_digits 32 row.seal) _ line digest.2 in
      let none = bind_some (all_empty (row.key ∷ row.unit ∷ [])) _ line seal.2 in
      let empty = empty_short (row.key ∷ row.unit ∷ []) none.0 none.1 in
      let words = meaning_short _ _ meaning.0 meaning.1 in (
        kind,
        (
          lab_of_short _ _ lab.1,
          (
            ordinal_short _ _ number.1,
            (
              ordinal_short _ _ version.1,
              (
                empty.0,
                (
                  words.0,
                  (
                    empty.1.0,
                    (
                      person_of_short _ _ person.1,
                      (
                        name_of_short _ _ name.1,
                        (
                          moment_short _ _ moment.1,
                          (words.1, (digest_short _ _ digest.1, (digest_short _ _ seal.1, tt))),
                        ),
                      ),
                    ),
                  ),
                ),
              ),
            ),
          ),
        ),
      )

  end_short : (line : EndLine) → end_line row ≡ Some line → AreShort (fields_in row)
  unfolding end_line
  end_short line e =
      let lab = bind_some (text_where is_lab_code row.lab) _ line e in
      let records = bind_some (count_in row.record_number) _ line lab.2 in
      let versions = bind_some (count_in row.version) _ line records.2 in
      let entries = bind_some (count_in row.key) _ line versions.2 in
      let signatures = bind_some (count_in row.value) _ line entries.2 in
      let none = bind_some (all_empty
      (row.unit ∷ row.person ∷ row.name ∷ row.moment ∷ row.reason ∷ row.digest ∷ row.seal ∷ [])) _ line signatures.2 in
      let empty = empty_short
      (row.unit ∷ row.person ∷ row.name ∷ row.moment ∷ row.reason ∷ row.digest ∷ row.seal ∷ []) none.0 none.1 in (
        kind,
        (
          lab_of_short _ _ lab.1,
          (
            count_short _ _ records.1,
            (
              count_short _ _ versions.1,
              (
                count_short _ _ entries.1,
                (count_short _ _ signatures.1, empty),
              ),
            ),
          ),
        ),
      )

made : {A : Type 0} (with_line : A → Line) (found : Option A) (line : Line) → option_map with_line found ≡ Some line
    → (one : A) × (found ≡ Some one)
made with_line None line e = no_some line e
made with_line (Some one) line e = (one, refl)

-- what stands for a line
line_short : (row : Columns) (line : Line) → line_of row ≡ Some line → AreShort (fields_in row)
unfolding line_of
line_short row line e =
    kinds (codes "copy") _ _ (omega arith) e (λ kind e.
    let one = made (λ (one : CopyLine). Copy one) (copy_line row) line e in copy_short row kind one.0 one.1) (λ e.
    kinds (codes "record") _ _ (omega arith) e (λ kind e.
    let one = made (λ (one : RecordLine). Record one) (record_line row) line e in record_short row kind one.0 one.1) (λ e.
    kinds (codes "version") _ _ (omega arith) e (λ kind e.
    let one = made (λ (one : VersionLine). Version one) (version_line row) line e in version_short row kind one.0 one.1) (λ e.
    kinds (codes "entry") _ _ (omega arith) e (λ kind e.
    let one = made (λ (one : EntryLine). Entry one) (entry_line row) line e in entry_short row kind one.0 one.1) (λ e.
    kinds (codes "signature") _ _ (omega arith) e (λ kind e.
    let one = made (λ (one : SignatureLine). Signature one) (signature_line row) line e in signature_short row kind one.0 one.1) (λ e.
    kinds (codes "end") _ _ (omega arith) e (λ kind e.
    let one = made (λ (one : EndLine). End one) (end_line row) line e in end_short row kind one.0 one.1) (λ e.
    no_some line e))))))
  where
    kinds : (word : List ℕ) (here other : Option Line) → length word ≤ most_bytes
        → (if bytes_eq row.kind word then here else other) ≡ Some line
        → (IsShort row.kind → here ≡ Some line → AreShort (fields_in row))
        → (other ≡ Some line → AreShort (fields_in row)) → AreShort (fields_in row)
    kinds word here other few e found more = by (bytes_eq row.kind word) refl e
      where
        by : (t : Bool) → bytes_eq row.kind word ≡ t → (if t then here else other) ≡ Some line → AreShort (fields_in row)
        by true is e = found (word_short row.kind word few is) e
        by false is e = more e

-- ---- rows that are too long

abbrev pub HasLong : List (List ℕ) → Type 0
HasLong [] = ⊥
HasLong (field ∷ fields) = (most_bytes < length field) ⊎ HasLong fields

-- more fields than a row has, or a longer one
abbrev pub IsLong : List (List ℕ) → Type 0
IsLong fields = (most_fields < length fields) ⊎ HasLong fields

none_long : (fields : List (List ℕ)) → AreShort fields → HasLong fields → ⊥
none_long [] few long = long
none_long (field ∷ fields) few (inl long) = absurd (omega (arith, few.0, long))
none_long (field ∷ fields) few (inr long) = none_long fields few.1 long

columns_short : (fields : List (List ℕ)) (row : Columns) → columns_of fields ≡ Some row → AreShort (fields_in row) → IsLong fields → ⊥
columns_short fields row e few long = by (columns_back fields row e) long
  where
    by : fields ≡ fields_in row → IsLong fields → ⊥
    by same (inl more) = let thirteen : length fields ≡ 13 = ap length same in absurd (omega (arith, more, thirteen))
    by same (inr long) = none_long (fields_in row) few (subst HasLong same long)

pub no_line : (before : List Line) (fields : List (List ℕ)) → IsLong fields → line_in before fields ≡ None
no_line before fields long = by (line_in before fields) refl
  where
    by : (found : Option Line) → line_in before fields ≡ found → found ≡ None
    by None e = refl
    by (Some line) e =
        let row = bind_some (columns_of fields) _ line e in
        let read = bind_some (line_of row.0) _ line row.2 in
        absurd (columns_short fields row.0 row.1 (line_short row.0 read.0 read.1) long)

names_short : AreShort (fields_in header_row)
names_short = (
  omega arith,
  (
    omega arith,
    (
      omega arith,
      (
        omega arith,
        (
          omega arith,
          (
            omega arith,
            (
              omega arith,
              (
                omega arith,
                (
                  omega arith,
                  (omega arith, (omega arith, (omega arith, (omega arith, tt)))),
                ),
              ),
            ),
          ),
        ),
      ),
    ),
  ),
)

pub no_header : (fields : List (List ℕ)) → IsLong fields → is_header fields ≡ false
no_header fields long = by (is_header fields) refl
  where
    by : (t : Bool) → is_header fields ≡ t → t ≡ false
    by false e = refl
    by true e =
        absurd (header_short ((slice_eq-Decides bytes_eq-Decides fields (fields_in header_row) (is_header fields) refl).0 e) long)
      where
        header_short : fields ≡ fields_in header_row → IsLong fields → ⊥
        header_short same (inl more) = let thirteen : length fields ≡ 13 = ap length same in absurd (omega (arith, more, thirteen))
        header_short same (inr long) = none_long (fields_in header_row) names_short (subst HasLong same long)
