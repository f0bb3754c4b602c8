-- What each kind of item is spelled as.
use Rattle.std.proofs.Common.{◌≡◌, ℕ, ◌<◌, ◌≤◌, ◌^◌, Bool, true, false, List, [], ◌∷◌, length, Option, Some, None, refl, ap, subst, ◌∙◌, arith, IsTrue}
use Rattle.std.specs.Prelude.{decimal, if◌then◌else◌}
use Rattle.std.specs.Str.{bytes_eq, is_utf8, IsUtf8}
use Rattle.std.proofs.lemmas.Bool.{and_parts, cond-true, cond-false}
use Rattle.std.proofs.lemmas.Bool.Decides.{nat_tests}
use Rattle.std.proofs.lemmas.Slice.Eq.{bytes_eq-Decides}
use Rattle.std.proofs.lemmas.Str.{is_utf8-from_IsUtf8}
use Rattle.hex.specs.Hex.{encode_lower, lower_digits}
use Rattle.hex.proofs.HexLemmas.{length-encode_with}
use Rattle.lab_forms_texts.specs.Moment.{is_moment, moment_text, moment_of}
use Rattle.lab_forms_texts.specs.Names.{is_note}
use Rattle.lab_forms_texts.specs.Ordinals.{is_ordinal, ordinal_of}
use Rattle.lab_forms_texts.proofs.MomentLemmas.{moment_complete, moment_sound}
use Rattle.lab_seal_hashes.specs.Digits.{bytes_of_digits}
use Rattle.lab_seal_hashes.proofs.DigitsLemmas.{digits_complete, digits_sound}
use Rattle.lab_seal_versions.specs.Versions.{reason_text, IsDigest, IsReason}
use Rattle.lab_seal.specs.Reading.{text_where, this_word, which_word, number_written, ordinal_in, reason_in, moment_in, ◌>>=◌}
use Rattle.lab_seal.proofs.PartLemmas.{Spelling}
use Rattle.lab_seal.proofs.ReadLemmas.{bind_some, when_some, some_same, number_sound, number_complete, decimal_short}
use Rattle.lab_seal.proofs.TextLemmas.{note_utf8, note_short, moment_utf8, moment_short}

-- ---- texts

pub text_sound : (admits : List ℕ → Bool) (bytes text : List ℕ) → text_where admits bytes ≡ Some text → IsTrue (admits text) × (bytes ≡ text)
text_sound admits bytes text e = by (is_utf8 bytes) e
  where
    by : (t : Bool) → (if t then (if admits bytes then Some bytes else None) else None) ≡ Some text
        → IsTrue (admits text) × (bytes ≡ text)
    by true e =
        let both = when_some (admits bytes) bytes text e in
        let P : List ℕ → Type 0 = λ l. IsTrue (admits l) in
        (subst P both.1 both.0, both.1)
    by false e = let never : None ≡ Some text = e in absurd (cc)

pub text_complete : (admits : List ℕ → Bool) (text : List ℕ) → IsUtf8 text → IsTrue (admits text) → text_where admits text ≡ Some text
text_complete admits text utf8 is =
    cond-true (is_utf8 text) (if admits text then Some text else None) None (is_utf8-from_IsUtf8 text utf8)
    ∙ cond-true (admits text) (Some text) None is

abbrev pub text_spelling : (admits : List ℕ → Bool) → ((text : List ℕ) → IsTrue (admits text) → IsUtf8 text)
    → ((text : List ℕ) → IsTrue (admits text) → length text < 2 ^ 64) → Spelling (List ℕ)
text_spelling admits utf8 short = record {
  reads = text_where admits;
  IsGood = λ text. IsTrue (admits text);
  bytes_of = λ text. text;
  sound = text_sound admits;
  complete = λ text is. text_complete admits text (utf8 text is) is;
  short = short;
}

-- ---- words

pub same_word : (word : List ℕ) → bytes_eq word word ≡ true
same_word word = (bytes_eq-Decides word word).1 refl

abbrev pub word_spelling : (word : List ℕ) → length word < 2 ^ 64 → Spelling (Unit {0})
word_spelling word short = record {
  reads = this_word word;
  IsGood = λ _. Unit {0};
  bytes_of = λ _. word;
  sound = λ bytes x e. (tt, (bytes_eq-Decides bytes word).0 (when_some (bytes_eq bytes word) tt x e).0);
  complete = λ x _. cond-true (bytes_eq word word) (Some tt) None (same_word word);
  short = λ _ _. short;
}

abbrev pub picked : List ℕ → List ℕ → Bool → List ℕ
picked one other true = one
picked one other false = other

pub choice_sound : (one other bytes : List ℕ) (x : Bool) → which_word one other bytes ≡ Some x → bytes ≡ picked one other x
choice_sound one other bytes x e = by (bytes_eq bytes one) refl e
  where
    by : (t : Bool) → bytes_eq bytes one ≡ t
        → (if t then Some true else if bytes_eq bytes other then Some false else None) ≡ Some x → bytes ≡ picked one other x
    by true is e = (bytes_eq-Decides bytes one).0 is ∙ ap (picked one other) (some_same true x e)
    by false is e =
        let both = when_some (bytes_eq bytes other) false x e in
        (bytes_eq-Decides bytes other).0 both.0 ∙ ap (picked one other) both.1

pub choice_complete : (one other : List ℕ) → bytes_eq other one ≡ false → (x : Bool) → which_word one other (picked one other x) ≡ Some x
choice_complete one other differ true =
    cond-true (bytes_eq one one) (Some true) (if bytes_eq one other then Some false else None) (same_word one)
choice_complete one other differ false =
    cond-false (bytes_eq other one) (Some true) (if bytes_eq other other then Some false else None) differ
    ∙ cond-true (bytes_eq other other) (Some false) None (same_word other)

pub choice_short : (one other : List ℕ) → length one < 2 ^ 64 → length other < 2 ^ 64 → (x : Bool) → length (picked one other x) < 2 ^ 64
choice_short one other low small true = low
choice_short one other low small false = small

abbrev pub choice_spelling : (one other : List ℕ) → bytes_eq other one ≡ false → length one < 2 ^ 64 → length other < 2 ^ 64 → Spelling Bool
choice_spelling one other differ low small = record {
  reads = which_word one other;
  IsGood = λ _. Unit {0};
  bytes_of = picked one other;
  sound = λ bytes x e. (tt, choice_sound one other bytes x e);
  complete = λ x _. choice_complete one other differ x;
  short = λ x _. choice_short one other low small x;
}

-- ---- numbers

abbrev pub count_spelling : Spelling ℕ
count_spelling = record {
  reads = number_written;
  IsGood = λ n. n < 2 ^ 64;
  bytes_of = decimal;
  sound = number_sound;
  complete = number_complete;
  short = decimal_short;
}

pub ordinal_low : (n : ℕ) → IsTrue (is_ordinal n) → n < 2 ^ 64
ordinal_low n h = let low : n ≤ 1000000000 = grind (arith, nat_tests) in omega arith

pub ordinal_sound : (bytes : List ℕ) (n : ℕ) → ordinal_in bytes ≡ Some n → IsTrue (is_ordinal n) × (bytes ≡ decimal n)
ordinal_sound bytes n e =
    let a = bind_some (number_written bytes) ordinal_of n e in
    let m : ℕ = a.0 in
    let both = when_some (is_ordinal m) m n a.2 in
    let P : ℕ → Type 0 = λ v. IsTrue (is_ordinal v) × (bytes ≡ decimal v) in
    subst P both.1 (both.0, (number_sound bytes m a.1).1)

abbrev pub ordinal_spelling : Spelling ℕ
ordinal_spelling = record {
  reads = ordinal_in;
  IsGood = λ n. IsTrue (is_ordinal n);
  bytes_of = decimal;
  sound = ordinal_sound;
  complete = λ n is. ap (λ o. o >>= ordinal_of) (number_complete n (ordinal_low n is)) ∙ cond-true (is_ordinal n) (Some n) None is;
  short = λ n is. decimal_short n (ordinal_low n is);
}

-- ---- moments and digests

pub moment_in_sound : (bytes : List ℕ) (n : ℕ) → moment_in bytes ≡ Some n → IsTrue (is_moment n) × (bytes ≡ moment_text n)
moment_in_sound bytes n e = by (is_utf8 bytes) e
  where
    by : (t : Bool) → (if t then moment_of bytes else None) ≡ Some n → IsTrue (is_moment n) × (bytes ≡ moment_text n)
    by true e = moment_sound bytes n e
    by false e = let never : None ≡ Some n = e in absurd (cc)

abbrev pub moment_spelling : Spelling ℕ
moment_spelling = record {
  reads = moment_in;
  IsGood = λ n. IsTrue (is_moment n);
  bytes_of = moment_text;
  sound = moment_in_sound;
  complete = λ n is.
      cond-true (is_utf8 (moment_text n)) (moment_of (moment_text n)) None (is_utf8-from_IsUtf8 (moment_text n) (moment_utf8 n is))
      ∙ moment_complete n is;
  short = λ n _. moment_short n;
}

abbrev pub digest_spelling : Spelling (List ℕ)
digest_spelling = record {
  reads = bytes_of_digits 32;
  IsGood = IsDigest;
  bytes_of = encode_lower;
  sound = λ digits digest e. let has = digits_sound 32 digits digest e in ((has.long, has.each), has.spelled);
  complete = λ digest is. digits_complete 32 digest is.0 is.1;
  short = λ digest is. omega (arith, is.0, length-encode_with lower_digits digest);
}

-- ---- reasons

pub reason_sound : (bytes : List ℕ) (reason : Option (List ℕ)) → reason_in bytes ≡ Some reason → IsReason reason × (bytes ≡ reason_text reason)
reason_sound [] reason e =
    let P : Option (List ℕ) → Type 0 = λ r. IsReason r × ([] ≡ reason_text r) in
    subst P (some_same None reason e) (tt, refl)
reason_sound (b ∷ bs) reason e =
    let a = bind_some (text_where is_note (b ∷ bs)) _ reason e in
    let note : List ℕ = a.0 in
    let has = text_sound is_note (b ∷ bs) note a.1 in
    let P : Option (List ℕ) → Type 0 = λ r. IsReason r × ((b ∷ bs) ≡ reason_text r) in
    subst P (some_same (Some note) reason a.2) has

empty_is_no_note : IsTrue (is_note []) → ⊥
unfolding is_note
empty_is_no_note h =
    let never : false ≡ true = (and_parts _ _ (and_parts _ _ (and_parts _ _ h).0).0).1 in
    absurd (cc never)

pub reason_complete : (reason : Option (List ℕ)) → IsReason reason → reason_in (reason_text reason) ≡ Some reason
reason_complete None is = refl
reason_complete (Some []) is = absurd (empty_is_no_note is)
reason_complete (Some (b ∷ bs)) is =
    ap (λ (o : Option (List ℕ)). o >>= (λ note. Some (Some note))) (text_complete is_note (b ∷ bs) (note_utf8 (b ∷ bs) is) is)

pub reason_short : (reason : Option (List ℕ)) → IsReason reason → length (reason_text reason) < 2 ^ 64
reason_short None is = omega arith
reason_short (Some reason) is = note_short reason is

abbrev pub reason_spelling : Spelling (Option (List ℕ))
reason_spelling = record {
  reads = reason_in;
  IsGood = IsReason;
  bytes_of = reason_text;
  sound = reason_sound;
  complete = reason_complete;
  short = reason_short;
}
