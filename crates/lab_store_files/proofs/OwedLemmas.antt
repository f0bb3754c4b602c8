-- The verdict on a file is what the file owes, and nothing else is.
use Rattle.std.proofs.Common.{◌≡◌, ◌≢◌, ◌⊎◌, ◌<◌, ◌≤◌, inl, inr, ℕ, zero, suc, ℤ, pos, negsuc, Bool, true, false, List, [], Some, None, Option, Ok, Err, Result, refl, sym, ap, subst, ◌∙◌, arith}
use Rattle.std.specs.Prelude.{int_lt, unsigned_abs, if◌then◌else◌}
use Rattle.std.proofs.lemmas.Int.{ints}
use Rattle.sqlite_value.specs.Order.{Row}
use Rattle.sqlite_schema.specs.declared.schema.Schema.{Schema}
use Rattle.sqlite_resolve.specs.declared.compiled.Compiled.{Compiled}
use Rattle.sqlite.specs.Clock as clock
use Rattle.sqlite.specs.Effect.{Database}
use Rattle.sqlite.specs.State.{State, HasCleanDisk, Shown, ShowsRows as Shows}
use Rattle.lab_store_tables.specs.Schema.{schema_number}
use Rattle.lab_store_files.specs.declared.faults.FileFault.{FileFault}
use Rattle.lab_store_files.specs.declared.faults.FileFault.TheVariants.{NotADeskFile, SchemaOld, SchemaNew, Storage, NotEmpty, Memory}
use Rattle.lab_store_files.specs.Faults.{FailedInStore}
use Rattle.lab_store_files.specs.Schemas.{is_whole, has_number}
use Rattle.lab_store_files.specs.Verdicts.{number_query, number_shown, number_verdict, whole_verdict, shown_verdict, file_verdict}
use Rattle.lab_store_files.specs.Owed.{ShowsRows, Names, IsNoSchema, IsOwed, OpensBy, AnswersOwed}
use Rattle.lab_store_files.proofs.Asking.{understood_bare}

abbrev Verdict : Type 0
Verdict = Result (Unit {0}) FileFault

-- ---- the rows that a call was shown are what the question shows of the file

pub shows_rows : (old new : State) (rows : List Row) → Shown number_query [] old new rows → ShowsRows old.now rows
unfolding Shown
shows_rows old new rows h =
    let none = understood_bare old.now.schema h.0 h.1.is in
    let it = subst (Shows old new number_query h.0 (clock.timed [] h.0.formats h.1.now) rows) none h.2 in
    record { read = h.0; is = h.1.is; source = it.0; from = it.1; moment = h.1.now; shown = it.2 }

-- ---- in one order

abbrev pub whole_due : Bool → Verdict
whole_due true = Ok tt
whole_due false = Err NotADeskFile

abbrev pub ordered_due : Bool → Bool → Bool → ℕ → Bool → Verdict
ordered_due low old new n whole = if low then Err NotADeskFile else (if old then Err (SchemaOld n) else (if new then Err (SchemaNew n) else whole_due whole))

abbrev pub due : ℕ → Bool → Option ℤ → Verdict
due wanted whole None = Err NotADeskFile
due wanted whole (Some z) = ordered_due (int_lt z (pos 1)) (int_lt z (pos wanted)) (int_lt (pos wanted) z) (unsigned_abs z) whole

below : (a b : ℕ) → a < b → int_lt (pos a) (pos b) ≡ true
below a b h = grind (arith, ints, h)

above : (a b : ℕ) → b ≤ a → int_lt (pos a) (pos b) ≡ false
above a b h = grind (arith, ints, h)

less : (a b : ℕ) → int_lt (pos a) (pos b) ≡ true → a < b
less a b h = grind (arith, ints, h)

least : (a b : ℕ) → int_lt (pos a) (pos b) ≡ false → b ≤ a
least a b h = grind (arith, ints, h)

module _ (wanted : ℕ) (some : 1 ≤ wanted) where
  -- ---- it is owed

  none_named : (whole : Bool) (n : ℕ) → n < 1 → IsOwed wanted whole (Some (pos n)) (Err NotADeskFile)
  none_named whole n low = inl (λ m least is. let same : m ≡ n = cc in absurd (omega (arith, low, least, same)))

  owed_whole : (whole : Bool) (n : ℕ) → n ≡ wanted → IsOwed wanted whole (Some (pos n)) (whole_due whole)
  owed_whole true n same = (ap (λ k. Some (pos k)) same, refl)
  owed_whole false n same = inr (ap (λ k. Some (pos k)) same, refl)

  owed_at : (whole : Bool) (n : ℕ) (low old new : Bool) → int_lt (pos n) (pos 1) ≡ low → int_lt (pos n) (pos wanted) ≡ old → int_lt (pos wanted) (pos n) ≡ new
      → IsOwed wanted whole (Some (pos n)) (ordered_due low old new n whole)
  owed_at whole n true old new a b c = none_named whole n (less n 1 a)
  owed_at whole n false true new a b c = (refl, least n 1 a, less n wanted b)
  owed_at whole n false false true a b c = (refl, less wanted n c)
  owed_at whole n false false false a b c = owed_whole whole n (let up = least n wanted b in let down = least wanted n c in omega (arith, up, down))

  pub due_is_owed : (whole : Bool) (number : Option ℤ) → IsOwed wanted whole number (due wanted whole number)
  due_is_owed whole None = inl (λ n least is. cc)
  due_is_owed whole (Some (pos n)) = owed_at whole n (int_lt (pos n) (pos 1)) (int_lt (pos n) (pos wanted)) (int_lt (pos wanted) (pos n)) refl refl refl
  due_is_owed whole (Some (negsuc n)) = inl (λ m least is. cc)

  -- ---- and nothing else is

  settled : (whole : Bool) (n : ℕ) (low old new : Bool) → int_lt (pos n) (pos 1) ≡ low → int_lt (pos n) (pos wanted) ≡ old → int_lt (pos wanted) (pos n) ≡ new
      → due wanted whole (Some (pos n)) ≡ ordered_due low old new n whole
  settled whole n low old new a b c =
      ap (λ x. ordered_due x (int_lt (pos n) (pos wanted)) (int_lt (pos wanted) (pos n)) n whole) a
      ∙ ap (λ x. ordered_due low x (int_lt (pos wanted) (pos n)) n whole) b
      ∙ ap (λ x. ordered_due low old x n whole) c

  due_wanted : (whole : Bool) → due wanted whole (Some (pos wanted)) ≡ whole_due whole
  due_wanted whole = settled whole wanted false false false (above wanted 1 some) (above wanted wanted (omega arith)) (above wanted wanted (omega arith))

  due_none : (whole : Bool) (number : Option ℤ) → IsNoSchema number → due wanted whole number ≡ Err NotADeskFile
  due_none whole None none = refl
  due_none whole (Some (negsuc n)) none = refl
  due_none whole (Some (pos zero)) none = settled whole 0 true (int_lt (pos 0) (pos wanted)) (int_lt (pos wanted) (pos 0)) refl refl refl
  due_none whole (Some (pos (suc n))) none = absurd (none (suc n) (omega arith) refl)

  as_named : (whole : Bool) (number : Option ℤ) (n : ℕ) (answer : Verdict) → number ≡ Some (pos n) → due wanted whole (Some (pos n)) ≡ answer → answer ≡ due wanted whole number
  as_named whole number n answer named is = sym is ∙ sym (ap (due wanted whole) named)

  pub owed_is_due : (whole : Bool) (number : Option ℤ) (answer : Verdict) → IsOwed wanted whole number answer → answer ≡ due wanted whole number
  owed_is_due whole number (Ok tt) h = as_named whole number wanted (Ok tt) h.0 (due_wanted whole ∙ ap whole_due h.1)
  owed_is_due whole number (Err NotADeskFile) (inl none) = sym (due_none whole number none)
  owed_is_due whole number (Err NotADeskFile) (inr h) = as_named whole number wanted (Err NotADeskFile) h.0 (due_wanted whole ∙ ap whole_due h.1)
  owed_is_due whole number (Err (SchemaOld n)) h =
      as_named whole number n (Err (SchemaOld n)) h.0 (settled whole n false true (int_lt (pos wanted) (pos n)) (above n 1 h.1) (below n wanted h.2) refl)
  owed_is_due whole number (Err (SchemaNew n)) h =
      as_named whole number n (Err (SchemaNew n)) h.0
      (settled whole n false false true (above n 1 (let past = h.1 in omega (arith, past, some))) (above n wanted (let past = h.1 in omega (arith, past))) (below wanted n h.1))
  owed_is_due whole number (Err Storage) h = absurd h
  owed_is_due whole number (Err NotEmpty) h = absurd h
  owed_is_due whole number (Err Memory) h = absurd h

  -- ---- of a file

  module _ (is_whole : Schema → Bool) (db : Database) (answer : Verdict) where
    -- an answer by the number that the file shows
    answered : (number : Option ℤ) → Names db number → answer ≡ due wanted (is_whole db.schema) number → (has_number db.schema ≡ false → answer ≡ Err NotADeskFile)
        → AnswersOwed wanted is_whole db answer
    answered number names is unnamed = record {
      told = inl (number, names, subst (IsOwed wanted (is_whole db.schema) number) (sym is) (due_is_owed (is_whole db.schema) number));
      owed = λ other opens. inl (is ∙ sym (owed_is_due (is_whole db.schema) number other (opens number names)));
      unnamed = unnamed;
    }

    pub named_answered : (rows : List Row) → has_number db.schema ≡ true → ShowsRows db rows → answer ≡ due wanted (is_whole db.schema) (number_shown rows)
        → AnswersOwed wanted is_whole db answer
    named_answered rows named shown is = answered (number_shown rows) (inr (named, rows, shown, refl)) is (λ none. absurd cc)

    pub unnamed_answered : has_number db.schema ≡ false → answer ≡ Err NotADeskFile → AnswersOwed wanted is_whole db answer
    unnamed_answered unnamed is = answered None (inl (unnamed, refl)) is (λ none. is)

    pub failed_answered : has_number db.schema ≡ true → FailedInStore answer → AnswersOwed wanted is_whole db answer
    failed_answered named fault = record { told = inr fault; owed = λ other opens. inr fault; unnamed = λ none. absurd cc }

-- ---- the verdict on a file of today's schema

whole_as : (low old new : Bool) (n : ℕ) (whole : Bool)
    → whole_verdict whole (if low then Err NotADeskFile else (if old then Err (SchemaOld n) else (if new then Err (SchemaNew n) else Ok tt))) ≡ ordered_due low old new n whole
whole_as true old new n whole = refl
whole_as false true new n whole = refl
whole_as false false true n whole = refl
whole_as false false false n true = refl
whole_as false false false n false = refl

verdict_is_due : (whole : Bool) (number : Option ℤ) → shown_verdict whole number ≡ due schema_number whole number
verdict_is_due whole None = refl
verdict_is_due whole (Some z) = whole_as (int_lt z (pos 1)) (int_lt z (pos schema_number)) (int_lt (pos schema_number) z) (unsigned_abs z) whole

-- a file that names a number, by the rows that a call was shown
pub named_owed : (old new : State) (rows : List Row) (answer : Verdict) → has_number old.now.schema ≡ true → Shown number_query [] old new rows
    → answer ≡ file_verdict old.now.schema rows → AnswersOwed schema_number is_whole old.now answer
named_owed old new rows answer named shown is =
    named_answered schema_number (omega arith) is_whole old.now answer rows named (shows_rows old new rows shown)
    (is ∙ verdict_is_due (is_whole old.now.schema) (number_shown rows))

-- one that names none
pub unnamed_owed : (db : Database) (answer : Verdict) → has_number db.schema ≡ false → answer ≡ Err NotADeskFile → AnswersOwed schema_number is_whole db answer
unnamed_owed db answer unnamed is = unnamed_answered schema_number (omega arith) is_whole db answer unnamed is

-- one that the store didn't show
pub failed_owed : (db : Database) (answer : Verdict) → has_number db.schema ≡ true → FailedInStore answer → AnswersOwed schema_number is_whole db answer
failed_owed db answer named fault = failed_answered schema_number (omega arith) is_whole db answer named fault
