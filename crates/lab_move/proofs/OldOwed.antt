-- An old file owes the verdict on it, and no other answer.
use Rattle.std.proofs.Common.{◌≡◌, ◌≢◌, ◌<◌, ◌≤◌, inl, inr, ℕ, zero, suc, ℤ, pos, negsuc, Bool, true, false, List, [], Some, None, Option, Ok, Err, Result, IfErr, refl, sym, ap, subst, ◌∙◌, arith}
use Rattle.std.specs.Prelude.{int_lt, if◌then◌else◌}
use Rattle.std.proofs.lemmas.Int.{ints}
use Rattle.sqlite_value.specs.Order.{Row}
use Rattle.sqlite_schema.specs.declared.schema.Schema.{Schema}
use Rattle.sqlite.specs.Effect.{Database}
use Rattle.sqlite.specs.State.{State, HasCleanDisk, Shown}
use Rattle.lab_store_tables.specs.Rows.{Tables}
use Rattle.lab_store_files.specs.declared.faults.FileFault.{FileFault}
use Rattle.lab_store_files.specs.declared.faults.FileFault.TheVariants.{NotADeskFile, SchemaOld, SchemaNew, Storage, NotEmpty, Memory}
use Rattle.lab_store_files.specs.Faults.{FailedInStore}
use Rattle.lab_store_files.specs.Owed.{IsNoSchema, Names as HasNumber}
use Rattle.lab_store_files.specs.Schemas.{has_number}
use Rattle.lab_store_files.specs.Verdicts.{number_query, number_shown}
use Rattle.lab_store_files.proofs.OwedLemmas.{shows_rows}
use Rattle.lab_move_tables.specs.Olders.{number_of}
use Rattle.lab_move_tables.specs.Standing.{StandsBy}
use Rattle.lab_move_tables.specs.declared.older.Older.{Older}
use Rattle.lab_move_tables.specs.declared.older.Older.TheVariants.{Two}
use Rattle.lab_move.specs.OldFiles.{Names, StandsFor, is_whole, older_of, whole_verdict, other_verdict, named_verdict, shown_verdict, old_verdict}
use Rattle.lab_move.specs.Owed.{IsOldOwed, AnswersOldOwed, has_tables}
use Rattle.lab_move.proofs.OldVerdicts.{not_failed, number_is, older_found, stands_by}

abbrev Answer : Type 0
Answer = Result Older FileFault

-- ---- numbers

less : (a b : ℕ) → int_lt (pos a) (pos b) ≡ true → a < b
less a b h = grind (arith, ints, h)

not_less : (a b : ℕ) → int_lt (pos a) (pos b) ≡ false → b ≤ a
not_less a b h = grind (arith, ints, h)

is_less : (a b : ℕ) → a < b → int_lt (pos a) (pos b) ≡ true
is_less a b h = go (int_lt (pos a) (pos b)) refl
  where
    go : (t : Bool) → int_lt (pos a) (pos b) ≡ t → t ≡ true
    go true e = refl
    go false e = absurd (let up = not_less a b e in omega (arith, h, up))

isnt_less : (a b : ℕ) → b ≤ a → int_lt (pos a) (pos b) ≡ false
isnt_less a b h = go (int_lt (pos a) (pos b)) refl
  where
    go : (t : Bool) → int_lt (pos a) (pos b) ≡ t → t ≡ false
    go true e = absurd (let under = less a b e in omega (arith, h, under))
    go false e = refl

under_each : (n : ℕ) → n < 2 → (older : Older) → n < number_of older
under_each n low Two = low

-- a number that no older schema has
apart : (n : ℕ) → older_of (pos n) ≡ None → (older : Older) → n ≢ number_of older
apart n none older same = let found : older_of (pos n) ≡ Some older = ap (λ k. older_of (pos k)) same ∙ older_found older in cc

over_each : (n : ℕ) → 2 ≤ n → older_of (pos n) ≡ None → (older : Older) → number_of older < n
over_each n up none Two = let two : n ≢ 2 = apart n none Two in omega (arith, up, two)

unfound : (n : ℕ) → ((older : Older) → n ≢ number_of older) → older_of (pos n) ≡ None
unfound n none = go (older_of (pos n)) refl
  where
    go : (found : Option Older) → older_of (pos n) ≡ found → found ≡ None
    go None e = refl
    go (Some older) e = absurd (none older (let same : pos n ≡ pos (number_of older) = number_is (pos n) older e in cc))

-- ---- what is owed, by the tables and the number

abbrev by_found : (Older → Bool) → ℤ → Option Older → Answer
by_found has number None = other_verdict number
by_found has number (Some older) = whole_verdict older (has older)

abbrev owed_by : (Older → Bool) → Option ℤ → Answer
owed_by has None = Err NotADeskFile
owed_by has (Some number) = by_found has number (older_of number)

whole_is : (has : Older → Bool) (number : Option ℤ) (older : Older) → number ≡ Some (pos (number_of older)) → owed_by has number ≡ whole_verdict older (has older)
whole_is has number older named = ap (owed_by has) named ∙ ap (by_found has (pos (number_of older))) (older_found older)

other_is : (has : Older → Bool) (number : Option ℤ) (n : ℕ) → number ≡ Some (pos n) → ((older : Older) → n ≢ number_of older) → owed_by has number ≡ other_verdict (pos n)
other_is has number n named none = ap (owed_by has) named ∙ ap (by_found has (pos n)) (unfound n none)

abbrev ordered : Bool → Bool → ℕ → Answer
ordered low old n = if low then Err NotADeskFile else (if old then Err (SchemaOld n) else Err (SchemaNew n))

ordered_is : (n : ℕ) (low old : Bool) → int_lt (pos n) (pos 1) ≡ low → int_lt (pos n) (pos 2) ≡ old → other_verdict (pos n) ≡ ordered low old n
ordered_is n low old a b = ap (λ x. ordered x (int_lt (pos n) (pos 2)) n) a ∙ ap (λ x. ordered low x n) b

no_schema_is : (has : Older → Bool) (number : Option ℤ) → IsNoSchema number → ◌≡◌ {A = Answer} (Err NotADeskFile) (owed_by has number)
no_schema_is has None none = refl
no_schema_is has (Some (negsuc n)) none = refl
no_schema_is has (Some (pos zero)) none = refl
no_schema_is has (Some (pos (suc n))) none = absurd (none (suc n) (omega arith) refl)

owed_is : (has : Older → Bool) (number : Option ℤ) (answer : Answer) → IsOldOwed has number answer → answer ≡ owed_by has number
owed_is has number (Ok older) h = sym (whole_is has number older h.0 ∙ ap (whole_verdict older) h.1)
owed_is has number (Err NotADeskFile) (inl none) = no_schema_is has number none
owed_is has number (Err NotADeskFile) (inr h) = sym (whole_is has number h.0 h.1 ∙ ap (whole_verdict h.0) h.2)
owed_is has number (Err (SchemaOld n)) h =
    sym (other_is has number n h.0 (λ older same. let low = h.2 older in absurd (omega (arith, low, same)))
    ∙ ordered_is n false true (isnt_less n 1 h.1) (is_less n 2 (h.2 Two)))
owed_is has number (Err (SchemaNew n)) h =
    let up : 2 < n = h.1 Two in
    sym (other_is has number n h.0 (λ older same. let high = h.1 older in absurd (omega (arith, high, same)))
    ∙ ordered_is n false false (isnt_less n 1 (omega (arith, up))) (isnt_less n 2 (omega (arith, up))))
owed_is has number (Err Storage) h = absurd h
owed_is has number (Err NotEmpty) h = absurd h
owed_is has number (Err Memory) h = absurd h

pub one_owed : (has : Older → Bool) (number : Option ℤ) (one other : Answer) → IsOldOwed has number one → IsOldOwed has number other → one ≡ other
one_owed has number one other first second = owed_is has number one first ∙ sym (owed_is has number other second)

-- ---- the verdict is owed

other_owed : (has : Older → Bool) (n : ℕ) (low old : Bool) → older_of (pos n) ≡ None → int_lt (pos n) (pos 1) ≡ low → int_lt (pos n) (pos 2) ≡ old
    → IsOldOwed has (Some (pos n)) (ordered low old n)
other_owed has n true old none a b = inl (λ m some is. let same : m ≡ n = cc in let under = less n 1 a in absurd (omega (arith, under, some, same)))
other_owed has n false true none a b = (refl, not_less n 1 a, under_each n (less n 2 b))
other_owed has n false false none a b = (refl, over_each n (not_less n 2 b) none)

whole_owed : (has : Older → Bool) (number : ℤ) (older : Older) (whole : Bool) → number ≡ pos (number_of older) → has older ≡ whole → IsOldOwed has (Some number) (whole_verdict older whole)
whole_owed has number older true named is = (ap Some named, is)
whole_owed has number older false named is = inr (older, ap Some named, is)

unnamed_owed : (has : Older → Bool) (number : ℤ) → older_of number ≡ None → IsOldOwed has (Some number) (other_verdict number)
unnamed_owed has (pos n) none = other_owed has n (int_lt (pos n) (pos 1)) (int_lt (pos n) (pos 2)) none refl refl
unnamed_owed has (negsuc n) none = inl (λ m some is. cc)

due_owed : (has : Older → Bool) (number : Option ℤ) → IsOldOwed has number (owed_by has number)
due_owed has None = inl (λ n some is. cc)
due_owed has (Some number) = go (older_of number) refl
  where
    go : (found : Option Older) → older_of number ≡ found → IsOldOwed has (Some number) (by_found has number found)
    go None e = unnamed_owed has number e
    go (Some older) e = whole_owed has number older (has older) (number_is number older e) refl

pub some_owed : (has : Older → Bool) (number : Option ℤ) → (answer : Answer) × IsOldOwed has number answer
some_owed has number = (owed_by has number, due_owed has number)

verdict_is : (schema : Schema) (shown : Option ℤ) → owed_by (λ older. is_whole older schema) shown ≡ shown_verdict schema shown
verdict_is schema None = refl
verdict_is schema (Some number) = go (older_of number)
  where
    go : (found : Option Older) → by_found (λ older. is_whole older schema) number found ≡ named_verdict schema number found
    go None = refl
    go (Some older) = refl

verdict_owed : (schema : Schema) (shown : Option ℤ) → IsOldOwed (λ older. is_whole older schema) shown (shown_verdict schema shown)
verdict_owed schema shown =
    subst (IsOldOwed (λ older. is_whole older schema) shown) (verdict_is schema shown) (due_owed (λ older. is_whole older schema) shown)

-- no verdict is the store's
pub never_stored : (P : Type 0) (schema : Schema) (rows : List Row) (answer : Answer) → answer ≡ old_verdict schema rows → IfErr answer (λ fault. fault ≡ Storage → P)
never_stored P schema rows (Ok older) is = tt
never_stored P schema rows (Err fault) is = λ told.
    absurd (subst (IsOldOwed (λ older. is_whole older schema) (number_shown rows)) (sym is ∙ ap Err told) (verdict_owed schema (number_shown rows)))

-- ---- of a file

module _ (db : Database) (answer : Answer) where
  -- by the number that it shows
  answered : (number : Option ℤ) → HasNumber db number → IsOldOwed (has_tables db) number answer → (has_number db.schema ≡ false → answer ≡ Err NotADeskFile)
      → AnswersOldOwed db answer
  answered number names owed unnamed = record {
    told = inl (number, names, owed);
    owed = λ other opens. inl (one_owed (has_tables db) number answer other owed (opens number names));
    unnamed = unnamed;
  }

  pub unnamed_answered : has_number db.schema ≡ false → answer ≡ Err NotADeskFile → AnswersOldOwed db answer
  unnamed_answered unnamed is =
      answered None (inl (unnamed, refl)) (subst (IsOldOwed (has_tables db) None) (sym is) (inl (λ n some named. cc))) (λ none. is)

  pub failed_answered : has_number db.schema ≡ true → FailedInStore answer → AnswersOldOwed db answer
  failed_answered named fault = record { told = inr fault; owed = λ other opens. inr fault; unnamed = λ none. absurd cc }

-- a file that names a number, by the rows that a call was shown
pub named_answered : (old new : State) (rows : List Row) (answer : Answer) → has_number old.now.schema ≡ true → Shown number_query [] old new rows
    → answer ≡ old_verdict old.now.schema rows → AnswersOldOwed old.now answer
named_answered old new rows answer named shown is =
    answered old.now answer (number_shown rows) (inr (named, rows, shows_rows old new rows shown, refl))
    (subst (IsOldOwed (has_tables old.now) (number_shown rows)) (sym is) (verdict_owed old.now.schema (number_shown rows))) (λ none. absurd cc)

-- ---- of a file of an older schema

-- the number that it shows is the schema's
pub names_older : (db : Database) (older : Older) → AnswersOldOwed db (Ok older) → Names older db
names_older db older answers = elim answers.told [ inl it ↦ go it.0 it.1 it.2.0 | inr failed ↦ absurd (not_failed older failed) ]
  where
    go : (number : Option ℤ) → HasNumber db number → number ≡ Some (pos (number_of older)) → Names older db
    go number (inl unnamed) is = absurd (let none = unnamed.1 in cc)
    go number (inr named) is =
        let shows = named.2 in
        (named.1, record { read = shows.read; is = shows.is; source = shows.source; from = shows.from; moment = shows.moment; shown = shows.shown }, sym named.3 ∙ is)

-- so it stands for tables as one of this schema, while the disk is clean later
pub stands_still : (before after : State) (older : Older) → (HasCleanDisk after → HasCleanDisk before) → (HasCleanDisk before → AnswersOldOwed before.now (Ok older))
    → HasCleanDisk after → (t : Tables) → StandsFor before.now t → StandsBy older before.now t
stands_still before after older early answers late = stands_by older before.now (names_older before.now older (answers (early late)))
