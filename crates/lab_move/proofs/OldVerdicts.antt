-- The question for the number of a schema, asked of a file of an older one in either style; and which verdicts there are.
use Rattle.std.proofs.Common.{◌≡◌, ◌≢◌, ◌≤◌, inl, inr, ℕ, ℤ, pos, negsuc, Bool, true, false, ◌==◌, List, [], ◌∷◌, codes, map, filter, length, Option, Some, None, Ok, Err, Result, IfOk, IsTrue, refl, sym, ap, subst, ◌∙◌, arith, cond, find}
use Rattle.std.specs.Prelude.{if◌then◌else◌, int_lt, unsigned_abs}
use Rattle.std.specs.Option.{option_map_or}
use Rattle.std.proofs.lemmas.Bool.{eqb-true, and_parts}
use Rattle.sqlite_value.specs.declared.value.Value.TheVariants.{Int}
use Rattle.sqlite_value.specs.Order.{Row}
use Rattle.sqlite_schema.specs.declared.schema.Schema.{Schema}
use Rattle.sqlite_schema.specs.declared.schema.Table.{Table}
use Rattle.sqlite_schema.specs.Names.{same_name}
use Rattle.sqlite_keyed.proofs.KeyedLemmas.{same_int}
use Rattle.sqlite_resolve.specs.Compile.{first}
use Rattle.sqlite_sql.specs.Program.{overlay}
use Rattle.sqlite_sql.specs.Query.{Query, inner, end}
use Rattle.sqlite_sql.specs.Term.{lit, col}
use Rattle.sqlite_tied.specs.Compute.{everything}
use Rattle.sqlite_typed.proofs.AnswerLemmas.{last_table, at_end}
use Rattle.sqlite.specs.Effect.{Database}
use Rattle.sqlite.specs.Listing.{understood}
use Rattle.sqlite.specs.State.{State, Shown}
use Rattle.lab_forms_texts.specs.declared.refusals.Fault.{Fault}
use Rattle.lab_forms_texts.specs.declared.refusals.Fault.TheVariants as reading
use Rattle.lab_records_keeper.specs.declared.faults.BadStore.{BadStore}
use Rattle.lab_store_tables.specs.Rows.{DeskRow, Tables, desk_id, number}
use Rattle.lab_store_tables.proofs.RowWords.{desk_row}
use Rattle.lab_store_tables.specs.Family.{Desk as DeskRows}
use Rattle.lab_store_tables.specs.Family as kept
use Rattle.lab_store_tables.specs.Sheets.{table_of}
use Rattle.lab_store_tables.specs.Held.{AreRising}
use Rattle.lab_store_read.proofs.Queries.{IsRead}
use Rattle.lab_store_read.proofs.Sorted.{only_answer}
use Rattle.lab_store_files.specs.declared.faults.FileFault.{FileFault}
use Rattle.lab_store_files.specs.declared.faults.FileFault.TheVariants.{NotADeskFile, SchemaOld, SchemaNew, NotEmpty, Storage, Memory}
use Rattle.lab_store_files.specs.Faults.{FailedInStore}
use Rattle.lab_store_files.specs.Schemas.{has_column, has_number, table_named}
use Rattle.lab_store_files.specs.Verdicts.{number_query, number_shown}
use Rattle.lab_move_tables.specs.declared.older.Older.{Older}
use Rattle.lab_move_tables.specs.declared.older.Older.TheVariants.{Two}
use Rattle.lab_move_tables.specs.Olders.{all_older, layout_of, number_of, schema_of}
use Rattle.lab_move_tables.specs.OldRows.{IsOldFile, old_tables}
use Rattle.lab_move_tables.specs.PeerFiles.{IsPeerFile, peer_schema}
use Rattle.lab_move_tables.specs.Showing.{ShowsOf}
use Rattle.lab_move_tables.specs.Reading.{ReadsOld}
use Rattle.lab_move_tables.proofs.Bare.{shows_of}
use Rattle.lab_move_tables.proofs.OldReaders.{passes_none}
use Rattle.lab_move_tables.proofs.OldTexts.{MeansIn}
use Rattle.lab_move_tables.proofs.OldExact.{answered}
use Rattle.lab_move.specs.Faults.{read_told}
use Rattle.lab_move.specs.Private.Faults.{IsOfStore}
use Rattle.lab_move_tables.specs.Standing.{StandsBy}
use Rattle.lab_move.specs.declared.old_tables.OldTable.{OldTable}
use Rattle.lab_move.specs.declared.old_tables.OldTable.TheVariants.{Desk, Labs, Persons, Sessions, Forms, Fields, Choices, Records, Versions, Entries, Signatures, Trail}
use Rattle.lab_move.specs.OldFiles.{own_table, name_of, is_like, is_whole, is_old_desk, has_old_number, older_of, oldest, whole_verdict, named_verdict, shown_verdict, old_verdict, IsNamedOldFile, Names, StandsFor}

-- ---- what the question means

abbrev desk_query : Query
desk_query = record {
  from = inner 0 end;
  filter = [];
  group = None;
  project = col 1 2 ∷ [];
  distinct = false;
  collations = [];
  order = [];
  limit = lit (Int (negsuc 0));
  offset = lit (Int (pos 0));
}

pub desk_read : IsRead (first number_query)
unfolding understood everything
desk_read = (_, refl)

abbrev DeskMeans : Schema → Type 0
DeskMeans schema = MeansIn schema number_query desk_query (codes "schema" ∷ [])

desk_means : (older : Older) → DeskMeans (schema_of older)
unfolding understood everything
desk_means Two = record { read = (_, refl); command = refl; unlisted = refl; plain = (refl, refl) }

peer_desk_means : DeskMeans peer_schema
unfolding understood everything
peer_desk_means = record { read = (_, refl); command = refl; unlisted = refl; plain = (refl, refl) }

-- ---- what it shows of a file whose schema and whose rows are known

abbrev number_row : DeskRow → Row
number_row one = number one.number ∷ []

desk_short : (older : Older) (desk : List DeskRow) → IsTrue (is_old_desk older desk) → length (filter (λ _. true) desk) ≤ 1
desk_short older [] h = absurd cc
desk_short older (one ∷ []) h = omega arith
desk_short older (one ∷ other ∷ others) h = absurd cc

same_number : (n m : ℕ) → (n == m) ≡ true → n ≡ m
same_number n m h = eqb-true n m h

desk_shown : (older : Older) (desk : List DeskRow) → IsTrue (is_old_desk older desk) → map number_row (filter (λ _. true) desk) ≡ (number (number_of older) ∷ []) ∷ []
desk_shown older [] h = absurd cc
desk_shown older (one ∷ []) h = ap (λ n. (number n ∷ []) ∷ []) (same_number one.number (number_of older) h)
desk_shown older (one ∷ other ∷ others) h = absurd cc

number_read : (older : Older) {schema : Schema} (db : Database) → db.schema ≡ schema → DeskMeans schema → db.trees 0 ≡ map desk_row (old_tables older db.trees).desk → AreRising (old_tables older db.trees)
    → IsTrue (is_old_desk older (old_tables older db.trees).desk) → (rows : List Row) → ShowsOf db number_query [] rows → number_shown rows ≡ Some (pos (number_of older))
number_read older db has means stored rising named rows h =
    let trees = overlay db.trees [] in
    let desk = (old_tables older db.trees).desk in
    let given : rows ≡ (number (number_of older) ∷ []) ∷ [] =
    only_answer desk_query trees [] (last_table trees 0 desk_row desk_id desk stored (rising.at DeskRows) (at_end trees)) (λ _. true) (λ x. refl) refl refl (desk_short older desk named) rows
    (answered means db has [] rows h)
    ∙ desk_shown older desk named in
    ap number_shown given

whole_here : (older : Older) → is_whole older (schema_of older) ≡ true
unfolding same_name
whole_here Two = refl

peer_whole_here : is_whole Two peer_schema ≡ true
unfolding same_name
peer_whole_here = refl

stored_desk : (older : Older) (db : Database) → IsOldFile older db → db.trees 0 ≡ map desk_row (old_tables older db.trees).desk
stored_desk Two db file = file.stored.at DeskRows

pub exact_named : (older : Older) (db : Database) → IsOldFile older db → IsTrue (is_old_desk older (old_tables older db.trees).desk) → IsNamedOldFile older db
exact_named older db file named =
    record { whole = ap (is_whole older) file.schema ∙ whole_here older; named = number_read older db file.schema (desk_means older) (stored_desk older db file) file.rising named }

pub peer_named : (db : Database) → IsPeerFile db → IsTrue (is_old_desk Two (old_tables Two db.trees).desk) → IsNamedOldFile Two db
peer_named db file named = record { whole = ap (is_whole Two) file.schema ∙ peer_whole_here; named = number_read Two db file.schema peer_desk_means (file.stored.at DeskRows) file.rising named }

-- ---- the tables by the value of the schema

abbrev kept_name : OldTable → kept.Name
kept_name Desk = kept.Desk
kept_name Labs = kept.Labs
kept_name Persons = kept.Persons
kept_name Sessions = kept.Sessions
kept_name Forms = kept.Forms
kept_name Fields = kept.Fields
kept_name Choices = kept.Choices
kept_name Records = kept.Records
kept_name Versions = kept.Versions
kept_name Entries = kept.Entries
kept_name Signatures = kept.Signatures
kept_name Trail = kept.Trail

-- each is as its layout describes it, and has its name
pub known_tables : (older : Older) (one : OldTable) → (own_table older one ≡ table_of (layout_of older (kept_name one)).sheet) × ((own_table older one).name ≡ name_of one)
known_tables Two Desk = (refl, refl)
known_tables Two Labs = (refl, refl)
known_tables Two Persons = (refl, refl)
known_tables Two Sessions = (refl, refl)
known_tables Two Forms = (refl, refl)
known_tables Two Fields = (refl, refl)
known_tables Two Choices = (refl, refl)
known_tables Two Records = (refl, refl)
known_tables Two Versions = (refl, refl)
known_tables Two Entries = (refl, refl)
known_tables Two Signatures = (refl, refl)
known_tables Two Trail = (refl, refl)

-- each is found by its number
pub older_found : (older : Older) → older_of (pos (number_of older)) ≡ Some older
older_found Two = refl

-- ---- the verdict on a file of an older schema

numbered : (older : Older) (found : Option Table) → option_map_or (is_like (own_table older Desk)) found false ≡ true → option_map_or (λ desk. has_column desk (codes "schema")) found false ≡ true
numbered older None h = h
numbered older (Some table) h = let columns = (and_parts _ _ h).0 in (and_parts _ _ (and_parts _ _ columns).1).0

whole_numbered : (older : Older) (schema : Schema) → is_whole older schema ≡ true → has_number schema ≡ true
whole_numbered older schema h = numbered older (table_named schema (codes "desk")) (and_parts _ _ h).0

pub ours_named : (older : Older) (s : State) → IsNamedOldFile older s.now → has_number s.now.schema ≡ true
ours_named older s named = whole_numbered older s.now.schema named.whole

pub ours_taken : (older : Older) (old new : State) (rows : List Row) → IsNamedOldFile older old.now → Shown number_query [] old new rows → old_verdict old.now.schema rows ≡ Ok older
ours_taken older old new rows named h =
    ap (shown_verdict old.now.schema) (named.named rows (shows_of number_query desk_read [] old new rows h))
    ∙ ap (named_verdict old.now.schema (pos (number_of older))) (older_found older)
    ∙ ap (whole_verdict older) named.whole

-- ---- which older schema a file was taken for

found_passes : {X : Type 0} (p : X → Bool) (xs : List X) (found : X) → find p xs ≡ Some found → p found ≡ true
found_passes p [] found h = absurd cc
found_passes p (x ∷ xs) found h = go (p x) refl h (found_passes p xs found)
  where
    go : (b : Bool) → p x ≡ b → cond b (Some x) (find p xs) ≡ Some found → (find p xs ≡ Some found → p found ≡ true) → p found ≡ true
    go true e is more = let same : x ≡ found = cc in subst (λ it. p it ≡ true) same e
    go false e is more = more is

pub number_is : (number : ℤ) (older : Older) → older_of number ≡ Some older → number ≡ pos (number_of older)
number_is number older h = sym (same_int (pos (number_of older)) number (found_passes (has_old_number number) all_older older h))

pub not_failed : (older : Older) → ¬ FailedInStore {A = Older} (Ok older)
not_failed older (inl e) = cc
not_failed older (inr e) = cc

-- the tables for which a file stands that names this schema are those of this schema
pub stands_by : (older : Older) (db : Database) → Names older db → (t : Tables) → StandsFor db t → StandsBy older db t
stands_by older db named t file = subst (λ it. StandsBy it db t) (sym (file.alone older named)) file.stands

-- no two have one number
alike : (one other : Older) → pos (number_of one) ≡ pos (number_of other) → one ≡ other
alike one other same = let both : Some one ≡ Some other = sym (older_found one) ∙ ap older_of same ∙ older_found other in cc

-- a file that shows this schema's number in every answer to the question stands for the tables for which
-- it stands as one of this schema
pub alone_stands : (older : Older) (db : Database) (t : Tables) → ((rows : List Row) → ShowsOf db number_query [] rows → number_shown rows ≡ Some (pos (number_of older)))
    → StandsBy older db t → StandsFor db t
alone_stands older db t shows stands = record {
  older = older;
  alone = λ other named. alike other older (let both : Some (pos (number_of other)) ≡ Some (pos (number_of older)) = sym named.2 ∙ shows named.0 named.1 in cc);
  stands = stands;
}

-- so does a file that names the schema
pub named_stands : (older : Older) (db : Database) → IsNamedOldFile older db → (t : Tables) → StandsBy older db t → StandsFor db t
named_stands older db file t stands = alone_stands older db t file.named stands

-- ---- which faults there are

untaken : (low old : Bool) (n : ℕ)
    → ◌≢◌ {A = Result Older FileFault} (if low then Err NotADeskFile else (if old then Err (SchemaOld n) else Err (SchemaNew n))) (Err NotEmpty)
untaken true old n e = cc
untaken false true n e = cc
untaken false false n e = cc

whole_untaken : (older : Older) (whole : Bool) → whole_verdict older whole ≢ Err NotEmpty
whole_untaken older true e = cc
whole_untaken older false e = cc

named_untaken : (schema : Schema) (number : ℤ) (o : Option Older) → named_verdict schema number o ≢ Err NotEmpty
named_untaken schema number None e = untaken (int_lt number (pos 1)) (int_lt number (pos (number_of oldest))) (unsigned_abs number) e
named_untaken schema number (Some older) e = whole_untaken older (is_whole older schema) e

never_taken : (schema : Schema) (o : Option ℤ) → shown_verdict schema o ≢ Err NotEmpty
never_taken schema None e = cc
never_taken schema (Some number) e = named_untaken schema number (older_of number) e

pub not_taken : (schema : Schema) (rows : List Row) → old_verdict schema rows ≢ Err NotEmpty
not_taken schema rows = never_taken schema (number_shown rows)

pub of_store : (fault : Fault BadStore) → IsOfStore (read_told fault)
of_store (reading.Refused _) = inl refl
of_store reading.Memory = inr refl

pub of_store_by : (fault : Fault BadStore) (told : FileFault) → told ≡ read_told fault → IsOfStore told
of_store_by fault told is = subst IsOfStore (sym is) (of_store fault)

pub verdict_at : (old new : State) (rows : List Row) (answer : Result Older FileFault) → new.now ≡ old.now → answer ≡ old_verdict new.now.schema rows
    → answer ≡ old_verdict old.now.schema rows
verdict_at old new rows answer same is = is ∙ ap (λ (db : Database). old_verdict db.schema rows) same

pub failed_in : {A : Type 0} (fault : FileFault) → IsOfStore fault → FailedInStore {A = A} (Err fault)
failed_in fault (inl e) = inl (ap Err e)
failed_in fault (inr e) = inr (ap Err e)

pub not_empty_in : (fault : FileFault) → IsOfStore fault → ◌≢◌ {A = Result Older FileFault} (Err fault) (Err NotEmpty)
not_empty_in fault (inl e) is = let wrong : ◌≡◌ {A = Result Older FileFault} (Err Storage) (Err NotEmpty) = ap Err (sym e) ∙ is in cc
not_empty_in fault (inr e) is = let wrong : ◌≡◌ {A = Result Older FileFault} (Err Memory) (Err NotEmpty) = ap Err (sym e) ∙ is in cc

pub any_ok : {A E : Type 0} (r : Result A E) → IfOk r (λ _. Unit {0})
any_ok (Ok a) = tt
any_ok (Err e) = tt

-- a call that asked nothing, and gave no answer
pub none_asked : {T E : Type 0} {Answer : Tables → T → Type 0} (e : E) (s : State) → ReadsOld {T = T} Answer s s (Err e)
none_asked e s = record { passes = passes_none s; shows = λ _. tt; same = λ _ _. tt; answer = λ _ _ _. tt }
