-- The exact rows of each query, in a file whose schema and whose rows are known.
use Rattle.std.proofs.Common.{◌≡◌, ℕ, ℤ, pos, true, false, ◌&&◌, ◌==◌, List, [], ◌∷◌, map, filter, Option, Some, None, option_map, unwrap_or, refl, sym, ap, ap₂, subst, subst₂, ◌∙◌, append-nil, int_eq}
use Rattle.std.specs.List.{AllByRecursion, list_all}
use Rattle.std.specs.Ordering.{is_eq, nat_cmp}
use Rattle.std.specs.Cmp.Lexicographic.{slice_cmp}
use Rattle.std.proofs.lemmas.Map.Text.{is_eq-slice_cmp}
use Rattle.sqlite_value.specs.declared.value.Value.{Value}
use Rattle.sqlite_value.specs.declared.value.Value.TheVariants.{Null, Int, Text, Blob}
use Rattle.sqlite_value.specs.Order.{Row, column}
use Rattle.sqlite_trees.specs.Tree.{Trees, IsAscending}
use Rattle.sqlite_sql.specs.Program.{overlay}
use Rattle.sqlite_sql.specs.Query.{Query, IsAnswer, output, output_cmp}
use Rattle.sqlite_sql.specs.Ops.{binary, is_true}
use Rattle.sqlite_sql.specs.declared.ops.BinaryOp.TheVariants.{Compare}
use Rattle.sqlite_sql.specs.declared.ops.CompareOp.TheVariants.{Eq}
use Rattle.sqlite_value.specs.declared.keys.Collation.TheVariants.{Binary}
use Rattle.sqlite_sql.specs.Term.{Term, Env, eval, eval_all, holds}
use Rattle.sqlite_keyed.specs.Keyed.{IsKeyedBy, get_by, has_key}
use Rattle.sqlite_keyed.specs.Lists.{sort_by}
use Rattle.sqlite_keyed.specs.Rules.{AreApart}
use Rattle.sqlite_keyed.proofs.ListLemmas.{map-map, map_same, ascending-map, ascending_weaker}
use Rattle.sqlite_keyed.proofs.SortLemmas.{sort_by-map}
use Rattle.sqlite_keyed.proofs.RuleLemmas.{at_most_one}
use Rattle.sqlite_typed.proofs.AnswerLemmas.{last_table, next_table, at_end}
use Rattle.sqlite_schema.specs.declared.schema.Schema.{Schema}
use Rattle.sqlite_schema.specs.declared.command.Command.TheVariants.{Select}
use Rattle.sqlite.specs.Effect.{Database, Reads}
use Rattle.sqlite.specs.Listing.{understood, reads_listing, IsSourceOf}
use Rattle.sqlite.proofs.Callers.{IsPlain, command_of}
use Rattle.lab_store_tables.specs.Rows.{LabRow, PersonRow, FormRow, FieldRow, ChoiceRow, RecordRow, VersionRow, EntryRow, SignatureRow, TrailRow, lab_id, person_id, session_id, form_id, field_id, choice_id, record_id, version_id, entry_id, signature_id, trail_id, Tables, number, flag, optional}
use Rattle.lab_store_tables.proofs.FamilyWords.{tree_of}
use Rattle.lab_store_tables.proofs.RowWords.{lab_row, session_row, field_row, choice_row, record_row, trail_row, no_person}
use Rattle.lab_store_tables.specs.Meaning.{has_code, by_form, code_of}
use Rattle.lab_store_tables.specs.WellKept.{same_lab}
use Rattle.lab_store_tables.specs.Family.{Name, rows as rows_of, Labs, Persons, Sessions, Forms, Fields, Choices, Records, Versions, Entries, Signatures, Trail}
use Rattle.lab_store_read.proofs.Texts.{children_query}
use Rattle.lab_store_read.proofs.Sorted.{and_true, by_one, only_answer, sorted_answer, own_rows}
use Rattle.lab_store_read.proofs.Lists.{alone_text, at_id, untied_in, untied_texts, joined}
use Rattle.lab_store_tables.specs.Held.{AreRising}
use Rattle.lab_store_tables.specs.ByRules.{IsByRules}
use Rattle.lab_move_tables.specs.declared.older.Older.{Older}
use Rattle.lab_move_tables.specs.declared.older.Older.TheVariants.{Two}
use Rattle.lab_move_tables.specs.OldRows.{old_tables, reason_in}
use Rattle.lab_move_tables.proofs.OldRowWords.{old_person_row, old_form_row, version_by, entry_by, signature_by, old_row}
use Rattle.lab_move_tables.specs.Owned.{own_versions, own_entries, own_signatures, lab_of}
use Rattle.lab_move_tables.specs.Questions.{codes_text, lab_text, person_text, owner_text, session_text, form_text, field_text, choice_text, filed_text, version_text, entry_text, entry_place_text, signature_text, signature_place_text, told_text}
use Rattle.lab_move_tables.specs.Showing.{said, said_at, ShowsOf, Shows, ShowsSaid}
use Rattle.lab_move_tables.specs.Shown.{by_lab, code_shown, codes_shown, labs_shown, person_shown, persons_shown, owners_shown, sessions_shown, form_shown, forms_shown, field_shown, fields_shown, choice_shown, choices_shown, record_shown, records_shown, version_last, version_shown, versions_shown, entry_shown, entries_shown, entry_place_shown, entry_places_shown, signature_shown, signatures_shown, signature_place_shown, signature_places_shown, told_shown, trail_shown}
use Rattle.lab_move_tables.proofs.OldKeys.{labs_apart, persons_apart, sessions_apart, forms_apart, fields_apart, choices_apart, records_apart, versions_apart, entries_apart, signatures_apart, told_apart, workers, openers, writers, signers, untied_forms, by_text, by_text_number}
use Rattle.lab_move_tables.proofs.OldTexts.{MeansIn, CodesMeans, LabMeans, PersonMeans, OwnerMeans, SessionMeans, FormMeans, FieldMeans, ChoiceMeans, FiledMeans, VersionMeans, EntryMeans, EntryPlaceMeans, SignatureMeans, SignaturePlaceMeans, ToldMeans, is_given, child_tests, codes_columns, lab_query, person_columns, owner_query, session_columns, form_columns, form_query, field_columns, choice_columns, filed_columns, version_columns, opener_at, entry_columns, place_columns, signature_columns, told_columns}
use Rattle.lab_move_tables.proofs.OldOnes.{IsOldVersion, IsOldEntry, IsOldSignature, all_same, old_versions, old_entries, old_signatures}
use Rattle.lab_store_tables.proofs.Comparing.{equal_ints, equal_texts}

-- ---- what is known of such a file

-- what is written of a reason says it
abbrev pub Writes : (Option (List ℕ) → Value) → Type 0
Writes write = (reason : Option (List ℕ)) → reason_in (optional Text reason) ≡ reason → said (write reason) ≡ optional Text reason

-- what is given is the first parameter, where that is an id
abbrev pub Gives : Term → Type 0
Gives given = (id : ℤ) (others : Env) → eval given ((Int id ∷ []) ∷ others) ≡ Int id

-- a file of a schema whose rows are those of an older one, however a reason is written
pub record IsWrittenIn (older : Older) (schema : Schema) (write : Option (List ℕ) → Value) (db : Database) : Type 0 where
  pub has : db.schema ≡ schema
  pub rising : AreRising (old_tables older db.trees)
  pub rules : IsByRules (old_tables older db.trees)
  pub stored : (k : Name) → db.trees (tree_of k) ≡ map (old_row older write k) (rows_of k (old_tables older db.trees))

-- what is shown answers the query that the text means
pub answered : {schema : Schema} {sql : List ℕ} {query : Query} {names : List (List ℕ)} → MeansIn schema sql query names → (db : Database) → db.schema ≡ schema
    → (params : Row) (rows : List Row) → ShowsOf db sql params rows → IsAnswer query (overlay db.trees []) params rows
answered {schema} {sql} {query} {names} means db has params rows h =
    let known = sym h.is ∙ ap (λ s. understood s sql) has in
    let bare = subst IsPlain (sym known) means.plain in
    let it = rw (bare.1, append-nil params) at h.shown in
    let from : h.source ≡ db = subst (λ b. IsSourceOf b db h.source) (ap (λ s. reads_listing s sql) has ∙ means.unlisted) h.from in
    let read : Reads (Select (record { lets = []; body = query }) names) db params rows = subst₂ (λ k d. Reads k d params rows) (ap command_of known ∙ means.command) from it in
    read.answer Null

-- an id that equals what is given
equal_given : (given : Term) → Gives given → (a id : ℤ) (others : Env) → is_true (binary (Compare Eq Binary) (Int a) (eval given ((Int id ∷ []) ∷ others))) ≡ int_eq a id
equal_given given gives a id others = ap (λ v. is_true (binary (Compare Eq Binary) (Int a) v)) (gives id others) ∙ equal_ints a id

-- all pass where nothing is tested
all_pass : {X : Type 0} (xs : List X) → filter (λ x. true) xs ≡ xs
all_pass [] = refl
all_pass (x ∷ xs) = ap (λ l. x ∷ l) (all_pass xs)

-- no two of them have one code
untied_labs : (xs : List LabRow) → AreApart same_lab xs → IsAscending (λ a b. is_eq (by_lab a b) ≡ false) xs
untied_labs xs apart = ascending_weaker (λ a b. same_lab a b ≡ false) (λ a b. is_eq (by_lab a b) ≡ false) (λ a b h. is_eq-slice_cmp a.code b.code ∙ h) xs apart

-- ---- the rows of one parent, each with the person that an arrow leads to

person_or_none : (o : Option PersonRow) → ((unwrap_or o no_person).code ≡ unwrap_or (option_map (λ (p : PersonRow). p.code) o) [])
    × ((unwrap_or o no_person).lab ≡ unwrap_or (option_map (λ (p : PersonRow). p.lab) o) (pos 0))
person_or_none None = (refl, refl)
person_or_none (Some p) = (refl, refl)

module _ {X : Type 0} (older : Older) (db : Trees) (persons : List PersonRow) (tree : ℕ) (encode : X → Row) (key : X → ℤ) (xs : List X) (stored : db tree ≡ map encode xs)
    (rise : IsKeyedBy key xs) (persons_stored : db 3 ≡ map (old_person_row older) persons) (persons_rise : IsKeyedBy person_id persons)
    (parent : X → ℤ) (num : X → ℕ) (ref : X → ℤ) (apart : AreApart (λ a b. int_eq (parent a) (parent b) && (num a == num b)) xs)
    (have : AllByRecursion (λ x. has_key person_id persons (ref x) ≡ true) xs) where
  children : (tests shown : List Term) (at : ℕ) (v : ℤ) (params : Row) (show : X → List ℕ → ℤ → Row)
      → ((x : X) (p : PersonRow) → list_all (holds (params ∷ encode x ∷ old_person_row older p ∷ [])) tests ≡ (int_eq (parent x) v && int_eq p.id (ref x)))
      → ((x : X) (p : PersonRow) → eval_all shown (params ∷ encode x ∷ old_person_row older p ∷ []) ≡ show x p.code p.lab)
      → ((x : X) → column (encode x) at ≡ Int (pos (num x)))
      → (rows : List Row) → IsAnswer (children_query tree tests shown at) db params rows
      → rows ≡ map (λ x. show x (unwrap_or (option_map (λ (p : PersonRow). p.code) (get_by person_id persons (ref x))) [])
      (unwrap_or (option_map (λ (p : PersonRow). p.lab) (get_by person_id persons (ref x))) (pos 0))) (sort_by (λ a b. nat_cmp (num a) (num b)) (filter (λ x. int_eq (parent x) v) xs))
  children tests shown at v params show passes shows numbered rows answer =
      let q = children_query tree tests shown at in
      let source = next_table db tree encode key xs stored rise (last_table db 3 (old_person_row older) person_id persons persons_stored persons_rise (at_end db)) in
      let mine = λ (x : X). int_eq (parent x) v in
      let lead = λ (x : X). let both : X × PersonRow = (x, at_id person_id no_person persons (ref x)) in both in
      let order = λ (a b : X × PersonRow). nat_cmp (num a.0) (num b.0) in
      let found = joined person_id no_person mine ref persons persons_rise xs have in
      let by : (a b : X × PersonRow) → output_cmp q (output q (params ∷ encode a.0 ∷ old_person_row older a.1 ∷ [])) (output q (params ∷ encode b.0 ∷ old_person_row older b.1 ∷ [])) ≡ order a b =
      λ a b. rw (numbered a.0, numbered b.0) (by_one (num a.0) (num b.0)) in
      let untied = ascending-map (λ a b. is_eq (order a b) ≡ false) lead (filter mine xs) (untied_in parent num v xs apart) in
      let given = sorted_answer q db params source (λ a. mine a.0 && int_eq a.1.id (ref a.0)) (λ a. passes a.0 a.1) refl refl order by (subst (IsAscending (λ a b. is_eq (order a b) ≡ false)) (sym found) untied) rows answer in
      let each = λ (a : X × PersonRow). eval_all shown (params ∷ encode a.0 ∷ old_person_row older a.1 ∷ []) in
      given ∙ ap (λ l. map each (sort_by order l)) found ∙ ap (map each) (sort_by-map order lead (filter mine xs)) ∙ map-map each lead _
      ∙ map_same _ _ (λ x.
      let who = person_or_none (get_by person_id persons (ref x)) in
      shows x (at_id person_id no_person persons (ref x)) ∙ (λ i. show x (who.0 i) (who.1 i))) _

-- ---- what the schemas show in their own ways

persons_as : (older : Older) (params : Row) (x : PersonRow) → eval_all (person_columns older) (params ∷ old_person_row older x ∷ []) ≡ person_shown older x
persons_as Two params x = refl

forms_as : (older : Older) (params : Row) (x : FormRow) → eval_all (form_columns older) (params ∷ old_form_row older x ∷ []) ≡ form_shown older x
forms_as Two params x = refl

abbrev version_as : Older → (Option (List ℕ) → Value) → VersionRow → List ℕ → ℤ → Row
version_as older write x code lab = Int x.id ∷ number x.number ∷ Text code ∷ number x.opened ∷ write x.reason ∷ Int lab ∷ version_last older x

versions_as : (older : Older) (write : Option (List ℕ) → Value) (params : Row) (x : VersionRow) (p : PersonRow)
    → eval_all (version_columns older) (params ∷ version_by older write x ∷ old_person_row older p ∷ []) ≡ version_as older write x p.code p.lab
versions_as Two write params x p = refl

opener_in : (older : Older) (write : Option (List ℕ) → Value) (x : VersionRow) → column (version_by older write x) (opener_at older) ≡ Int x.opener
opener_in Two write x = refl

reason_is : (older : Older) (x : VersionRow) → IsOldVersion older x → reason_in (optional Text x.reason) ≡ x.reason
reason_is Two x old = old.reason

-- ---- what each question shows

module _ {older : Older} {schema : Schema} {write : Option (List ℕ) → Value} (db : Database) (file : IsWrittenIn older schema write db) (given : Term) (gives : Gives given) where
  abbrev pub trees : Trees
  trees = overlay db.trees []

  abbrev pub t : Tables
  t = old_tables older db.trees

  pub lab_read : LabMeans schema → (code : List ℕ) → Shows db lab_text (Text code ∷ []) (labs_shown t code)
  lab_read means code rows h =
      let params = Text code ∷ [] in
      let answer = answered means db file.has params rows h in
      only_answer lab_query trees params (last_table trees 1 lab_row lab_id t.labs (file.stored Labs) (file.rising.at Labs) (at_end trees)) (has_code code) (λ x. and_true _ ∙ equal_texts x.code code) refl refl
      (alone_text (λ (x : LabRow). x.code) code t.labs (labs_apart t file.rules)) rows answer

  pub codes_read : CodesMeans schema → Shows db codes_text [] (codes_shown t)
  codes_read means rows h =
      let answer = answered means db file.has [] rows h in
      let all = all_pass t.labs in
      own_rows trees 1 lab_row lab_id t.labs (file.stored Labs) (file.rising.at Labs) (λ x. true) by_lab
      (subst (IsAscending (λ a b. is_eq (by_lab a b) ≡ false)) (sym all) (untied_labs t.labs (labs_apart t file.rules)))
      [] codes_columns 2 [] code_shown (λ x. Text x.code)
      (λ x. refl) (λ x. refl) (λ x. refl) (λ a b. by_text a.code b.code) rows answer
      ∙ ap (λ l. map code_shown (sort_by by_lab l)) all

  pub owner_read : OwnerMeans schema → (id : ℤ) → Shows db owner_text (Int id ∷ []) (owners_shown t id)
  owner_read means id rows h =
      let params = Int id ∷ [] in
      let mine = λ (x : PersonRow). int_eq x.id id in
      let answer = answered means db file.has params rows h in
      only_answer owner_query trees params (last_table trees 3 (old_person_row older) person_id t.persons (file.stored Persons) (file.rising.at Persons) (at_end trees)) mine
      (λ x. and_true _ ∙ equal_ints x.id id) refl refl (at_most_one person_id id mine (λ x e. e) t.persons (file.rising.at Persons)) rows answer

  pub person_read : PersonMeans older schema given → (lab : ℤ) → Shows db (person_text older) (Int lab ∷ []) (persons_shown older t lab)
  person_read means lab rows h =
      let params = Int lab ∷ [] in
      let answer = answered means db file.has params rows h in
      own_rows trees 3 (old_person_row older) person_id t.persons (file.stored Persons) (file.rising.at Persons) (λ x. int_eq x.lab lab) (λ one other. slice_cmp nat_cmp one.code other.code)
      (untied_texts (λ (x : PersonRow). x.lab) (λ (x : PersonRow). x.code) lab t.persons (persons_apart t file.rules))
      (is_given given 2 ∷ []) (person_columns older) 3 params (person_shown older) (λ x. Text x.code)
      (λ x. and_true _ ∙ equal_given given gives x.lab lab _) (persons_as older params) (λ x. refl) (λ a b. by_text a.code b.code) rows answer

  pub session_read : SessionMeans schema given → (parent : ℤ) → Shows db session_text (Int parent ∷ []) (sessions_shown t parent)
  session_read means parent rows h =
      let params = Int parent ∷ [] in
      let answer = answered means db file.has params rows h in
      children older trees t.persons 5 session_row session_id t.sessions (file.stored Sessions) (file.rising.at Sessions) (file.stored Persons) (file.rising.at Persons) (λ x. x.lab) (λ x. x.number) (λ x. x.person)
      (sessions_apart t file.rules) (workers t file.rules) (child_tests given 3) session_columns 4 parent params
      (λ x code lab. number x.number ∷ Text code ∷ Blob x.token ∷ number x.opened ∷ number x.last ∷ flag x.closed ∷ flag x.signed ∷ Int lab ∷ [])
      (λ x p. ap₂ ◌&&◌ (equal_given given gives x.lab parent _) (and_true _ ∙ equal_ints p.id x.person)) (λ x p. refl) (λ x. refl) rows answer

  pub form_read : FormMeans older schema given → (lab : ℤ) → Shows db (form_text older) (Int lab ∷ []) (forms_shown older t lab)
  form_read means lab rows h =
      let params = Int lab ∷ [] in
      let mine = λ (x : FormRow). int_eq x.lab lab in
      let answer = answered means db file.has params rows h in
      sorted_answer (form_query older given) trees params (last_table trees 8 (old_form_row older) form_id t.forms (file.stored Forms) (file.rising.at Forms) (at_end trees)) mine
      (λ x. and_true _ ∙ equal_given given gives x.lab lab _) refl refl by_form (λ a b. by_text_number a.code b.code a.version b.version)
      (untied_forms (λ (x : FormRow). x.lab) (λ (x : FormRow). x.code) (λ (x : FormRow). x.version) lab t.forms (forms_apart t file.rules)) rows answer
      ∙ map_same _ _ (forms_as older params) _

  pub field_read : FieldMeans schema given → (parent : ℤ) → Shows db field_text (Int parent ∷ []) (fields_shown t parent)
  field_read means parent rows h =
      let params = Int parent ∷ [] in
      let answer = answered means db file.has params rows h in
      own_rows trees 10 field_row field_id t.fields (file.stored Fields) (file.rising.at Fields) (λ x. int_eq x.form parent) (λ one other. nat_cmp one.place other.place)
      (untied_in (λ (x : FieldRow). x.form) (λ (x : FieldRow). x.place) parent t.fields (fields_apart t file.rules))
      (is_given given 2 ∷ []) field_columns 3 params field_shown (λ x. Int (pos x.place))
      (λ x. and_true _ ∙ equal_given given gives x.form parent _) (λ x. refl) (λ x. refl) (λ a b. by_one a.place b.place) rows answer

  pub choice_read : ChoiceMeans schema given → (parent : ℤ) → Shows db choice_text (Int parent ∷ []) (choices_shown t parent)
  choice_read means parent rows h =
      let params = Int parent ∷ [] in
      let answer = answered means db file.has params rows h in
      own_rows trees 13 choice_row choice_id t.choices (file.stored Choices) (file.rising.at Choices) (λ x. int_eq x.field parent) (λ one other. nat_cmp one.place other.place)
      (untied_in (λ (x : ChoiceRow). x.field) (λ (x : ChoiceRow). x.place) parent t.choices (choices_apart t file.rules))
      (is_given given 2 ∷ []) choice_columns 3 params choice_shown (λ x. Int (pos x.place))
      (λ x. and_true _ ∙ equal_given given gives x.field parent _) (λ x. refl) (λ x. refl) (λ a b. by_one a.place b.place) rows answer

  pub filed_read : FiledMeans schema given → (parent : ℤ) → Shows db filed_text (Int parent ∷ []) (records_shown t parent)
  filed_read means parent rows h =
      let params = Int parent ∷ [] in
      let answer = answered means db file.has params rows h in
      own_rows trees 15 record_row record_id t.records (file.stored Records) (file.rising.at Records) (λ x. int_eq x.lab parent) (λ one other. nat_cmp one.number other.number)
      (untied_in (λ (x : RecordRow). x.lab) (λ (x : RecordRow). x.number) parent t.records (records_apart t file.rules))
      (is_given given 2 ∷ []) filed_columns 3 params record_shown (λ x. Int (pos x.number))
      (λ x. and_true _ ∙ equal_given given gives x.lab parent _) (λ x. refl) (λ x. refl) (λ a b. by_one a.number b.number) rows answer

  pub version_read : VersionMeans older schema given → (parent : ℤ) → Writes write → ShowsSaid db (version_text older) (Int parent ∷ []) 4 (versions_shown older t parent)
  version_read means parent writes rows h =
      let params = Int parent ∷ [] in
      let answer = answered means db file.has params rows h in
      let own = own_versions t parent in
      let given = children older trees t.persons 18 (version_by older write) version_id t.versions (file.stored Versions) (file.rising.at Versions) (file.stored Persons) (file.rising.at Persons) (λ x. x.kept) (λ x. x.number) (λ x. x.opener)
      (versions_apart t file.rules) (openers t file.rules) (child_tests given (opener_at older)) (version_columns older) 3 parent params (version_as older write)
      (λ x p. ap₂ ◌&&◌ (equal_given given gives x.kept parent _) (and_true _ ∙ ap (λ v. is_true (binary (Compare Eq Binary) (Int p.id) v)) (opener_in older write x) ∙ equal_ints p.id x.opener))
      (versions_as older write params) (λ x. refl) rows answer in
      ap (map (said_at 4)) given ∙ map-map (said_at 4) (λ x. version_as older write x (code_of t x.opener) (lab_of t x.opener)) own
      ∙ all_same (IsOldVersion older) (λ x. said_at 4 (version_as older write x (code_of t x.opener) (lab_of t x.opener))) (version_shown older t)
      (λ x old. ap (λ it. Int x.id ∷ number x.number ∷ Text (code_of t x.opener) ∷ number x.opened ∷ it ∷ Int (lab_of t x.opener) ∷ version_last older x) (writes x.reason (reason_is older x old))) own (old_versions older t (db.trees, refl) parent)

  pub entry_read : EntryMeans schema given → (parent : ℤ) → Writes write → ShowsSaid db entry_text (Int parent ∷ []) 5 (entries_shown t parent)
  entry_read means parent writes rows h =
      let params = Int parent ∷ [] in
      let answer = answered means db file.has params rows h in
      let own = own_entries t parent in
      let show = λ (x : EntryRow) (code : List ℕ) (lab : ℤ). let row : Row = Text x.key ∷ Text x.value ∷ Text x.unit ∷ Text code ∷ number x.moment ∷ write x.reason ∷ number x.place ∷ Int lab ∷ [] in row in
      let given = children older trees t.persons 20 (entry_by write) entry_id t.entries (file.stored Entries) (file.rising.at Entries) (file.stored Persons) (file.rising.at Persons) (λ x. x.version) (λ x. x.place) (λ x. x.person)
      (entries_apart t file.rules) (writers t file.rules) (child_tests given 7) entry_columns 3 parent params show
      (λ x p. ap₂ ◌&&◌ (equal_given given gives x.version parent _) (and_true _ ∙ equal_ints p.id x.person)) (λ x p. refl) (λ x. refl) rows answer in
      ap (map (said_at 5)) given ∙ map-map (said_at 5) (λ x. show x (code_of t x.person) (lab_of t x.person)) own
      ∙ all_same IsOldEntry (λ x. said_at 5 (show x (code_of t x.person) (lab_of t x.person))) (entry_shown t)
      (λ x old. ap (λ it. Text x.key ∷ Text x.value ∷ Text x.unit ∷ Text (code_of t x.person) ∷ number x.moment ∷ it ∷ number x.place ∷ Int (lab_of t x.person) ∷ []) (writes x.reason old)) own (old_entries older t (db.trees, refl) parent)

  pub signature_read : SignatureMeans schema given → (parent : ℤ) → Writes write → ShowsSaid db signature_text (Int parent ∷ []) 3 (signatures_shown t parent)
  signature_read means parent writes rows h =
      let params = Int parent ∷ [] in
      let answer = answered means db file.has params rows h in
      let own = own_signatures t parent in
      let show = λ (x : SignatureRow) (code : List ℕ) (lab : ℤ). let row : Row = Text code ∷ Text x.name ∷ Text x.meaning ∷ write x.reason ∷ number x.moment ∷ Blob x.digest ∷ Blob x.seal ∷ number x.place ∷ Int lab ∷ [] in row in
      let given = children older trees t.persons 22 (signature_by write) signature_id t.signatures (file.stored Signatures) (file.rising.at Signatures) (file.stored Persons) (file.rising.at Persons) (λ x. x.version) (λ x. x.place) (λ x. x.person)
      (signatures_apart t file.rules) (signers t file.rules) (child_tests given 4) signature_columns 3 parent params show
      (λ x p. ap₂ ◌&&◌ (equal_given given gives x.version parent _) (and_true _ ∙ equal_ints p.id x.person)) (λ x p. refl) (λ x. refl) rows answer in
      ap (map (said_at 3)) given ∙ map-map (said_at 3) (λ x. show x (code_of t x.person) (lab_of t x.person)) own
      ∙ all_same IsOldSignature (λ x. said_at 3 (show x (code_of t x.person) (lab_of t x.person))) (signature_shown t)
      (λ x old. ap (λ it. Text (code_of t x.person) ∷ Text x.name ∷ Text x.meaning ∷ it ∷ number x.moment ∷ Blob x.digest ∷ Blob x.seal ∷ number x.place ∷ Int (lab_of t x.person) ∷ []) (writes x.reason old)) own (old_signatures older t (db.trees, refl) parent)

  pub entry_places_read : EntryPlaceMeans schema given → (parent : ℤ) → Shows db entry_place_text (Int parent ∷ []) (entry_places_shown t parent)
  entry_places_read means parent rows h =
      let params = Int parent ∷ [] in
      let answer = answered means db file.has params rows h in
      own_rows trees 20 (entry_by write) entry_id t.entries (file.stored Entries) (file.rising.at Entries) (λ x. int_eq x.version parent) (λ one other. nat_cmp one.place other.place)
      (untied_in (λ (x : EntryRow). x.version) (λ (x : EntryRow). x.place) parent t.entries (entries_apart t file.rules))
      (is_given given 2 ∷ []) place_columns 3 params entry_place_shown (λ x. Int (pos x.place))
      (λ x. and_true _ ∙ equal_given given gives x.version parent _) (λ x. refl) (λ x. refl) (λ a b. by_one a.place b.place) rows answer

  pub signature_places_read : SignaturePlaceMeans schema given → (parent : ℤ) → Shows db signature_place_text (Int parent ∷ []) (signature_places_shown t parent)
  signature_places_read means parent rows h =
      let params = Int parent ∷ [] in
      let answer = answered means db file.has params rows h in
      own_rows trees 22 (signature_by write) signature_id t.signatures (file.stored Signatures) (file.rising.at Signatures) (λ x. int_eq x.version parent) (λ one other. nat_cmp one.place other.place)
      (untied_in (λ (x : SignatureRow). x.version) (λ (x : SignatureRow). x.place) parent t.signatures (signatures_apart t file.rules))
      (is_given given 2 ∷ []) place_columns 3 params signature_place_shown (λ x. Int (pos x.place))
      (λ x. and_true _ ∙ equal_given given gives x.version parent _) (λ x. refl) (λ x. refl) (λ a b. by_one a.place b.place) rows answer

  pub told_read : ToldMeans schema given → (parent : ℤ) → Shows db told_text (Int parent ∷ []) (trail_shown t parent)
  told_read means parent rows h =
      let params = Int parent ∷ [] in
      let answer = answered means db file.has params rows h in
      own_rows trees 25 trail_row trail_id t.trail (file.stored Trail) (file.rising.at Trail) (λ x. int_eq x.lab parent) (λ one other. nat_cmp one.number other.number)
      (untied_in (λ (x : TrailRow). x.lab) (λ (x : TrailRow). x.number) parent t.trail (told_apart t file.rules))
      (is_given given 2 ∷ []) told_columns 3 params told_shown (λ x. Int (pos x.number))
      (λ x. and_true _ ∙ equal_given given gives x.lab parent _) (λ x. refl) (λ x. refl) (λ a b. by_one a.number b.number) rows answer
