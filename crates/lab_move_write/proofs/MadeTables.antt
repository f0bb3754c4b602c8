-- What each statement makes of a file that is to be filled.
use Rattle.std.proofs.Common.{◌≡◌, ◌⊎◌, inl, inr, ℕ, zero, suc, ◌+◌, ◌<◌, List, [], ◌∷◌, ◌++◌, map, take, length, get_or, false, None, Ok, Err, Result, IfErr, OnOk, IsTrue, refl, sym, ap, subst, ◌∙◌, append-nil, append_assoc, arith}
use Rattle.std.specs.Prelude.{IsErrAnd}
use Rattle.std.specs.List.{AllByRecursion}
use Rattle.std.proofs.lemmas.List.{length-map, get_or-map, get_or_append_left, take_all}
use Rattle.std.proofs.lemmas.List.Sums.{fold_more}
use Rattle.std.proofs.lemmas.Result.{IfErr-weaker, on_ok_weaker}
use Rattle.sqlite_trees.specs.Tree.{Trees}
use Rattle.sqlite_schema.specs.declared.schema.Schema.{Schema}
use Rattle.sqlite_schema.specs.declared.schema.Table.{Table}
use Rattle.sqlite_schema.specs.declared.schema.Index.{Index}
use Rattle.sqlite_schema.specs.declared.command.Command.TheVariants.{CreateTable, CreateIndex}
use Rattle.sqlite_keyed.proofs.ListLemmas.{all_both}
use Rattle.sqlite_catalog.specs.Change.{created, indexed, next_tree, KeepsRows}
use Rattle.sqlite.specs.declared.error.Error.{Error}
use Rattle.sqlite.specs.Effect.{Database}
use Rattle.sqlite.specs.Does.{Tally, Does, lacks_sequence}
use Rattle.sqlite.specs.State.{State, HasCleanDisk, mode_of, Survives, Writes, Executes, ExecutesInside}
use Rattle.sqlite.proofs.Callers.{runs_as}
use Rattle.lab_store_tables.specs.Family.{empty_tables}
use Rattle.lab_store_tables.specs.Schema.{sessions, sessions_of_person, lab_schema}
use Rattle.lab_store_tables.proofs.SchemaWords.{sessions_of_person_text}
use Rattle.lab_store_tables.specs.Rows.{Tables}
use Rattle.lab_store_tables.specs.Meaning.{meaning}
use Rattle.lab_store_tables.specs.WellKept.{AreWellKept}
use Rattle.lab_store_tables.proofs.Tables.{held_if_stored, none_stored, none_rising}
use Rattle.lab_store_files.specs.NewFiles.{no_schema, IsEmptyUnder, IsBlank}
use Rattle.lab_store_write.specs.Calls.{Stays}
use Rattle.lab_store_write.proofs.Failing.{unmoved}
use Rattle.lab_store_write.proofs.Inside.{none_then}
use Rattle.lab_store_write.proofs.Writers.{stays_then}
use Rattle.lab_move_write.specs.Causes.{making_texts}
use Rattle.lab_move_write.specs.Private.Causes.{FailsMaking}
use Rattle.lab_move_write.specs.Tables.{own_tables, schema_of}
use Rattle.lab_move_write.specs.Unfinished.{IsUnfinished, Begins}
use Rattle.lab_move_write.specs.Private.Unfinished.{Makes}
use Rattle.lab_move_write.proofs.Statements.{MakesTable, AreMadeFrom, all_made, index_makes, index_text, index_plain, index_is, whole_is}

-- a part that gave a value did not stop on the way
went : {B E R : Type 0} {b : B} {Stops : E → Type 0} → ((stop : E) × Stops stop × (Ok b ≡ Err stop)) ⊎ R → R
went (inl stopped) = absurd (let e = stopped.2 in cc)
went (inr on) = on

same_value : {B E : Type 0} {a b : B} → ◌≡◌ {A = Result B E} (Ok a) (Ok b) → a ≡ b
same_value e = cc

all_with : {X : Type 0} (P : X → Type 0) (xs : List X) (x : X) → AllByRecursion P xs → P x → AllByRecursion P (xs ++ x ∷ [])
all_with P [] x h p = (p, tt)
all_with P (y ∷ ys) x h p = (h.0, all_with P ys x h.1 p)

-- tables that had no row and kept their rows have none
still_empty : (before after : Trees) (tables : List Table) → KeepsRows tables before after → AllByRecursion (λ (t : Table). before t.tree ≡ []) tables
    → AllByRecursion (λ (t : Table). after t.tree ≡ []) tables
still_empty before after tables kept empty =
    all_both (λ (t : Table). after t.tree ≡ before t.tree) (λ (t : Table). before t.tree ≡ []) (λ (t : Table). after t.tree ≡ []) (λ t same none. same ∙ none) tables kept empty

-- ---- a table

module _ (before : List (Table × List ℕ)) (one : Table × List ℕ) (it : MakesTable (schema_of before) one) where
  table_made : (old new : State) (count : ℕ) → IsEmptyUnder (schema_of before) old.now → Executes one.1 [] old new (Ok count)
      → IsEmptyUnder (created (schema_of before) one.0) new.now
  table_made old new count was h =
      let schema = schema_of before in
      let w = subst (λ t. Writes old new None CreateTable t [] count) it.text (runs_as one.1 [] old new schema was.schema_is CreateTable it.command it.plain count h) in
      let all = went w.changed in
      let first = went all.1 in
      let made = first.1 in
      let plain_table : Table = record one.0 { tree = 0 } in
      let same : made.table ≡ plain_table = same_value (sym made.defined ∙ it.defined) in
      let schema_new : first.0.schema ≡ created schema one.0 = made.is ∙ ap (λ s. created s made.table) was.schema_is ∙ ap (created schema) same in
      let uncounted : lacks_sequence first.0.schema ≡ false = ap lacks_sequence schema_new ∙ it.uncounted in
      let now : new.now ≡ first.0 = ap (λ (p : Tally × Database). p.1) (same_value all.2) ∙ same_value (rw uncounted at first.2) in
      let kept = subst (λ (s : Schema). KeepsRows s.tables old.now.trees first.0.trees) was.schema_is made.others in
      let none : first.0.trees (next_tree schema) ≡ [] = subst (λ (s : Schema). first.0.trees (next_tree s) ≡ []) was.schema_is made.empty in
      let new_table : Table = record one.0 { tree = next_tree schema } in
      let empty = all_with (λ (t : Table). first.0.trees t.tree ≡ []) schema.tables new_table (still_empty old.now.trees first.0.trees schema.tables kept was.empty) none in
      subst (IsEmptyUnder (created schema one.0)) (sym now) (record { schema_is = schema_new; empty = empty })

  table_done : (old new : State) (r : Result ℕ Error) → ExecutesInside 0 one.1 [] old new r → IsEmptyUnder (schema_of before) old.now
      → OnOk r (IsEmptyUnder (created (schema_of before) one.0) new.now)
  table_done old new (Ok count) h was = table_made old new count was h.0
  table_done old new (Err e) h was = tt

-- the table at a place, behind those before it
made_at : (before ones : List (Table × List ℕ)) → AreMadeFrom before ones → (i : ℕ) (d : Table × List ℕ) → i < length ones
    → MakesTable (schema_of (before ++ take i ones)) (get_or ones i d)
made_at before [] are i d within = absurd (omega arith)
made_at before (one ∷ others) are zero d within = subst (λ l. MakesTable (schema_of l) one) (sym (append-nil before)) are.0
made_at before (one ∷ others) are (suc i) d within =
    subst (λ l. MakesTable (schema_of l) (get_or others i d)) (append_assoc before (one ∷ []) (take i others))
    (made_at (before ++ one ∷ []) others are.1 i d (omega arith))

with_is : (i : ℕ) (d : Table × List ℕ) → i < length own_tables → created (schema_of (take i own_tables)) (get_or own_tables i d).0 ≡ schema_of (take (i + 1) own_tables)
with_is i d within = sym (fold_more (λ schema one. created schema one.0) no_schema own_tables i d within)

-- ---- the index

index_made : (old new : State) (count : ℕ) → IsEmptyUnder (schema_of own_tables) old.now → Executes sessions_of_person_text [] old new (Ok count) → IsEmptyUnder lab_schema new.now
index_made old new count was h =
    let schema = schema_of own_tables in
    let text = sessions_of_person_text in
    let w = subst (λ t. Writes old new None (CreateIndex 3) t [] count) index_text (runs_as text [] old new schema was.schema_is (CreateIndex 3) index_makes index_plain count h) in
    let all = went (subst (λ s. Does old.step_limit (mode_of old) [] (record old.now { schema = s }) text None (CreateIndex 3) (Ok (w.tally, new.now))) was.schema_is w.changed) in
    let made = all.1 in
    let bare : Index = record sessions_of_person { tree = 0 } in
    let same : made.index ≡ bare = same_value (sym made.defined ∙ index_is) in
    let schema_new : all.0.schema ≡ lab_schema = made.is ∙ ap (indexed schema sessions) same ∙ whole_is in
    let now : new.now ≡ all.0 = ap (λ (p : Tally × Database). p.1) (same_value all.2) in
    subst (IsEmptyUnder lab_schema) (sym now) (record { schema_is = schema_new; empty = still_empty old.now.trees all.0.trees lab_schema.tables made.rows was.empty })

pub index_done : (old new : State) (r : Result ℕ Error) → ExecutesInside 0 sessions_of_person_text [] old new r → IsEmptyUnder (schema_of own_tables) old.now → OnOk r (IsEmptyUnder lab_schema new.now)
index_done old new (Ok count) h was = index_made old new count was h.0
index_done old new (Err e) h was = tt

-- ---- tables without rows

pub none_held : (db : Database) → IsEmptyUnder lab_schema db → IsUnfinished db
none_held db was = held_if_stored db empty_tables was.schema_is (none_stored db.trees was.empty) none_rising

-- they are well kept
pub none_are_kept : AreWellKept empty_tables
none_are_kept = record {
  ids = refl;
  keys = refl;
  arrows = refl;
  labs_apart = refl;
  numbered = refl;
  alike = refl;
  columns = refl;
  persons = tt;
  fields = tt;
  signatures = tt;
  trail = tt;
}

-- so the file is one that is being filled, without a laboratory
pub begins : (was db : Database) → (IsBlank was → IsUnfinished db) → Begins was db
begins was db made blank =
    let it = made blank in (
      record { typed = it.typed; rows = subst AreWellKept (sym it.tables) none_are_kept; unnamed = ap (λ (t : Tables). t.desk) it.tables },
      λ code. ap (λ (t : Tables). meaning t code) it.tables,
    )

-- ---- the calls

-- the statements are the file's own, each at its place
tables_of_file : length own_tables ≡ 12
tables_of_file = refl

texts_of_file : length making_texts ≡ 13
texts_of_file = refl

table_own : (i : ℕ) (d : Table × List ℕ) → i < length own_tables → get_or making_texts i [] ≡ (get_or own_tables i d).1
table_own i d within =
    let text = λ (one : Table × List ℕ). one.1 in
    let as_many = length-map own_tables text in
    let low : i < length (map text own_tables) = omega (arith, as_many, within) in
    get_or_append_left (map text own_tables) (sessions_of_person_text ∷ []) [] i low ∙ get_or-map text own_tables i d [] within

index_own : get_or making_texts 12 [] ≡ sessions_of_person_text
index_own = refl

inside_stays : (sql : List ℕ) (old new : State) (r : Result ℕ Error) → ExecutesInside 0 sql [] old new r → OnOk r (IsTrue new.in_transaction)
inside_stays sql old new (Ok count) h = h.1.mode
inside_stays sql old new (Err e) h = tt

on_each : {A E P : Type 0} (Q : Type 0) (r : Result A E) → (P → OnOk r Q) → OnOk r (P → Q)
on_each Q (Ok x) f = f
on_each Q (Err e) f = tt

-- behind calls that ended well
making_behind : {T : Type 0} (Was Mid : Database → Type 0) (state : T → State) (a b c : T) (e : Error) → Survives (state a) (state b) (λ _. ⊥) → (Was (state a).now → Mid (state b).now)
    → FailsMaking Mid state b c e → FailsMaking Was state a c e
making_behind Was Mid state a b c e led made (inl memory) = inl memory
making_behind Was Mid state a b c e led made (inr it) = inr (record {
  last = it.last;
  led = none_then (state a) (state b) (state it.last) led it.led;
  inside = it.inside;
  clean = it.clean;
  survives = it.survives;
  at = it.at;
  within = it.within;
  made = λ was. it.made (made was);
  refused = it.refused;
})

module _ {T : Type 0} {lender : T → ℕ × ℕ} {state : T → State} {old new : T} {r : Result ℕ Error} (sql : List ℕ) (stays : Stays lender state old new)
    (ran : IsTrue (state old).in_transaction → HasCleanDisk (state new) → ExecutesInside 0 sql [] (state old) (state new) r) where
  made_by : (Was Is : Database → Type 0) (at : ℕ) → at < length making_texts → get_or making_texts at [] ≡ sql
      → (Was (state old).now → IsEmptyUnder (schema_of (take at own_tables)) (state old).now)
      → (ExecutesInside 0 sql [] (state old) (state new) r → Was (state old).now → OnOk r (Is (state new).now)) → Makes lender state Was Is old new r
  made_by Was Is at within own stood f = record {
    stays = stays;
    inside = λ inside clean. inside_stays sql (state old) (state new) r (ran inside clean);
    made = λ inside clean. on_each (Is (state new).now) r (λ was. f (ran inside clean) was);
    failed = λ inside clean. badly inside clean r (ran inside clean);
  }
    where
      badly : IsTrue (state old).in_transaction → HasCleanDisk (state new) → (r : Result ℕ Error) → ExecutesInside 0 sql [] (state old) (state new) r → IfErr r (FailsMaking Was state old new)
      badly inside clean (Ok count) did = tt
      badly inside clean (Err e) did = inr (record {
        last = old;
        led = unmoved (state old);
        inside = inside;
        clean = (let it = stays.survives in omega (arith, it.clean, clean));
        survives = stays.survives;
        at = at;
        within = within;
        made = stood;
        refused = subst (λ text. ExecutesInside 0 text [] (state old) (state new) (Err e)) (sym own) did;
      })

  -- the table at a place
  pub table_makes : (i : ℕ) (d : Table × List ℕ) → i < length own_tables → sql ≡ (get_or own_tables i d).1
      → Makes lender state (IsEmptyUnder (schema_of (take i own_tables))) (IsEmptyUnder (schema_of (take (i + 1) own_tables))) old new r
  table_makes i d within is =
      made_by (IsEmptyUnder (schema_of (take i own_tables))) (IsEmptyUnder (schema_of (take (i + 1) own_tables)))
      i (omega (arith, within, tables_of_file, texts_of_file)) (table_own i d within ∙ sym is) (λ was. was)
      (λ did was. subst (λ s. OnOk r (IsEmptyUnder s (state new).now)) (with_is i d within)
      (table_done (take i own_tables) (get_or own_tables i d) (made_at [] own_tables all_made i d within) (state old) (state new) r
      (subst (λ text. ExecutesInside 0 text [] (state old) (state new) r) is did) was))

  -- the index
  pub index_makes_all : sql ≡ sessions_of_person_text → Makes lender state (IsEmptyUnder (schema_of own_tables)) IsUnfinished old new r
  index_makes_all is =
      made_by (IsEmptyUnder (schema_of own_tables)) IsUnfinished
      12 (omega (arith, texts_of_file)) (index_own ∙ sym is)
      (λ was. subst (λ tables. IsEmptyUnder (schema_of tables) (state old).now) (sym (take_all 12 own_tables (omega (arith, tables_of_file)))) was)
      (λ did was. on_ok_weaker r (none_held (state new).now) (index_done (state old) (state new) r (subst (λ text. ExecutesInside 0 text [] (state old) (state new) r) is did) was))

-- no call: an empty file has none of the tables
pub none_made_yet : {T A : Type 0} {lender : T → ℕ × ℕ} {state : T → State} {x : A} (a : T) → Stays lender state a a
    → Makes lender state IsBlank (IsEmptyUnder (schema_of [])) a a (Ok x)
none_made_yet a stays = record { stays = stays; inside = λ inside clean. inside; made = λ inside clean was. record { schema_is = was; empty = tt }; failed = λ inside clean. tt }

-- one call and then another
pub makes_then : {T A B : Type 0} {lender : T → ℕ × ℕ} {state : T → State} {Was Mid Is : Database → Type 0} {a b c : T} {x : A} {s : Result B Error}
    → Makes lender state Was Mid a b (Ok x) → Makes lender state Mid Is b c s → Makes lender state Was Is a c s
makes_then {state = state} {Was = Was} {Mid = Mid} {a = a} {b = b} {c = c} {s = s} p q = record {
  stays = stays_then p.stays p.inside q.stays;
  inside = λ inside clean. q.inside (p.inside inside (early clean)) clean;
  made = λ inside clean. on_ok_weaker s (λ more was. more (p.made inside (early clean) was)) (q.made (p.inside inside (early clean)) clean);
  failed = λ inside clean.
      IfErr-weaker s (FailsMaking Mid state b c) (FailsMaking Was state a c) (λ e why. making_behind Was Mid state a b c e p.stays.survives (p.made inside (early clean)) why)
      (q.failed (p.inside inside (early clean)) clean);
}
  where
    early : HasCleanDisk (state c) → HasCleanDisk (state b)
    early clean = let it = q.stays.survives in omega (arith, it.clean)

-- one call more, whose value is not told
pub makes_on : {T A B : Type 0} {lender : T → ℕ × ℕ} {state : T → State} {Was Mid Is : Database → Type 0} {a b c : T} {x : A} {y : B}
    → Makes lender state Was Mid a b (Ok x) → Makes lender state Mid Is b c (Ok y) → Makes lender state Was Is a c (Ok x)
makes_on p q =
    let it = makes_then p q in
    record { stays = it.stays; inside = λ inside clean. it.inside inside clean; made = λ inside clean. it.made inside clean; failed = λ inside clean. tt }

-- one that failed
pub makes_stopped : {T B C : Type 0} {lender : T → ℕ × ℕ} {state : T → State} {Was More Is : Database → Type 0} {a c : T} {e : Error} (r : Result B Error) → IsErrAnd r (λ d. d ≡ e)
    → Makes {A = C} lender state Was More a c (Err e) → Makes lender state Was Is a c r
makes_stopped (Ok value) told q = absurd told
makes_stopped {state = state} {Was = Was} {a = a} {c = c} (Err d) told q = record {
  stays = q.stays;
  inside = λ inside clean. tt;
  made = λ inside clean. tt;
  failed = λ inside clean. subst (FailsMaking Was state a c) (sym told) (q.failed inside clean);
}

pub makes_failed : {T A B C : Type 0} {lender : T → ℕ × ℕ} {state : T → State} {Was Mid More Is : Database → Type 0} {a b c : T} {x : A} {e : Error}
    (r : Result B Error) → IsErrAnd r (λ d. d ≡ e) → Makes lender state Was Mid a b (Ok x) → Makes {A = C} lender state Mid More b c (Err e) → Makes lender state Was Is a c r
makes_failed r told p q = makes_stopped r told (makes_then p q)

-- ---- the statements, as a list of texts

module _ {X : Type 0} (texts : List X) (text_of : X → List ℕ) (same : map text_of texts ≡ map (λ (one : Table × List ℕ). one.1) own_tables) where
  as_many : length texts ≡ length own_tables
  as_many = sym (length-map texts text_of) ∙ ap length same ∙ length-map own_tables (λ (one : Table × List ℕ). one.1)

  pub text_at : (i : ℕ) (none : X) (d : Table × List ℕ) → i < length texts → text_of (get_or texts i none) ≡ (get_or own_tables i d).1
  text_at i none d within =
      sym (get_or-map text_of texts i none (text_of none) within)
      ∙ ap (λ (l : List (List ℕ)). get_or l i (text_of none)) same
      ∙ get_or-map (λ (one : Table × List ℕ). one.1) own_tables i d (text_of none) (omega (arith, as_many))

  pub place_within : (i : ℕ) → i < length texts → i < length own_tables
  place_within i within = omega (arith, as_many)
