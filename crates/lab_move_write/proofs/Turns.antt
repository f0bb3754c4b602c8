-- Calls inside a transaction that make changes in turn: one after another, and for the items of a list.
use Rattle.std.proofs.Common.{◌≡◌, ◌⊎◌, ℕ, ◌+◌, ◌<◌, ◌≤◌, ℤ, cond, List, [], ◌∷◌, ◌++◌, map, filter, take, get_or, length, IsTrue, Option, Some, None, is_some, Result, Ok, Err, OnOk, IfOk, refl, sym, ap, subst, ◌∙◌, arith}
use Rattle.std.specs.Prelude.{IsErrAnd}
use Rattle.std.proofs.lemmas.List.{take_more, take_all, map-append}
use Rattle.std.proofs.lemmas.List.Elements.{filter-append}
use Rattle.sqlite_schema.specs.Rules.{Obeys}
use Rattle.sqlite.specs.declared.error.Error.{Error}
use Rattle.sqlite.specs.Effect.{Database, IsDatabase}
use Rattle.sqlite.specs.State.{State, HasCleanDisk}
use Rattle.lab_people_access.specs.declared.persons.Ask.{Ask}
use Rattle.lab_people_access.specs.declared.persons.Person.{Person}
use Rattle.lab_records_kept.specs.declared.changes.Change.{Change}
use Rattle.lab_records_kept.specs.declared.changes.Change.TheVariants.{PersonAdded, PersonSet}
use Rattle.lab_store_tables.specs.Schema.{lab_schema}
use Rattle.lab_store_tables.specs.Rows.{Tables, tables_in}
use Rattle.lab_store_tables.specs.Changes.{InTurn}
use Rattle.lab_store_tables.specs.Placing.{unasked, is_asked_for}
use Rattle.lab_store_tables.specs.Held.{IsTyped}
use Rattle.lab_store_tables.specs.Ready.{tables_of}
use Rattle.lab_store_tables.specs.ByRules.{IsByRules}
use Rattle.lab_store_tables.specs.Steps.{AppliesWhereKept, StepsBy}
use Rattle.lab_store_tables.proofs.KeptByRules.{ids_by_order, keys_by_rules, arrows_by_rules}
use Rattle.lab_store_write.specs.Calls.{Steps}
use Rattle.lab_store_write.specs.Private.Calls.{Writes}
use Rattle.lab_store_write.proofs.AnyEndings.{FailsBy}
use Rattle.lab_store_write.proofs.Writers.{nothing_done, stays_then}
use Rattle.lab_store_write_changes.proofs.Failures.{failed_behind}
use Rattle.lab_move_write.specs.Private.Turns.{MakesInTurn}

-- what a database that keeps its own rules says of the tables
pub rules_of : (db : Database) → IsTyped db → IsDatabase db → IsByRules (tables_in db.trees)
rules_of db typed sound =
    let obeys : Obeys lab_schema db.trees = subst (λ schema. Obeys schema db.trees) typed.schema sound.obeys in
    record { ids = ids_by_order (tables_in db.trees) typed.rising; keys = keys_by_rules db typed obeys; arrows = arrows_by_rules db typed obeys }

none_made : (lab : ℤ) (s : State) → IsTrue s.in_transaction → Steps (InTurn (StepsBy lab) []) s s
none_made lab s inside = record { inside = inside; made = λ typed. (typed, refl); sound = λ typed rules. rules }

turns_then : {A : Type 0} (step : A → Tables → Tables → Type 0) (xs ys : List A) (a b c : Tables) → InTurn step xs a b → InTurn step ys b c
    → InTurn step (xs ++ ys) a c
turns_then step [] ys a b c p q = subst (λ t. InTurn step ys t c) p q
turns_then step (x ∷ xs) ys a b c p q = (p.0, p.1, turns_then step xs ys p.0 b c p.2 q)

if_then_on : {A E : Type 0} {P : A → Type 0} {Q : Type 0} (r : Result A E) → ((a : A) → P a → Q) → IfOk r P → OnOk r Q
if_then_on (Ok a) f h = f a h
if_then_on (Err e) f h = tt

on_two : {A E P Q R : Type 0} (r : Result A E) → (P → Q → R) → OnOk r P → OnOk r Q → OnOk r R
on_two (Ok a) f p q = f p q
on_two (Err e) f p q = tt

one_step : (lab : ℤ) (one : Change) (old new : State) → Steps (AppliesWhereKept lab one) old new → IsDatabase old.now → Steps (InTurn (StepsBy lab) (one ∷ [])) old new
one_step lab one old new steps rules = record {
  inside = steps.inside;
  made = λ typed.
      let it = steps.made typed in
      let step : StepsBy lab one (tables_of old) (tables_of new) =
      record { applies = it.1; rising = it.0.rising; rules = rules_of new.now it.0 (steps.sound typed rules) } in
      (it.0, (tables_of new, step, refl));
  sound = steps.sound;
}

both_steps : (lab : ℤ) (xs ys : List Change) (a b c : State) → Steps (InTurn (StepsBy lab) xs) a b → (IsDatabase b.now → Steps (InTurn (StepsBy lab) ys) b c)
    → IsTrue c.in_transaction → IsDatabase a.now → Steps (InTurn (StepsBy lab) (xs ++ ys)) a c
both_steps lab xs ys a b c p q inside rules = record {
  inside = inside;
  made = λ typed.
      let one = p.made typed in
      let two = (q (p.sound typed rules)).made one.0 in
      (two.0, turns_then (StepsBy lab) xs ys (tables_of a) (tables_of b) (tables_of c) one.1 two.1);
  sound = λ typed sound. let one = p.made typed in let still = p.sound typed sound in (q still).sound one.0 still;
}

module _ {T : Type 0} {lender : T → ℕ × ℕ} {state : T → State} (lab : ℤ) where
  -- ---- no call

  pub nothing_made : {A : Type 0} (a : T) (x : A) → MakesInTurn lender state lab [] a a (Ok x)
  nothing_made a x = record {
    stays = nothing_done a;
    inside = λ inside clean. inside;
    made = λ inside clean rules. none_made lab (state a) inside;
    typed = λ inside clean typed. typed;
    failed = λ inside clean typed. tt;
  }

  -- ---- one change

  pub one_made : {A : Type 0} (one : Change) {old new : T} {r : Result A Error} → Writes lender state (AppliesWhereKept lab one) old new r
      → MakesInTurn lender state lab (one ∷ []) old new r
  one_made one {old} {new} {r} it = record {
    stays = it.stays;
    inside = λ inside clean. if_then_on r (λ x steps. steps.inside) (it.made inside clean);
    made = λ inside clean. if_then_on r (λ x steps rules. one_step lab one (state old) (state new) steps rules) (it.made inside clean);
    typed = λ inside clean. if_then_on r (λ x steps typed. (steps.made typed).0) (it.made inside clean);
    failed = it.failed;
  }

  -- ---- one call and then another

  module _ {A : Type 0} {xs ys : List Change} {a b c : T} {x : A} (p : MakesInTurn lender state lab xs a b (Ok x)) where
    pub made_then : {B : Type 0} {r : Result B Error} → MakesInTurn lender state lab ys b c r → MakesInTurn lender state lab (xs ++ ys) a c r
    made_then {r = r} q = record {
      stays = stays_then p.stays p.inside q.stays;
      inside = λ inside clean. q.inside (p.inside inside (early clean)) clean;
      made = λ inside clean.
          let mid = p.inside inside (early clean) in
          on_two r (λ on made rules. both_steps lab xs ys (state a) (state b) (state c) (p.made inside (early clean) rules) made on rules)
          (q.inside mid clean) (q.made mid clean);
      typed = λ inside clean. on_two r (λ on still typed. still (p.typed inside (early clean) typed)) (q.inside (p.inside inside (early clean)) clean)
          (q.typed (p.inside inside (early clean)) clean);
      failed = λ inside clean typed.
          failed_behind state ⊥ a b c p.stays.survives r (q.failed (p.inside inside (early clean)) clean (p.typed inside (early clean) typed));
    }
      where
        early : HasCleanDisk (state c) → HasCleanDisk (state b)
        early clean = let s = q.stays.survives in omega (arith, s.clean)

-- the failure of a call is that of one that passes it on
pub turn_fails : {T A B : Type 0} {lender : T → ℕ × ℕ} {state : T → State} {lab : ℤ} {xs ys : List Change} {a b : T} {e : Error} → MakesInTurn {A = A} lender state lab xs a b (Err e)
    → (r : Result B Error) → IsErrAnd r (λ d. d ≡ e) → MakesInTurn lender state lab ys a b r
turn_fails it (Ok x) failed = absurd failed
turn_fails {state = state} {a = a} {b = b} it (Err d) failed = record {
  stays = it.stays;
  inside = λ inside clean. tt;
  made = λ inside clean. tt;
  typed = λ inside clean. tt;
  failed = λ inside clean typed. subst (λ (d : Error). ⊥ ⊎ FailsBy state a b d) (sym failed) (it.failed inside clean typed);
}

-- the changes in other words
pub changes_as : {T : Type 0} {lender : T → ℕ × ℕ} {state : T → State} {lab : ℤ} {A : Type 0} {xs ys : List Change} {a b : T} {r : Result A Error} → xs ≡ ys
    → MakesInTurn lender state lab xs a b r → MakesInTurn lender state lab ys a b r
changes_as {lender = lender} {state = state} {lab = lab} {a = a} {b = b} {r = r} same it = subst (λ list. MakesInTurn lender state lab list a b r) same it

-- ---- calls in turn, for the items of a list

module _ {T A B : Type 0} {lender : T → ℕ × ℕ} {state : T → State} (lab : ℤ) (changes_of : List A → List Change)
    (split : (xs : List A) (one : A) → changes_of (xs ++ one ∷ []) ≡ changes_of xs ++ changes_of (one ∷ []))
    (xs : List A) (i : ℕ) {a b : T} {x : B} (p : MakesInTurn lender state lab (changes_of (take i xs)) a b (Ok x)) where
  item_made : {C : Type 0} {c : T} (one : A) {r : Result C Error} → one ≡ get_or xs i one → i < length xs
      → MakesInTurn lender state lab (changes_of (one ∷ [])) b c r → MakesInTurn lender state lab (changes_of (take (i + 1) xs)) a c r
  item_made one is within q =
      changes_as (sym (split (take i xs) one) ∙ ap (λ (item : A). changes_of (take i xs ++ item ∷ [])) is ∙ ap changes_of (sym (take_more xs i one within)))
      (made_then lab p q)

  -- one item more
  pub item_more : {C : Type 0} {c : T} {y : C} (one : A) → one ≡ get_or xs i one → i < length xs
      → MakesInTurn lender state lab (changes_of (one ∷ [])) b c (Ok y) → MakesInTurn lender state lab (changes_of (take (i + 1) xs)) a c (Ok x)
  item_more one is within q =
      let it = item_made one is within q in
      record { stays = it.stays; inside = λ inside clean. it.inside inside clean; made = λ inside clean. it.made inside clean; typed = λ inside clean. it.typed inside clean; failed = λ inside clean typed. tt }

  -- one item fails
  pub item_fails : {C D : Type 0} {c : T} {e : Error} {ys zs : List Change} → MakesInTurn {A = C} lender state lab ys b c (Err e)
      → (r : Result D Error) → IsErrAnd r (λ d. d ≡ e) → MakesInTurn lender state lab zs a c r
  item_fails q r failed = turn_fails (made_then lab p q) r failed

  pub items_made : length xs ≤ i → MakesInTurn lender state lab (changes_of xs) a b (Ok x)
  items_made all = changes_as (ap changes_of (take_all i xs all)) p

-- ---- the kinds

pub by_one : {A : Type 0} (as_change : A → Change) (xs : List A) (one : A) → map as_change (xs ++ one ∷ []) ≡ map as_change xs ++ map as_change (one ∷ [])
by_one as_change xs one = map-append as_change xs (one ∷ [])

abbrev pub bare_persons : List Person → List Change
bare_persons persons = map PersonAdded (map unasked persons)

pub by_person : (xs : List Person) (one : Person) → bare_persons (xs ++ one ∷ []) ≡ bare_persons xs ++ bare_persons (one ∷ [])
by_person xs one = ap (map PersonAdded) (map-append unasked xs (one ∷ [])) ∙ map-append PersonAdded (map unasked xs) (unasked one ∷ [])

abbrev pub persons_asked_for : List Person → List Change
persons_asked_for persons = map PersonSet (filter is_asked_for persons)

pub by_ask : (xs : List Person) (one : Person) → persons_asked_for (xs ++ one ∷ []) ≡ persons_asked_for xs ++ persons_asked_for (one ∷ [])
by_ask xs one =
    ap (map PersonSet) (filter-append is_asked_for xs (one ∷ [])) ∙ map-append PersonSet (filter is_asked_for xs) (filter is_asked_for (one ∷ []))

pub asked_one : (person : Person) (ask : Ask) → person.ask ≡ Some ask → persons_asked_for (person ∷ []) ≡ PersonSet person ∷ []
asked_one person ask is = ap (λ (o : Option Ask). map PersonSet (cond (is_some o) (person ∷ []) [])) is

pub asked_none : (person : Person) → person.ask ≡ None → persons_asked_for (person ∷ []) ≡ []
asked_none person is = ap (λ (o : Option Ask). map PersonSet (cond (is_some o) (person ∷ []) [])) is
