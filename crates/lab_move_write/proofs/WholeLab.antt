-- A laboratory that is within its limits, bound and under dual control comes of all that it has, kind by kind and one after the
-- other, of a laboratory that has nothing.
use Rattle.std.proofs.Common.{◌≡◌, ℕ, Bool, true, false, cond, List, [], ◌∷◌, ◌++◌, map, filter, length, Option, None, Some, is_some, All, refl, sym, ap, subst, ◌∙◌, append_assoc, append-nil}
use Rattle.std.specs.List.{AllByRecursion}
use Rattle.std.proofs.lemmas.List.{length_push}
use Rattle.std.proofs.lemmas.List.Elements.{All-head, All-tail, All-weaker}
use Rattle.sqlite_trees.specs.Tree.{IsAscending}
use Rattle.sqlite_keyed.proofs.ListLemmas.{all-map, ascending-map}
use Rattle.lab_people_access.specs.declared.persons.Person.{Person}
use Rattle.lab_people_access.specs.declared.persons.Ask.{Ask}
use Rattle.lab_people_access.specs.declared.sessions.Session.{Session}
use Rattle.lab_records_kept.specs.declared.labs.Lab.{Lab}
use Rattle.lab_records_kept.specs.declared.records.FormVersion.{FormVersion}
use Rattle.lab_records_kept.specs.declared.records.Record.{Record}
use Rattle.lab_records_kept.specs.declared.trails.TrailRow.{TrailRow as Told}
use Rattle.lab_records_kept.specs.declared.changes.Change.{Change}
use Rattle.lab_records_kept.specs.declared.changes.Change.TheVariants.{PersonAdded, PersonSet, SessionAdded, FormAdded, RecordAdded, TrailAdded}
use Rattle.lab_records_kept.specs.Bound.{IsBoundRecord, IsBound}
use Rattle.lab_records_kept.specs.Changes.{change, changed}
use Rattle.lab_records_kept.specs.Dual.{IsSignedDually, IsDualRecord, IsDual}
use Rattle.lab_records_kept.specs.Limits.{AreNumberedAfter, AreFormsNumbered, IsOrderly, IsByForm, IsWithin}
use Rattle.lab_store_tables.specs.Placing.{unasked, is_asked_for}
use Rattle.lab_move_write.specs.Placings.{whole_changes}
use Rattle.lab_move_write.proofs.PlacingWords.{emptied}
use Rattle.lab_move_write.proofs.Wholes.{SaysAsForm, IsWholeRecord}
use Rattle.lab_move_write.proofs.Comings.{Comes, AllCome}
use Rattle.lab_move_write.proofs.Orders.{AreBehind, behind_none, behind_one, Earlier, persons_ascend, person_last, nobody_yet, set_in_place, NotLater, forms_ascend, form_last}

-- ---- of changes that may come, one laboratory becomes another

abbrev pub Becomes : Lab → List Change → Lab → Type 0
Becomes old changes new = AllCome old changes × (changed old changes ≡ new)

all_come_both : (xs ys : List Change) (lab : Lab) → AllCome lab xs → AllCome (changed lab xs) ys → AllCome lab (xs ++ ys)
all_come_both [] ys lab first second = second
all_come_both (x ∷ xs) ys lab first second = (first.0, all_come_both xs ys (change lab x) first.1 second)

changed_both : (xs ys : List Change) (lab : Lab) → changed lab (xs ++ ys) ≡ changed (changed lab xs) ys
changed_both [] ys lab = refl
changed_both (x ∷ xs) ys lab = changed_both xs ys (change lab x)

becomes_then : (xs ys : List Change) (a b c : Lab) → Becomes a xs b → Becomes b ys c → Becomes a (xs ++ ys) c
becomes_then xs ys a b c p q = (
  all_come_both xs ys a p.0 (subst (λ lab. AllCome lab ys) (sym p.1) q.0),
  changed_both xs ys a ∙ ap (λ lab. changed lab ys) p.1 ∙ q.1,
)

-- by a change and then others
becomes_by : (one : Change) (others : List Change) (a b c : Lab) → Comes a one → change a one ≡ b → Becomes b others c → Becomes a (one ∷ others) c
becomes_by one others a b c comes is more = (
  (comes, subst (λ lab. AllCome lab others) (sym is) more.0),
  ap (λ lab. changed lab others) is ∙ more.1,
)

-- items of one kind in turn, each behind those that are there
module _ {A : Type 0} (as_change : A → Change) (having : List A → Lab) (Next : List A → List A → Type 0)
    (step : (had : List A) (one : A) (others : List A) → Next had (one ∷ others)
    → Comes (having had) (as_change one) × (change (having had) (as_change one) ≡ having (had ++ one ∷ [])) × Next (had ++ one ∷ []) others) where
  come_all : (had rest : List A) → Next had rest → Becomes (having had) (map as_change rest) (having (had ++ rest))
  come_all had [] next = (tt, ap having (sym (append-nil had)))
  come_all had (one ∷ others) next =
      let now = step had one others next in
      let more = come_all (had ++ one ∷ []) others now.2 in
      becomes_by (as_change one) (map as_change others) (having had) (having (had ++ one ∷ [])) (having (had ++ one ∷ others)) now.0 now.1
      (more.0, more.1 ∙ ap having (append_assoc had (one ∷ []) others))

-- ---- persons, and what was asked for them

abbrev Bare : Person → Type 0
Bare person = person.ask ≡ None

as_it_is : (person : Person) → is_asked_for person ≡ false → unasked person ≡ person
as_it_is person none = λ i. record person { ask = sym (nothing person.ask none) i }
  where
    nothing : (ask : Option Ask) → is_some ask ≡ false → ask ≡ None
    nothing None e = refl
    nothing (Some ask) e = absurd cc

module _ (lab : Lab) where
  abbrev peopled : List Person → Lab
  peopled persons = record lab { persons = persons }

  person_comes : (had : List Person) (one : Person) (others : List Person) → AreBehind Earlier had (one ∷ others) × AllByRecursion Bare (one ∷ others)
      → Comes (peopled had) (PersonAdded one) × (change (peopled had) (PersonAdded one) ≡ peopled (had ++ one ∷ []))
      × (AreBehind Earlier (had ++ one ∷ []) others × AllByRecursion Bare others)
  person_comes had one others it = (
    (nobody_yet one had it.0.0.0, it.1.0),
    ap peopled (person_last one had it.0.0.0),
    (behind_one Earlier had one others it.0, it.1.1),
  )

  persons_come : (persons : List Person) → IsAscending Earlier persons → Becomes (peopled []) (map PersonAdded (map unasked persons)) (peopled (map unasked persons))
  persons_come persons ascend =
      come_all PersonAdded peopled (λ had rest. AreBehind Earlier had rest × AllByRecursion Bare rest) person_comes [] (map unasked persons)
      (behind_none Earlier (map unasked persons) (ascending-map Earlier unasked persons ascend), all-map Bare unasked (λ one. refl) persons)

  asks_set : (had rest : List Person) → AreBehind Earlier had rest
      → Becomes (peopled (had ++ map unasked rest)) (map PersonSet (filter is_asked_for rest)) (peopled (had ++ rest))
  asks_set had [] behind = (tt, refl)
  asks_set had (one ∷ others) behind =
      let rest = asks_set (had ++ one ∷ []) others (behind_one Earlier had one others behind) in
      let more : Becomes (peopled (had ++ one ∷ map unasked others)) (map PersonSet (filter is_asked_for others)) (peopled (had ++ one ∷ others)) =
      subst (λ (list : List Person). Becomes (peopled list) (map PersonSet (filter is_asked_for others)) (peopled (had ++ one ∷ others)))
      (append_assoc had (one ∷ []) (map unasked others))
      (rest.0, rest.1 ∙ ap peopled (append_assoc had (one ∷ []) others)) in
      go (is_asked_for one) refl more
    where
      go : (b : Bool) → is_asked_for one ≡ b
          → Becomes (peopled (had ++ one ∷ map unasked others)) (map PersonSet (filter is_asked_for others)) (peopled (had ++ one ∷ others))
          → Becomes (peopled (had ++ unasked one ∷ map unasked others)) (map PersonSet (cond b (one ∷ filter is_asked_for others) (filter is_asked_for others)))
          (peopled (had ++ one ∷ others))
      go true asked more =
          becomes_by (PersonSet one) (map PersonSet (filter is_asked_for others)) (peopled (had ++ unasked one ∷ map unasked others))
          (peopled (had ++ one ∷ map unasked others)) (peopled (had ++ one ∷ others)) tt
          (ap peopled (set_in_place one had (map unasked others) behind.0.0)) more
      go false none more =
          subst (λ (person : Person). Becomes (peopled (had ++ person ∷ map unasked others)) (map PersonSet (filter is_asked_for others)) (peopled (had ++ one ∷ others)))
          (sym (as_it_is one none)) more

-- ---- what is numbered

module _ {A : Type 0} (number : A → ℕ) where
  numbers_go_on : (had : List A) (one : A) (others : List A) → AreNumberedAfter number (length had) (one ∷ others) → AreNumberedAfter number (length (had ++ one ∷ [])) others
  numbers_go_on had one others numbered = subst (λ n. AreNumberedAfter number n others) (sym (length_push had one)) numbered.1

module _ (lab : Lab) where
  abbrev session_number : Session → ℕ
  session_number session = session.number

  sessions_come : (sessions : List Session) → AreNumberedAfter session_number 0 sessions
      → Becomes (record lab { sessions = [] }) (map SessionAdded sessions) (record lab { sessions = sessions })
  sessions_come sessions numbered =
      come_all SessionAdded (λ list. record lab { sessions = list }) (λ had rest. AreNumberedAfter session_number (length had) rest)
      (λ had one others next. (next.0, refl, numbers_go_on session_number had one others next)) [] sessions numbered

  abbrev told_number : Told → ℕ
  told_number told = told.number

  trail_comes : (trail : List Told) → AreNumberedAfter told_number 0 trail → Becomes (record lab { trail = [] }) (map TrailAdded trail) (record lab { trail = trail })
  trail_comes trail numbered =
      come_all TrailAdded (λ list. record lab { trail = list }) (λ had rest. AreNumberedAfter told_number (length had) rest)
      (λ had one others next. (next.0, refl, numbers_go_on told_number had one others next)) [] trail numbered

  forms_come : (forms : List FormVersion) → IsAscending NotLater forms → AreFormsNumbered [] forms
      → Becomes (record lab { forms = [] }) (map FormAdded forms) (record lab { forms = forms })
  forms_come forms ascend numbered =
      come_all FormAdded (λ list. record lab { forms = list }) (λ had rest. AreBehind NotLater had rest × AreFormsNumbered had rest)
      (λ had one others next. (
        next.1.0,
        ap (λ list. record lab { forms = list }) (form_last one had next.0.0.0),
        (behind_one NotLater had one others next.0, next.1.1),
      )) [] forms (behind_none NotLater forms ascend, numbered)

-- ---- records

abbrev record_number : Record → ℕ
record_number kept = kept.number

record AreSound (lab : Lab) (had rest : List Record) : Type 0 where
  pub numbered : AreNumberedAfter record_number (length had) rest
  pub orderly : All IsOrderly rest
  pub by_form : All (IsByForm lab.forms) rest
  pub bound : All (IsBoundRecord lab.code) rest
  pub dual : All IsDualRecord rest

module _ (lab : Lab) where
  record_comes : (had : List Record) (one : Record) (others : List Record) → AreSound lab had (one ∷ others)
      → IsWholeRecord (record lab { records = had }) one
      × (change (record lab { records = had }) (RecordAdded one) ≡ record lab { records = had ++ one ∷ [] }) × AreSound lab (had ++ one ∷ []) others
  record_comes had one others it =
      let orderly = All-head IsOrderly one others it.orderly in (
        record {
          number = it.numbered.0;
          form = All-head (IsByForm lab.forms) one others it.by_form;
          some = orderly.some;
          numbered = orderly.numbered;
          chain = (All-head (IsBoundRecord lab.code) one others it.bound).chain;
          formats = All-weaker (IsSignedDually one) (SaysAsForm one) (λ version signed. signed.format) one.versions (All-head IsDualRecord one others it.dual).signed;
        },
        refl,
        record {
          numbered = numbers_go_on record_number had one others it.numbered;
          orderly = All-tail IsOrderly one others it.orderly;
          by_form = All-tail (IsByForm lab.forms) one others it.by_form;
          bound = All-tail (IsBoundRecord lab.code) one others it.bound;
          dual = All-tail IsDualRecord one others it.dual;
        },
      )

  records_come : (records : List Record) → AreSound lab [] records → Becomes (record lab { records = [] }) (map RecordAdded records) (record lab { records = records })
  records_come records sound = come_all RecordAdded (λ list. record lab { records = list }) (AreSound lab) record_comes [] records sound

-- ---- all of it

module _ (lab : Lab) (within : IsWithin lab) (bound : IsBound lab) (dual : IsDual lab) where
  abbrev bare : Lab
  bare = emptied lab

  -- with persons, then sessions, then forms, then records
  abbrev one : Lab
  one = record bare { persons = lab.persons }

  abbrev two : Lab
  two = record one { sessions = lab.sessions }

  abbrev three : Lab
  three = record two { forms = lab.forms }

  abbrev four : Lab
  four = record three { records = lab.records }

  sound : AreSound three [] lab.records
  sound = record {
    numbered = within.records_numbered;
    orderly = within.orderly;
    by_form = within.by_form;
    bound = bound;
    dual = dual;
  }

  -- what they have become so far
  abbrev people : List Change
  people = map PersonAdded (map unasked lab.persons) ++ map PersonSet (filter is_asked_for lab.persons)

  people_come : Becomes bare people one
  people_come =
      let ascend = persons_ascend lab.persons within.persons_ordered in
      becomes_then (map PersonAdded (map unasked lab.persons)) (map PersonSet (filter is_asked_for lab.persons)) bare
      (record bare { persons = map unasked lab.persons }) one (persons_come bare lab.persons ascend)
      (asks_set bare [] lab.persons (behind_none Earlier lab.persons ascend))

  forms_then : Becomes bare (people ++ map SessionAdded lab.sessions ++ map FormAdded lab.forms) three
  forms_then =
      becomes_then (people ++ map SessionAdded lab.sessions) (map FormAdded lab.forms) bare two three
      (becomes_then people (map SessionAdded lab.sessions) bare one two people_come (sessions_come one lab.sessions within.sessions_numbered))
      (forms_come two lab.forms (forms_ascend lab.forms within.forms_ordered) within.forms_numbered)

  pub whole_comes : Becomes (emptied lab) (whole_changes lab) lab
  whole_comes =
      becomes_then (people ++ map SessionAdded lab.sessions ++ map FormAdded lab.forms ++ map RecordAdded lab.records) (map TrailAdded lab.trail) bare four lab
      (becomes_then (people ++ map SessionAdded lab.sessions ++ map FormAdded lab.forms) (map RecordAdded lab.records) bare three four
      forms_then (records_come three lab.records sound))
      (trail_comes four lab.trail within.trail_numbered)
