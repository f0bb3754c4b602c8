-- The last moment of a laboratory is set with the row of the trail that comes last: as if it had been set before all other changes.
use Rattle.std.proofs.Common.{◌≡◌, ◌∙◌, ℕ, ℤ, Bool, true, false, ◌&&◌, List, [], ◌∷◌, ◌++◌, Option, Some, None, Result, Ok, Err, IfOk, OnOk, refl, ap, subst, int_eq}
use Rattle.std.specs.List.{list_all}
use Rattle.sqlite_keyed.specs.Lists.{update_where}
use Rattle.sqlite_keyed.proofs.KeyedLemmas.{IsKeyedBy-update_where}
use Rattle.sqlite.specs.Effect.{IsDatabase}
use Rattle.sqlite.specs.State.{State}
use Rattle.lab_records_kept.specs.declared.changes.Change.{Change}
use Rattle.lab_records_kept.specs.declared.changes.Change.TheVariants.{Last, Strays, PersonAdded, PersonSet, SessionAdded, SessionSet, SessionsClosed, FormAdded, RecordAdded, RowAdded, VersionOpened, SignatureAdded, TrailAdded}
use Rattle.lab_records_kept.specs.declared.trails.TrailRow.{TrailRow as Told}
use Rattle.lab_store_tables.specs.Rows.{LabRow, Tables, lab_id}
use Rattle.lab_store_tables.specs.Changes.{InTurn, asker_of, put_session, session_row_of}
use Rattle.lab_store_tables.specs.Held.{AreRising, IsTyped}
use Rattle.lab_store_tables.specs.Ready.{tables_of}
use Rattle.lab_store_tables.specs.Family.{Labs}
use Rattle.lab_store_tables.specs.Steps.{AppliesWhereKept, StepsBy}
use Rattle.lab_store_tables.proofs.KeptLaws.{last_by_rules}
use Rattle.lab_store_write.specs.declared.named.Giver.{Giver}
use Rattle.lab_store_write.specs.Calls.{Steps, Finds, MadeFrom}
use Rattle.lab_store_write.specs.Givers.{Knows}
use Rattle.lab_store_write.specs.TrailAdded.{with_last, AddsLastTold}
use Rattle.lab_store_write.proofs.Inside.{steps_weaker, found_then}
use Rattle.lab_store_tables.proofs.Tables.{rising_with}
use Rattle.lab_store_write.proofs.TrailAddedLemmas.{named_still}
use Rattle.lab_store_write_changes.specs.Framed.{spares_last, framed}
use Rattle.lab_store_write_changes.specs.Private.Framed.{keeps_giver, StepsKnowing}
use Rattle.lab_store_write.proofs.Later.{counted_later}
use Rattle.lab_store_write_changes.proofs.Beside.{form_beside, entry_beside, signature_beside, version_beside, record_beside}
use Rattle.lab_store_write_changes.proofs.Steps.{rules_of}

-- what is made of a step that a call made
pub on_ok_by : {A E S X : Type 0} (r : Result A E) → (S → X) → IfOk r (λ _. S) → OnOk r X
on_ok_by (Ok a) f it = f it
on_ok_by (Err e) f it = tt

-- ---- who gives the command, over changes that say nothing of the last moment

pub keeps_spared : (giver : Option Giver) (changes : List Change) → list_all spares_last changes ≡ true → keeps_giver giver changes ≡ true
keeps_spared None changes spared = refl
keeps_spared (Some giver) changes spared = spared

and_left : (a b : Bool) → (a && b) ≡ true → a ≡ true
and_left true b both = refl
and_left false b both = absurd cc

and_right : (a b : Bool) → (a && b) ≡ true → b ≡ true
and_right true b both = both
and_right false b both = absurd cc

-- ---- a change beside the last moment

module _ (lab : ℤ) (moment : ℕ) where
  rising_still : (t : Tables) → AreRising t → AreRising (with_last lab (Some moment) t)
  rising_still t rising =
      let mine = λ (one : LabRow). int_eq one.id lab in
      let next = λ (one : LabRow). record one { last = moment } in
      rising_with Labs t (update_where mine next t.labs) rising (IsKeyedBy-update_where lab_id mine next (λ _. refl) t.labs (rising.at Labs))

  beside : (one : Change) (old new : Tables) → spares_last one ≡ true → AppliesWhereKept lab one old new
      → AppliesWhereKept lab one (with_last lab (Some moment) old) (with_last lab (Some moment) new)
  beside (Last moment) old new spared it = absurd cc
  beside (Strays count) old new spared it = absurd cc
  beside (PersonAdded person) old new spared it = absurd cc
  beside (PersonSet person) old new spared it = record {
    id = it.id;
    found = it.found;
    asker = it.asker;
    named = named_still lab moment old (asker_of person) it.asker it.named;
    made = ap (with_last lab (Some moment)) it.made;
  }
  beside (SessionAdded session) old new spared it = record {
    id = it.id;
    free = it.free;
    person = it.person;
    named = it.named;
    made = ap (with_last lab (Some moment)) it.made
        ∙ counted_later lab moment (λ (one : LabRow). record one { sessions = session.number }) (λ _. refl) (λ _. refl)
        (put_session (session_row_of lab it.id it.person session) old);
  }
  beside (SessionSet session) old new spared it = record {
    id = it.id;
    found = it.found;
    person = it.person;
    named = it.named;
    made = ap (with_last lab (Some moment)) it.made;
  }
  beside (SessionsClosed person closing) old new spared it = absurd cc
  beside (FormAdded form) old new spared it = form_beside lab moment form old new it
  beside (RecordAdded kept) old new spared it = record_beside lab moment kept old new it
  beside (RowAdded number row) old new spared it = record {
    kept = it.kept;
    found = it.found;
    version = it.version;
    last = it.last;
    added = entry_beside lab moment it.version row old new it.added;
  }
  beside (VersionOpened number version) old new spared it = record {
    kept = it.kept;
    found = it.found;
    opened = with_last lab (Some moment) it.opened;
    added = version_beside lab moment it.kept.id version old it.opened it.added;
    current = ap (with_last lab (Some moment)) it.current;
  }
  beside (SignatureAdded number version signature) old new spared it = record {
    kept = it.kept;
    found = it.found;
    signed = it.signed;
    there = it.there;
    added = signature_beside lab moment it.signed signature old new it.added;
  }
  beside (TrailAdded told) old new spared it = absurd cc

  step_beside : (one : Change) (old new : Tables) → spares_last one ≡ true → StepsBy lab one old new → StepsBy lab one (with_last lab (Some moment) old) (with_last lab (Some moment) new)
  step_beside one old new spared it = record {
    applies = beside one old new spared it.applies;
    rising = rising_still new it.rising;
    rules = last_by_rules new lab moment it.rules;
  }

  steps_beside : (told : Told) (changes : List Change) → list_all spares_last changes ≡ true → (t u v : Tables) → InTurn (StepsBy lab) changes t u
      → StepsBy lab (TrailAdded told) (with_last lab (Some moment) u) v → InTurn (StepsBy lab) (changes ++ TrailAdded told ∷ []) (with_last lab (Some moment) t) v
  steps_beside told [] spared t u v it told_last = (v, subst (λ (w : Tables). StepsBy lab (TrailAdded told) (with_last lab (Some moment) w) v) it told_last, refl)
  steps_beside told (one ∷ others) spared t u v it told_last = (
    with_last lab (Some moment) it.0,
    step_beside one t it.0 (and_left _ _ spared) it.1,
    steps_beside told others (and_right _ _ spared) it.0 u v it.2 told_last,
  )

  framed_steps : (told : Told) (between : List Change) → list_all spares_last between ≡ true → (a b c : State) → IsDatabase a.now
      → Steps (InTurn (StepsBy lab) between) a b → Steps (AddsLastTold lab (Some moment) told) b c → Steps (InTurn (StepsBy lab) (framed moment between told)) a c
  framed_steps told between spared a b c rules p q = record {
    inside = q.inside;
    made = λ typed.
        let one = p.made typed in
        let two = q.made one.0 in
        let t = tables_of a in
        let begun : StepsBy lab (Last moment) t (with_last lab (Some moment) t) = record {
          applies = refl;
          rising = rising_still t typed.rising;
          rules = last_by_rules t lab moment (rules_of a.now typed rules);
        } in
        let told_last : StepsBy lab (TrailAdded told) (with_last lab (Some moment) (tables_of b)) (tables_of c) = record {
          applies = two.1;
          rising = two.0.rising;
          rules = rules_of c.now two.0 (q.sound one.0 (p.sound typed rules));
        } in
        (two.0, (with_last lab (Some moment) t, begun, steps_beside told between spared t (tables_of b) (tables_of c) one.1 told_last));
    sound = λ typed sound. q.sound (p.made typed).0 (p.sound typed sound);
  }

  -- who gives the command is looked up before them
  module _ (told : Told) (giver : Option Giver) (between : List Change) (a b c d : State) (found : Steps (Finds (Knows lab giver)) a b)
      (p : IsDatabase b.now → Steps (StepsKnowing lab giver between) b c) (q : Steps (MadeFrom (Knows lab giver) (AddsLastTold lab (Some moment) told)) c d) where
    abbrev both : Tables → Tables → Type 0
    both old new = InTurn (StepsBy lab) between old new × Knows lab giver new

    pub framed_made : list_all spares_last between ≡ true → IsDatabase a.now → Steps (InTurn (StepsBy lab) (framed moment between told)) a d
    framed_made spared rules = record {
      inside = q.inside;
      made = λ typed. (whole typed).made typed;
      sound = λ typed sound. (whole typed).sound typed sound;
    }
      where
        whole : IsTyped a.now → Steps (InTurn (StepsBy lab) (framed moment between told)) a d
        whole typed =
            let first = found_then (Knows lab giver) both a b c found (p (found.sound typed rules)) in
            let known = (first.made typed).1.1 in
            framed_steps told between spared a c d rules (steps_weaker both (InTurn (StepsBy lab) between) a c (λ before after it. it.0) first)
            (record { inside = q.inside; made = λ later. let it = q.made later in (it.0, it.1 known); sound = q.sound })
