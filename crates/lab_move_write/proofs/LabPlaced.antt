-- A laboratory that is placed whole: it is there, no other is touched, and the tables are well kept; and its rows are those of its
-- placing, kind by kind.
use Rattle.std.proofs.Common.{ℤ, List, [], ◌∷◌, ◌++◌, map, filter, Some, option_map, refl, ap, ◌∙◌}
use Rattle.lab_records_kept.specs.declared.labs.Lab.{Lab}
use Rattle.lab_records_kept.specs.declared.changes.Change.{Change}
use Rattle.lab_records_kept.specs.declared.changes.Change.TheVariants.{PersonAdded, PersonSet, SessionAdded, FormAdded, RecordAdded, TrailAdded}
use Rattle.lab_records_kept.specs.Bound.{IsBound}
use Rattle.lab_records_kept.specs.Changes.{changed_in}
use Rattle.lab_records_kept.specs.Dual.{IsDual}
use Rattle.lab_records_kept.specs.Limits.{IsWithin}
use Rattle.lab_records_keeper.specs.Worlds.{Places}
use Rattle.lab_store_tables.specs.Rows.{Tables}
use Rattle.lab_store_tables.specs.Meaning.{lab_in, meaning}
use Rattle.lab_store_tables.specs.WellKept.{AreWellKept}
use Rattle.lab_store_tables.specs.Held.{AreRising}
use Rattle.lab_store_tables.specs.Changes.{InTurn, AddsPerson, SetsPerson, AddsSession, AddsForm, AddsRecord, AddsTold}
use Rattle.lab_store_tables.specs.Placing.{lab_row_of, put_lab, unasked, is_asked_for, PlacesLab}
use Rattle.lab_store_tables.specs.Steps.{StepsBy}
use Rattle.lab_move_write.specs.Placings.{whole_changes, PlacesByRules}
use Rattle.lab_move_write.proofs.PlacingWords.{emptied}
use Rattle.lab_move_write.proofs.Comings.{come_in_turn}
use Rattle.lab_move_write.proofs.OwnRow.{absent_by_rules, nothing_there, row_found, others_stay, row_kept, still_rising}
use Rattle.lab_move_write.proofs.WholeLab.{whole_comes}

pub lab_is_placed : (old new : Tables) (lab : Lab) → AreRising old → AreWellKept old → PlacesByRules lab old new → IsWithin lab → IsBound lab → IsDual lab
    → Places lab (meaning old) (meaning new) × AreWellKept new
lab_is_placed old new lab rising well it within bound dual =
    let absent = absent_by_rules old lab it.id it.free it.rules in
    let row = lab_row_of it.id lab in
    let begun = put_lab row old in
    let found = row_found old rising well lab it.id it.free absent in
    let bare = nothing_there old rising well lab it.id it.free absent in
    let comes = whole_comes lab within bound dual in
    let done = come_in_turn lab.code (whole_changes lab) begun new it.id row (emptied lab) found refl bare
    (still_rising old rising well lab it.id it.free absent) (row_kept old rising well lab it.id it.free absent it.rules) comes.0 it.steps in (
      record {
        was_none = ap (option_map (lab_in old)) absent;
        placed = record {
          here = done.0.here ∙ ap (λ o. changed_in o (whole_changes lab)) (ap (option_map (lab_in begun)) found ∙ ap Some bare) ∙ ap Some comes.1;
          others = λ other differs. done.0.others other differs ∙ others_stay old rising well lab it.id it.free absent other differs;
        };
      },
      done.1,
    )

-- ---- kind by kind

split_turns : {A : Type 0} (step : A → Tables → Tables → Type 0) (xs ys : List A) (old new : Tables) → InTurn step (xs ++ ys) old new
    → (middle : Tables) × InTurn step xs old middle × InTurn step ys middle new
split_turns step [] ys old new it = (old, refl, it)
split_turns step (x ∷ xs) ys old new it = let more = split_turns step xs ys it.0 new it.2 in (more.0, (it.0, it.1, more.1), more.2)

kind_turns : {A : Type 0} (id : ℤ) (as_change : A → Change) (step : A → Tables → Tables → Type 0)
    → ((one : A) (old new : Tables) → StepsBy id (as_change one) old new → step one old new)
    → (items : List A) (old new : Tables) → InTurn (StepsBy id) (map as_change items) old new → InTurn step items old new
kind_turns id as_change step each [] old new it = it
kind_turns id as_change step each (one ∷ others) old new it =
    (it.0, each one old it.0 it.1, kind_turns id as_change step each others it.0 new it.2)

pub rows_are_placed : (old new : Tables) (lab : Lab) → PlacesByRules lab old new → PlacesLab lab old new
rows_are_placed old new lab it =
    let begun = put_lab (lab_row_of it.id lab) old in
    let with_persons = map PersonAdded (map unasked lab.persons) in
    let with_asks = with_persons ++ map PersonSet (filter is_asked_for lab.persons) in
    let with_sessions = with_asks ++ map SessionAdded lab.sessions in
    let with_forms = with_sessions ++ map FormAdded lab.forms in
    let with_records = with_forms ++ map RecordAdded lab.records in
    let trail = split_turns (StepsBy it.id) with_records (map TrailAdded lab.trail) begun new it.steps in
    let records = split_turns (StepsBy it.id) with_forms (map RecordAdded lab.records) begun trail.0 trail.1 in
    let forms = split_turns (StepsBy it.id) with_sessions (map FormAdded lab.forms) begun records.0 records.1 in
    let sessions = split_turns (StepsBy it.id) with_asks (map SessionAdded lab.sessions) begun forms.0 forms.1 in
    let asks = split_turns (StepsBy it.id) with_persons (map PersonSet (filter is_asked_for lab.persons)) begun sessions.0 sessions.1 in
    record {
      absent = absent_by_rules old lab it.id it.free it.rules;
      id = it.id;
      free = it.free;
      enrolled = asks.0;
      persons = kind_turns it.id PersonAdded (AddsPerson it.id) (λ one a b step. step.applies) (map unasked lab.persons) begun asks.0 asks.1;
      asked = sessions.0;
      asks = kind_turns it.id PersonSet (SetsPerson it.id) (λ one a b step. step.applies) (filter is_asked_for lab.persons) asks.0 sessions.0 asks.2;
      opened = forms.0;
      sessions = kind_turns it.id SessionAdded (AddsSession it.id) (λ one a b step. step.applies) lab.sessions sessions.0 forms.0 sessions.2;
      formed = records.0;
      forms = kind_turns it.id FormAdded (AddsForm it.id) (λ one a b step. step.applies) lab.forms forms.0 records.0 forms.2;
      filed = trail.0;
      records = kind_turns it.id RecordAdded (AddsRecord it.id) (λ one a b step. step.applies) lab.records records.0 trail.0 records.2;
      trail = kind_turns it.id TrailAdded (AddsTold it.id) (λ one a b step. step.applies) lab.trail trail.0 new trail.2;
    }
