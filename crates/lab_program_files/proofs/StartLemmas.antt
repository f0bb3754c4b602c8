-- What the next start finds, and that a file without a byte is found empty.
use Rattle.std.proofs.Common.{◌≡◌, ◌∙◌, ◌≤◌, ℕ, List, [], ◌∷◌, ◌++◌, Bool, true, ap, arith, inl, inr, refl, subst, sym}
use Rattle.std.specs.Prelude.{IsTrue, Option, Some, None, Result, Ok, Err, ℤ, false}
use Rattle.std.proofs.lemmas.Bool.{false≢true}
use Rattle.std.specs.List.{AllZip}
use Rattle.sqlite_trees.specs.Tree.{Trees}
use Rattle.sqlite_trees.specs.declared.store.Store.{Ghosts}
use Rattle.sqlite_schema.specs.declared.schema.Schema.{Schema}
use Rattle.sqlite_catalog.specs.Listing.{IsIndexRow, IsTableRow, IsViewRow, Lists}
use Rattle.sqlite_wal.specs.Recovery.{Image}
use Rattle.sqlite.specs.Effect.{Database}
use Rattle.sqlite.specs.Held.{Held, state}
use Rattle.sqlite.specs.State.{HasCleanDisk, State}
use Rattle.lab_records_keeper.specs.declared.faults.PlacingFault.TheVariants.{LabExists, Storage as NotStored, Memory as NoMemory}
use Rattle.lab_records_keeper.specs.Worlds.{Given, Leaves, Meaning, Passes, SameMeaning, World}
use Rattle.lab_store_tables.specs.Meaning.{meaning}
use Rattle.lab_store_tables.specs.Rows.{tables_in}
use Rattle.lab_store_files.specs.NewFiles.{IsBlank, no_schema}
use Rattle.lab_store_files.specs.declared.faults.FileFault.{FileFault}
use Rattle.lab_store_files.specs.declared.faults.FileFault.TheVariants.{Memory, NotADeskFile, Storage}
use Rattle.lab_store_files.specs.Verdicts.{AnswersVerdict, file_verdict, number_shown, number_verdict, shown_verdict, whole_verdict}
use Rattle.lab_forms_texts.specs.declared.tick.Tick.{Tick}
use Rattle.lab_records_copy_out.specs.Resting.{IsOnlyRead}
use Rattle.lab_desk_foundings.proofs.Bearing.{takes_founded, takes_refused}
use Rattle.lab_desk_foundings.specs.declared.faults.FoundFault.{FoundFault}
use Rattle.lab_desk_foundings.specs.declared.faults.FoundFault.TheVariants.{Body as OfBody, Birth as OfBirth, Placing}
use Rattle.lab_desk_foundings.specs.Faults.{FoundFaultFits, found_fault_entry, is_taken}
use Rattle.lab_desk_foundings.specs.Foundings.{Body, founded_line, founding_in, refused_line}
use Rattle.lab_desk_foundings.specs.Private.Foundings.{RefusesFounding, TakesFounding}
use Rattle.lab_desk_events.specs.declared.events.Event.TheVariants.{Found}
use Rattle.lab_desk_events.specs.Alone.{Founding, Happening}
use Rattle.lab_desk_events.specs.Keeping.{AreWithin, GivenWithin}
use Rattle.lab_desk_events.specs.Leaving.{IsLeftBy, LeavesRun, as_told}
use Rattle.lab_desk_events.specs.Runs.{Handled, IsRun}
use Rattle.lab_desk_events.proofs.Leaving.{found_leaves, left_then, settles_refused}
use Rattle.lab_desk_events.proofs.Running.{no_run, one_founding, still_run}
use Rattle.lab_desk_events.specs.Starts.{AreStarts, IsAnswered, IsStopped, Start, left_by}
use Rattle.lab_program_opening.specs.Files.{AreHeldIn, IsFound, IsNew, IsOpened, IsOurs, LeavesShown}
use Rattle.lab_program_serve.specs.Visits.{AreVisits, GoesOn, Visit}
use Rattle.lab_program_serve.proofs.RunLemmas.{served_run}
use Rattle.lab_program_files.specs.FileWorlds.{file_keeper, file_rests, file_world}
use Rattle.lab_program_files.specs.Foundings.{IsFoundedAt, IsRefusedAt}
use Rattle.lab_program_files.specs.Histories.{founding_refused}
use Rattle.lab_program_files.specs.Starts.{AreSoFar, IsRunOver, IsServedOver, founding_answered, start_of}

-- ---- starts

-- of a file that was opened a crash at once leaves what was found
module _ {S : Type 0} (disk : Ghosts S) (IsHeld : Trees → Type 0) (conn : Held S)
    (ours : IsOurs disk IsHeld conn) (clean : HasCleanDisk (state disk conn)) where
  pub leaves_found : (held : Meaning) → (file_world disk conn).may_leave held →
      SameMeaning (file_world disk conn).meaning held
  leaves_found held left code = left.2 code
      ∙ ap (λ (trees : Trees). meaning (tables_in trees) code)
      (ours.2.0 clean (ours.2.1 clean).1.0.is_open left.0 left.1)

module _ {S : Type 0} (disk : Ghosts S) (opened last : Held S) (handled : List Handled)
    (run : IsRunOver disk opened last handled) (left : Meaning) where
  -- what was answered is what each laboratory's machine alone answers
  pub answered_so : IsAnswered (file_world disk opened).meaning
      (start_of handled (file_world disk opened).meaning left)
  answered_so = record {
    told = record { events_are = refl; taken_are = refl };
    alone = run.run.alone (file_world disk opened).meaning (λ live code. refl);
    keeps = run.run.keeps (file_world disk opened).meaning (λ live code. refl);
  }

  -- what a crash at the stop left, where one at the start could leave what was found alone
  pub stopped_so : ((held : Meaning) → (file_world disk opened).may_leave held →
      SameMeaning (file_world disk opened).meaning held) → (file_world disk last).may_leave left →
      IsStopped (start_of handled (file_world disk opened).meaning left)
  stopped_so only may = record {
    handled = run.leaves.handled;
    told = run.leaves.told;
    left = elim (run.leaves.left tt left may) [
      | inl whole ↦ inl whole
      | inr other ↦ elim other [
        | inl front ↦ inr (inl front)
        | inr early ↦ inr (inr (only left early.0, early.1))
      ]
    ];
  }

-- one start more
starts_and : (first : Meaning) (starts : List Start) (one : Start) → AreStarts first starts →
    SameMeaning (left_by first starts) one.found → IsAnswered one.found one → IsStopped one →
    AreStarts first (starts ++ one ∷ [])
starts_and first [] one are same answered stopped = (same, answered, stopped, tt)
starts_and first (early ∷ others) one are same answered stopped =
    (are.0, are.1, are.2, starts_and early.left others one are.3 same answered stopped)

left_by_and : (first : Meaning) (starts : List Start) (one : Start) →
    left_by first (starts ++ one ∷ []) ≡ one.left
left_by_and first [] one = refl
left_by_and first (early ∷ others) one = left_by_and early.left others one

pub one_start_more : {S : Type 0} (disk : Ghosts S) (first : Meaning) (starts : List Start)
    (opened last : Held S) (handled : List Handled) (left : Meaning) →
    AreSoFar first starts (file_world disk opened).meaning →
    IsRunOver disk opened last handled →
    ((held : Meaning) → (file_world disk opened).may_leave held →
    SameMeaning (file_world disk opened).meaning held) → (file_world disk last).may_leave left →
    AreSoFar first
    (starts ++ start_of handled (file_world disk opened).meaning left ∷ []) left
one_start_more disk first starts opened last handled left so_far run only may =
    let one = start_of handled (file_world disk opened).meaning left in (
      starts_and first starts one so_far.0 so_far.1
          (answered_so disk opened last handled run left)
          (stopped_so disk opened last handled run left only may),
      λ code. sym (ap (λ (held : Meaning). held code) (left_by_and first starts one)),
    )

-- ---- a service

-- what is told where something holds, where it does
told_so : (was_live : Type 0) (old new : World) (events : List Happening) (taken : List Bool) →
    was_live → LeavesRun was_live old new events taken → LeavesRun (Unit {0}) old new events taken
told_so was_live old new events taken is leaves = record {
  handled = leaves.handled;
  told = leaves.told;
  left = λ so. leaves.left is;
  safe = λ so. leaves.safe is;
  left_within = λ so. leaves.left_within is;
  left_releasing = λ so. leaves.left_releasing is;
}

pub served_over : {S : Type 0} (disk : Ghosts S) (reply : List ℕ) (opened last : Held S)
    (visits : List Visit) →
    GivenWithin (file_world disk opened) (file_world disk last)
    (AreVisits (file_keeper disk) (GoesOn (file_keeper disk)) reply opened visits last) →
    Passes (file_world disk opened) (file_world disk last) → (file_world disk opened).is_live →
    GivenWithin (file_world disk opened) (file_world disk last)
    (IsServedOver disk opened last visits)
served_over disk reply opened last visits are passes live within honest reached =
    let served = served_run (file_keeper disk) reply opened last visits
    (are within honest reached) within honest reached in
    record {
      handled = served.handled;
      are = served.are;
      run = record {
        run = served.run;
        leaves = told_so (file_world disk opened).is_live (file_world disk opened)
            (file_world disk last) _ _ live served.leaves;
        passes = passes;
      };
    }

-- ---- a founding

module _ {S : Type 0} (disk : Ghosts S) (opened last : Held S) (code : List ℕ) (tick : Tick)
    (bytes : List ℕ) (founded : IsFoundedAt (file_keeper disk) opened last code tick bytes)
    (passes : Passes (file_world disk opened) (file_world disk last))
    (within : AreWithin (file_world disk opened)) where
  run_of_founding : IsRun (file_world disk opened) (file_world disk last)
      (founding_answered code tick bytes ∷ [])
  run_of_founding =
      one_founding (file_world disk opened) (file_world disk last) (Found code tick bytes) code tick
      bytes bytes true (founded_line code) (founded_line code) refl refl refl
      (λ live. founded.lives.0)
      (λ taken. takes_founded (file_world disk opened) (file_world disk last)
      ((file_keeper disk).places opened last) code tick (founding_in bytes) (founded_line code) (Ok tt)
      tt refl founded.founds founded.lives refl)
      (λ refused. absurd (false≢true (sym refused)))

  pub founded_over : IsRunOver disk opened last (founding_answered code tick bytes ∷ [])
  founded_over = record {
    run = run_of_founding;
    leaves = record {
      handled = founding_answered code tick bytes ∷ [];
      told = record { events_are = refl; taken_are = refl };
      left = λ so held left. inl (λ name. founded.durable.0 held left name
          ∙ run_of_founding.after (file_world disk opened).meaning (λ live it. refl) founded.lives.1 name);
      safe = λ so safe. founded.durable.1;
      left_within = λ so. founded.stays.left_within founded.lives.0 within;
      left_releasing = λ so. founded.stays.left_releasing founded.lives.0;
    };
    passes = passes;
  }

-- ---- a founding that was refused

-- for memory, or by the store
refuses_so : (old new : World) (exists : Type 0) (code : List ℕ) (tick : Tick) (body : Body)
    (fault : FoundFault) → is_taken fault ≡ false →
    FoundFaultFits old.may_refuse exists code tick body fault → Leaves old new →
    RefusesFounding old new code tick body (refused_line (found_fault_entry fault))
refuses_so old new exists code tick body (OfBody refusal) refused fits same =
    absurd (false≢true (sym refused))
refuses_so old new exists code tick body (OfBirth refusal) refused fits same =
    absurd (false≢true (sym refused))
refuses_so old new exists code tick body (Placing LabExists) refused fits same =
    absurd (false≢true (sym refused))
refuses_so old new exists code tick body (Placing NotStored) refused fits same =
    record { answered = inr ((fits.1, fits.0), refl); same = same }
refuses_so old new exists code tick body (Placing NoMemory) refused fits same =
    record { answered = inl refl; same = same }

module _ {S : Type 0} (disk : Ghosts S) (opened last : Held S) (code : List ℕ) (tick : Tick)
    (bytes : List ℕ) (fault : FoundFault)
    (refused : IsRefusedAt (file_keeper disk) opened last code tick (founding_in bytes) fault)
    (passes : Passes (file_world disk opened) (file_world disk last))
    (within : AreWithin (file_world disk opened)) (live : (file_world disk opened).is_live)
    (honest : (file_world disk last).is_honest) (reached : (file_world disk opened).is_reached) where
  taken_so : is_taken fault ≡ true → TakesFounding (file_world disk opened) (file_world disk last)
      code tick (founding_in bytes) (refused_line (found_fault_entry fault))
  taken_so taken = takes_refused (file_world disk) opened last code tick (founding_in bytes)
      (refused_line (found_fault_entry fault)) (Err fault) fault honest reached refl (taken, refl)
      refused.fits refused.untouched refused.lives refused.same

  run_of_refusal : IsRun (file_world disk opened) (file_world disk last)
      (founding_refused code tick bytes fault ∷ [])
  run_of_refusal =
      one_founding (file_world disk opened) (file_world disk last) (Found code tick bytes) code tick
      bytes bytes (is_taken fault) (refused_line (found_fault_entry fault))
      (refused_line (found_fault_entry fault)) refl refl refl (passes.live honest) taken_so
      (λ not. refuses_so (file_world disk opened) (file_world disk last) _ code tick
      (founding_in bytes) fault not refused.fits refused.same)

  left_refused : (held : Meaning) → (file_world disk last).may_leave held →
      IsLeftBy (file_world disk opened).meaning (file_world disk opened).may_leave
      (as_told (Founding code tick bytes) (is_taken fault) ∷ []) held
  left_refused held may =
      left_then (file_world disk opened).meaning (file_world disk opened).meaning
      (file_world disk opened).may_leave (file_world disk opened).may_leave []
      (Founding code tick bytes) (is_taken fault) (λ name. refl) held
      (λ early. inr (inr (early, λ name. refl)))
      (found_leaves (file_world disk opened) (file_world disk last) (Found code tick bytes) code tick
      bytes bytes (is_taken fault) refl refl refused.crash (λ taken. (taken_so taken).after)
      (λ taken. settles_refused (file_world disk) opened last (Err fault) fault refl taken
      refused.quiet refused.same refused.untouched refused.lives) live held may)

  pub refused_over : IsRunOver disk opened last (founding_refused code tick bytes fault ∷ [])
  refused_over = record {
    run = run_of_refusal;
    leaves = record {
      handled = as_told (Founding code tick bytes) (is_taken fault) ∷ [];
      told = record { events_are = refl; taken_are = refl };
      left = λ so. left_refused;
      safe = λ so. refused.stays.safe live;
      left_within = λ so. refused.stays.left_within live within;
      left_releasing = λ so. refused.stays.left_releasing live;
    };
    passes = passes;
  }

-- ---- a move, over whose new file nothing more was done

pub moved_over : {S : Type 0} (disk : Ghosts S) (opened last : Held S) → last ≡ opened →
    LeavesShown (state disk opened) → Passes (file_world disk opened) (file_world disk last) →
    (file_world disk opened).is_live → (file_world disk opened).is_honest →
    IsRunOver disk opened last []
moved_over disk opened last same shown passes live honest =
    subst (λ made. IsRunOver disk opened made []) (sym same) (record {
      run = no_run (file_world disk opened);
      leaves = record {
        handled = [];
        told = record { events_are = refl; taken_are = refl };
        left = λ so held may. inr (inr (may, λ code. refl));
        safe = λ so safe. safe;
        left_within = λ so left. left;
        left_releasing = λ so releasing left. left;
      };
      passes = record { honest = λ h. h; live = λ h l. l; refusing = λ m. m };
    })

-- ---- a copy

pub copied_over : {S : Type 0} (disk : Ghosts S) (opened last : Held S) →
    IsOnlyRead (file_world disk) (file_rests disk) opened last → (file_world disk opened).is_live →
    Given (file_world disk opened) (file_world disk last) (IsRunOver disk opened last [])
copied_over disk opened last read live honest reached = record {
  run = still_run (file_world disk opened) (file_world disk last) (read.passes.live honest)
      (read.same honest reached);
  leaves = record {
    handled = [];
    told = record { events_are = refl; taken_are = refl };
    left = λ so held left. inr (inr (read.quiet honest reached live held left, λ code. refl));
    safe = λ so. read.safe honest reached live;
    left_within = λ so only held left. only held (read.quiet honest reached live held left);
    left_releasing = λ so releasing only held left.
        only held (read.quiet honest reached live held left);
  };
  passes = read.passes;
}

-- ---- an empty file

none_zipped : {A B : Type 0} (R : A → B → Type 0) (others : List B) → AllZip R [] others →
    others ≡ []
none_zipped R [] zipped = refl
none_zipped R (one ∷ others) zipped = absurd zipped

-- no row lists no table
unlisted : (schema : Schema) → Lists [] schema → schema ≡ no_schema
unlisted schema lists =
    let tables : schema.tables ≡ [] = none_zipped IsTableRow schema.tables lists.listed.tables in
    let indexes : schema.indexes ≡ [] = none_zipped (IsIndexRow schema.tables) schema.indexes lists.listed.indexes in
    let views : schema.views ≡ [] = none_zipped IsViewRow schema.views lists.listed.views in
    ap (λ all. record { tables = all; indexes = schema.indexes; views = schema.views }) tables
    ∙ ap (λ all. record { tables = []; indexes = all; views = schema.views }) indexes
    ∙ ap (λ all. record { tables = []; indexes = []; views = all }) views

-- a file without a byte shows no schema
pub found_blank : (image : Image) → image.db ≡ [] → (s : State) → IsFound (AreHeldIn image) s →
    IsBlank s.now
found_blank image none s found = elim found.held.reads [
  | inl adopts ↦
      let present : 1 ≤ 0 = rw none at adopts.3.found.present in
      absurd (omega (arith, present))
  | inr nothing ↦
      let sound = (found.live found.opens.is_open).1 in
      let lists : Lists [] s.committed.schema =
      subst (λ rows. Lists rows s.committed.schema) nothing.1.1 sound.lists in
      ap (λ (db : Database). db.schema) found.opens.clean ∙ unlisted s.committed.schema lists
]

-- which is none of this schema
ok_is_no_fault : {A E : Type 0} (value : A) (fault : E) → ◌≡◌ {A = Result A E} (Ok value) (Err fault) → ⊥
ok_is_no_fault value fault is = absurd (cc)

unwhole : (verdict : Result (Unit {0}) FileFault) → ◌≡◌ {A = Result (Unit {0}) FileFault} (Ok tt) (whole_verdict false verdict) → ⊥
unwhole (Ok done) is = ok_is_no_fault tt NotADeskFile is
unwhole (Err fault) is = ok_is_no_fault tt fault is

unshown : (shown : Option ℤ) → ◌≡◌ {A = Result (Unit {0}) FileFault} (Ok tt) (shown_verdict false shown) → ⊥
unshown None is = ok_is_no_fault tt NotADeskFile is
unshown (Some number) is = unwhole (number_verdict number) is

never_ours : (old new : State) → IsBlank old.now → AnswersVerdict old new (Ok tt) → ⊥
never_ours old new blank (inl (inl unnamed)) = ok_is_no_fault tt NotADeskFile unnamed.1
never_ours old new blank (inl (inr shown)) =
    unshown (number_shown shown.0)
    (subst (λ schema. ◌≡◌ {A = Result (Unit {0}) FileFault} (Ok tt) (file_verdict schema shown.0)) blank shown.2)
never_ours old new blank (inr (inl storage)) = ok_is_no_fault tt Storage storage
never_ours old new blank (inr (inr memory)) = ok_is_no_fault tt Memory memory

module _ {S : Type 0} (disk : Ghosts S) (image : Image) (none : image.db ≡ []) (conn : Held S)
    (clean : HasCleanDisk (state disk conn)) where
  pub blank_refused : IsOurs disk (AreHeldIn image) conn → ⊥
  blank_refused ours =
      let it = ours.2.1 clean in
      never_ours (state disk ours.0) (state disk conn)
      (found_blank image none (state disk ours.0) (ours.1 it.0)) it.2

  pub blank_is_new : IsNew disk (AreHeldIn image) conn → IsTrue (state disk conn).is_open
      × ((code : List ℕ) → (file_world disk conn).meaning code ≡ None)
  blank_is_new new =
      let made = new.2.2 clean
      (found_blank image none (state disk new.0) (new.1 (new.2.3.clean clean))) in (
        made.0,
        λ code. ap (λ t. meaning t code) made.1.tables,
      )

  pub blank_is_empty : IsOpened disk (AreHeldIn image) conn → IsTrue (state disk conn).is_open
      × ((code : List ℕ) → (file_world disk conn).meaning code ≡ None)
  blank_is_empty (inl ours) = absurd (blank_refused ours)
  blank_is_empty (inr new) = blank_is_new new
