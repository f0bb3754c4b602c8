-- What a crash may leave of a run: of one event, by what its call says of crashes, and of a run that
-- goes on by one event.
use Rattle.std.proofs.Common.{◌≡◌, ℕ, Bool, true, false, cond, List, [], ◌∷◌, ◌++◌, ◌+◌, ◌<◌, append_assoc, get_or, length, take, Option, Some, None, Result, Ok, Err, refl, sym, ◌∙◌, ap, subst, inl, inr}
use Rattle.std.specs.Prelude.{◌⊎◌, IsFalse, IsOk, IsTrue, OnErr, bytes_eq}
use Rattle.std.proofs.lemmas.Bool.{false≢true}
use Rattle.std.proofs.lemmas.Slice.Eq.{bytes_eq-Decides}
use Rattle.lab_forms_texts.specs.declared.tick.Tick.{Tick}
use Rattle.lab_records_kept.specs.declared.changes.Change.{Change}
use Rattle.lab_records_keeper.specs.declared.keeper.Keeper.{Ghosts}
use Rattle.lab_records_kept.specs.declared.labs.Lab.{Lab}
use Rattle.lab_records_kept.specs.Changes.{changed_in}
use Rattle.lab_records_kept.specs.Parts.{part}
use Rattle.lab_records_keeper.specs.Worlds.{World, Meaning, CommitsAs, IsDurable, Leaves, Lives, Quiet, SameMeaning}
use Rattle.lab_records_machine.specs.declared.commands.Instruction.{Instruction}
use Rattle.lab_records_machine.specs.Machine.{step}
use Rattle.lab_records_machine.specs.Needs.{need_of}
use Rattle.lab_records_laws.specs.Deciding.{decided}
use Rattle.lab_records_laws.proofs.Passing.{decided_is}
use Rattle.lab_wire.specs.declared.refusals.RequestRefusal.{RequestRefusal}
use Rattle.lab_wire.specs.Asked.{asked}
use Rattle.lab_records_keeper.specs.declared.faults.PlacingFault.TheVariants.{LabExists, Storage, Memory as NoMemory}
use Rattle.lab_desk_foundings.specs.declared.faults.FoundFault.{FoundFault}
use Rattle.lab_desk_foundings.specs.declared.faults.FoundFault.TheVariants.{Body as OfBody, Birth as OfBirth, Placing}
use Rattle.lab_desk_foundings.specs.Faults.{OnBody, OnKept, OnUncommitted, is_taken}
use Rattle.lab_desk_foundings.specs.Foundings.{Births, after_birth, born_of, founding_in}
use Rattle.lab_desk_events.specs.declared.events.Event.{Event}
use Rattle.lab_desk_events.specs.declared.events.Event.TheVariants.{Found, Call}
use Rattle.lab_desk_events.specs.Requests.{AskedInBytes, Steps, changes_for, is_idle, is_idle_request, is_none}
use Rattle.lab_desk_events.specs.Alone.{Happening, Founding, Request, happening, Founds, Obeys, own_call, own_of, alone_after}
use Rattle.lab_desk_events.specs.Keeping.{AreReleasing, AreWithin, Stays}
use Rattle.lab_desk_events.specs.Leaving.{AreTakenButLast, IsLeftBy, IsLiveToLast, LeavesRun, as_told}
use Rattle.lab_desk_events.specs.Private.Leaving.{LeavesByOne, Settles}
use Rattle.lab_desk_events.proofs.LeavingWords.{AreTaken}
use Rattle.lab_desk_events.specs.Runs.{Handled, IsAccountOf, after_run, own_events}
use Rattle.lab_desk_events.proofs.Running.{after_own_one, after_one, after_then, other_code, told_more}

-- ---- meanings

pub same_then : (first next last : Meaning) → SameMeaning first next → SameMeaning next last →
    SameMeaning first last
same_then first next last one other code = other code ∙ one code

-- the same events from laboratories that are the same
pub same_after : (one other : Meaning) (handled : List Handled) → SameMeaning one other →
    SameMeaning (after_run one handled) (after_run other handled)
same_after one other handled same code =
    ap (λ (lab : Option Lab). alone_after code lab (own_events code handled)) (same code)

-- a refused event changes nothing
untaken_same : (start : Meaning) (event : Happening) (taken : Bool) → taken ≡ false →
    SameMeaning start (after_run start (as_told event taken ∷ []))
untaken_same start event taken refused code =
    ap (λ (told : Bool). alone_after code (start code)
    (own_events code (as_told event told ∷ []))) refused

-- what is told of one event
event_after : (start held : Meaning) (event : Happening) →
    ((code : List ℕ) → held code ≡ after_one code (start code) (own_of code event)) →
    SameMeaning (after_run start (as_told event true ∷ [])) held
event_after start held event made code =
    made code ∙ after_own_one code (start code) (own_of code event)

-- ---- a run goes on

module _ (start mid : Meaning) (before between : Meaning → Type 0) (first : List Handled)
    (event : Happening) (taken : Bool) (same : SameMeaning (after_run start first) mid) where
  joined : (told : Bool) → SameMeaning (after_run start (first ++ as_told event told ∷ []))
      (after_run mid (as_told event told ∷ []))
  joined told code =
      same_after (after_run start first) mid (as_told event told ∷ []) same code
      ∙ sym (after_then start first (as_told event told ∷ []) code)

  -- nothing has changed since
  unchanged : SameMeaning mid (after_run mid (as_told event taken ∷ [])) →
      SameMeaning (after_run start first) (after_run start (first ++ as_told event taken ∷ []))
  unchanged still code = sym (joined taken code) ∙ still code ∙ same code

  left_still : (held : Meaning) →
      SameMeaning mid (after_run mid (as_told event taken ∷ [])) →
      IsLeftBy start before first held → IsLeftBy start before (first ++ as_told event taken ∷ []) held
  left_still held still so = elim so [
    | inl whole ↦ inl (λ code. whole code ∙ sym (unchanged still code))
    | inr other ↦ elim other [
      | inl front ↦ inr (inl (record {
        front = front.front;
        one = front.one;
        rest = front.rest ++ as_told event taken ∷ [];
        are = ap (λ (all : List Handled). all ++ as_told event taken ∷ []) front.are
            ∙ append_assoc front.front (front.one ∷ front.rest) (as_told event taken ∷ []);
        refused = front.refused;
        made = front.made;
        since = same_then (after_run start front.front) (after_run start first)
            (after_run start (first ++ as_told event taken ∷ [])) front.since (unchanged still);
      }))
      | inr early ↦ inr (inr (
        early.0,
        same_then start (after_run start first) (after_run start (first ++ as_told event taken ∷ [])) early.1
            (unchanged still),
      ))
    ]
  ]

  pub left_then : (held : Meaning) → (between held → IsLeftBy start before first held) →
      SameMeaning (after_run mid (as_told event taken ∷ [])) held
      ⊎ (((taken ≡ false) × SameMeaning (after_run mid (as_told event true ∷ [])) held)
      ⊎ (between held
      × SameMeaning mid (after_run mid (as_told event taken ∷ [])))) →
      IsLeftBy start before (first ++ as_told event taken ∷ []) held
  left_then held so next = elim next [
    | inl whole ↦ inl (same_then (after_run start (first ++ as_told event taken ∷ []))
        (after_run mid (as_told event taken ∷ [])) held (joined taken) whole)
    | inr other ↦ elim other [
      | inl made ↦ inr (inl (record {
        front = first;
        one = as_told event taken;
        rest = [];
        are = refl;
        refused = made.0;
        made = same_then (after_run start (first ++ as_told event true ∷ []))
            (after_run mid (as_told event true ∷ [])) held (joined true) made.1;
        since = unchanged (untaken_same mid event taken made.0);
      }))
      | inr early ↦ left_still held early.1 (so early.0)
    ]
  ]

-- ---- a call

-- a step that writes nothing changes nothing
nothing_made : (lab : Lab) (changes : List Change) → IsTrue (is_none changes) →
    changed_in (Some lab) changes ≡ Some lab
nothing_made lab [] is = refl
nothing_made lab (one ∷ others) is = absurd (cc)

idle_step : (lab : Option Lab) (tick : Tick) (instruction : Instruction) →
    IsTrue (is_idle lab tick instruction) → (step lab tick instruction).after ≡ lab
unfolding changes_for
idle_step None tick instruction idle = refl
idle_step (Some lab) tick instruction idle =
    (decided_is lab tick instruction).after
    ∙ nothing_made lab (decided (part (need_of tick instruction) lab) tick instruction.command).changes
    idle

idle_call : (start : Meaning) (tick : Tick) (asks : AskedInBytes) →
    IsTrue (is_idle_request start tick asks) → (code : List ℕ) →
    start code ≡ after_one code (start code) (own_call code tick asks)
idle_call start tick (Err refusal) idle code = refl
idle_call start tick (Ok asks) idle code = go (bytes_eq asks.lab code) refl
  where
    go : (b : Bool) → bytes_eq asks.lab code ≡ b →
        start code
        ≡ after_one code (start code) (cond b (Some (Obeys tick asks.instruction)) None)
    go true names = sym (idle_step (start code) tick asks.instruction
        (subst (λ (named : List ℕ). IsTrue (is_idle (start named) tick asks.instruction))
        ((bytes_eq-Decides asks.lab code).0 names) idle))
    go false names = refl

call_steps : (start held : Meaning) (tick : Tick) (asks : AskedInBytes) → Steps tick asks start held →
    (code : List ℕ) → held code ≡ after_one code (start code) (own_call code tick asks)
call_steps start held tick (Err refusal) steps code = steps code
call_steps start held tick (Ok asks) steps code = go (bytes_eq asks.lab code) refl
  where
    go : (b : Bool) → bytes_eq asks.lab code ≡ b →
        held code
        ≡ after_one code (start code) (cond b (Some (Obeys tick asks.instruction)) None)
    go true names = subst (λ (named : List ℕ). held named
        ≡ (step (start named) tick asks.instruction).after)
        ((bytes_eq-Decides asks.lab code).0 names) steps.here
    go false names = steps.others code (other_code asks.lab code names)

-- what its call says of crashes
pub record CallLeaves (old new : World) (tick : Tick) (asks : AskedInBytes) (taken : Bool) : Type 0 where
  pub after : taken ≡ true → Steps tick asks old.meaning new.meaning
  pub crash : CommitsAs (Steps tick asks) old new
  pub quiet : IsTrue (is_idle_request old.meaning tick asks) → Quiet old new
  pub durable : IsFalse (is_idle_request old.meaning tick asks) → taken ≡ true →
      IsDurable new

module _ (old new : World) (tick : Tick) (asks : AskedInBytes) (live : old.is_live) where
  idle_leaves : (taken : Bool) → CallLeaves old new tick asks taken →
      IsTrue (is_idle_request old.meaning tick asks) →
      LeavesByOne old new (Request tick asks) taken
  idle_leaves true leaves idle held left = inr (inr (
    leaves.quiet idle live held left,
    λ code. sym (event_after old.meaning old.meaning (Request tick asks)
        (idle_call old.meaning tick asks idle) code),
  ))
  idle_leaves false leaves idle held left = inr (inr (
    leaves.quiet idle live held left,
    untaken_same old.meaning (Request tick asks) false refl,
  ))

  busy_leaves : (taken : Bool) → CallLeaves old new tick asks taken →
      IsFalse (is_idle_request old.meaning tick asks) →
      LeavesByOne old new (Request tick asks) taken
  busy_leaves true leaves busy held left = inl (same_then
      (after_run old.meaning (as_told (Request tick asks) true ∷ [])) new.meaning held
      (event_after old.meaning new.meaning (Request tick asks)
      (call_steps old.meaning new.meaning tick asks (leaves.after refl)))
      ((leaves.durable busy refl).0 held left))
  busy_leaves false leaves busy held left = elim (leaves.crash live held left) [
    | inl early ↦ inr (inr (early, untaken_same old.meaning (Request tick asks) false refl))
    | inr made ↦ inr (inl (
      refl,
      event_after old.meaning held (Request tick asks)
          (call_steps old.meaning held tick asks made),
    ))
  ]

  by_idle : (taken : Bool) → CallLeaves old new tick asks taken →
      (idle : Bool) → is_idle_request old.meaning tick asks ≡ idle →
      LeavesByOne old new (Request tick asks) taken
  by_idle taken leaves true is = idle_leaves taken leaves is
  by_idle taken leaves false is = busy_leaves taken leaves is

-- a request, taken or refused
pub request_leaves : (old new : World) (tick : Tick) (asks : AskedInBytes) (taken : Bool) →
    CallLeaves old new tick asks taken → old.is_live →
    LeavesByOne old new (Request tick asks) taken
request_leaves old new tick asks taken leaves live =
    by_idle old new tick asks live taken leaves (is_idle_request old.meaning tick asks) refl

-- so is a call
pub call_leaves : (old new : World) (event : Event) (tick : Tick) (bytes read : List ℕ)
    (taken : Bool) → event ≡ Call tick bytes → read ≡ bytes →
    CallLeaves old new tick (asked read) taken → old.is_live →
    LeavesByOne old new (happening event) taken
call_leaves old new event tick bytes read taken is reads leaves live =
    rw (is, ← reads) (request_leaves old new tick (asked read) taken leaves live)

-- ---- a founding

-- one that was refused and taken all the same left every laboratory
pub settles_refused : {S : Type 0} (world : S → World) (old new : S)
    (result : Result (Unit {0}) FoundFault) (fault : FoundFault) → result ≡ Err fault →
    is_taken fault ≡ true → OnUncommitted result (Quiet (world old) (world new)) →
    OnErr result (Leaves (world old) (world new)) → OnBody result (new ≡ old) →
    OnKept result (Lives (world old) (world new)) → Settles (world old) (world new)
settles_refused {S} world old new result fault is taken quiet left same lives =
    go fault taken (rw is at quiet) (rw is at left) (rw is at same) (rw is at lives)
  where
    go : (told : FoundFault) → is_taken told ≡ true →
        OnUncommitted (Err told) (Quiet (world old) (world new)) →
        Leaves (world old) (world new) → OnBody (Err told) (new ≡ old) →
        OnKept (Err told) (Lives (world old) (world new)) → Settles (world old) (world new)
    go (OfBody refusal) taken quiet left same lives = inr (
      quiet,
      λ live code. left (subst (λ (kept : S). (world kept).is_live) (sym same) live) code,
    )
    go (OfBirth refusal) taken quiet left same lives = inr (
      quiet,
      λ live code. left (subst (λ (kept : S). (world kept).is_live) (sym same) live) code,
    )
    go (Placing LabExists) taken quiet left same lives = inr (quiet, λ live code. left lives.1 code)
    go (Placing Storage) taken quiet left same lives = absurd (false≢true taken)
    go (Placing NoMemory) taken quiet left same lives = absurd (false≢true taken)

found_steps : (start held : Meaning) (lab : List ℕ) (tick : Tick) (body : List ℕ) →
    Births lab tick (founding_in body) start held → (code : List ℕ) →
    held code ≡ after_one code (start code) (own_of code (Founding lab tick body))
found_steps start held lab tick body births code = go (bytes_eq lab code) refl
  where
    go : (b : Bool) → bytes_eq lab code ≡ b →
        held code ≡ after_one code (start code) (cond b (Some (Founds tick body)) None)
    go true names = subst (λ (named : List ℕ). held named
        ≡ after_birth (start named) (born_of (start named) named tick (founding_in body)))
        ((bytes_eq-Decides lab code).0 names) births.here
    go false names = births.others code (other_code lab code names)

module _ (old new : World) (lab : List ℕ) (tick : Tick) (body : List ℕ) (live : old.is_live)
    (crash : CommitsAs (Births lab tick (founding_in body)) old new) where
  made_so : (taken : Bool) →
      (taken ≡ true → Births lab tick (founding_in body) old.meaning new.meaning) →
      (taken ≡ true → Settles old new) → LeavesByOne old new (Founding lab tick body) taken
  made_so true after settles held left =
      let made = event_after old.meaning new.meaning (Founding lab tick body)
      (found_steps old.meaning new.meaning lab tick body (after refl)) in
      elim (settles refl) [
        | inl durable ↦ inl (same_then
            (after_run old.meaning (as_told (Founding lab tick body) true ∷ [])) new.meaning held
            made (durable.0 held left))
        | inr quiet ↦ inr (inr (
          quiet.0 live held left,
          λ code. sym (made code) ∙ quiet.1 live code,
        ))
      ]
  made_so false after settles held left = elim (crash live held left) [
    | inl early ↦ inr (inr (early, untaken_same old.meaning (Founding lab tick body) false refl))
    | inr made ↦ inr (inl (
      refl,
      event_after old.meaning held (Founding lab tick body)
          (found_steps old.meaning held lab tick body made),
    ))
  ]

-- a founding, taken or refused
pub found_leaves : (old new : World) (event : Event) (lab : List ℕ) (tick : Tick)
    (body read : List ℕ) (taken : Bool) → event ≡ Found lab tick body → read ≡ body →
    CommitsAs (Births lab tick (founding_in read)) old new →
    (taken ≡ true → Births lab tick (founding_in read) old.meaning new.meaning) →
    (taken ≡ true → Settles old new) → old.is_live →
    LeavesByOne old new (happening event) taken
found_leaves old new event lab tick body read taken is reads crash after settles live =
    rw (is, ← reads) (made_so old new lab tick read live crash taken after settles)

-- ---- a taken event leaves the keeper live

-- a founding that was refused and taken all the same shut nothing
pub lives_refused : {S : Type 0} (world : S → World) (old new : S)
    (result : Result (Unit {0}) FoundFault) (fault : FoundFault) → result ≡ Err fault →
    is_taken fault ≡ true → OnBody result (new ≡ old) →
    OnKept result (Lives (world old) (world new)) → (world old).is_live → (world new).is_live
lives_refused {S} world old new result fault is taken same lives =
    go fault taken (rw is at same) (rw is at lives)
  where
    go : (told : FoundFault) → is_taken told ≡ true → OnBody (Err told) (new ≡ old) →
        OnKept (Err told) (Lives (world old) (world new)) → (world old).is_live →
        (world new).is_live
    go (OfBody refusal) taken same lives live = subst (λ (kept : S). (world kept).is_live) (sym same) live
    go (OfBirth refusal) taken same lives live = subst (λ (kept : S). (world kept).is_live) (sym same) live
    go (Placing LabExists) taken same lives live = lives.1
    go (Placing Storage) taken same lives live = absurd (false≢true taken)
    go (Placing NoMemory) taken same lives live = absurd (false≢true taken)

-- nor did a request that was taken
pub request_lives : {S : Type 0} (world : S → World) (old new : S) (asks : AskedInBytes) →
    (IsOk asks → Lives (world old) (world new)) →
    ((refusal : RequestRefusal) → asks ≡ Err refusal → new ≡ old) →
    (world old).is_live → (world new).is_live
request_lives {S} world old new (Err refusal) lives same live =
    subst (λ (kept : S). (world kept).is_live) (sym (same refusal refl)) live
request_lives world old new (Ok asks) lives same live = (lives refl).1

taken_front : (taken : List Bool) (last : Bool) → AreTakenButLast (taken ++ last ∷ []) →
    AreTaken taken
taken_front [] last are = tt
taken_front (one ∷ []) last are = (are.0, tt)
taken_front (one ∷ next ∷ others) last are = (are.0, taken_front (next ∷ others) last are.1)

taken_then : (taken : List Bool) (last : Bool) → AreTaken (taken ++ last ∷ []) →
    AreTaken taken × (last ≡ true)
taken_then [] last are = (tt, are.0)
taken_then (one ∷ others) last are =
    let rest = taken_then others last are.1 in ((are.0, rest.0), rest.1)

-- ---- a run

module _ {S : Type 0} (keeper : Ghosts S) where
  -- so far, and what is kept: by whether the keeper was live before the last event
  pub record LeavesSoFar (old new : S) (events : List Happening) (taken : List Bool) : Type 0 where
    pub before : S
    pub lives : (keeper.world new).is_live → (keeper.world before).is_live
    pub leaves : LeavesRun (keeper.world before).is_live (keeper.world old) (keeper.world new)
        events taken
    pub kept : (keeper.world new).is_live →
        SameMeaning (after_run (keeper.world old).meaning leaves.handled) (keeper.world new).meaning

  -- and it was, where each event but the last was taken
  pub record LivesSoFar (old before new : S) (taken : List Bool) : Type 0 where
    pub to_last : (keeper.world old).is_live → AreTakenButLast taken →
        (keeper.world before).is_live
    pub to_end : (keeper.world old).is_live → AreTaken taken → (keeper.world new).is_live

  -- before the first event
  pub leaves_none : (kept : S) (events : List Happening) → LeavesSoFar kept kept (take 0 events) []
  leaves_none kept events = record {
    before = kept;
    lives = λ live. live;
    leaves = record {
      handled = [];
      told = record { events_are = refl; taken_are = refl };
      left = λ live held left. inr (inr (left, λ code. refl));
      safe = λ live safe. safe;
      left_within = λ live left. left;
      left_releasing = λ live releasing left. left;
    };
    kept = λ live code. refl;
  }

  lives_none : (kept : S) → LivesSoFar kept kept kept []
  lives_none kept = record { to_last = λ live are. live; to_end = λ live are. live }

  -- what comes next: an event, and what its call says
  pub record ComesNext (old mid new : S) (event : Happening) (taken : Bool) : Type 0 where
    pub back : (keeper.world new).is_live → (keeper.world mid).is_live
    pub leaves : (keeper.world mid).is_live →
        LeavesByOne (keeper.world mid) (keeper.world new) event taken
    pub stays : Stays (keeper.world mid) (keeper.world new)
    pub within : AreWithin (keeper.world mid)
    pub releasing : AreReleasing (keeper.world old) → AreReleasing (keeper.world mid)
    pub after : (keeper.world new).is_live →
        SameMeaning (after_run (keeper.world mid).meaning (as_told event taken ∷ []))
        (keeper.world new).meaning

  -- one event more, of which this is told
  pub leaves_on : (old mid new : S) (events next : List Happening) (taken nexts : List Bool)
      (event : Happening) (told : Bool) (so : LeavesSoFar old mid events taken) →
      IsAccountOf next nexts (so.leaves.handled ++ as_told event told ∷ []) →
      ComesNext old mid new event told → LeavesSoFar old new next nexts
  leaves_on old mid new events next taken nexts event told so are comes =
      let first = so.leaves.handled in
      let one : Handled = as_told event told in
      record {
        before = mid;
        lives = comes.back;
        leaves = record {
          handled = first ++ one ∷ [];
          told = are;
          left = λ live held left.
              left_then (keeper.world old).meaning (keeper.world mid).meaning
              (keeper.world old).may_leave (keeper.world mid).may_leave first event told
              (so.kept live) held (λ early. so.leaves.left (so.lives live) held early)
              (comes.leaves live held left);
          safe = λ live safe. comes.stays.safe live (so.leaves.safe (so.lives live) safe);
          left_within = λ live left.
              comes.stays.left_within live comes.within
              (so.leaves.left_within (so.lives live) left);
          left_releasing = λ live releasing left.
              comes.stays.left_releasing live (comes.releasing releasing)
              (so.leaves.left_releasing (so.lives live) releasing left);
        };
        kept = λ live. same_then
            (after_run (keeper.world old).meaning (first ++ one ∷ []))
            (after_run (keeper.world mid).meaning (one ∷ [])) (keeper.world new).meaning
            (joined (keeper.world old).meaning (keeper.world mid).meaning
            (keeper.world old).may_leave (keeper.world mid).may_leave first event told
            (so.kept (comes.back live)) told) (comes.after live);
      }

  pub leaves_more : (old mid new : S) (events : List Happening) (at : ℕ) (taken : List Bool)
      (event : Happening) (told : Bool) → event ≡ get_or events at event → at < length events →
      LeavesSoFar old mid (take at events) taken → ComesNext old mid new event told →
      LeavesSoFar old new (take (at + 1) events) (taken ++ told ∷ [])
  leaves_more old mid new events at taken event told is inside so comes =
      leaves_on old mid new (take at events) (take (at + 1) events) taken (taken ++ told ∷ []) event
      told so
      (told_more events at taken so.leaves.handled (as_told event told) is inside so.leaves.told)
      comes

  -- between two events, where nothing was done
  pub record ComesBetween (old mid new : S) : Type 0 where
    pub back : (keeper.world new).is_live → (keeper.world mid).is_live
    pub quiet : Quiet (keeper.world mid) (keeper.world new)
    pub same : Leaves (keeper.world mid) (keeper.world new)
    pub stays : Stays (keeper.world mid) (keeper.world new)
    pub within : AreWithin (keeper.world mid)
    pub releasing : AreReleasing (keeper.world old) → AreReleasing (keeper.world mid)

  pub leaves_between : (old mid new : S) (events : List Happening) (taken : List Bool) →
      LeavesSoFar old mid events taken → ComesBetween old mid new →
      LeavesSoFar old new events taken
  leaves_between old mid new events taken so comes = record {
    before = mid;
    lives = comes.back;
    leaves = record {
      handled = so.leaves.handled;
      told = so.leaves.told;
      left = λ live held left.
          so.leaves.left (so.lives live) held (comes.quiet live held left);
      safe = λ live safe. comes.stays.safe live (so.leaves.safe (so.lives live) safe);
      left_within = λ live left.
          comes.stays.left_within live comes.within
          (so.leaves.left_within (so.lives live) left);
      left_releasing = λ live releasing left.
          comes.stays.left_releasing live (comes.releasing releasing)
          (so.leaves.left_releasing (so.lives live) releasing left);
    };
    kept = λ live. same_then (after_run (keeper.world old).meaning so.leaves.handled)
        (keeper.world mid).meaning (keeper.world new).meaning (so.kept (comes.back live))
        (comes.same live);
  }

  lives_more : (old before mid new : S) (taken : List Bool) (told : Bool) →
      LivesSoFar old before mid taken →
      (told ≡ true → (keeper.world mid).is_live → (keeper.world new).is_live) →
      LivesSoFar old mid new (taken ++ told ∷ [])
  lives_more old before mid new taken told so on = record {
    to_last = λ live are. so.to_end live (taken_front taken told are);
    to_end = λ live are.
        let all = taken_then taken told are in
        on all.1 (so.to_end live all.0);
  }

  -- both
  pub record LeavesLiving (old new : S) (events : List Happening) (taken : List Bool) : Type 0 where
    pub so : LeavesSoFar old new events taken
    pub lives : LivesSoFar old so.before new taken

  pub living_none : (kept : S) (events : List Happening) →
      LeavesLiving kept kept (take 0 events) []
  unfolding leaves_none
  living_none kept events = record { so = leaves_none kept events; lives = lives_none kept }

  pub living_more : (old mid new : S) (events : List Happening) (at : ℕ) (taken : List Bool)
      (event : Happening) (told : Bool) → event ≡ get_or events at event → at < length events →
      LeavesLiving old mid (take at events) taken → ComesNext old mid new event told →
      (told ≡ true → (keeper.world mid).is_live → (keeper.world new).is_live) →
      LeavesLiving old new (take (at + 1) events) (taken ++ told ∷ [])
  unfolding leaves_more leaves_on
  living_more old mid new events at taken event told is inside living next on = record {
    so = leaves_more old mid new events at taken event told is inside living.so next;
    lives = lives_more old living.so.before mid new taken told living.lives on;
  }

  -- told by what was so before the last event
  pub leaves_of : (old new : S) (events : List Happening) (taken : List Bool) →
      LeavesLiving old new events taken →
      LeavesRun (IsLiveToLast (keeper.world old) (keeper.world new) taken) (keeper.world old)
      (keeper.world new) events taken
  leaves_of old new events taken living =
      let so = living.so in
      let was : IsLiveToLast (keeper.world old) (keeper.world new) taken →
      (keeper.world so.before).is_live =
      λ is. elim is [
        | inl live ↦ so.lives live
        | inr early ↦ living.lives.to_last early.0 early.1
      ] in
      record {
        handled = so.leaves.handled;
        told = so.leaves.told;
        left = λ is. so.leaves.left (was is);
        safe = λ is. so.leaves.safe (was is);
        left_within = λ is. so.leaves.left_within (was is);
        left_releasing = λ is. so.leaves.left_releasing (was is);
      }

  -- ---- a run of which each event found a live keeper, where the first one did

  pub record LeavesAwake (old new : S) (events : List Happening) (taken : List Bool) : Type 0 where
    pub so : LeavesSoFar old new events taken
    pub woken : (keeper.world old).is_live → (keeper.world so.before).is_live

  pub awake_none : (kept : S) (events : List Happening) → LeavesAwake kept kept (take 0 events) []
  unfolding leaves_none
  awake_none kept events = record { so = leaves_none kept events; woken = λ live. live }

  pub awake_on : (old mid new : S) (events next : List Happening) (taken nexts : List Bool)
      (event : Happening) (told : Bool) (awake : LeavesAwake old mid events taken) →
      IsAccountOf next nexts (awake.so.leaves.handled ++ as_told event told ∷ []) →
      ComesNext old mid new event told →
      ((keeper.world old).is_live → (keeper.world mid).is_live) → LeavesAwake old new next nexts
  unfolding leaves_on
  awake_on old mid new events next taken nexts event told awake are comes woken = record {
    so = leaves_on old mid new events next taken nexts event told awake.so are comes;
    woken = woken;
  }

  pub awake_between : (old mid new : S) (events : List Happening) (taken : List Bool) →
      LeavesAwake old mid events taken → ComesBetween old mid new →
      ((keeper.world old).is_live → (keeper.world mid).is_live) → LeavesAwake old new events taken
  unfolding leaves_between
  awake_between old mid new events taken awake comes woken = record {
    so = leaves_between old mid new events taken awake.so comes;
    woken = woken;
  }

  pub leaves_awake : (old new : S) (events : List Happening) (taken : List Bool) →
      LeavesAwake old new events taken →
      LeavesRun (keeper.world old).is_live (keeper.world old) (keeper.world new) events taken
  leaves_awake old new events taken awake = record {
    handled = awake.so.leaves.handled;
    told = awake.so.leaves.told;
    left = λ live. awake.so.leaves.left (awake.woken live);
    safe = λ live. awake.so.leaves.safe (awake.woken live);
    left_within = λ live. awake.so.leaves.left_within (awake.woken live);
    left_releasing = λ live. awake.so.leaves.left_releasing (awake.woken live);
  }
