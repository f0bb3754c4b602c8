-- One connection more: it is served over the keeper that was there, or over one that was opened anew, or refused.
use Rattle.std.proofs.Common.{◌≡◌, inl, inr, ◌+◌, length, ℕ, List, [], ◌∷◌, ◌++◌, Option, Some, None, Result, Ok, Err, refl, sym, ap, subst, ◌∙◌, append_assoc, arith, ◌≤◌}
use Rattle.std.specs.Prelude.{IfSome}
use Rattle.std.proofs.lemmas.List.{length-append}
use Rattle.lab_forms_texts.specs.declared.refusals.Fault.{Fault}
use Rattle.lab_records_keeper.specs.declared.faults.BadStore.{BadStore}
use Rattle.lab_records_keeper.specs.declared.keeper.Keeper.{Ghosts}
use Rattle.lab_records_keeper.specs.Worlds.{Passes, World}
use Rattle.lab_desk.specs.Desk.{Served}
use Rattle.lab_desk_events.specs.Keeping.{GivenWithin, Stays, StaysOn}
use Rattle.lab_desk_events.proofs.Lasting.{stays_after, stays_first, still_stays}
use Rattle.lab_program_host.specs.Sources.{GivesInOrder}
use Rattle.lab_program_serve.specs.Times.{AreRefused, AreTimes, BeginWith, EndWith, IsAsked, IsGivenUp, IsMended, IsMet, IsNext, IsHandledShut, IsServed, IsTime, IsUnmended, ServesTimes, Time, visits_of}
use Rattle.lab_program_serve.specs.Private.Times.{IsAskedIfAny}
use Rattle.lab_program_serve.specs.Visits.{AreCounted, AreGiven, GoesOn, KeepsGiven, Sources, Visit}
use Rattle.lab_program_serve.proofs.VisitWords.{reply_after}
use Rattle.lab_program_serve.proofs.VisitLemmas.{first_of, given_more, given_none, reply_last, sources_of, visits_more}

-- ---- lists

nothing_after : {A : Type 0} (xs : List A) → xs ++ [] ≡ xs
nothing_after [] = refl
nothing_after (x ∷ xs) = ap (λ rest. x ∷ rest) (nothing_after xs)

-- all connections but those of the last time come first
visits_but : {S : Type 0} (earlier : List (Time S)) (time : Time S) →
    visits_of (earlier ++ time ∷ []) ≡ visits_of earlier ++ (time.visits ++ time.refused)
visits_but [] time = nothing_after (time.visits ++ time.refused)
visits_but (first ∷ others) time =
    ap (λ rest. (first.visits ++ first.refused) ++ rest) (visits_but others time)
    ∙ sym (append_assoc (first.visits ++ first.refused) (visits_of others)
    (time.visits ++ time.refused))

-- the last time has one more
visits_with : {S : Type 0} (earlier : List (Time S)) (old new : Time S) (visit : Visit) →
    new.visits ++ new.refused ≡ (old.visits ++ old.refused) ++ visit ∷ [] →
    visits_of (earlier ++ new ∷ []) ≡ visits_of (earlier ++ old ∷ []) ++ visit ∷ []
visits_with earlier old new visit same =
    visits_but earlier new ∙ ap (λ rest. visits_of earlier ++ rest) same
    ∙ sym (append_assoc (visits_of earlier) (old.visits ++ old.refused) (visit ∷ []))
    ∙ sym (ap (λ rest. rest ++ visit ∷ []) (visits_but earlier old))

begin_other : {S : Type 0} (keeper : Ghosts S) (opened : S → Type 0) (first : S)
    (earlier : List (Time S)) (old new : Time S) → new.first ≡ old.first →
    BeginWith keeper opened first (earlier ++ old ∷ []) →
    BeginWith keeper opened first (earlier ++ new ∷ [])
begin_other keeper opened first [] old new same begin = same ∙ begin
begin_other keeper opened first (one ∷ others) old new same begin = begin

begin_longer : {S : Type 0} (keeper : Ghosts S) (opened : S → Type 0) (first : S)
    (times more : List (Time S)) → BeginWith keeper opened first times →
    BeginWith keeper opened first (times ++ more)
begin_longer keeper opened first [] more begin = absurd begin
begin_longer keeper opened first (one ∷ others) more begin = begin

-- the keeper that each of these times ends with is given up
abbrev AreGivenUp : {S : Type 0} → Ghosts S → (S → Type 0) → List (Time S) → Type 0
AreGivenUp keeper closed [] = Unit {0}
AreGivenUp keeper closed (time ∷ times) =
    IsGivenUp keeper closed time.last × AreGivenUp keeper closed times

given_up_more : {S : Type 0} (keeper : Ghosts S) (closed : S → Type 0) (times : List (Time S))
    (time : Time S) → AreGivenUp keeper closed times → IsGivenUp keeper closed time.last →
    AreGivenUp keeper closed (times ++ time ∷ [])
given_up_more keeper closed [] time are is = (is, tt)
given_up_more keeper closed (one ∷ others) time are is =
    (are.0, given_up_more keeper closed others time are.1 is)

end_last : {S : Type 0} (keeper : Ghosts S) (closed : S → Type 0) (earlier : List (Time S))
    (time : Time S) (left : Option (Served S)) → AreGivenUp keeper closed earlier →
    EndWith keeper closed (time ∷ []) left → EndWith keeper closed (earlier ++ time ∷ []) left
end_last keeper closed [] time left are ends = ends
end_last keeper closed (one ∷ []) time left are ends = (are.0, ends)
end_last keeper closed (one ∷ other ∷ others) time left are ends =
    (are.0, end_last keeper closed (other ∷ others) time left are.1 ends)

times_more : {S : Type 0} (keeper : Ghosts S) (opened closed : S → Type 0)
    (unopened : Fault BadStore → Type 0) (times : List (Time S)) (time : Time S) → AreTimes keeper opened closed unopened times → IsTime keeper opened closed unopened time →
    AreTimes keeper opened closed unopened (times ++ time ∷ [])
times_more keeper opened closed unopened [] time are is = (is, tt)
times_more keeper opened closed unopened (one ∷ others) time are is =
    (are.0, times_more keeper opened closed unopened others time are.1 is)

refused_more : (unmended : Type 0) (visits : List Visit) (visit : Visit) → AreRefused unmended visits →
    IsHandledShut visit × unmended → AreRefused unmended (visits ++ visit ∷ [])
refused_more unmended [] visit are is = (is, tt)
refused_more unmended (one ∷ others) visit are is =
    (are.0, refused_more unmended others visit are.1 is)

-- ---- one time

passes_still : (world : World) → Passes world world
passes_still world = record { honest = λ h. h; live = λ h l. l; refusing = λ m. m }

passes_on : (first next last : World) → Passes first next → Passes next last → Passes first last
passes_on first next last one other = record {
  honest = λ h. one.honest (other.honest h);
  live = λ h l. one.live (other.honest h) (other.live h l);
  refusing = λ m. one.refusing (other.refusing m);
}

module _ {S : Type 0} (keeper : Ghosts S) (opened closed : S → Type 0)
    (unopened : Fault BadStore → Type 0) where
  -- before its first connection
  abbrev pub time_of : S → List ℕ → Time S
  time_of first reply =
      record { first = first; reply = reply; visits = []; last = first; refused = [] }

  time_first : (first : S) (reply : List ℕ) → opened first →
      IsTime keeper opened closed unopened (time_of first reply)
  time_first first reply is = record {
    opened_so = is;
    are = λ within honest reached. refl;
    stays = λ within honest reached. stays_first (keeper.world first) within reached;
    passes = passes_still (keeper.world first);
    refused_so = tt;
  }

  abbrev pub time_with : Time S → Visit → S → Time S
  time_with time visit new = record {
    first = time.first;
    reply = time.reply;
    visits = time.visits ++ visit ∷ [];
    last = new;
    refused = [];
  }

  module _ (time : Time S) (is : IsTime keeper opened closed unopened time) (start new : S) (visit : Visit)
      (on : GoesOn keeper (reply_after time.reply time.visits) time.last start)
      (passes : Passes (keeper.world time.last) (keeper.world start))
      (stays : GivenWithin (keeper.world time.last) (keeper.world start)
      (Stays (keeper.world time.last) (keeper.world start)))
      (served : IsServed keeper start visit new) where
    upto : GivenWithin (keeper.world time.first) (keeper.world start)
        (StaysOn (keeper.world time.first) (keeper.world start))
    upto = stays_after (keeper.world time.first) (keeper.world time.last) (keeper.world start)
        passes is.stays stays

    time_more : IsTime keeper opened closed unopened (time_with time visit new)
    time_more = record {
      opened_so = is.opened_so;
      are = λ within honest reached.
          let early = served.passes.honest honest in
          let here = upto within early reached in
          visits_more keeper (GoesOn keeper) time.reply time.first time.last start new time.visits visit
          (is.are within (passes.honest early) reached) on
          (record {
            within = here.within;
            honest = honest;
            reached = here.reached;
            handled = served.handled;
            untouched = served.untouched;
            sent = served.sent;
          });
      stays = stays_after (keeper.world time.first) (keeper.world start) (keeper.world new)
          served.passes upto served.stays;
      passes = passes_on (keeper.world time.first) (keeper.world start) (keeper.world new)
          (passes_on (keeper.world time.first) (keeper.world time.last) (keeper.world start)
          is.passes passes) served.passes;
      refused_so = tt;
    }

  -- over a keeper that is as it was, or answered
  on_passes : (reply : List ℕ) (old new : S) → GoesOn keeper reply old new →
      Passes (keeper.world old) (keeper.world new)
  on_passes reply old new (inl same) = subst (λ now. Passes (keeper.world old) (keeper.world now))
      (sym same.1) (passes_still (keeper.world old))
  on_passes reply old new (inr asked) = asked.passes

  on_stays : (reply : List ℕ) (old new : S) → GoesOn keeper reply old new →
      GivenWithin (keeper.world old) (keeper.world new) (Stays (keeper.world old) (keeper.world new))
  on_stays reply old new (inl same) = subst
      (λ now. GivenWithin (keeper.world old) (keeper.world now)
      (Stays (keeper.world old) (keeper.world now)))
      (sym same.1) (λ within honest reached. still_stays (keeper.world old) reached)
  on_stays reply old new (inr asked) = asked.stays

  time_on : (time : Time S) → IsTime keeper opened closed unopened time → (start new : S) (visit : Visit) →
      GoesOn keeper (reply_after time.reply time.visits) time.last start →
      IsServed keeper start visit new → IsTime keeper opened closed unopened (time_with time visit new)
  time_on time is start new visit on served =
      let reply = reply_after time.reply time.visits in
      time_more time is start new visit on (on_passes reply time.last start on)
      (on_stays reply time.last start on) served

  -- over one that was opened anew
  time_anew : (start new : S) (visit : Visit) → opened start → IsServed keeper start visit new →
      IsTime keeper opened closed unopened (time_with (time_of start []) visit new)
  time_anew start new visit is served =
      time_more (time_of start []) (time_first start [] is) start new visit (inl (refl, refl))
      (passes_still (keeper.world start))
      (λ within honest reached. still_stays (keeper.world start) reached) served

  -- one that could not be opened
  abbrev pub time_refused : Time S → Visit → Time S
  time_refused time visit = record {
    first = time.first;
    reply = time.reply;
    visits = time.visits;
    last = time.last;
    refused = time.refused ++ visit ∷ [];
  }

  time_shut : (time : Time S) → IsTime keeper opened closed unopened time → (visit : Visit) →
      IsHandledShut visit × IsUnmended opened closed unopened →
      IsTime keeper opened closed unopened (time_refused time visit)
  time_shut time is visit refused = record {
    opened_so = is.opened_so;
    are = is.are;
    stays = is.stays;
    passes = is.passes;
    refused_so = refused_more (IsUnmended opened closed unopened) time.refused visit is.refused_so refused;
  }

  -- ---- all times so far

  -- the last time goes on where there is a desk, and its keeper is given up where there is none
  abbrev pub GoesOnAt : Time S → Option (Served S) → Type 0
  GoesOnAt time (Some desk) = (time.refused ≡ []) × (time.last ≡ desk.keeper)
      × (reply_after time.reply time.visits ≡ desk.reply)
  GoesOnAt time None = IsGivenUp keeper closed time.last

  ends_at : (time : Time S) (now : Option (Served S)) → GoesOnAt time now →
      EndWith keeper closed (time ∷ []) now
  ends_at time None on = on
  ends_at time (Some desk) on = (on.0, on.1)

  -- the keeper of a desk that is given up is the one that the last time ends with
  given_up_at : (time : Time S) (desk : Served S) → GoesOnAt time (Some desk) →
      IsGivenUp keeper closed desk.keeper → IsGivenUp keeper closed time.last
  given_up_at time desk on up = subst (IsGivenUp keeper closed) (sym on.1) up

  pub record SoFar (first : S) (now : Option (Served S)) (visits : List Visit) : Type 0 where
    pub earlier : List (Time S)
    pub time : Time S
    pub begin : BeginWith keeper opened first (earlier ++ time ∷ [])
    pub are : AreTimes keeper opened closed unopened earlier
    pub given_up : AreGivenUp keeper closed earlier
    pub is : IsTime keeper opened closed unopened time
    pub goes_on : GoesOnAt time now
    pub all : visits_of (earlier ++ time ∷ []) ≡ visits

  pub so_far_first : (desk : Served S) → opened desk.keeper → SoFar desk.keeper (Some desk) []
  so_far_first desk is = record {
    earlier = [];
    time = time_of desk.keeper desk.reply;
    begin = refl;
    are = tt;
    given_up = tt;
    is = time_first desk.keeper desk.reply is;
    goes_on = (refl, refl, refl);
    all = refl;
  }

  module _ (first : S) (visits : List Visit) (visit : Visit) where
    -- the keeper is as it was, or answered
    so_far_on : (old start new : Served S) → SoFar first (Some old) visits →
        GoesOn keeper old.reply old.keeper start.keeper →
        IsServed keeper start.keeper visit new.keeper → new.reply ≡ visit.exchange.reply →
        SoFar first (Some new) (visits ++ visit ∷ [])
    so_far_on old start new so on served replied =
        let time = time_with so.time visit new.keeper in
        let same : time.visits ++ time.refused ≡ (so.time.visits ++ so.time.refused) ++ visit ∷ [] =
        nothing_after (so.time.visits ++ visit ∷ [])
        ∙ ap (λ rest. rest ++ visit ∷ []) (sym (ap (λ rest. so.time.visits ++ rest) so.goes_on.0
        ∙ nothing_after so.time.visits)) in
        record {
          earlier = so.earlier;
          time = time;
          begin = begin_other keeper opened first so.earlier so.time time refl so.begin;
          are = so.are;
          given_up = so.given_up;
          is = time_on so.time so.is start.keeper new.keeper visit
              (subst (λ reply. GoesOn keeper reply so.time.last start.keeper) (sym so.goes_on.2)
              (subst (λ kept. GoesOn keeper old.reply kept start.keeper) (sym so.goes_on.1) on))
              served;
          goes_on = (refl, refl, reply_last so.time.reply so.time.visits visit ∙ sym replied);
          all = visits_with so.earlier so.time time visit same
              ∙ ap (λ rest. rest ++ visit ∷ []) so.all;
        }

    -- the keeper is given up, and another was opened
    so_far_anew : (now : Option (Served S)) (start new : Served S) → (so : SoFar first now visits) →
        IsGivenUp keeper closed so.time.last → opened start.keeper → IsServed keeper start.keeper visit new.keeper →
        new.reply ≡ visit.exchange.reply → SoFar first (Some new) (visits ++ visit ∷ [])
    so_far_anew now start new so up is served replied =
        let time = time_with (time_of start.keeper []) visit new.keeper in
        let before = so.earlier ++ so.time ∷ [] in
        record {
          earlier = before;
          time = time;
          begin = begin_longer keeper opened first before (time ∷ []) so.begin;
          are = times_more keeper opened closed unopened so.earlier so.time so.are so.is;
          given_up = given_up_more keeper closed so.earlier so.time so.given_up up;
          is = time_anew start.keeper new.keeper visit is served;
          goes_on = (refl, refl, sym replied);
          all = visits_but before time ∙ ap (λ rest. rest ++ visit ∷ []) so.all;
        }

    -- none could be
    so_far_shut : (now : Option (Served S)) → (so : SoFar first now visits) →
        IsGivenUp keeper closed so.time.last → IsHandledShut visit × IsUnmended opened closed unopened →
        SoFar first None (visits ++ visit ∷ [])
    so_far_shut now so up refused =
        let time = time_refused so.time visit in
        record {
          earlier = so.earlier;
          time = time;
          begin = begin_other keeper opened first so.earlier so.time time refl so.begin;
          are = so.are;
          given_up = so.given_up;
          is = time_shut so.time so.is visit refused;
          goes_on = up;
          all = visits_with so.earlier so.time time visit
              (sym (append_assoc so.time.visits so.time.refused (visit ∷ [])))
              ∙ ap (λ rest. rest ++ visit ∷ []) so.all;
        }

    so_far_met : (old start new : Option (Served S)) → SoFar first old visits →
        IsMended keeper opened closed unopened old start → IsMet keeper opened start visit new →
        SoFar first new (visits ++ visit ∷ [])
    so_far_met (Some old) (Some start) (Some new) so (inl on) met =
        so_far_on old start new so on met.0 met.1
    so_far_met (Some old) (Some start) (Some new) so (inr is) met = so_far_anew (Some old) start new
        so (given_up_at so.time old so.goes_on is.0) is.1.0 met.0 met.1
    so_far_met None (Some start) (Some new) so is met =
        so_far_anew None start new so so.goes_on is.0 met.0 met.1
    so_far_met old (Some start) None so is met = absurd met
    so_far_met old None (Some new) so is met = absurd met
    so_far_met (Some old) None None so is met =
        so_far_shut (Some old) so (given_up_at so.time old so.goes_on is.0) (met, is.1)
    so_far_met None None None so is met = so_far_shut None so so.goes_on (met, is)

    pub so_far_next : (old new : Option (Served S)) → SoFar first old visits →
        IsNext keeper opened closed unopened old visit new → SoFar first new (visits ++ visit ∷ [])
    so_far_next old new so next = so_far_met old next.start new so next.mended next.met

  -- ---- and so many of them, as the sources gave them

  pub record Counted (first : S) (now : Option (Served S)) (served : ℕ) (sources : Sources) : Type 0 where
    pub visits : List Visit
    pub so_far : SoFar first now visits
    pub counted : length visits ≡ served
    pub given : AreGiven visits sources

  pub counted_first : (desk : Served S) → opened desk.keeper →
      (coming : Option (List (Option (List ℕ)))) (moments : Option (List ℕ))
      (words : Option (List (List ℕ))) →
      Counted desk.keeper (Some desk) 0 (sources_of coming coming moments moments words words)
  counted_first desk is coming moments words = record {
    visits = [];
    so_far = so_far_first desk is;
    counted = refl;
    given = given_none coming moments words;
  }

  pub counted_more : (first : S) (now next : Option (Served S)) (served : ℕ) (visit : Visit)
      (coming left last : Option (List (Option (List ℕ))))
      (moments later latest : Option (List ℕ)) (words further furthest : Option (List (List ℕ))) →
      IsNext keeper opened closed unopened now visit next → GivesInOrder left last (visit.exchange.known ∷ []) →
      GivesInOrder later latest (visit.exchange.tick.moment ∷ []) →
      GivesInOrder further furthest (visit.exchange.tick.words ∷ []) →
      Counted first now served (sources_of coming left moments later words further) →
      Counted first next (served + 1) (sources_of coming last moments latest words furthest)
  counted_more first now next served visit coming left last moments later latest words further
      furthest is one two three so = record {
        visits = so.visits ++ visit ∷ [];
        so_far = so_far_next first so.visits visit now next so.so_far is;
        counted = length-append so.visits (visit ∷ []) ∙ ap (λ count. count + 1) so.counted;
        given = given_more so.visits visit coming left last moments later latest words further
            furthest so.given one two three;
      }

  serves_all : {F : Type 0} (first : S) (now : Option (Served S)) (served count : ℕ)
      (sources others : Sources) (ending : Result (Unit {0}) F) →
      (c : Counted first now served sources) → AreCounted ending count c.visits →
      KeepsGiven ending c.visits others →
      ServesTimes keeper opened closed unopened first now ending count others
  serves_all first now served count sources others ending c counted given = record {
    times = c.so_far.earlier ++ c.so_far.time ∷ [];
    begin = c.so_far.begin;
    ends = end_last keeper closed c.so_far.earlier c.so_far.time now c.so_far.given_up
        (ends_at c.so_far.time now c.so_far.goes_on);
    are = times_more keeper opened closed unopened c.so_far.earlier c.so_far.time c.so_far.are c.so_far.is;
    counted = subst (AreCounted ending count) (sym c.so_far.all) counted;
    given = subst (λ visits. KeepsGiven ending visits others) (sym c.so_far.all) given;
  }

  -- ---- of a live desk that had a desk

  some_then : {A : Type 0} (P Q : A → Type 0) (x : Option A) → ((a : A) → P a → Q a) →
      IfSome x P → IfSome x Q
  some_then P Q None follows fact = tt
  some_then P Q (Some a) follows fact = follows a fact

  abbrev pub CountsFrom : Option (Served S) → Option (Served S) → ℕ → Sources → Type 0
  CountsFrom old now served sources =
      IfSome old (λ desk. opened desk.keeper → Counted desk.keeper now served sources)

  pub counts_first : (old : Option (Served S)) (coming : Option (List (Option (List ℕ))))
      (moments : Option (List ℕ)) (words : Option (List (List ℕ))) →
      CountsFrom old old 0 (sources_of coming coming moments moments words words)
  counts_first None coming moments words = tt
  counts_first (Some desk) coming moments words = λ is. counted_first desk is coming moments words

  pub counts_more : (old now next : Option (Served S)) (served : ℕ) (visit : Visit)
      (coming left last : Option (List (Option (List ℕ))))
      (moments later latest : Option (List ℕ)) (words further furthest : Option (List (List ℕ))) →
      IsNext keeper opened closed unopened now visit next → GivesInOrder left last (visit.exchange.known ∷ []) →
      GivesInOrder later latest (visit.exchange.tick.moment ∷ []) →
      GivesInOrder further furthest (visit.exchange.tick.words ∷ []) →
      CountsFrom old now served (sources_of coming left moments later words further) →
      CountsFrom old next (served + 1) (sources_of coming last moments latest words furthest)
  counts_more old now next served visit coming left last moments later latest words further
      furthest is one two three so =
      some_then _ _ old (λ desk before opened_so.
      counted_more desk.keeper now next served visit coming left last moments later latest words
      further furthest is one two three (before opened_so)) so

  -- all were served
  pub serves_done : (F : Type 0) (old now : Option (Served S)) (served count : ℕ)
      (sources : Sources) → served ≡ count → CountsFrom old now served sources →
      IfSome old (λ desk. opened desk.keeper →
      ServesTimes keeper opened closed unopened {F = F} desk.keeper now (Ok tt) count sources)
  serves_done F old now served count sources all so =
      some_then _ _ old (λ desk before opened_so.
      let c = before opened_so in
      serves_all desk.keeper now served count sources sources (Ok tt) c (c.counted ∙ all) c.given) so

  -- a fault came
  pub serves_cut : {F : Type 0} (fault : F) (old now : Option (Served S)) (served count : ℕ)
      (coming left last : Option (List (Option (List ℕ))))
      (moments later latest : Option (List ℕ)) (words further furthest : Option (List (List ℕ))) →
      served ≤ count →
      CountsFrom old now served (sources_of coming left moments later words further) →
      IfSome old (λ desk. opened desk.keeper →
      ServesTimes keeper opened closed unopened desk.keeper now (Err fault) count
      (sources_of coming last moments latest words furthest))
  serves_cut fault old now served count coming left last moments later latest words further
      furthest within so =
      some_then _ _ old (λ desk before opened_so.
      let c = before opened_so in
      let front = first_of c.visits _ c.given in
      serves_all desk.keeper now served count (sources_of coming left moments later words further)
      (sources_of coming last moments latest words furthest) (Err fault) c
      (omega (arith, c.counted, within))
      (record {
        readers_are = front.readers_are;
        moments_are = front.moments_are;
        words_are = front.words_are;
      })) so

-- ---- before a request

module _ {S : Type 0} (keeper : Ghosts S) (opened closed : S → Type 0)
    (unopened : Fault BadStore → Type 0) where
  -- a desk that was asked, and closed
  given_up_of : (old asked : Served S) → IsAsked keeper old.keeper asked.keeper →
      closed asked.keeper → IsGivenUp keeper closed old.keeper
  given_up_of old asked is shut =
      record { given_up = asked.keeper; asked = is; closed_so = shut }

  pub mended_anew : (old asked : Option (Served S)) (new : Served S) →
      IsAskedIfAny keeper old asked → IfSome asked (λ desk. closed desk.keeper) →
      opened new.keeper → new.reply ≡ [] → IsMended keeper opened closed unopened old (Some new)
  mended_anew None asked new is shut opened_so none = (opened_so, none)
  mended_anew (Some old) (Some asked) new is shut opened_so none =
      inr (given_up_of old asked is shut, (opened_so, none))
  mended_anew (Some old) None new is shut opened_so none = absurd is

  pub mended_none : (old asked : Option (Served S)) → IsAskedIfAny keeper old asked →
      IfSome asked (λ desk. closed desk.keeper) → IsUnmended opened closed unopened →
      IsMended keeper opened closed unopened old None
  mended_none None asked is shut why = why
  mended_none (Some old) (Some asked) is shut why = (given_up_of old asked is shut, why)
  mended_none (Some old) None is shut why = absurd is
