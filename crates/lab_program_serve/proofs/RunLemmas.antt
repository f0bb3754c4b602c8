-- What is served goes on by each connection, and by what comes between two of them.
use Rattle.std.proofs.Common.{◌≡◌, ◌∙◌, Bool, true, false, List, [], ◌∷◌, ◌++◌, append_assoc, append-nil, map, Ok, Err, refl, sym, ap, subst, inl, inr}
use Rattle.std.specs.Prelude.{◌⊎◌, ℕ, IsTrue}
use Rattle.std.specs.Fmt.{digits}
use Rattle.std.proofs.lemmas.Bool.{false≢true}
use Rattle.std.proofs.lemmas.List.{map-append}
use Rattle.lab_forms_texts.specs.declared.tick.Tick.{Tick}
use Rattle.lab_records_keeper.specs.declared.keeper.Keeper.{Ghosts}
use Rattle.lab_wire_heads.specs.Messages.{message_text}
use Rattle.lab_wire.specs.declared.replies.Answer.TheVariants.{Storage}
use Rattle.lab_wire.specs.Replies.{memory_text, reply_text}
use Rattle.lab_desk_foundings.specs.declared.run_faults.ServeFault.TheVariants.{Read, Interim, Reply}
use Rattle.lab_desk_events.specs.Alone.{Happening, Request}
use Rattle.lab_desk_events.specs.Keeping.{AreReleasing, AreWithin, GivenWithin}
use Rattle.lab_desk_events.specs.Leaving.{as_told}
use Rattle.lab_desk_events.specs.Requests.{IsRefusedReply}
use Rattle.lab_desk_events.specs.Runs.{Handled, IsRun, IsAccountOf}
use Rattle.lab_desk_events.proofs.Leaving.{LeavesAwake, awake_between, awake_none, awake_on, leaves_awake, request_leaves, request_lives}
use Rattle.lab_desk_events.proofs.Running.{no_run, one_request, run_then, still_run}
use Rattle.lab_desk.specs.Answering.{AnswersRequest}
use Rattle.lab_desk.specs.Serving.{Exchange, HandlesRequest}
use Rattle.lab_program_host.specs.declared.faults.ConnectionFault.TheVariants.{Serving, Memory}
use Rattle.lab_program_serve.specs.Runs.{AreBrought, Brings, IsServedRun}
use Rattle.lab_program_serve.specs.Visits.{AreVisits, Ending, GoesOn, OnServed, OnUnserved, Visit, is_unavailable}

-- ---- replies for the store's sake

-- a reply for want of memory is one, and so is the store's refusal
memory_unavailable : IsTrue (is_unavailable memory_text)
unfolding memory_text message_text digits
memory_unavailable = refl

storage_unavailable : (tick : Tick) → IsTrue (is_unavailable (reply_text tick Storage))
unfolding reply_text message_text digits
storage_unavailable tick = refl

refused_unavailable : (may_refuse : Type 0) (tick : Tick) (reply : List ℕ) →
    IsRefusedReply may_refuse tick reply → IsTrue (is_unavailable reply)
refused_unavailable may_refuse tick reply (inl memory) =
    subst (λ (told : List ℕ). IsTrue (is_unavailable told)) (sym memory) memory_unavailable
refused_unavailable may_refuse tick reply (inr storage) =
    subst (λ (told : List ℕ). IsTrue (is_unavailable told)) (sym storage.1)
    (storage_unavailable tick)

-- ---- what is told

-- the events of what was handled, and which of them were taken
abbrev events_in : List Handled → List Happening
events_in = map (λ (one : Handled). one.event)

abbrev taken_in : List Handled → List Bool
taken_in = map (λ (one : Handled). one.taken)

-- one more is told
told_on : (first handled : List Handled) (one : Handled) →
    IsAccountOf (events_in handled) (taken_in handled) first →
    IsAccountOf (events_in (handled ++ one ∷ [])) (taken_in (handled ++ one ∷ []))
    (first ++ as_told one.event one.taken ∷ [])
told_on first handled one told = record {
  events_are =
      map-append (λ (h : Handled). h.event) first (as_told one.event one.taken ∷ [])
      ∙ ap (λ (es : List Happening). es ++ one.event ∷ []) told.events_are
      ∙ sym (map-append (λ (h : Handled). h.event) handled (one ∷ []));
  taken_are =
      map-append (λ (h : Handled). h.taken) first (as_told one.event one.taken ∷ [])
      ∙ ap (λ (ts : List Bool). ts ++ one.taken ∷ []) told.taken_are
      ∙ sym (map-append (λ (h : Handled). h.taken) handled (one ∷ []));
}

module _ {S : Type 0} (keeper : Ghosts S) where
  -- a keeper that was live at the start is
  abbrev IsLiveSince : S → S → Type 0
  IsLiveSince old now = (keeper.world old).is_live → (keeper.world now).is_live

  -- or the last reply was one for the store's sake
  abbrev IsLiveOrAsked : S → S → List ℕ → Type 0
  IsLiveOrAsked old now reply =
      (keeper.world old).is_live → (keeper.world now).is_live ⊎ IsTrue (is_unavailable reply)

  -- these were handled so far
  record SoFar (old mid : S) (handled : List Handled) : Type 0 where
    run : IsRun (keeper.world old) (keeper.world mid) handled
    leaves : LeavesAwake keeper old mid (events_in handled) (taken_in handled)
    releasing : AreReleasing (keeper.world old) → AreReleasing (keeper.world mid)
    reached : (keeper.world mid).is_reached
    within : AreWithin (keeper.world mid)
    refusing : (keeper.world mid).may_refuse → (keeper.world old).may_refuse

  none_so_far : (kept : S) → (keeper.world kept).is_reached → AreWithin (keeper.world kept) →
      SoFar kept kept []
  none_so_far kept reached within = record {
    run = no_run (keeper.world kept);
    leaves = awake_none keeper kept [];
    releasing = λ releasing. releasing;
    reached = reached;
    within = within;
    refusing = λ may. may;
  }

  -- it was asked whether it answers, and did
  asked_so_far : (old mid start : S) (handled : List Handled) → SoFar old mid handled →
      AnswersRequest keeper mid start (Ok tt) → (keeper.world start).is_honest →
      SoFar old start handled
  asked_so_far old mid start handled so asked honest =
      let back = asked.passes.live honest in
      let same = asked.same honest so.reached in
      let stays = asked.stays so.within honest so.reached in
      record {
        run = subst (IsRun (keeper.world old) (keeper.world start)) (append-nil handled)
            (run_then (keeper.world old) (keeper.world mid) (keeper.world start) handled []
            so.refusing so.run
            (still_run (keeper.world mid) (keeper.world start) back same));
        leaves = awake_between keeper old mid start (events_in handled) (taken_in handled)
            so.leaves
            (record {
              back = back;
              quiet = asked.quiet honest so.reached;
              same = same;
              stays = stays;
              within = so.within;
              releasing = so.releasing;
            })
            (λ live. (asked.lives honest so.reached).0);
        releasing = λ releasing. stays.releasing (so.releasing releasing);
        reached = stays.reached;
        within = stays.within so.within;
        refusing = λ may. so.refusing (asked.passes.refusing may);
      }

  -- a request was handled
  request_so_far : (old start next : S) (handled : List Handled) (exchange : Exchange) →
      SoFar old start handled → IsLiveSince old start →
      (request : HandlesRequest keeper start next exchange) → (keeper.world next).is_honest →
      SoFar old next (handled ++ record {
        event = Request exchange.tick request.asks;
        taken = request.is_taken;
        answer = exchange.reply;
      } ∷ [])
  request_so_far old start next handled exchange so woken request honest =
      let handles = request.handles in
      let back = handles.passes.live honest in
      let stays = handles.stays so.within honest so.reached in
      let one : Handled = record {
        event = Request exchange.tick request.asks;
        taken = request.is_taken;
        answer = exchange.reply;
      } in
      let run = one_request (keeper.world start) (keeper.world next) exchange.tick request.asks
      request.is_taken exchange.reply back so.within (handles.taken so.within honest so.reached)
      (handles.refused honest so.reached) in
      record {
        run = run_then (keeper.world old) (keeper.world start) (keeper.world next) handled
            (one ∷ []) so.refusing so.run run;
        leaves = awake_on keeper old start next (events_in handled)
            (events_in (handled ++ one ∷ [])) (taken_in handled)
            (taken_in (handled ++ one ∷ [])) one.event one.taken so.leaves
            (told_on so.leaves.so.leaves.handled handled one so.leaves.so.leaves.told)
            (record {
              back = back;
              leaves = request_leaves (keeper.world start) (keeper.world next) exchange.tick
                  request.asks request.is_taken
                  (record {
                    after = λ taken. (handles.taken so.within honest so.reached taken).after;
                    crash = handles.crash so.within honest so.reached;
                    quiet = λ idle. handles.quiet idle honest so.reached;
                    durable = handles.durable so.within honest so.reached;
                  });
              stays = stays;
              within = so.within;
              releasing = so.releasing;
              after = run.after (keeper.world start).meaning (λ live code. refl);
            })
            woken;
        releasing = λ releasing. stays.releasing (so.releasing releasing);
        reached = stays.reached;
        within = stays.within so.within;
        refusing = λ may. so.refusing (handles.passes.refusing may);
      }

  -- it leaves a live keeper live, or a reply after which the keeper is asked
  request_wakes : (start next : S) (exchange : Exchange) →
      (request : HandlesRequest keeper start next exchange) → (keeper.world next).is_honest →
      (keeper.world start).is_reached → AreWithin (keeper.world start) →
      (keeper.world start).is_live →
      (keeper.world next).is_live ⊎ IsTrue (is_unavailable exchange.reply)
  request_wakes start next exchange request honest reached within live =
      go request.is_taken refl
    where
      go : (taken : Bool) → request.is_taken ≡ taken →
          (keeper.world next).is_live ⊎ IsTrue (is_unavailable exchange.reply)
      go true is = inl (request_lives keeper.world start next request.asks
          (request.handles.taken within honest reached is).lives request.handles.untouched live)
      go false is = inr (refused_unavailable _ exchange.tick exchange.reply
          (request.handles.refused honest reached is).replied)

  -- what a connection brought, and all so far
  record Brought (old next : S) (handled : List Handled) (exchange : Exchange) (ending : Ending)
      : Type 0 where
    here : List Handled
    brings : Brings exchange ending here
    so : SoFar old next (handled ++ here)
    woken : IsLiveOrAsked old next exchange.reply

  -- a request
  one_brought : (old start next : S) (handled : List Handled) (exchange : Exchange) →
      SoFar old start handled → IsLiveSince old start →
      HandlesRequest keeper start next exchange →
      (keeper.world next).is_honest → Brought old next handled exchange (Ok tt)
  one_brought old start next handled exchange so woken request honest = record {
    here = record {
      event = Request exchange.tick request.asks;
      taken = request.is_taken;
      answer = exchange.reply;
    } ∷ [];
    brings = (
      (
        record {
          event = Request exchange.tick request.asks;
          taken = request.is_taken;
          answer = exchange.reply;
        },
        record { asks = request.asks; is = refl; asked_are = request.asked_are; replied = refl },
        refl,
      ),
      tt,
    );
    so = request_so_far old start next handled exchange so woken request honest;
    woken = λ live. request_wakes start next exchange request honest so.reached so.within
        (woken live);
  }

  -- none
  none_brought : (old start next : S) (handled : List Handled) → SoFar old start handled →
      next ≡ start → SoFar old next (handled ++ [])
  none_brought old start next handled so same =
      subst (SoFar old next) (sym (append-nil handled))
      (subst (λ kept. SoFar old kept handled) (sym same) so)

  none_woken : (old start next : S) (reply : List ℕ) → IsLiveSince old start → next ≡ start →
      IsLiveOrAsked old next reply
  none_woken old start next reply woken same = λ live.
      inl (subst (λ kept. (keeper.world kept).is_live) (sym same) (woken live))

  brought_by : (ending : Ending) (old start next : S) (handled : List Handled)
      (exchange : Exchange) → SoFar old start handled → IsLiveSince old start →
      OnServed ending (HandlesRequest keeper start next exchange) →
      OnUnserved ending (next ≡ start) → (keeper.world next).is_honest →
      Brought old next handled exchange ending
  brought_by (Ok done) old start next handled exchange so woken request same honest =
      one_brought old start next handled exchange so woken request honest
  brought_by (Err (Serving Read)) old start next handled exchange so woken request same honest = record {
    here = [];
    brings = (tt, refl);
    so = none_brought old start next handled so same;
    woken = none_woken old start next exchange.reply woken same;
  }
  brought_by (Err (Serving (Interim sent))) old start next handled exchange so woken request same honest =
      record {
        here = [];
        brings = (tt, refl);
        so = none_brought old start next handled so same;
        woken = none_woken old start next exchange.reply woken same;
      }
  brought_by (Err (Serving (Reply sent))) old start next handled exchange so woken request same honest =
      let brought = one_brought old start next handled exchange so woken request honest in
      record {
        here = brought.here;
        brings = brought.brings;
        so = brought.so;
        woken = brought.woken;
      }
  brought_by (Err Memory) old start next handled exchange so woken request same honest = record {
    here = [];
    brings = (tt, refl);
    so = none_brought old start next handled so same;
    woken = none_woken old start next exchange.reply woken same;
  }

  -- how honest a keeper was before a connection
  honest_before : (ending : Ending) (start next : S) (exchange : Exchange) →
      OnServed ending (HandlesRequest keeper start next exchange) →
      OnUnserved ending (next ≡ start) → (keeper.world next).is_honest →
      (keeper.world start).is_honest
  honest_before (Ok done) start next exchange request same honest =
      request.handles.passes.honest honest
  honest_before (Err (Serving Read)) start next exchange request same honest =
      subst (λ kept. (keeper.world kept).is_honest) same honest
  honest_before (Err (Serving (Interim sent))) start next exchange request same honest =
      subst (λ kept. (keeper.world kept).is_honest) same honest
  honest_before (Err (Serving (Reply sent))) start next exchange request same honest =
      request.handles.passes.honest honest
  honest_before (Err Memory) start next exchange request same honest =
      subst (λ kept. (keeper.world kept).is_honest) same honest

  -- behind a reply, before the next connection
  between_so_far : (reply : List ℕ) (old mid start : S) (handled : List Handled) →
      SoFar old mid handled → GoesOn keeper reply mid start → (keeper.world start).is_honest →
      SoFar old start handled
  between_so_far reply old mid start handled so (inl still) honest =
      subst (λ kept. SoFar old kept handled) (sym still.1) so
  between_so_far reply old mid start handled so (inr asked) honest =
      asked_so_far old mid start handled so asked honest

  -- it is live then
  between_woken : (reply : List ℕ) (old mid start : S) → IsLiveOrAsked old mid reply →
      (keeper.world mid).is_reached → GoesOn keeper reply mid start →
      (keeper.world start).is_honest → IsLiveSince old start
  between_woken reply old mid start woken reached (inl still) honest = λ live.
      elim (woken live) [
        | inl there ↦ subst (λ kept. (keeper.world kept).is_live) (sym still.1) there
        | inr asked ↦ absurd (false≢true (sym still.0 ∙ asked))
      ]
  between_woken reply old mid start woken reached (inr asked) honest = λ live.
      (asked.lives honest reached).1

  -- all connections
  record AllBrought (old new : S) (handled : List Handled) (visits : List Visit) : Type 0 where
    there : List Handled
    are : AreBrought visits there
    so : SoFar old new (handled ++ there)

  all_brought : (reply : List ℕ) (old mid new : S) (handled : List Handled) (visits : List Visit) →
      SoFar old mid handled → IsLiveOrAsked old mid reply →
      AreVisits keeper (GoesOn keeper) reply mid visits new → AllBrought old new handled visits
  all_brought reply old mid new handled [] so woken same = record {
    there = [];
    are = refl;
    so = subst (SoFar old new) (sym (append-nil handled))
        (subst (λ kept. SoFar old kept handled) (sym same) so);
  }
  all_brought reply old mid new handled (visit ∷ visits) so woken
      (start, next, between, one, others) =
      let honest = honest_before visit.ending start next visit.exchange one.handled one.untouched
      one.honest in
      let brought = brought_by visit.ending old start next handled visit.exchange
      (between_so_far reply old mid start handled so between honest)
      (between_woken reply old mid start woken so.reached between honest) one.handled
      one.untouched one.honest in
      let rest = all_brought visit.exchange.reply old next new (handled ++ brought.here) visits
      brought.so brought.woken others in
      record {
        there = brought.here ++ rest.there;
        are = (brought.here, rest.there, brought.brings, rest.are, refl);
        so = subst (SoFar old new) (append_assoc handled brought.here rest.there) rest.so;
      }

  pub served_run : (reply : List ℕ) (old new : S) (visits : List Visit) →
      AreVisits keeper (GoesOn keeper) reply old visits new →
      GivenWithin (keeper.world old) (keeper.world new)
      (IsServedRun (keeper.world old) (keeper.world new) visits)
  served_run reply old new visits are within honest reached =
      let all = all_brought reply old old new [] visits (none_so_far old reached within)
      (λ live. inl live) are in
      record {
        handled = all.there;
        are = all.are;
        run = all.so.run;
        leaves = leaves_awake keeper old new (events_in all.there) (taken_in all.there)
            all.so.leaves;
      }
