-- How a request was handled: by the laboratory that it asks, by the refusal of its bytes, or by the
-- reply for lack of memory.
use Rattle.std.proofs.Common.{◌≡◌, ◌∙◌, inl, inr, ℕ, Bool, true, false, List, Result, Ok, Err, refl, sym, ap}
use Rattle.std.specs.Prelude.{All, IfOk, IfErr, IsOk, IsTrue, OnOk}
use Rattle.std.proofs.lemmas.Bool.{false≢true}
use Rattle.lab_forms_texts.specs.declared.tick.Tick.{Tick}
use Rattle.lab_forms_texts.specs.declared.refusals.Fault.{Fault}
use Rattle.lab_records_keeper.specs.declared.faults.BadStore.{BadStore}
use Rattle.lab_forms_texts.specs.declared.refusals.Fault.TheVariants.{Refused as StoreRefused, Memory}
use Rattle.lab_records_keeper.specs.declared.keeper.Keeper.{Ghosts}
use Rattle.lab_records_keeper.specs.Worlds.{World, Given, KeeperFaultFits, Passes, Quiet}
use Rattle.lab_records_laws.specs.Asking.{IsCommandFormed}
use Rattle.lab_wire.specs.declared.commands.Asked.{Asked}
use Rattle.lab_wire.specs.declared.refusals.RequestRefusal.{RequestRefusal}
use Rattle.lab_wire.specs.declared.replies.Answer.TheVariants.{Refused}
use Rattle.lab_wire.specs.Replies.{reply_text, memory_text}
use Rattle.lab_records_keeper.specs.Calls.{EndsCall}
use Rattle.lab_records_copy_out.specs.Legible.{IsLegibleChange}
use Rattle.lab_desk_events.specs.Causes.{RefusesAsked}
use Rattle.lab_desk_events.specs.Copies.{IsAskedLegibly}
use Rattle.lab_desk_events.specs.Keeping.{AreWithin, GivenWithin, Stays}
use Rattle.lab_desk_events.specs.Requests.{AskedInBytes, DoesStep, IsRefusedReply, answer_to, changes_for, is_idle}
use Rattle.lab_desk_events.specs.Private.Requests.{TellsFault}
use Rattle.lab_desk_events.proofs.Copying.{asked_legible, sound_answer}
use Rattle.lab_desk_events.proofs.Keeping.{asked_keeps}
use Rattle.lab_desk_events.proofs.Lasting.{still_stays}
use Rattle.lab_desk_events.proofs.Staying.{asked_releasing, asked_leaves_within, asked_leaves_releasing}
use Rattle.lab_desk.specs.Handling.{Handles, IsNobodysReply}

-- it isn't both taken and refused
both_not : {A : Type 0} (taken : Bool) → taken ≡ true → taken ≡ false → A
both_not taken is not = absurd (false≢true (sym not ∙ is))

if_ok_all : {A E : Type 0} {P : A → Type 0} (result : Result A E) → ((it : A) → P it) →
    IfOk result P
if_ok_all (Ok it) each = each it
if_ok_all (Err fault) each = tt

still_passes : (world : World) → Passes world world
still_passes world = record {
  honest = λ honest. honest;
  live = λ honest live. live;
  refusing = λ may. may;
}

-- ---- bytes that ask nothing

-- the reply is their refusal, or tells that there was no memory for it
told_refused : (tick : Tick) (refusal : RequestRefusal) (reply : List ℕ) (taken : Bool) →
    (taken ≡ true → reply ≡ reply_text tick (Refused refusal)) →
    (taken ≡ false → reply ≡ memory_text) → IsNobodysReply tick (Err refusal) reply
told_refused tick refusal reply true told memory = λ other is.
    let same : refusal ≡ other = cc in
    inl (told refl ∙ ap (λ (one : RequestRefusal). reply_text tick (Refused one)) same)
told_refused tick refusal reply false told memory = λ other is. inr (memory refl)

-- nothing was touched
module _ {S : Type 0} (keeper : Ghosts S) (kept : S) (tick : Tick) (is_taken : Bool)
    (reply : List ℕ) (rested : keeper.rests kept kept) where
  pub refused_so : (refusal : RequestRefusal) →
      (is_taken ≡ true → reply ≡ reply_text tick (Refused refusal)) →
      (is_taken ≡ false → reply ≡ memory_text) →
      Handles keeper kept kept
      (record { tick = tick; asks = Err refusal; is_taken = is_taken; reply = reply })
  refused_so refusal told memory = record {
    taken = λ within honest reached taken. record {
      replied = told taken;
      after = λ code. refl;
      lives = λ asks. absurd (false≢true asks);
    };
    rows = λ within honest reached taken. rested;
    refused = λ honest reached refused.
        record { replied = inl (memory refused); same = λ live code. refl };
    rows_refused = λ honest reached refused live. rested;
    cause = tt;
    untouched = λ other is. refl;
    nobodys = told_refused tick refusal reply is_taken told memory;
    crash = λ within honest reached live held left. inl left;
    quiet = λ idle honest reached live held left. left;
    durable = λ within honest reached busy. absurd (false≢true (sym busy));
    stays = λ within honest reached. still_stays (keeper.world kept) reached;
    passes = still_passes (keeper.world kept);
    sound = λ within honest reached releasing legible taken. tt;
  }

  -- whatever was asked: there was no memory for it
  pub exhausted_so : (asks : AskedInBytes) → is_taken ≡ false → reply ≡ memory_text →
      Handles keeper kept kept
      (record { tick = tick; asks = asks; is_taken = is_taken; reply = reply })
  exhausted_so asks not told = record {
    taken = λ within honest reached taken. both_not is_taken taken not;
    rows = λ within honest reached taken. both_not is_taken taken not;
    refused = λ honest reached refused.
        record { replied = inl told; same = λ live code. refl };
    rows_refused = λ honest reached refused live. rested;
    cause = if_ok_all asks (λ one refused. inl told);
    untouched = λ refusal is. refl;
    nobodys = λ refusal is. inr told;
    crash = λ within honest reached live held left. inl left;
    quiet = λ idle honest reached live held left. left;
    durable = λ within honest reached busy taken. both_not is_taken taken not;
    stays = λ within honest reached. still_stays (keeper.world kept) reached;
    passes = still_passes (keeper.world kept);
    sound = λ within honest reached releasing legible taken. both_not is_taken taken not;
  }

-- ---- bytes that ask a laboratory something

-- a fault of the store, or the lack of memory for its reply
caused_reply : (cause : Type 0) (tick : Tick) (reply : List ℕ) (fault : Fault BadStore) →
    KeeperFaultFits cause fault → TellsFault tick reply fault → IsRefusedReply cause tick reply
caused_reply cause tick reply Memory fits told = inl told
caused_reply cause tick reply (StoreRefused _) fits (inl memory) = inl memory
caused_reply cause tick reply (StoreRefused _) fits (inr storage) = inr (fits, storage)

-- the reply that tells a keeper's fault
refused_reply : (may_refuse : Type 0) (asks : AskedInBytes) (tick : Tick) (reply : List ℕ)
    (fault : Fault BadStore) → KeeperFaultFits may_refuse fault → IsOk asks →
    TellsFault tick reply fault → IsRefusedReply (may_refuse × IsOk asks) tick reply
refused_reply may_refuse asks tick reply Memory fits asked told = inl told
refused_reply may_refuse asks tick reply (StoreRefused _) fits asked (inl memory) = inl memory
refused_reply may_refuse asks tick reply (StoreRefused _) fits asked (inr storage) =
    inr ((fits, asked), storage)

-- what the desk knows once the laboratory was asked, and its reply or the fault kept
pub record IsKept {S A : Type 0} (keeper : Ghosts S) (old new : S) (tick : Tick) (asked : Asked)
    (answered : Result A (Fault BadStore)) (items : A → List ℕ) (is_taken : Bool) (reply : List ℕ)
    : Type 0 where
  pub formed : IsCommandFormed asked.instruction.command
  pub within : GivenWithin (keeper.world old) (keeper.world new) (AreWithin (keeper.world new))
  pub told : Given (keeper.world old) (keeper.world new) (IfOk answered (λ answer.
      items answer ≡ reply_text tick (answer_to (keeper.world old).meaning tick (Ok asked))))
  pub ends : EndsCall (keeper.world old) (keeper.world new) (keeper.rests old new) answered
  pub cause : IfErr answered (KeeperFaultFits (RefusesAsked keeper old new tick asked))
  pub quiet : IsTrue (is_idle ((keeper.world old).meaning asked.lab) tick asked.instruction) →
      Given (keeper.world old) (keeper.world new) (Quiet (keeper.world old) (keeper.world new))
  pub does : GivenWithin (keeper.world old) (keeper.world new)
      (DoesStep (keeper.world old) (keeper.world new) tick asked (keeper.moves old new) answered)
  pub replied : IfOk answered (λ answer. (is_taken ≡ true) × (reply ≡ items answer))
  pub failed : IfErr answered (λ fault. (is_taken ≡ false) × TellsFault tick reply fault)
  pub named : IsAskedLegibly tick.moment asked.instruction.command
  pub brings : Given (keeper.world old) (keeper.world new) (OnOk answered (All IsLegibleChange
      (changes_for ((keeper.world old).meaning asked.lab) tick asked.instruction)))

module _ {S A : Type 0} (keeper : Ghosts S) (old new : S) (tick : Tick) (asked : Asked) where
  asked_stays : (answered : Result A (Fault BadStore)) (items : A → List ℕ) (is_taken : Bool)
      (reply : List ℕ) → IsKept keeper old new tick asked answered items is_taken reply →
      GivenWithin (keeper.world old) (keeper.world new)
      (Stays (keeper.world old) (keeper.world new))
  asked_stays answered items is_taken reply kept = λ within honest reached.
      let did = kept.does within honest reached in
      let back = kept.ends.passes.live honest in
      let left = kept.ends.err honest reached in
      record {
        within = λ within. kept.within within honest reached;
        releasing = asked_releasing (keeper.world old) (keeper.world new) tick asked answered
            back did.after left;
        keeps = asked_keeps (keeper.world old) (keeper.world new) tick asked answered
            back did.after left within;
        reached = did.reached;
        safe = did.safe;
        legible = asked_legible (keeper.world old) (keeper.world new) tick asked answered back
            did.after left (kept.brings honest reached);
        left_within = asked_leaves_within (keeper.world old) (keeper.world new) tick asked
            kept.formed did.crash;
        left_releasing = asked_leaves_releasing (keeper.world old) (keeper.world new) tick asked
            did.crash;
        again = kept.ends.shuts honest reached;
      }

  pub asked_so : (answered : Result A (Fault BadStore)) (items : A → List ℕ) (is_taken : Bool)
      (reply : List ℕ) → IsKept keeper old new tick asked answered items is_taken reply →
      Handles keeper old new
      (record { tick = tick; asks = Ok asked; is_taken = is_taken; reply = reply })
  asked_so (Ok answer) items is_taken reply kept = record {
    taken = λ within honest reached taken. record {
      replied = kept.replied.1 ∙ kept.told honest reached;
      after = (kept.does within honest reached).after;
      lives = λ asks. kept.ends.lives honest reached;
    };
    rows = λ within honest reached taken. (kept.does within honest reached).rows;
    refused = λ honest reached refused. both_not is_taken kept.replied.0 refused;
    rows_refused = λ honest reached refused live. both_not is_taken kept.replied.0 refused;
    cause = λ refused. both_not is_taken kept.replied.0 refused;
    untouched = λ refusal is. absurd cc;
    nobodys = λ refusal is. absurd cc;
    crash = λ within honest reached. (kept.does within honest reached).crash;
    quiet = kept.quiet;
    durable = λ within honest reached busy taken. (kept.does within honest reached).durable busy;
    stays = asked_stays (Ok answer) items is_taken reply kept;
    passes = kept.ends.passes;
    sound = λ within honest reached releasing legible taken.
        let live = (kept.ends.lives honest reached).0 in
        sound_answer (keeper.world old).meaning tick asked (within live asked.lab)
        (releasing live asked.lab) (legible live asked.lab) kept.named;
  }
  asked_so (Err fault) items is_taken reply kept = record {
    taken = λ within honest reached taken. both_not is_taken taken kept.failed.0;
    rows = λ within honest reached taken. both_not is_taken taken kept.failed.0;
    refused = λ honest reached refused. record {
      replied = refused_reply (keeper.world old).may_refuse (Ok asked) tick reply fault kept.ends.fault
          refl kept.failed.1;
      same = kept.ends.err honest reached;
    };
    rows_refused = λ honest reached refused. kept.ends.rows_err honest reached;
    cause = λ refused. caused_reply (RefusesAsked keeper old new tick asked) tick reply fault
        kept.cause kept.failed.1;
    untouched = λ refusal is. absurd cc;
    nobodys = λ refusal is. absurd cc;
    crash = λ within honest reached. (kept.does within honest reached).crash;
    quiet = kept.quiet;
    durable = λ within honest reached busy taken. both_not is_taken taken kept.failed.0;
    stays = asked_stays (Err fault) items is_taken reply kept;
    passes = kept.ends.passes;
    sound = λ within honest reached releasing legible taken.
        both_not is_taken taken kept.failed.0;
  }
