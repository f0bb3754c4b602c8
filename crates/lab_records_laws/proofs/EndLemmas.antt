-- The end of a command: the changes make of the laboratory what the step makes.
use Rattle.std.proofs.Common.{◌≡◌, ◌≤◌, inl, inr, ℕ, ◌+◌, Bool, true, false, cond, List, [], ◌∷◌, ◌++◌, length, Option, Some, refl, sym, ◌∙◌, ap, subst, nat_le}
use Rattle.std.specs.Prelude.{bytes_eq}
use Rattle.std.specs.List.{list_any}
use Rattle.std.proofs.lemmas.Bool.{and_parts, eqb-true}
use Rattle.std.proofs.lemmas.List.{nil_from_length}
use Rattle.lab_people_access.specs.declared.sessions.Session.{Session}
use Rattle.lab_people_access.specs.declared.refusals.PeopleRefusal.TheVariants.{Credentials, LabFull}
use Rattle.lab_people_access.specs.Sessions.{session_of, touched_session}
use Rattle.lab_records_kept.specs.declared.labs.Lab.{Lab}
use Rattle.lab_records_kept.specs.declared.changes.Change.{Change}
use Rattle.lab_records_kept.specs.declared.changes.Change.TheVariants.{Last, SessionSet}
use Rattle.lab_records_kept.specs.declared.trails.Deed.{Deed}
use Rattle.lab_records_kept.specs.declared.trails.TrailRow.{TrailRow}
use Rattle.lab_records_kept.specs.Limits.{count_limit, stray_limit}
use Rattle.lab_records_kept.specs.Trails.{trail_row_of}
use Rattle.lab_records_kept.specs.Changes.{AllFit, change, changed, with_session}
use Rattle.lab_records_rules.specs.declared.refusals.Refusal.TheVariants.{People}
use Rattle.lab_records_machine.specs.declared.commands.Command.{Command}
use Rattle.lab_records_machine.specs.declared.replies.Reply.{Reply}
use Rattle.lab_records_machine.specs.declared.replies.Reply.TheVariants.{Refused as ToldRefused}
use Rattle.lab_records_machine.specs.Cases.{told, failed}
use Rattle.lab_records_machine.specs.Machine.{Stepped, stays, made, ended, touched, at_moment, opened}
use Rattle.lab_records_laws.proofs.FitPersons.{touched_fits}
use Rattle.lab_records_machine.specs.declared.done.Done.{Done}
use Rattle.lab_records_machine.specs.declared.done.Done.TheVariants.{Refused, Failed, Read, Made}
use Rattle.lab_records_laws.specs.declared.outcome.Outcome.{Outcome}
use Rattle.lab_records_laws.specs.Deciding.{trail_row, failure_changes, outcome, made_end, end_by, end_on, is_session_set, touch_changes, is_noted, noted_end, opening_end}
use Rattle.lab_records_laws.proofs.Joining.{changed_on, all_fit_on, changes_know}
use Rattle.lab_records_laws.proofs.OwnCases.{case_of, slice_for}
use Rattle.lab_records_laws.proofs.CaseFits.{Adds, FitsDone}
use Rattle.lab_records_laws.proofs.OpenFits.{TakesMoment}
use Rattle.lab_records_laws.proofs.Failing.{BecomesWhere, failing_is}
use Rattle.lab_records_laws.proofs.SessionOnce.{SetsNoOther, SetsNoOtherDone, end_sets, once_is}

-- what is decided is what is stepped, and fits on a premise
pub record Matches (Premise : Type 0) (lab : Lab) (stepped : Stepped) (decided : Outcome)
    : Type 0 where
  pub reply : decided.reply ≡ stepped.reply
  pub fits : Premise → AllFit lab decided.changes
  pub after : stepped.after ≡ Some (changed lab decided.changes)

-- ---- something is made, and told

-- the row that tells of it comes last
told_last : (Premise : Type 0) (lab : Lab) (moment : ℕ) (person : List ℕ) (deed : Deed)
    (own : List Change)
    → Adds Premise lab person own
    → BecomesWhere Premise lab (own ++ trail_row (length lab.trail) moment person deed ∷ [])
    (told moment (Some person) deed (changed lab own))
told_last Premise lab moment person deed own adds =
    let after = changed lab own in
    let row = trail_row (length lab.trail) moment person deed in
    let number : length lab.trail + 1 ≡ length after.trail + 1 =
    ap (λ (rows : List TrailRow). length rows + 1) (sym adds.trail) in
    let same : change after row ≡ told moment (Some person) deed after =
    ap (λ n. record after {
      trail = after.trail ++ trail_row_of n moment (Some person) deed ∷ [];
    }) number in
    record {
      fits = λ given. all_fit_on lab own (row ∷ []) (adds.fits given)
          ((number, changes_know lab own person (adds.fits given) adds.known), tt);
      comes = changed_on lab own (row ∷ []) ∙ same;
    }

-- changes that were made before
after_some : (Premise : Type 0) (lab : Lab) (before changes : List Change) (after : Lab)
    → AllFit lab before → BecomesWhere Premise (changed lab before) changes after
    → BecomesWhere Premise lab (before ++ changes) after
after_some Premise lab before changes after fits rest = record {
  fits = λ given. all_fit_on lab before changes fits (rest.fits given);
  comes = changed_on lab before changes ∙ rest.comes;
}

-- and the reply
replied : (Premise : Type 0) (lab : Lab) (reply : Reply) (changes : List Change) (after : Lab)
    → BecomesWhere Premise lab changes after
    → Matches Premise lab (stays after reply) (outcome reply changes)
replied Premise lab reply changes after becomes =
    record { reply = refl; fits = becomes.fits; after = ap Some (sym becomes.comes) }

made_case : (full : Bool) (Premise : Type 0) (lab : Lab) (moment : ℕ) (person : List ℕ)
    (reply refused : Reply) (deed : Deed) (own : List Change) → Adds Premise lab person own
    → Matches Premise lab
    (cond full (stays lab refused)
    (stays (told moment (Some person) deed (changed lab own)) reply))
    (cond full (outcome refused [])
    (outcome reply (own ++ trail_row (length lab.trail) moment person deed ∷ [])))
made_case true Premise lab moment person reply refused deed own adds =
    record { reply = refl; fits = λ given. tt; after = refl }
made_case false Premise lab moment person reply refused deed own adds =
    replied Premise lab reply (own ++ trail_row (length lab.trail) moment person deed ∷ [])
    (told moment (Some person) deed (changed lab own))
    (told_last Premise lab moment person deed own adds)

made_is : (Premise : Type 0) (lab : Lab) (moment : ℕ) (person : List ℕ) (reply : Reply)
    (deed : Deed) (own : List Change) → Adds Premise lab person own
    → Matches Premise lab (made lab (changed lab own) moment person reply deed)
    (made_end (length lab.trail) moment person reply deed own)
made_is Premise lab moment person reply deed own adds =
    made_case (nat_le count_limit (length lab.trail)) Premise lab moment person reply
    (ToldRefused (People LabFull)) deed own adds

-- ---- in a session, but for the note of its request

own_ended : (Premise : Type 0) (lab : Lab) (moment : ℕ) (person : List ℕ) (done : Done)
    → (Premise → lab.strays ≤ stray_limit) → FitsDone Premise lab person done
    → Matches Premise lab (ended lab moment person (case_of lab done))
    (end_by (length lab.trail) lab.strays moment person done)
own_ended Premise lab moment person (Refused refusal) few fits =
    record { reply = refl; fits = λ given. tt; after = refl }
own_ended Premise lab moment person (Failed occasion failure) few fits =
    replied Premise lab (ToldRefused (People Credentials))
    (failure_changes (length lab.trail) lab.strays moment occasion failure)
    (failed lab moment occasion failure)
    (failing_is Premise lab moment occasion failure few fits)
own_ended Premise lab moment person (Read reply) few fits =
    record { reply = refl; fits = λ given. tt; after = refl }
own_ended Premise lab moment person (Made reply deed own) few fits =
    made_is Premise lab moment person reply deed own fits

-- ---- the note that a request came

-- the session is set, or what the request changes sets it
touching_case : (own_set : Bool) (lab : Lab) (moment : ℕ) (session : Session) (own : List Change)
    → list_any is_session_set own ≡ own_set
    → session_of lab.sessions session.token ≡ Some session
    → SetsNoOther (touched_session moment session) own
    → BecomesWhere (AllFit (touched lab moment session) own) lab
    ((Last moment ∷ cond own_set [] (SessionSet (touched_session moment session) ∷ [])) ++ own)
    (changed (touched lab moment session) own)
touching_case true lab moment session own is found (inl sets) =
    let once = once_is (at_moment moment lab) moment session own found sets in
    record { fits = λ fit. (tt, once.fits fit); comes = once.comes }
touching_case true lab moment session own is found (inr none) =
    let never : false ≡ true = sym none ∙ is in absurd (cc)
touching_case false lab moment session own is found sets = record {
  fits = λ fit. (tt, (touched_fits (at_moment moment lab) moment session found, fit));
  comes = refl;
}

touching_is : (lab : Lab) (moment : ℕ) (session : Session) (own : List Change)
    → session_of lab.sessions session.token ≡ Some session
    → SetsNoOther (touched_session moment session) own
    → BecomesWhere (AllFit (touched lab moment session) own) lab
    (touch_changes moment session own ++ own) (changed (touched lab moment session) own)
touching_is lab moment session own found sets =
    touching_case (list_any is_session_set own) lab moment session own refl found sets

-- a session that is set as it is
same_case : (test : Bool) (session one : Session) (others : List Session)
    → cond test (Some one) (session_of others session.token) ≡ Some session
    → (session_of others session.token ≡ Some session → with_session session others ≡ others)
    → cond test (session ∷ others) (one ∷ with_session session others) ≡ one ∷ others
same_case true session one others found next =
    let same : session ≡ one = cc in ap (λ s. s ∷ others) same
same_case false session one others found next = ap (λ rest. one ∷ rest) (next found)

same_sessions : (session : Session) (sessions : List Session)
    → session_of sessions session.token ≡ Some session
    → with_session session sessions ≡ sessions
same_sessions session [] found = refl
same_sessions session (one ∷ others) found =
    same_case (bytes_eq one.token session.token) session one others found
    (same_sessions session others)

-- a moment that laboratory and session have already changes nothing
same_touched : (lab : Lab) (moment : ℕ) (session : Session)
    → session_of lab.sessions session.token ≡ Some session → lab.last ≡ moment
    → session.last ≡ moment → touched lab moment session ≡ lab
same_touched lab moment session found last own =
    let one : touched_session moment session ≡ session =
    ap (λ m. touched_session m session) (sym own) in
    let all : with_session (touched_session moment session) lab.sessions ≡ lab.sessions =
    ap (λ s. with_session s lab.sessions) one ∙ same_sessions session lab.sessions found in
    ap (λ m. record lab { last = m; sessions = with_session (touched_session moment session) lab.sessions })
    (sym last) ∙ ap (λ s. record lab { sessions = s }) all

-- the note comes first, or is left out
noted_case : (noted : Bool) (Premise : Type 0) (lab : Lab) (moment : ℕ) (session : Session)
    (stepped : Stepped) (ended : Outcome)
    → is_noted lab.last moment session ended.changes ≡ noted
    → session_of lab.sessions session.token ≡ Some session
    → SetsNoOther (touched_session moment session) ended.changes
    → Matches Premise (touched lab moment session) stepped ended
    → Matches Premise lab stepped (outcome ended.reply
    (cond noted [] (touch_changes moment session ended.changes ++ ended.changes)))
noted_case true Premise lab moment session stepped ended noted found sets is =
    let both = and_parts _ _ noted in
    let none : ended.changes ≡ [] =
    nil_from_length ended.changes (eqb-true (length ended.changes) 0 (and_parts _ _ both.0).0) in
    let same = same_touched lab moment session found
    (eqb-true lab.last moment (and_parts _ _ both.0).1) (eqb-true session.last moment both.1) in
    record {
      reply = is.reply;
      fits = λ given. tt;
      after = is.after
          ∙ ap Some (ap (λ c. changed (touched lab moment session) c) none ∙ same);
    }
noted_case false Premise lab moment session stepped ended noted found sets is =
    let touching = touching_is lab moment session ended.changes found sets in
    record {
      reply = is.reply;
      fits = λ given. touching.fits (is.fits given);
      after = is.after ∙ ap Some (sym touching.comes);
    }

pub noted_is : (Premise : Type 0) (lab : Lab) (moment : ℕ) (session : Session)
    (stepped : Stepped) (ended : Outcome)
    → session_of lab.sessions session.token ≡ Some session
    → SetsNoOther (touched_session moment session) ended.changes
    → Matches Premise (touched lab moment session) stepped ended
    → Matches Premise lab stepped (noted_end lab.last moment session ended)
noted_is Premise lab moment session stepped ended found sets is =
    noted_case (is_noted lab.last moment session ended.changes) Premise lab moment session
    stepped ended refl found sets is

-- ---- in a session

pub ended_is : (Premise : Type 0) (lab : Lab) (digest : Option (List ℕ)) (command : Command)
    (moment : ℕ) (session : Session) (person : List ℕ) (done : Done)
    → (Premise → lab.strays ≤ stray_limit)
    → session_of lab.sessions session.token ≡ Some session
    → FitsDone Premise (touched lab moment session) person done
    → SetsNoOtherDone (touched_session moment session) done
    → Matches Premise lab
    (ended (touched lab moment session) moment person (case_of (touched lab moment session) done))
    (noted_end lab.last moment session (end_on (slice_for lab digest command) moment person done))
ended_is Premise lab digest command moment session person done few found fits sets =
    noted_is Premise lab moment session
    (ended (touched lab moment session) moment person (case_of (touched lab moment session) done))
    (end_on (slice_for lab digest command) moment person done) found
    (end_sets (length lab.trail) lab.strays moment person (touched_session moment session) done sets)
    (own_ended Premise (touched lab moment session) moment person done few fits)

-- ---- at an opening

-- its moment is noted first
moment_adds : (Premise : Type 0) (lab : Lab) (moment : ℕ) (person : List ℕ) (own : List Change)
    → Adds Premise (at_moment moment lab) person own → Adds Premise lab person (Last moment ∷ own)
moment_adds Premise lab moment person own adds =
    record { fits = λ given. (tt, adds.fits given); trail = adds.trail; known = adds.known }

pub opened_ended : (Premise : Type 0) (lab : Lab) (digest : Option (List ℕ)) (command : Command)
    (moment : ℕ) (code : List ℕ) (done : Done) → (Premise → lab.strays ≤ stray_limit)
    → FitsDone Premise (at_moment moment lab) code done → TakesMoment lab moment done
    → Matches Premise lab (opened lab moment code (case_of lab done))
    (opening_end (slice_for lab digest command) moment code done)
opened_ended Premise lab digest command moment code (Refused refusal) few fits takes =
    record { reply = refl; fits = λ given. tt; after = refl }
opened_ended Premise lab digest command moment code (Failed occasion failure) few fits takes =
    let now = at_moment moment lab in
    let changes = failure_changes (length lab.trail) lab.strays moment occasion failure in
    let after = failed now moment occasion failure in
    replied Premise lab (ToldRefused (People Credentials)) (Last moment ∷ changes) after
    (after_some Premise lab (Last moment ∷ []) changes after (tt, tt)
    (failing_is Premise now moment occasion failure few fits))
opened_ended Premise lab digest command moment code (Read reply) few fits takes =
    record { reply = refl; fits = λ given. tt; after = refl }
opened_ended Premise lab digest command moment code (Made reply deed own) few fits takes =
    subst (λ after. Matches Premise lab (made lab after moment code reply deed)
    (made_end (length lab.trail) moment code reply deed (Last moment ∷ own))) takes
    (made_is Premise lab moment code reply deed (Last moment ∷ own)
    (moment_adds Premise lab moment code own fits))
