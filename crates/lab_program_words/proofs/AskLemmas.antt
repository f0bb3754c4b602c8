-- The task that was read of the words is the one that they ask for.
use Rattle.std.proofs.Common.{◌≡◌, ◌∙◌, ◌≤◌, ℕ, List, IsTrue, arith, ap, subst, sym}
use Rattle.clap.specs.Words.{Row, subcommand_of}
use Rattle.lab_forms_texts.specs.Ordinals.{is_ordinal}
use Rattle.lab_program_app.specs.Apps.{labdesk_app, most_connections}
use Rattle.lab_program_words.specs.Tasks.{Asked, AsksTask, GivesArguments, IsGiven, IsGivenIn, name_of, founds, serves, copies, migrates, checks, replays, rehearses, errand_of, errand_called, errand_named, founding, serving, copying, migrating, checking, replaying, rehearsing}
use Rattle.lab_program_words.specs.Private.Tasks.{IsTask}
use Rattle.lab_program_words.specs.declared.tasks.Task.{Task}
use Rattle.lab_program_words.specs.declared.tasks.Task.TheVariants.{Found, Serve, Copy, Migrate, Check, Replay, Rehearse}

-- each by what it is given

module _ (rows : List Row) where
  is_founding : (task : Task) (file lab : List ℕ) → errand_of task ≡ founding → IsGiven rows task → GivesArguments (founds file lab) rows
      → IsTask task (founds file lab)
  is_founding (Found f l) file lab errand has gives =
      let one : f.now ≡ file = has.0 file gives.0 in
      let two : l.now ≡ lab = has.1 lab gives.1 in
      cc
  is_founding (Serve f p k) file lab errand has gives = absurd (cc)
  is_founding (Copy f l a b) file lab errand has gives = absurd (cc)
  is_founding (Migrate o n) file lab errand has gives = absurd (cc)
  is_founding Check file lab errand has gives = absurd (cc)
  is_founding Replay file lab errand has gives = absurd (cc)
  is_founding (Rehearse l s) file lab errand has gives = absurd (cc)

  is_serving : (task : Task) (file : List ℕ) (port count : ℕ) → errand_of task ≡ serving → IsGiven rows task
      → GivesArguments (serves file port count) rows → IsTask task (serves file port count)
  is_serving (Found f l) file port count errand has gives = absurd (cc)
  is_serving (Serve f p k) file port count errand has gives =
      let one : f.now ≡ file = has.0 file gives.0 in
      let two : p ≡ port = has.1 port gives.1 gives.2 in
      let three : k ≡ count = has.2 count gives.3 gives.4 in
      cc
  is_serving (Copy f l a b) file port count errand has gives = absurd (cc)
  is_serving (Migrate o n) file port count errand has gives = absurd (cc)
  is_serving Check file port count errand has gives = absurd (cc)
  is_serving Replay file port count errand has gives = absurd (cc)
  is_serving (Rehearse l s) file port count errand has gives = absurd (cc)

  within : (number : ℕ) → IsTrue (is_ordinal number) → number ≤ most_connections
  within number is = search (arith)

  is_copying : (task : Task) (file lab : List ℕ) (from to : ℕ) → errand_of task ≡ copying → IsGiven rows task
      → GivesArguments (copies file lab from to) rows → IsTask task (copies file lab from to)
  is_copying (Found f l) file lab from to errand has gives = absurd (cc)
  is_copying (Serve f p k) file lab from to errand has gives = absurd (cc)
  is_copying (Copy f l a b) file lab from to errand has gives =
      let one : f.now ≡ file = has.0 file gives.0 in
      let two : l.now ≡ lab = has.1 lab gives.1 in
      let three : a ≡ from = has.2 from gives.2 (within from gives.3) in
      let four : b ≡ to = has.3 to gives.4 (within to gives.5) in
      (cc, subst (λ n. IsTrue (is_ordinal n)) (sym three) gives.3, subst (λ n. IsTrue (is_ordinal n)) (sym four) gives.5)
  is_copying (Migrate o n) file lab from to errand has gives = absurd (cc)
  is_copying Check file lab from to errand has gives = absurd (cc)
  is_copying Replay file lab from to errand has gives = absurd (cc)
  is_copying (Rehearse l s) file lab from to errand has gives = absurd (cc)

  is_migrating : (task : Task) (old new : List ℕ) → errand_of task ≡ migrating → IsGiven rows task → GivesArguments (migrates old new) rows
      → IsTask task (migrates old new)
  is_migrating (Found f l) old new errand has gives = absurd (cc)
  is_migrating (Serve f p k) old new errand has gives = absurd (cc)
  is_migrating (Copy f l a b) old new errand has gives = absurd (cc)
  is_migrating (Migrate o n) old new errand has gives =
      let one : o.now ≡ old = has.0 old gives.0 in
      let two : n.now ≡ new = has.1 new gives.1 in
      cc
  is_migrating Check old new errand has gives = absurd (cc)
  is_migrating Replay old new errand has gives = absurd (cc)
  is_migrating (Rehearse l s) old new errand has gives = absurd (cc)

  is_checking : (task : Task) → errand_of task ≡ checking → IsTask task checks
  is_checking (Found f l) errand = absurd (cc)
  is_checking (Serve f p k) errand = absurd (cc)
  is_checking (Copy f l a b) errand = absurd (cc)
  is_checking (Migrate o n) errand = absurd (cc)
  is_checking Check errand = cc
  is_checking Replay errand = absurd (cc)
  is_checking (Rehearse l s) errand = absurd (cc)

  is_replaying : (task : Task) → errand_of task ≡ replaying → IsTask task replays
  is_replaying (Found f l) errand = absurd (cc)
  is_replaying (Serve f p k) errand = absurd (cc)
  is_replaying (Copy f l a b) errand = absurd (cc)
  is_replaying (Migrate o n) errand = absurd (cc)
  is_replaying Check errand = absurd (cc)
  is_replaying Replay errand = cc
  is_replaying (Rehearse l s) errand = absurd (cc)

  is_rehearsing : (task : Task) (lab : List ℕ) (moment : ℕ) → errand_of task ≡ rehearsing → IsGiven rows task
      → GivesArguments (rehearses lab moment) rows → IsTask task (rehearses lab moment)
  is_rehearsing (Found f l) lab moment errand has gives = absurd (cc)
  is_rehearsing (Serve f p k) lab moment errand has gives = absurd (cc)
  is_rehearsing (Copy f l a b) lab moment errand has gives = absurd (cc)
  is_rehearsing (Migrate o n) lab moment errand has gives = absurd (cc)
  is_rehearsing Check lab moment errand has gives = absurd (cc)
  is_rehearsing Replay lab moment errand has gives = absurd (cc)
  is_rehearsing (Rehearse l s) lab moment errand has gives =
      let one : l.now ≡ lab = has.0 lab gives.0 in
      (moment, has.1 moment gives.1 gives.2, gives.2, cc)

  is_task : (task : Task) (asked : Asked) → errand_of task ≡ errand_called (name_of asked) → IsGiven rows task → GivesArguments asked rows
      → IsTask task asked
  is_task task (founds file lab) errand has gives = is_founding task file lab errand has gives
  is_task task (serves file port count) errand has gives = is_serving task file port count errand has gives
  is_task task (copies file lab from to) errand has gives = is_copying task file lab from to errand has gives
  is_task task (migrates old new) errand has gives = is_migrating task old new errand has gives
  is_task task checks errand has gives = is_checking task errand
  is_task task replays errand has gives = is_replaying task errand
  is_task task (rehearses lab moment) errand has gives = is_rehearsing task lab moment errand has gives

pub asked_is : (words : List (List ℕ)) (task : Task) (asked : Asked) → errand_of task ≡ errand_named (subcommand_of labdesk_app words)
    → IsGivenIn (subcommand_of labdesk_app words) task → AsksTask asked words → IsTask task asked
asked_is words task asked errand given asks = is_task asks.rows task asked
    (errand ∙ ap errand_named asks.entered) (subst (λ entered. IsGivenIn entered task) asks.entered given) asks.given
