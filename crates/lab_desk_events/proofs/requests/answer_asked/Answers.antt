-- What was decided on the part that was loaded is the step of the laboratory, and its changes fit.
-- The rows rest over the load, and then they move by the changes that were built.
use Rattle.std.proofs.Common.{sym, ◌∙◌, [], inl, subst}
use Rattle.std.specs.Prelude.{◌≡◌, List, Ok, IfOk}
use Rattle.std.proofs.lemmas.Bool.{false≢true}
use Rattle.lab_records_kept.specs.declared.changes.Change.{Change}
use Rattle.lab_records_kept.specs.Changes.{ChangesFit}
use Rattle.lab_records_kept.specs.Limits.{IsWithin}
use Rattle.lab_records_keeper.specs.Worlds.{Meaning, SameMeaning, Changes, Given, Lives}
use Rattle.lab_records_laws.specs.Stepping.{WhereThere}
use Rattle.lab_records_machine.specs.Machine.{step}
use Rattle.lab_records_laws.specs.Deciding.{decided}
use Rattle.lab_wire.specs.declared.replies.Answer.TheVariants.{Replied}
use Rattle.lab_wire.specs.Replies.{reply_text}
use Rattle.lab_desk_events.specs.Requests.{Steps}
use Rattle.lab_desk_events.proofs.RequestWords.{Builds}
use Rattle.lab_desk_events.proofs.Deciding.{brings, brings_none, builds, none_there, idle_none, none_changed, none_stepped, ends_on, fits_there, made_steps, on_ok, on_ok_all, either}
use Rattle.lab_desk_events.proofs.requests.answer_asked.Given.{Over}
use Rattle.lab_desk_events.proofs.requests.answer_asked.Goals.{After-answer_on}
use Rattle.lab_desk_events.proofs.requests.answer_asked.Goals as goal

-- ---- where the part of a laboratory was loaded

-- what every laboratory meant before, and once the part was loaded
abbrev old : (g : Over) → After-answer_on g → Meaning
old g c = (g.S.Keeper.world c.args.keeper.now).meaning

abbrev mid : (g : Over) → After-answer_on g → Meaning
mid g c = (g.S.Keeper.world c.load_needed.new.keeper).meaning

-- the changes that are decided on the part
abbrev changes : (g : Over) → After-answer_on g → List Change
changes g c =
    (decided c.in-Ok-Some.slice c.args.tick.now c.args.asked.instruction.command).changes

-- what is known once it was answered: the keeper was honest and reached when the part was loaded,
-- no laboratory changed by that, and what was built is the step
record Answered (g : Over) (c : After-answer_on g) : Type 0 where
  earlier : (g.S.Keeper.world c.load_needed.new.keeper).is_honest
  middle : (g.S.Keeper.world c.load_needed.new.keeper).is_reached
  lives : Lives (g.S.Keeper.world c.args.keeper.now) (g.S.Keeper.world c.load_needed.new.keeper)
  same : SameMeaning (old g c) (mid g c)
  built : Builds (old g c c.args.asked.lab) c.args.tick.now c.args.asked.instruction
      (reply_text c.args.tick.now (Replied
      (decided c.in-Ok-Some.slice c.args.tick.now c.args.asked.instruction.command).reply))
      (changes g c)

answered : (g : Over) (c : After-answer_on g) →
    Given (g.S.Keeper.world c.args.keeper.now) (g.S.Keeper.world c.answer_on.new.keeper)
    (Answered g c)
answered g c honest reached =
    let earlier = c.answer_on.ensures.applies.ends.passes.honest honest in
    let lives = c.in-Ok-Some.ensures.loads.lives earlier reached in
    record {
      earlier = earlier;
      middle = c.load_needed.ensures.loads.reached earlier reached;
      lives = lives;
      same = c.load_needed.ensures.loads.same earlier reached lives.1;
      built = builds _ c.in-Ok-Some.slice c.args.tick.now c.args.asked.instruction
          (sym c.in-Ok-Some.field-0-is ∙ c.in-Ok-Some.ensures.part earlier reached)
          c.command_is_formed.ensures;
    }

-- the changes fit what was loaded, where the laboratory is within its limits
fits : (g : Over) (c : After-answer_on g) → Answered g c →
    WhereThere IsWithin (old g c c.args.asked.lab) →
    ChangesFit (mid g c c.args.asked.lab) (changes g c)
fits g c was within = fits_there c.args.asked.lab (changes g c) (old g c) (mid g c)
    (was.same c.args.asked.lab) (was.built.fit within)

-- what was made of what was loaded is the step of what was there
steps : (g : Over) (c : After-answer_on g) (held : Meaning) → Answered g c →
    Changes c.args.asked.lab (changes g c) (mid g c) held →
    Steps c.args.tick.now (Ok c.args.asked) (old g c) held
steps g c held was made = made_steps c.args.asked.lab (changes g c)
    (step (old g c c.args.asked.lab) c.args.tick.now c.args.asked.instruction).after
    (old g c) (mid g c) held was.same was.built.after made

pub returns-in-Ok-Some-clause-reply : goal.returns-in-Ok-Some-clause-reply
returns-in-Ok-Some-clause-reply g c = λ honest reached.
    let was = answered g (goal.at.returns-in-Ok-Some-clause-reply g c).After-answer_on
    honest reached in
    subst (λ told. IfOk c.answer_on.result (λ reply. reply.items ≡ told)) was.built.replied
    c.answer_on.ensures.reply

pub returns-in-Ok-Some-clause-quiet : goal.returns-in-Ok-Some-clause-quiet
returns-in-Ok-Some-clause-quiet g c = λ idle honest reached live held left.
    let was = answered g (goal.at.returns-in-Ok-Some-clause-quiet g c).After-answer_on
    honest reached in
    c.load_needed.ensures.loads.crash was.earlier reached live held
    (c.answer_on.ensures.applies.quiet (was.built.idle.0 idle) honest was.middle was.lives.1 held left)

pub returns-in-Ok-Some-clause-does : goal.returns-in-Ok-Some-clause-does
returns-in-Ok-Some-clause-does g c = λ within honest reached.
    let on = (goal.at.returns-in-Ok-Some-clause-does g c).After-answer_on in
    let was = answered g on honest reached in
    let there = within was.lives.0 c.args.asked.lab in
    let made = c.answer_on.ensures.applies.makes (fits g on was there) honest was.middle in
    record {
      after = on_ok c.answer_on.result
          (steps g on (g.S.Keeper.world c.answer_on.new.keeper).meaning was) made.changed;
      rows = on_ok c.answer_on.result (λ moved. record {
        changes = changes g on;
        fit = was.built.fit there;
        after = was.built.after;
        moved = g.met.S.Keeper.moves_on _ _ _ _ _
            (c.load_needed.ensures.loads.rows was.earlier reached was.lives.1) moved;
      }) made.rows;
      crash = λ live held left.
          either (c.load_needed.ensures.loads.crash was.earlier reached live held)
          (steps g on held was) (made.crash was.lives.1 held left);
      safe = λ live safe. made.safe was.lives.1
          (c.load_needed.ensures.loads.safe was.earlier reached live safe);
      durable = λ busy. made.durable (λ none. false≢true (sym busy ∙ was.built.idle.1 none));
      reached = made.reached;
    }

pub returns-in-Ok-Some-clause-legible : goal.returns-in-Ok-Some-clause-legible
returns-in-Ok-Some-clause-legible g c = λ honest reached.
    brings _ c.in-Ok-Some.slice c.args.tick.now c.args.asked.instruction c.answer_on.result
    (sym c.in-Ok-Some.field-0-is ∙ c.in-Ok-Some.ensures.part
    (c.answer_on.ensures.applies.ends.passes.honest honest) reached) c.answer_on.ensures.legible

pub returns-in-Ok-Some-clause-ends : goal.returns-in-Ok-Some-clause-ends
returns-in-Ok-Some-clause-ends g c = ends_on (g.S.Keeper.world c.args.keeper.now)
    (g.S.Keeper.world c.load_needed.new.keeper) (g.S.Keeper.world c.answer_on.new.keeper)
    (g.S.Keeper.rests c.args.keeper.now c.load_needed.new.keeper)
    (g.S.Keeper.rests c.load_needed.new.keeper c.answer_on.new.keeper)
    (g.S.Keeper.rests c.args.keeper.now c.answer_on.new.keeper) _ c.answer_on.result
    c.in-Ok-Some.ensures.loads c.answer_on.ensures.applies.ends (g.met.S.Keeper.rests_on _ _ _)

-- ---- where there is no laboratory of the code

pub returns-in-Ok-None-clause-does : goal.returns-in-Ok-None-clause-does
returns-in-Ok-None-clause-does g c = λ within honest reached.
    let loads = c.in-Ok-None.ensures.loads in
    let live = (loads.lives honest reached).1 in
    let none = none_there _ c.args.tick.now c.args.asked.instruction
    (sym c.in-Ok-None.field-0-is ∙ c.in-Ok-None.ensures.part honest reached) in
    let changed = none_changed _ c.args.tick.now c.args.asked.instruction none in
    record {
      after = on_ok_all c.no_such_lab.result (none_stepped c.args.asked.lab c.args.tick.now
          c.args.asked.instruction _ _ none (loads.same honest reached live));
      rows = on_ok_all c.no_such_lab.result (record {
        changes = [];
        fit = changed.0;
        after = changed.1;
        moved = g.met.S.Keeper.rests_unchanged _ _ _ (loads.rows honest reached live);
      });
      crash = λ live held left. inl (loads.crash honest reached live held left);
      safe = loads.safe honest reached;
      durable = λ busy. absurd (false≢true (sym busy
          ∙ idle_none _ c.args.tick.now c.args.asked.instruction none));
      reached = loads.reached honest reached;
    }

pub returns-in-Ok-None-clause-legible : goal.returns-in-Ok-None-clause-legible
returns-in-Ok-None-clause-legible g c = λ honest reached.
    on_ok_all c.no_such_lab.result (brings_none _ c.args.tick.now c.args.asked.instruction
    (none_there _ c.args.tick.now c.args.asked.instruction
    (sym c.in-Ok-None.field-0-is ∙ c.in-Ok-None.ensures.part honest reached)))
