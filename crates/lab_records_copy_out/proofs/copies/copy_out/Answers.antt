-- What was written under the head of a laboratory is the text of its copy, which is sound.
use Rattle.std.proofs.Common.{List, ℕ, sym, ◌∙◌, subst, IfSome}
use Rattle.lab_copy_rows.specs.Outs.{Sends}
use Rattle.lab_records_keeper.specs.Worlds.{Given}
use Rattle.lab_records_copy_out.specs.CopyTexts.{CanWalk, IsWalkable, copy_text, desk_order}
use Rattle.lab_records_copy_out.proofs.HeadLemmas.{IsOrdered, few_walked, head_there, text_is}
use Rattle.lab_records_copy_out.proofs.LegibleLemmas.{sent_sound, walks_so}
use Rattle.lab_records_copy_out.proofs.ReadLemmas.{shuts_on}
use Rattle.lab_records_copy_out.proofs.copies.copy_out.Given.{Over}
use Rattle.lab_records_copy_out.proofs.copies.copy_out.Goals.{After-copy_under}
use Rattle.lab_records_copy_out.proofs.copies.copy_out.Goals as goal

-- the text of the copy went out
went : (g : Over) (c : After-copy_under g) →
    CanWalk (g.S.Keeper.world c.args.keeper.now) c.args.lab.now →
    Given (g.S.Keeper.world c.args.keeper.now) (g.S.Keeper.world c.copy_under.new.keeper)
    (Sends (g.W.Write.contents c.args.writer.now) (g.W.Write.contents c.copy_under.new.writer)
    (copy_text (desk_order c.args.from c.args.to c.args.moment)
    ((g.S.Keeper.world c.args.keeper.now).meaning c.args.lab.now)) c.copy_under.result)
went g c = λ can honest reached.
    let old = g.S.Keeper.world c.args.keeper.now in
    let now = g.S.Keeper.world c.head_of.new.keeper in
    let code = c.args.lab.now in
    let order = desk_order c.args.from c.args.to c.args.moment in
    let earlier = c.copy_under.ensures.read.passes.honest honest in
    let lives = c.in-Ok-Some.ensures.lives earlier reached in
    let head = head_there c.in-Ok-Some.slice (old.meaning code)
    (sym c.in-Ok-Some.field-0-is ∙ c.in-Ok-Some.ensures.part earlier reached) in
    let is : IsOrdered code order c.first_line-line.result c.last_kept-last.result
    c.in-Ok-Some.slice old.meaning now.meaning = record {
      head = head;
      own = g.met.S.Keeper.kept c.args.keeper.now code head.lab
          (c.head_of.ensures.read.passes.honest earlier) lives.0 reached head.there;
      same = c.head_of.ensures.read.same earlier reached lives.1 code;
      walkable = subst (λ kept. IfSome kept IsWalkable) head.there (can lives.0);
      first_is = c.first_line-line.ensures;
      last_is = c.last_kept-last.ensures;
    } in
    subst (λ (text : List ℕ). Sends (g.W.Write.contents c.args.writer.now)
    (g.W.Write.contents c.copy_under.new.writer) text c.copy_under.result)
    (text_is code order _ _ c.in-Ok-Some.slice old.meaning now.meaning is)
    (c.copy_under.ensures.text lives.1
    (few_walked code order _ _ c.in-Ok-Some.slice old.meaning now.meaning is) honest
    (c.head_of.ensures.read.reached earlier reached))

pub returns-in-Ok-Some-clause-text : goal.returns-in-Ok-Some-clause-text
returns-in-Ok-Some-clause-text g c =
    went g (goal.at.returns-in-Ok-Some-clause-text g c).After-copy_under

pub returns-in-Ok-Some-clause-sound : goal.returns-in-Ok-Some-clause-sound
returns-in-Ok-Some-clause-sound g c = λ can le honest reached.
    let kept = (g.S.Keeper.world c.args.keeper.now).meaning c.args.lab.now in
    let earlier = c.copy_under.ensures.read.passes.honest honest in
    let head = head_there c.in-Ok-Some.slice kept
    (sym c.in-Ok-Some.field-0-is ∙ c.in-Ok-Some.ensures.part earlier reached) in
    sent_sound (desk_order c.args.from c.args.to c.args.moment) kept head.lab _ _
    c.copy_under.result head.there (can (c.in-Ok-Some.ensures.lives earlier reached).0)
    c.order_is_legible.ensures le
    (went g (goal.at.returns-in-Ok-Some-clause-sound g c).After-copy_under
    (λ live. walks_so kept (can live)) honest reached)

pub returns-in-Ok-Some-clause-shuts : goal.returns-in-Ok-Some-clause-shuts
returns-in-Ok-Some-clause-shuts g c =
    shuts_on g.S.Keeper.world g.S.Keeper.rests c.args.keeper.now c.head_of.new.keeper
    c.copy_under.new.keeper c.head_of.ensures.read c.copy_under.ensures.read
    c.head_of.ensures.shuts c.copy_under.ensures.shuts
