-- The list after the call, and what a crash leaves, which is that list.
use Rattle.std.proofs.Common.{rules, List, ◌∙◌, ap, subst, inr}
use Rattle.lab_records_kept.specs.declared.labs.Lab.{Lab}
use Rattle.lab_records_kept.specs.declared.changes.Change.{Change}
use Rattle.lab_records_keeper.specs.Worlds.{Changes}
use Rattle.lab_records_memory.specs.Lists.{lab_of, ChangesInPlace}
use Rattle.lab_records_memory.proofs.ListLawsWords.{nothing_moved}
use Rattle.lab_records_memory.proofs.Listing.{left_as}
use Rattle.lab_records_memory.proofs.lists.ListsKeeper.apply.Goals as goal

pub returns-clause-applies : goal.returns-clause-applies
returns-clause-applies c =
    let made = subst (λ (labs : List Lab). Changes c.args.code.now c.args.changes (lab_of labs)
    (lab_of c.apply_in.new.labs.items)) c.self.view_is c.in_ok-apply_in.ensures.changed in
    let moved = subst (λ (labs : List Lab). ChangesInPlace labs c.apply_in.new.labs.items
    c.args.code.now c.args.changes) c.self.view_is c.in_ok-apply_in.ensures.place in
    record {
      makes = λ fits honest reached. record {
        changed = made;
        rows = moved;
        crash = λ live held left. inr (left_as c.args.code.now c.args.changes
            (lab_of c.args.self.now) (lab_of c.apply_in.new.labs.items) held made left);
        safe = λ live safe. tt;
        durable = λ some. (λ held left. left, tt);
        reached = tt;
      };
      ends = search rules;
      quiet = λ none honest reached live held left code.
          let same = nothing_moved c.args.self.now c.apply_in.new.labs.items c.args.code.now
          (subst (λ (changes : List Change). ChangesInPlace c.args.self.now
          c.apply_in.new.labs.items c.args.code.now changes) none moved) in
          left code ∙ ap (λ (labs : List Lab). lab_of labs code) same;
      reached_err = search rules;
    }
