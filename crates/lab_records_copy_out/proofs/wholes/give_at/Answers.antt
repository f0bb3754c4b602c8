-- The rows of the record that was read are those of the record that is meant.
use Rattle.std.proofs.Common.{◌≡◌, Option, Some, sym, ◌∙◌, subst, option_to_list}
use Rattle.lab_records_kept.specs.declared.records.Record.{Record}
use Rattle.lab_copy_rows.specs.Outs.{Sends}
use Rattle.lab_records_copy_out.specs.CopyTexts.{record_at}
use Rattle.lab_records_copy_out.proofs.TextLemmas.{records_text}
use Rattle.lab_records_copy_out.proofs.wholes.give_at.Goals as goal

pub returns-in-Ok-Some-clause-text : goal.returns-in-Ok-Some-clause-text
returns-in-Ok-Some-clause-text g c = λ honest reached.
    let is : Some c.in-Ok-Some.kept
    ≡ record_at c.args.number ((g.S.Keeper.world c.args.keeper.now).meaning c.args.lab.now) =
    sym c.in-Ok-Some.field-0-is ∙ c.in-Ok-Some.ensures.found honest reached in
    subst (λ (kept : Option Record). Sends (g.W.Write.contents c.args.writer.now)
    (g.W.Write.contents c.give_whole.new.writer)
    (records_text c.args.lab.now (option_to_list kept)) c.give_whole.result) is
    c.give_whole.ensures.text
