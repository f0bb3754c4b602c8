use Rattle.std.proofs.Common.{◌≡◌, w64, Option, Some, option_map, IfSome, subst, sym, ap, ◌∙◌, SFits, rules}
use Rattle.std.proofs.lemmas.Int.{to_z-of_z}
use Rattle.lab_store_read_people.specs.declared.heads.AskHead.{AskHead}
use Rattle.lab_store_read_people.specs.Private.Heads.{ask_by}
use Rattle.lab_move_tables.proofs.Wheres.{where_and}
use Rattle.lab_move_read_people.specs.Private.Persons.{is_kept_ask}
use Rattle.lab_move_read_people.specs.Readable.{HasOwner}
use Rattle.lab_move_read_people.proofs.Found.{found_ends}
use Rattle.lab_move_read_people.proofs.people.ask_whole.Goals as goal

pub returns-in_err-asker-in-Some : goal.returns-in_err-asker-in-Some
returns-in_err-asker-in-Some g c =
    let lab = c.args.lab in
    let asker = c.in-Some.ask.asker in
    let id_fits : SFits w64 asker = search rules in
    found_ends c.in_err-asker-in-Some.field-0.0 (rw (to_z-of_z w64 lab c.ranges.lab, to_z-of_z w64 asker id_fits) at c.in_err-asker-in-Some.ensures)
    (λ t file fails. ap (is_kept_ask t lab) c.in-Some.is ∙ fails) c.from_residual.result c.from_residual.ensures.1
    (λ t wanted. subst (λ (o : Option AskHead). IfSome o (λ (one : AskHead). HasOwner (g.D.Readable.state c.args.conn.now).now t one.asker)) c.in-Some.is wanted)

pub returns-in_ok-asker-in-Some : goal.returns-in_ok-asker-in-Some
returns-in_ok-asker-in-Some g c =
    let lab = c.args.lab in
    let ask = c.in-Some.ask in
    let id_fits : SFits w64 ask.asker = search rules in
    where_and (rw (to_z-of_z w64 lab c.ranges.lab, to_z-of_z w64 ask.asker id_fits) at c.in_ok-asker-in-Some.ensures) (λ t file is.
    let made : Some (record { asker = c.in_ok-asker-in-Some.asker; asked = ask.asked; first = ask.first }) ≡ Some (ask_by t ask) = λ i. Some (record { asker = is.1 i; asked = ask.asked; first = ask.first }) in
    (ap (is_kept_ask t lab) c.in-Some.is ∙ is.0, made ∙ sym (ap (option_map (ask_by t)) c.in-Some.is))) (λ t file wanted is. tt)
