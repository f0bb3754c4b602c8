use Rattle.std.proofs.Common.{w64, ℤ, Option, Some, option_map, IfSome, subst, sym, ap, ◌∙◌, SFits, rules}
use Rattle.std.proofs.lemmas.Int.{to_z-of_z}
use Rattle.lab_store_tables.specs.Meaning.{code_of}
use Rattle.lab_move_tables.specs.KeptLabs.{is_nobody_or_theirs}
use Rattle.lab_move_tables.proofs.Wheres.{where_and}
use Rattle.lab_move_read_people.specs.Readable.{HasOwner}
use Rattle.lab_move_read_people.proofs.Found.{found_ends}
use Rattle.lab_move_read_people.proofs.owners.theirs_if.Goals as goal

pub returns-in_err-theirs_at-in-Some : goal.returns-in_err-theirs_at-in-Some
returns-in_err-theirs_at-in-Some g c =
    let lab = c.args.lab in
    let id = c.in-Some.id in
    let id_fits : SFits w64 id = search rules in
    found_ends c.in_err-theirs_at-in-Some.field-0.0 (rw (to_z-of_z w64 lab c.ranges.lab, to_z-of_z w64 id id_fits) at c.in_err-theirs_at-in-Some.ensures)
    (λ t file fails. ap (is_nobody_or_theirs t lab) c.in-Some.is ∙ fails) c.from_residual.result c.from_residual.ensures.1
    (λ t wanted. subst (λ (o : Option ℤ). IfSome o (HasOwner (g.D.Readable.state c.args.conn.now).now t)) c.in-Some.is wanted)

pub returns-in_ok-theirs_at-in-Some : goal.returns-in_ok-theirs_at-in-Some
returns-in_ok-theirs_at-in-Some g c =
    let lab = c.args.lab in
    let id = c.in-Some.id in
    let id_fits : SFits w64 id = search rules in
    where_and (rw (to_z-of_z w64 lab c.ranges.lab, to_z-of_z w64 id id_fits) at c.in_ok-theirs_at-in-Some.ensures) (λ t file is.
    (ap (is_nobody_or_theirs t lab) c.in-Some.is ∙ is.0, ap Some is.1 ∙ sym (ap (option_map (code_of t)) c.in-Some.is))) (λ t file wanted is. tt)
