use Rattle.std.proofs.Common.{nat_le, w64, sym, ◌∙◌, arith}
use Rattle.std.proofs.lemmas.Bool.Decides.{nat_tests}
use Rattle.std.proofs.lemmas.Int.{to_z_pos}
use Rattle.lab_forms_texts.specs.Moment.{is_moment}
use Rattle.lab_program_replay.proofs.NumberLemmas.{number_where-stricter, number_where-also, moment_of}
use Rattle.lab_program_replay.proofs.event.moment.Goals as goal

pub returns-in_err-seconds : goal.returns-in_err-seconds
returns-in_err-seconds c =
    c.from_residual.ensures ∙ sym (number_where-stricter
    (λ n. nat_le n 9223372036854775807) is_moment c.args.text.now
    (λ n h. grind (arith, nat_tests)) (sym c.number.ensures.value ∙ c.in_err-seconds.was))

pub returns : goal.returns
returns c =
    let also = number_where-also (λ n. nat_le n 9223372036854775807) is_moment
    c.in_ok-seconds.seconds c.args.text.now
    (sym c.number.ensures.value ∙ c.in_ok-seconds.was) in
    c.ok.ensures.value ∙ moment_of c.in_ok-seconds.seconds _ c.from_seconds.result
    (to_z_pos w64 c.in_ok-seconds.seconds (omega (arith, c.in_ok-seconds.ensures.within)))
    c.from_seconds.ensures.value c.from_seconds.ensures.fault ∙ sym also
