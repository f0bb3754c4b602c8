-- a line out of its place, or one that shows a flaw, is told; every other one is kept
use Rattle.std.proofs.Common.{sym, ◌∙◌}
use Rattle.std.proofs.Math.Facts.{Fits-lt-pow}
use Rattle.lab_copy.proofs.KeptLemmas.{told_order, told_flaw, ran_out_seeing, taken_by, may_begin}
use Rattle.lab_copy.proofs.kept.Kept.take.Goals as goal

pub returns-then-not-is_in_place : goal.returns-then-not-is_in_place
returns-then-not-is_in_place c = λ lines row_is is.
    told_order c.args.row c.args.self.now lines c.args.line row_is is (sym c.is_in_place.ensures ∙ c.if-not-is_in_place.true)

pub returns-in-Ok-Some : goal.returns-in-Ok-Some
returns-in-Ok-Some c = λ lines row_is is.
    told_flaw c.args.row c.args.self.now lines c.args.line row_is is (sym c.is_in_place.ensures ∙ c.if-not-is_in_place.false)
    ∙ sym c.in-Ok-Some.ensures.value ∙ c.in-Ok-Some.field-0-is

pub returns-in-Err : goal.returns-in-Err
returns-in-Err c = λ lines row_is is.
    ran_out_seeing c.args.row c.args.self.now lines c.args.line row_is is
    (sym c.is_in_place.ensures ∙ c.if-not-is_in_place.false) c.in-Err.ensures.memory

pub keep-requires : goal.keep-requires
keep-requires c = may_begin c.args.self.now c.args.line (sym c.is_in_place.ensures ∙ c.if-not-is_in_place.false) c.requires

pub returns-in-Ok-None : goal.returns-in-Ok-None
returns-in-Ok-None c = λ lines row_is is.
    taken_by c.args.row c.args.self.now c.keep.new.self lines c.args.line c.keep.result (Fits-lt-pow c.ranges.row) row_is is
    (sym c.is_in_place.ensures ∙ c.if-not-is_in_place.false) c.requires
    (sym c.in-Ok-None.ensures.value ∙ c.in-Ok-None.field-0-is) c.keep.ensures.kept c.keep.ensures.fault
