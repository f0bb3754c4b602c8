-- Each number's record goes out behind those before it; a fault ends the walk within it.
use Rattle.std.proofs.Common.{arith, ◌≡◌, ◌-◌, ◌≤◌, subst}
use Rattle.std.specs.Io.KnownBytes.{Appends}
use Rattle.std.proofs.lemmas.Result.{err_from_is_err_and}
use Rattle.lab_records_copy_out.specs.CopyTexts.{numbers_between, record_rows, walked}
use Rattle.lab_records_copy_out.proofs.FaultLemmas.{fits_as}
use Rattle.lab_records_copy_out.proofs.HeadLemmas.{from_one}
use Rattle.lab_records_copy_out.proofs.OutLemmas.{given_rows, none_given, record_given}
use Rattle.lab_records_copy_out.proofs.ReadLemmas.{read_none, read_on, shuts_none, shuts_on}
use Rattle.lab_records_copy_out.proofs.TextLemmas.{none_walked, records_text, walk_cut, walk_more}
use Rattle.lab_records_copy_out.proofs.wholes.give_wholes.Goals as goal

pub give_at-requires-clause-first : goal.give_at-requires-clause-first
give_at-requires-clause-first g c =
    omega (
      arith,
      from_one c.args.from c.get-first.ensures.in_range,
      c.get-first.ensures.value,
      c.loop-number.auto.number,
    )

pub loop-number-init : goal.loop-number-init
loop-number-init g c = record {
  few = omega (arith, c.get-first.ensures.value);
  read = read_none g.S.Keeper.world g.S.Keeper.rests c.args.keeper.now
      (g.met.S.Keeper.still c.args.keeper.now);
  shuts = shuts_none (g.S.Keeper.world c.args.keeper.now);
  alive = λ honest reached live. live;
  text = λ live honest reached. none_walked c.args.lab.now
      ((g.S.Keeper.world c.args.keeper.now).meaning c.args.lab.now) c.args.from
      c.get-first.result _ c.get-first.ensures.value;
  counts = λ live honest reached. none_given c.args.lab.now
      ((g.S.Keeper.world c.args.keeper.now).meaning c.args.lab.now) c.args.from
      c.get-first.result c.args.out.now c.get-first.ensures.value;
}

pub loop-number-preserved : goal.loop-number-preserved
loop-number-preserved g c =
    let so = c.loop-number.invariant in
    let gave = c.give_at.ensures.read in
    let from : c.args.from ≤ c.loop-number.number =
    omega (arith, c.get-first.ensures.value, c.loop-number.auto.number) in
    record {
      few = omega (arith, from, c.loop-number-test.true);
      read = read_on g.S.Keeper.world g.S.Keeper.rests c.args.keeper.now
          c.loop-number.keeper c.give_at.new.keeper
          (g.met.S.Keeper.rests_on c.args.keeper.now c.loop-number.keeper
          c.give_at.new.keeper) so.alive so.read gave;
      shuts = shuts_on g.S.Keeper.world g.S.Keeper.rests c.args.keeper.now
          c.loop-number.keeper c.give_at.new.keeper so.read gave so.shuts
          c.give_at.ensures.shuts;
      alive = λ honest reached live.
          (c.in_ok-give_at.ensures.lives honest
          (so.read.reached (gave.passes.honest honest) reached)).1;
      text = λ live honest reached.
          let earlier = gave.passes.honest honest in
          let middle = so.read.reached earlier reached in
          walk_more c.args.lab.now _ _ c.args.from c.loop-number.number _ _ _
          (so.read.same earlier reached (so.alive earlier reached live) c.args.lab.now) from
          (so.text live earlier reached) (c.in_ok-give_at.ensures.text honest middle);
      counts = λ live honest reached.
          let earlier = gave.passes.honest honest in
          let middle = so.read.reached earlier reached in
          record_given c.args.lab.now _ _ c.args.from c.loop-number.number _ _ _
          (so.read.same earlier reached (so.alive earlier reached live) c.args.lab.now) from
          (so.counts live earlier reached) (c.in_ok-give_at.ensures.counts honest middle);
    }

pub returns-in_err-give_at-clause-text : goal.returns-in_err-give_at-clause-text
returns-in_err-give_at-clause-text g c = λ live honest reached.
    let failed = err_from_is_err_and c.from_residual.result c.from_residual.ensures.1 in
    let so = c.loop-number.invariant in
    let earlier = c.give_at.ensures.read.passes.honest honest in
    let middle = so.read.reached earlier reached in
    let from : c.args.from ≤ c.loop-number.number =
    omega (arith, c.get-first.ensures.value, c.loop-number.auto.number) in
    rw failed.1 (walk_cut c.args.lab.now _ _ c.args.from c.loop-number.number c.args.last _ _ _
    (so.read.same earlier reached (so.alive earlier reached live) c.args.lab.now) from
    (omega (arith, c.loop-number-test.true)) (so.text live earlier reached)
    (c.in_err-give_at.ensures.text honest middle))

pub returns-in_err-give_at-clause-fault : goal.returns-in_err-give_at-clause-fault
returns-in_err-give_at-clause-fault g c =
    let failed = err_from_is_err_and c.from_residual.result c.from_residual.ensures.1 in
    rw (failed.1, failed.2) (fits_as ⊥ (g.S.Keeper.world c.loop-number.keeper).may_refuse
    (Unit {0}) ⊥ (g.S.Keeper.world c.args.keeper.now).may_refuse (Unit {0})
    c.in_err-give_at.field-0.0 (λ is. is) c.loop-number.invariant.read.passes.refusing
    (λ is. is) c.in_err-give_at.ensures.fault)

pub returns-in_err-give_at-clause-read : goal.returns-in_err-give_at-clause-read
returns-in_err-give_at-clause-read g c =
    let so = c.loop-number.invariant in
    read_on g.S.Keeper.world g.S.Keeper.rests c.args.keeper.now c.loop-number.keeper
    c.give_at.new.keeper
    (g.met.S.Keeper.rests_on c.args.keeper.now c.loop-number.keeper c.give_at.new.keeper)
    so.alive so.read c.give_at.ensures.read

pub returns-in_err-give_at-clause-shuts : goal.returns-in_err-give_at-clause-shuts
returns-in_err-give_at-clause-shuts g c =
    let so = c.loop-number.invariant in
    shuts_on g.S.Keeper.world g.S.Keeper.rests c.args.keeper.now c.loop-number.keeper
    c.give_at.new.keeper so.read c.give_at.ensures.read so.shuts c.give_at.ensures.shuts

pub returns-clause-text : goal.returns-clause-text
returns-clause-text g c = λ live honest reached.
    let so = c.loop-number.invariant in
    let all : c.loop-number.number - c.args.from ≡ numbers_between c.args.from c.args.last =
    omega (arith, so.few, c.loop-number-test.false) in
    subst (λ count. Appends (g.W.Write.contents c.args.writer.now)
    (g.W.Write.contents c.loop-number.writer) (records_text c.args.lab.now
    (walked ((g.S.Keeper.world c.args.keeper.now).meaning c.args.lab.now) c.args.from count)))
    all (so.text live honest reached)

pub returns-clause-counts : goal.returns-clause-counts
returns-clause-counts g c = λ live honest reached.
    let so = c.loop-number.invariant in
    let all : c.loop-number.number - c.args.from ≡ numbers_between c.args.from c.args.last =
    omega (arith, so.few, c.loop-number-test.false) in
    subst (λ count. c.loop-number.out ≡ given_rows c.args.out.now (record_rows c.args.lab.now
    (walked ((g.S.Keeper.world c.args.keeper.now).meaning c.args.lab.now) c.args.from count)))
    all (so.counts live honest reached)

pub returns-clause-lives : goal.returns-clause-lives
returns-clause-lives g c = λ live honest reached.
    c.loop-number.invariant.alive honest reached live

pub returns-clause-read : goal.returns-clause-read
returns-clause-read g c = c.loop-number.invariant.read

pub returns-clause-shuts : goal.returns-clause-shuts
returns-clause-shuts g c = c.loop-number.invariant.shuts
