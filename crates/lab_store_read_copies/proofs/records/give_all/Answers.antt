-- Each number's record goes out behind those before it; a fault cuts it within one.
use Rattle.std.proofs.Common.{◌≡◌, ◌-◌, ◌≤◌, ℕ, Some, arith, ap, refl, sym, subst, ◌∙◌, Option, option_to_list}
use Rattle.std.specs.Io.KnownBytes.{Appends}
use Rattle.sqlite.specs.Effect.{Database}
use Rattle.lab_copy_rows.specs.Outs.{AppendsFront}
use Rattle.lab_store_tables.specs.Rows.{Tables, tables_in}
use Rattle.lab_store_tables.specs.Meaning.{meaning}
use Rattle.lab_store_tables.specs.Ready.{tables_of}
use Rattle.lab_store_read.proofs.Readers.{passes_none, unchanged_none, passes_on, unchanged_then}
use Rattle.lab_records_copy_out.specs.CopyTexts.{numbers_between, record_at, record_rows, walked}
use Rattle.lab_records_copy_out.proofs.HeadLemmas.{from_one}
use Rattle.lab_records_copy_out.proofs.OutLemmas.{given_rows, none_given, record_given}
use Rattle.lab_records_copy_out.proofs.TextLemmas.{none_walked, records_text, walk_cut, walk_more}
use Rattle.lab_store_read.specs.Causes.{HasFirst}
use Rattle.lab_store_read_records.specs.Shown.{records_shown}
use Rattle.lab_store_read_forms.specs.Readable.{HasWholeRecord}
use Rattle.lab_store_read_copies.specs.Causes.{HasNumbered}
use Rattle.lab_store_read_copies.specs.GivenRows.{lab_at}
use Rattle.lab_store_read_copies.specs.declared.covers.Cover.{Cover}
use Rattle.lab_store_read_copies.proofs.CauseLemmas.{none_blamed, then_told}
use Rattle.lab_store_read_copies.proofs.GivesLemmas.{fault_given}
use Rattle.lab_store_read_copies.proofs.FoundLemmas.{formed_as}
use Rattle.lab_store_read_copies.proofs.records.give_all.Goals as goal

pub ordinal-requires-clause-first : goal.ordinal-requires-clause-first
ordinal-requires-clause-first g c =
    omega (
      arith,
      from_one c.args.from c.get-first.ensures.in_range,
      c.get-first.ensures.value,
      c.loop-number.auto.number,
    )

pub loop-number-init : goal.loop-number-init
loop-number-init g c =
    let old = g.D.Readable.state c.args.conn.now in
    let lab = c.args.lab.now in
    record {
      few = omega (arith, c.get-first.ensures.value);
      passes = passes_none old;
      limit = refl;
      same = λ clean opened. unchanged_none old opened;
      formed = λ ready clean opened. tt;
      text = λ ready clean opened there. none_walked lab (meaning (tables_of old) lab)
          c.args.from c.get-first.result _ c.get-first.ensures.value;
      counts = λ ready clean opened there. none_given lab (meaning (tables_of old) lab)
          c.args.from c.get-first.result c.args.out.now c.get-first.ensures.value;
    }

pub loop-number-preserved : goal.loop-number-preserved
loop-number-preserved g c =
    let at = c.loop-number in
    let so = at.invariant in
    let old = g.D.Readable.state c.args.conn.now in
    let mid = g.D.Readable.state at.conn in
    let new = g.D.Readable.state c.give_record_at.new.conn in
    let gave = c.in_ok-behind.ensures in
    let lab = c.args.lab.now in
    let from : c.args.from ≤ at.number =
    omega (arith, c.get-first.ensures.value, at.auto.number) in
    record {
      few = omega (arith, from, c.loop-number-test.true);
      passes = passes_on old mid new so.passes gave.gives.passes so.same;
      limit = gave.gives.cause.limit ∙ so.limit;
      same = λ clean opened.
          unchanged_then old mid new (so.same (gave.gives.passes.clean clean) opened)
          (gave.gives.same clean tt);
      formed = λ ready clean opened.
          let was = gave.gives.passes.clean clean in
          let tables = ap (λ (db : Database). tables_in db.trees) (so.same was opened).0.now_is in
          formed_as _ (tables_of mid) (tables_of old) (sym tables)
          (gave.formed (so.passes.ready ready) clean
          (formed_as at.before (tables_of old) (tables_of mid) tables (so.formed ready was opened)));
      text = λ ready clean opened there.
          let was = gave.gives.passes.clean clean in
          let tables = ap (λ (db : Database). tables_in db.trees) (so.same was opened).0.now_is in
          walk_more lab (meaning (tables_of old) lab) (meaning (tables_of mid) lab) c.args.from
          at.number _ _ _ (ap (λ (v : Tables). meaning v lab) tables) from
          (so.text ready was opened there)
          (subst (λ (n : ℕ). Appends (g.W.Write.contents at.writer)
          (g.W.Write.contents c.give_record_at.new.writer)
          (records_text lab (option_to_list (record_at n (meaning (tables_of mid) lab)))))
          c.ordinal.ensures
          (gave.gives.text (so.passes.ready ready) clean tt (
            subst (λ (v : Tables). Some c.args.found ≡ lab_at v lab) (sym tables) there,
            formed_as at.before (tables_of old) (tables_of mid) tables (so.formed ready was opened),
          )));
      counts = λ ready clean opened there.
          let was = gave.gives.passes.clean clean in
          let tables = ap (λ (db : Database). tables_in db.trees) (so.same was opened).0.now_is in
          record_given lab (meaning (tables_of old) lab) (meaning (tables_of mid) lab) c.args.from
          at.number _ _ _ (ap (λ (v : Tables). meaning v lab) tables) from
          (so.counts ready was opened there)
          (subst (λ (n : ℕ). c.give_record_at.new.out ≡ given_rows at.out
          (record_rows lab (option_to_list (record_at n (meaning (tables_of mid) lab)))))
          c.ordinal.ensures
          (gave.gives.counts (so.passes.ready ready) clean tt (
            subst (λ (v : Tables). Some c.args.found ≡ lab_at v lab) (sym tables) there,
            formed_as at.before (tables_of old) (tables_of mid) tables (so.formed ready was opened),
          )));
    }

pub returns-in_err-behind : goal.returns-in_err-behind
returns-in_err-behind g c =
    let at = c.loop-number in
    let so = at.invariant in
    let old = g.D.Readable.state c.args.conn.now in
    let mid = g.D.Readable.state at.conn in
    let new = g.D.Readable.state c.give_record_at.new.conn in
    let lab = c.args.lab.now in
    let gave = c.in_err-behind.ensures.gives in
    let from : c.args.from ≤ at.number =
    omega (arith, c.get-first.ensures.value, at.auto.number) in
    fault_given {A = Option Cover} {Given = λ t. Some c.args.found ≡ lab_at t lab}
    c.from_residual.result c.from_residual.ensures.1 (record {
      passes = passes_on old mid new so.passes gave.passes so.same;
      same = λ clean opened. tt;
      text = λ ready clean opened there.
          let was = gave.passes.clean clean in
          let tables = ap (λ (db : Database). tables_in db.trees) (so.same was opened).0.now_is in
          walk_cut lab (meaning (tables_of old) lab) (meaning (tables_of mid) lab) c.args.from
          at.number c.args.last _ _ _ (ap (λ (v : Tables). meaning v lab) tables) from
          (omega (arith, c.loop-number-test.true)) (so.text ready was opened there)
          (subst (λ (n : ℕ). AppendsFront (g.W.Write.contents at.writer)
          (g.W.Write.contents c.give_record_at.new.writer)
          (records_text lab (option_to_list (record_at n (meaning (tables_of mid) lab)))))
          c.ordinal.ensures
          (gave.text (so.passes.ready ready) clean tt (
            subst (λ (v : Tables). Some c.args.found ≡ lab_at v lab) (sym tables) there,
            formed_as at.before (tables_of old) (tables_of mid) tables (so.formed ready was opened),
          )));
      counts = λ ready clean opened there. tt;
      fault = gave.fault;
      cause = then_told {Then = λ t. HasNumbered t c.args.found.id c.args.from c.args.last} old mid
          new so.passes so.same so.limit gave.passes gave.cause
          (λ ready clean has. subst (λ (n : ℕ). HasFirst (HasWholeRecord (tables_of old))
          (records_shown (tables_of old) c.args.found.id n)) (sym c.ordinal.ensures)
          (has at.number from (omega (arith, c.loop-number-test.true))));
    })

pub returns : goal.returns
returns g c =
    let at = c.loop-number in
    let so = at.invariant in
    let old = g.D.Readable.state c.args.conn.now in
    let lab = c.args.lab.now in
    let all : at.number - c.args.from ≡ numbers_between c.args.from c.args.last =
    omega (arith, so.few, c.loop-number-test.false) in
    record {
      passes = so.passes;
      same = so.same;
      text = λ ready clean opened there.
          subst (λ count. Appends (g.W.Write.contents c.args.writer.now)
          (g.W.Write.contents at.writer)
          (records_text lab (walked (meaning (tables_of old) lab) c.args.from count)))
          all (so.text ready clean opened there);
      counts = λ ready clean opened there.
          subst (λ count. at.out ≡ given_rows c.args.out.now (record_rows lab
          (walked (meaning (tables_of old) lab) c.args.from count)))
          all (so.counts ready clean opened there);
      fault = tt;
      cause = none_blamed so.limit;
    }
