use Rattle.std.proofs.Common.{◌≡◌, ◌<◌, length, get_or, ap, refl, sym, subst, ◌∙◌, arith, rules}
use Rattle.sqlite.specs.State.{HasCleanDisk}
use Rattle.sqlite.specs.Held.{state}
use Rattle.lab_store_files.specs.declared.tables.LabTable.TheVariants.{Desk}
use Rattle.lab_store_files.specs.Tables.{all_tables}
use Rattle.lab_store_files.specs.NewFiles.{IsEmptyUnder}
use Rattle.lab_store_files.specs.Private.NewFiles.{schema_before, schema_with}
use Rattle.lab_store_files.proofs.Making.{before_is, with_is}
use Rattle.lab_store_files.proofs.Transactions.{none_then, keeps_then}
use Rattle.lab_store_files.proofs.creating.make_tables.Goals as goal

pub loop-one-preserved : goal.loop-one-preserved
loop-one-preserved g c =
    let old = state g.S.Store c.args.tx.now.conn.now in
    let mid = state g.S.Store c.loop-one.tx.conn.now in
    let new = state g.S.Store c.make_table.new.tx.conn.now in
    let inv = c.loop-one.invariant in
    let i = c.loop-one.one-index in
    let item = get_or all_tables i Desk in
    let early : HasCleanDisk new → HasCleanDisk mid = λ clean. omega (arith, c.make_table.ensures.survives.clean) in
    let within : i < length all_tables = omega (arith, ap length inv.0, c.loop-one-test.true) in
    let is : item ≡ get_or all_tables i Desk = refl in (
      inv.0,
      search rules,
      none_then old mid new inv.2 c.make_table.ensures.survives,
      λ clean. keeps_then old mid new (inv.3 (early clean)) (c.make_table.ensures.kept clean),
      λ clean. c.in_ok-make_table.ensures.inside clean,
      λ clean blank. let was : IsEmptyUnder (schema_before item) mid.now = subst (λ s. IsEmptyUnder s mid.now) (sym (ap schema_before is ∙ before_is i Desk within)) (inv.5 (early clean) blank) in
          subst (λ s. IsEmptyUnder s new.now) (ap schema_with is ∙ with_is i Desk within) (c.in_ok-make_table.ensures.made clean was),
    )
