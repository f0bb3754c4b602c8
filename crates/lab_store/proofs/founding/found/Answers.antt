use Rattle.std.proofs.Common.{◌≡◌, true, IsTrue, ap, arith, Option, Some, None, option_map, find, is_some, refl, sym, ◌∙◌, subst}
use Rattle.sqlite.specs.Held.{state}
use Rattle.lab_records_kept.specs.declared.labs.Lab.{Lab}
use Rattle.lab_records_kept.specs.Births.{newborn_lab}
use Rattle.lab_store_tables.specs.Meaning.{has_code, lab_in}
use Rattle.lab_store_tables.specs.Ready.{tables_of}
use Rattle.lab_store.specs.Commits.{EndsStep}
use Rattle.lab_store_write_changes.specs.NewbornRows.{AddsRows}
use Rattle.lab_store.specs.Founding.{IsPlacedBy}
use Rattle.lab_store_write.specs.Causes.{IsTooGreat}
use Rattle.lab_store_write_changes.specs.Newborns.{is_asked}
use Rattle.lab_store.proofs.Causes.{told_after}
use Rattle.lab_store.proofs.Endings.{ends_after, none_found}
use Rattle.lab_store.proofs.Placed.{is_placed}
use Rattle.lab_store.proofs.founding.found.Goals as goal

pub returns-clause-ends : goal.returns-clause-ends
returns-clause-ends g c ready =
    let old = state g.S.Store c.args.tables.now.conn in
    let mid = state g.S.Store c.is_there.new.conn.conn in
    let new = state g.S.Store c.place.new.conn in
    let newborn = c.args.newborn in
    let there = c.in_ok-is_there.ensures.reads in
    ends_after (AddsRows (newborn_lab newborn)) (IsPlacedBy newborn) c.place.result old mid new ready there.passes there.same
    (λ clean t added. is_placed newborn (tables_of old) t
    (none_found (find (has_code newborn.code) (tables_of old).labs) (sym (there.answer ready clean) ∙ c.if-branch.false))
    (sym c.is_asked.ensures ∙ c.if-is_asked.false) added)
    (subst (λ (lab : Lab). EndsStep (AddsRows lab) c.place.result mid new) c.in_ok-lab.ensures c.place.ensures.ends)

mapped : {A B : Type 0} (f : A → B) (o : Option A) → is_some o ≡ true → is_some (option_map f o) ≡ true
mapped f None is = absurd (cc)
mapped f (Some one) is = refl

pub returns-then-branch-clause-exists : goal.returns-then-branch-clause-exists
returns-then-branch-clause-exists g c is ready =
    let t = tables_of (state g.S.Store c.args.tables.now.conn) in
    let it = c.in_ok-is_there.ensures.reads in
    record {
      quiet = it.passes.crash ready;
      there = λ clean. mapped (lab_in t) (find (has_code c.args.newborn.code) t.labs) (sym (it.answer ready clean) ∙ c.if-branch.true);
      was_open = λ clean. (it.same clean).0.was_open;
      is_open = λ clean. (it.same clean).0.is_open;
    }

pub returns-clause-cause : goal.returns-clause-cause
returns-clause-cause g c =
    let there = c.in_ok-is_there.ensures in
    let newborn = c.args.newborn in
    let none : c.in_ok-lab.lab.strays ≡ 0 = ap (λ (lab : Lab). lab.strays) c.in_ok-lab.ensures in
    told_after g.S.Store (λ t. IsTooGreat c.in_ok-lab.lab.strays) (λ t. IsTrue (is_asked newborn)) c.args.tables.now.conn c.is_there.new.conn.conn c.place.new.conn there.reads.passes
    there.reads.same there.limit c.place.ensures.ends.clean (λ great. absurd (omega (arith, great, none))) (λ t. Unit {0}) c.place.result c.place.ensures.cause
