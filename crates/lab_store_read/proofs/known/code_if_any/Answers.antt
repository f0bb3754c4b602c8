use Rattle.std.proofs.Common.{◌≡◌, ℤ, Option, Some, None, option_map, true, IsTrue, sym, ap, ◌∙◌, subst, w64, rules, SFits}
use Rattle.std.specs.Option.{option_map_or}
use Rattle.std.proofs.lemmas.Int.{to_z-of_z}
use Rattle.lab_store_tables.specs.Ready.{tables_of}
use Rattle.lab_store_tables.specs.Meaning.{code_of}
use Rattle.lab_store_read.specs.Shown.{codes_shown, shows_code}
use Rattle.lab_store_read.proofs.Readers.{none_read, may_end, may_and}
use Rattle.lab_store_read.proofs.Causes.{passed_on}
use Rattle.lab_store_read.specs.Known.{AreKnown}
use Rattle.lab_store_read.proofs.known.code_if_any.Goals as goal

pub returns-in_err-code-in-Some-clause-reads : goal.returns-in_err-code-in-Some-clause-reads
returns-in_err-code-in-Some-clause-reads g c = may_end c.in_err-code-in-Some.ensures.reads c.from_residual.result _ c.from_residual.ensures.1

pub returns-in_err-code-in-Some-clause-cause : goal.returns-in_err-code-in-Some-clause-cause
returns-in_err-code-in-Some-clause-cause g c =
    let t = tables_of (g.D.Readable.state c.args.conn.now) in
    let fits : SFits w64 c.in-Some.id = search rules in
    passed_on (rw (to_z-of_z w64 c.in-Some.id fits) at c.in_err-code-in-Some.ensures.cause) (λ there.
    subst (λ (who : Option ℤ). IsTrue (option_map_or (λ (one : ℤ). shows_code (codes_shown t one)) who true)) c.in-Some.is there)
    c.from_residual.result c.from_residual.ensures.1

pub returns-in_ok-code-in-Some-clause-reads : goal.returns-in_ok-code-in-Some-clause-reads
returns-in_ok-code-in-Some-clause-reads g c =
    let t = tables_of (g.D.Readable.state c.args.conn.now) in
    let fits : SFits w64 c.in-Some.id = search rules in
    may_and (rw (to_z-of_z w64 c.in-Some.id fits) at c.in_ok-code-in-Some.ensures.reads) (λ once are.
    let it = once are in
    (ap Some it.0 ∙ ap (option_map (code_of t)) (sym c.in-Some.is), it.1))

pub returns-in-None-clause-reads : goal.returns-in-None-clause-reads
returns-in-None-clause-reads g c =
    let t = tables_of (g.D.Readable.state c.args.conn.now) in
    let known = c.args.known.now.items in
    let is : AreKnown t known → (None ≡ option_map (code_of t) c.args.id) × AreKnown t known = λ are.
    (ap (option_map (code_of t)) (sym c.in-None.is), are) in
    none_read is
