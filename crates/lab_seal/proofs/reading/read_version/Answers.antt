use Rattle.std.proofs.Common.{sym}
use Rattle.std.proofs.lemmas.Result.{err_from_is_err_and}
use Rattle.lab_seal.specs.Parts.{front_of}
use Rattle.lab_forms_texts.specs.declared.refusals.Fault.TheVariants.{Refused}
use Rattle.lab_seal.proofs.ReadLemmas.{missing, found}
use Rattle.lab_seal.proofs.VersionLemmas.{no_front, read_whole, some_version, rows_fault}
use Rattle.lab_seal.proofs.reading.read_version.Goals as goal

pub returns-in_err-front-clause-fault : goal.returns-in_err-front-clause-fault
returns-in_err-front-clause-fault c =
    let p = err_from_is_err_and c.from_residual.result c.from_residual.ensures.1 in
    let m = missing c.first_front.result (Refused (record {})) c.in_err-front.field-0.0 c.in_err-front.ensures.value in
    rw (p.1, p.2, m.1) (no_front c.args.bytes.now (rw m.0 at (sym c.first_front.ensures)))

pub returns-in_err-rows-clause-fault : goal.returns-in_err-rows-clause-fault
returns-in_err-rows-clause-fault c =
    let front = rw (found c.first_front.result (Refused (record {})) _ c.in_ok-front.ensures.value) at (sym c.first_front.ensures) in
    let p = err_from_is_err_and c.from_residual-in_err-rows.result c.from_residual-in_err-rows.ensures.1 in
    rw (p.1, p.2) (rows_fault c.args.bytes.now (front_of c.in_ok-front.front) c.in_ok-front.rest.now _ front
    c.in_err-rows.ensures.fault)

pub owned_parts-requires : goal.owned_parts-requires
owned_parts-requires c =
    let front = rw (found c.first_front.result (Refused (record {})) _ c.in_ok-front.ensures.value) at (sym c.first_front.ensures) in
    (read_whole c.args.bytes.now (front_of c.in_ok-front.front) c.in_ok-front.rest.now c.in_ok-rows.rows front
    c.in_ok-rows.ensures.rows).version.front

pub returns-in_err-owned_parts-clause-fault : goal.returns-in_err-owned_parts-clause-fault
returns-in_err-owned_parts-clause-fault c =
    let front = rw (found c.first_front.result (Refused (record {})) _ c.in_ok-front.ensures.value) at (sym c.first_front.ensures) in
    let read = read_whole c.args.bytes.now (front_of c.in_ok-front.front) c.in_ok-front.rest.now c.in_ok-rows.rows front
    c.in_ok-rows.ensures.rows in
    let p = err_from_is_err_and c.from_residual-in_err-owned_parts.result c.from_residual-in_err-owned_parts.ensures.1 in
    rw (p.1, p.2) (some_version read)

pub returns-clause-read : goal.returns-clause-read
returns-clause-read c =
    let front = rw (found c.first_front.result (Refused (record {})) _ c.in_ok-front.ensures.value) at (sym c.first_front.ensures) in
    let read = read_whole c.args.bytes.now (front_of c.in_ok-front.front) c.in_ok-front.rest.now c.in_ok-rows.rows front
    c.in_ok-rows.ensures.rows in
    rw c.in_ok-owned_parts.ensures (read.version, read.text)
