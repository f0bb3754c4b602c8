use Rattle.std.proofs.Common.{take}
use Rattle.std.proofs.lemmas.Result.{err_from_is_err_and}
use Rattle.lab_wire_heads.proofs.ReceptionLemmas.{IsFound, exact_refused, interim_refused, stop_of, found_of, whole_result, exact_result, interim_result, exact_unsent, interim_unsent, unread_result}
use Rattle.lab_wire_heads.proofs.receiving.read_request.Given.{Over}
use Rattle.lab_wire_heads.proofs.receiving.read_request.Goals.{In_ok-kept}
use Rattle.lab_wire_heads.proofs.receiving.read_request.Goals as goal

-- the head is refused

pub returns-in_err-kept-clause-exact : goal.returns-in_err-kept-clause-exact
returns-in_err-kept-clause-exact g c =
    let old = g.R.ByteSource.remaining c.args.reader.now in
    let room = c.read_head.new.room in
    let count = c.in_ok-count.count in
    let head = take count room in
    let refusal = c.in_err-kept.field-0.0 in
    let p = err_from_is_err_and c.from_residual-in_err-kept.result c.from_residual-in_err-kept.ensures.1 in
    rw (p.1, p.2) (exact_refused old (g.R.ByteSource.remaining c.read_head.new.reader) head refusal c.in_ok-count.ensures.taken
    (stop_of old room count c.in_ok-count.ensures.within c.in_ok-count.ensures.stops)
    c.in_err-kept.ensures.refused)

pub returns-in_err-kept-clause-interim : goal.returns-in_err-kept-clause-interim
returns-in_err-kept-clause-interim g c =
    let old = g.R.ByteSource.remaining c.args.reader.now in
    let room = c.read_head.new.room in
    let count = c.in_ok-count.count in
    let head = take count room in
    let refusal = c.in_err-kept.field-0.0 in
    let p = err_from_is_err_and c.from_residual-in_err-kept.result c.from_residual-in_err-kept.ensures.1 in
    rw (p.1, p.2) (interim_refused (g.W.Write.contents c.args.writer.now) old (g.R.ByteSource.remaining c.read_head.new.reader) head refusal
    c.in_ok-count.ensures.taken
    (stop_of old room count c.in_ok-count.ensures.within c.in_ok-count.ensures.stops)
    c.in_err-kept.ensures.refused)

-- the head is accepted

found : (g : Over) (c : In_ok-kept g) →
    IsFound (take c.in_ok-count.count c.read_head.new.room) c.in_ok-kept.kept.body
found g c = found_of c.read_head.new.room c.in_ok-count.count c.in_ok-kept.kept
    c.in_ok-count.ensures.within c.in_ok-count.ensures.own c.in_ok-kept.ensures.accepted

-- the interim answer was cut

pub returns-in_err-send_interim-clause-exact : goal.returns-in_err-send_interim-clause-exact
returns-in_err-send_interim-clause-exact g c =
    let room = c.read_head.new.room in
    let count = c.in_ok-count.count in
    let body = c.in_ok-kept.kept.body in
    let found = found g (goal.at.returns-in_err-send_interim-clause-exact g c).In_ok-kept in
    let p = err_from_is_err_and c.from_residual-in_err-send_interim.result c.from_residual-in_err-send_interim.ensures.1 in
    rw (p.1, p.2) (exact_unsent (take count room) body found c.in_err-send_interim.field-0.0.sent
    (g.R.ByteSource.remaining c.args.reader.now) (g.R.ByteSource.remaining c.read_head.new.reader) c.in_ok-count.ensures.taken
    c.in_err-send_interim.ensures.short)

pub returns-in_err-send_interim-clause-interim : goal.returns-in_err-send_interim-clause-interim
returns-in_err-send_interim-clause-interim g c =
    let room = c.read_head.new.room in
    let count = c.in_ok-count.count in
    let body = c.in_ok-kept.kept.body in
    let found = found g (goal.at.returns-in_err-send_interim-clause-interim g c).In_ok-kept in
    let p = err_from_is_err_and c.from_residual-in_err-send_interim.result c.from_residual-in_err-send_interim.ensures.1 in
    rw (p.1, p.2) (interim_unsent (take count room) body found c.in_err-send_interim.field-0.0.sent
    (g.R.ByteSource.remaining c.args.reader.now) (g.R.ByteSource.remaining c.read_head.new.reader) c.in_ok-count.ensures.taken
    (g.W.Write.contents c.args.writer.now) (g.W.Write.contents c.send_interim.new.writer)
    c.in_err-send_interim.ensures.cut)

-- the body came, or didn't

pub returns-clause-exact : goal.returns-clause-exact
returns-clause-exact g c =
    let room = c.read_head.new.room in
    let count = c.in_ok-count.count in
    let body = c.in_ok-kept.kept.body in
    let found = found g (goal.at.returns-clause-exact g c).In_ok-kept in
    exact_result (take count room) body found c.read_body.result
    (g.R.ByteSource.remaining c.args.reader.now) (g.R.ByteSource.remaining c.read_head.new.reader) (g.R.ByteSource.remaining c.read_body.new.reader)
    c.in_ok-count.ensures.taken c.read_body.ensures.whole c.read_body.ensures.fault

pub returns-clause-interim : goal.returns-clause-interim
returns-clause-interim g c =
    let room = c.read_head.new.room in
    let count = c.in_ok-count.count in
    let body = c.in_ok-kept.kept.body in
    let found = found g (goal.at.returns-clause-interim g c).In_ok-kept in
    interim_result (take count room) body found c.read_body.result
    (g.R.ByteSource.remaining c.args.reader.now) (g.R.ByteSource.remaining c.read_head.new.reader) (g.R.ByteSource.remaining c.read_body.new.reader)
    c.in_ok-count.ensures.taken
    (g.W.Write.contents c.args.writer.now) (g.W.Write.contents c.send_interim.new.writer)
    c.in_ok-send_interim.ensures.whole c.read_body.ensures.fault

pub returns-clause-whole : goal.returns-clause-whole
returns-clause-whole g c =
    let room = c.read_head.new.room in
    let count = c.in_ok-count.count in
    let body = c.in_ok-kept.kept.body in
    let found = found g (goal.at.returns-clause-whole g c).In_ok-kept in
    whole_result (take count room) body found c.read_body.result
    (g.R.ByteSource.remaining c.args.reader.now) (g.R.ByteSource.remaining c.read_head.new.reader) (g.R.ByteSource.remaining c.read_body.new.reader)
    c.in_ok-count.ensures.taken c.read_body.ensures.whole

-- there was no memory for the body

pub returns-in_err-kept-clause-unread : goal.returns-in_err-kept-clause-unread
returns-in_err-kept-clause-unread g c =
    let p = err_from_is_err_and c.from_residual-in_err-kept.result c.from_residual-in_err-kept.ensures.1 in
    rw (p.1, p.2) tt

pub returns-in_err-send_interim-clause-unread : goal.returns-in_err-send_interim-clause-unread
returns-in_err-send_interim-clause-unread g c =
    let p = err_from_is_err_and c.from_residual-in_err-send_interim.result c.from_residual-in_err-send_interim.ensures.1 in
    rw (p.1, p.2) tt

pub returns-clause-unread : goal.returns-clause-unread
returns-clause-unread g c =
    unread_result g.R.ByteSource.remaining c.args.reader.now c.read_head.new.reader c.read_body.new.reader
    (take c.in_ok-count.count c.read_head.new.room) c.read_body.result c.in_ok-count.ensures.taken
    (stop_of (g.R.ByteSource.remaining c.args.reader.now) c.read_head.new.room c.in_ok-count.count c.in_ok-count.ensures.within
    c.in_ok-count.ensures.stops) c.read_body.ensures.unread
