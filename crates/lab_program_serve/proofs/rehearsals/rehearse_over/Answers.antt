-- The request is sent whole, or its first bytes are; one connection is served, unless a fault came
-- before; and what the client gets is printed.
use Rattle.std.proofs.Common.{[], ◌∷◌, ◌∙◌, inl, inr, refl, ap, Ok}
use Rattle.std.proofs.KnownBytes.{Appends-nil}
use Rattle.std.proofs.lemmas.Result.{err_from_is_err_and}
use Rattle.lab_program_serve.specs.Rehearsals.{card_request}
use Rattle.lab_program_serve.specs.Visits.{Visit}
use Rattle.lab_program_serve.proofs.RehearsalLemmas.{forwards_none, printed_any, served_any}
use Rattle.lab_program_serve.proofs.TextLemmas.{printed_all}
use Rattle.lab_program_serve.proofs.VisitLemmas.{unserved}
use Rattle.lab_program_serve.proofs.rehearsals.rehearse_over.Goals as goal

pub returns-in_err-request-clause-asked : goal.returns-in_err-request-clause-asked
returns-in_err-request-clause-asked g c =
    let fault = err_from_is_err_and c.from_residual.result c.from_residual.ensures.1 in
    rw fault.1 (0, Appends-nil _)

pub returns-in_err-request-clause-printed : goal.returns-in_err-request-clause-printed
returns-in_err-request-clause-printed g c =
    let fault = err_from_is_err_and c.from_residual.result c.from_residual.ensures.1 in
    rw fault.1 (forwards_none (g.A.Read.remaining c.args.client.now.reader) fault.0 _)

pub returns-in_err-request-clause-served : goal.returns-in_err-request-clause-served
returns-in_err-request-clause-served g c = λ within honest reached.
    let fault = err_from_is_err_and c.from_residual.result c.from_residual.ensures.1 in
    ([], refl, rw fault.1 (inl refl))

pub returns-in_err-write_whole-clause-asked : goal.returns-in_err-write_whole-clause-asked
returns-in_err-write_whole-clause-asked g c =
    let fault = err_from_is_err_and c.from_residual-in_err-write_whole.result
    c.from_residual-in_err-write_whole.ensures.1 in
    rw fault.1 (_, rw (c.as_slice.ensures.value ∙ c.in_ok-request.ensures) at c.in_err-write_whole.ensures.cut)

pub returns-in_err-write_whole-clause-printed : goal.returns-in_err-write_whole-clause-printed
returns-in_err-write_whole-clause-printed g c =
    let fault = err_from_is_err_and c.from_residual-in_err-write_whole.result
    c.from_residual-in_err-write_whole.ensures.1 in
    rw fault.1 (forwards_none (g.A.Read.remaining c.args.client.now.reader) fault.0 _)

pub returns-in_err-write_whole-clause-served : goal.returns-in_err-write_whole-clause-served
returns-in_err-write_whole-clause-served g c = λ within honest reached.
    let fault = err_from_is_err_and c.from_residual-in_err-write_whole.result
    c.from_residual-in_err-write_whole.ensures.1 in
    ([], refl, rw fault.1 (inl refl))

pub returns-in_err-connection-clause-asked : goal.returns-in_err-connection-clause-asked
returns-in_err-connection-clause-asked g c =
    let fault = err_from_is_err_and c.from_residual-in_err-connection.result
    c.from_residual-in_err-connection.ensures.1 in
    rw fault.1 (printed_all (card_request c.args.lab.now) _ _
    (rw (c.as_slice.ensures.value ∙ c.in_ok-request.ensures) at c.in_ok-write_whole.ensures.whole))

pub returns-in_err-connection-clause-printed : goal.returns-in_err-connection-clause-printed
returns-in_err-connection-clause-printed g c =
    let fault = err_from_is_err_and c.from_residual-in_err-connection.result
    c.from_residual-in_err-connection.ensures.1 in
    rw fault.1 (forwards_none (g.A.Read.remaining c.args.client.now.reader) fault.0 _)

pub returns-in_err-connection-clause-served : goal.returns-in_err-connection-clause-served
returns-in_err-connection-clause-served g c = λ within honest reached.
    let fault = err_from_is_err_and c.from_residual-in_err-connection.result
    c.from_residual-in_err-connection.ensures.1 in
    ([], refl, rw fault.1 (inl refl))

pub returns-in_err-serve_connection-clause-asked : goal.returns-in_err-serve_connection-clause-asked
returns-in_err-serve_connection-clause-asked g c =
    let fault = err_from_is_err_and c.from_residual-in_err-serve_connection.result
    c.from_residual-in_err-serve_connection.ensures.1 in
    rw fault.1 (printed_all (card_request c.args.lab.now) _ _
    (rw (c.as_slice.ensures.value ∙ c.in_ok-request.ensures) at c.in_ok-write_whole.ensures.whole))

pub returns-in_err-serve_connection-clause-printed :
    goal.returns-in_err-serve_connection-clause-printed
returns-in_err-serve_connection-clause-printed g c =
    let fault = err_from_is_err_and c.from_residual-in_err-serve_connection.result
    c.from_residual-in_err-serve_connection.ensures.1 in
    rw fault.1 (forwards_none (g.A.Read.remaining c.args.client.now.reader) fault.0 _)

pub returns-in_err-serve_connection-clause-served :
    goal.returns-in_err-serve_connection-clause-served
returns-in_err-serve_connection-clause-served g c = λ within honest reached.
    let fault = err_from_is_err_and c.from_residual-in_err-serve_connection.result
    c.from_residual-in_err-serve_connection.ensures.1 in
    let served = c.serve_connection.ensures in
    let visit : Visit = record {
      exchange = record {
        known = g.L.Reader.Read.remaining c.in_ok-connection.connection.reader;
        tick = c.tick_at.result;
        reply = c.serve_connection.new.desk.reply;
      };
      ending = c.serve_connection.result;
      before = g.L.Writer.Write.contents c.in_ok-connection.connection.writer;
      after = g.L.Writer.Write.contents c.serve_connection.new.writer;
    } in (
      visit ∷ [],
      (
        c.args.desk.now.keeper,
        c.serve_connection.new.desk.keeper,
        refl,
        record {
          within = within;
          honest = honest;
          reached = reached;
          handled = served.handled;
          untouched = unserved c.serve_connection.result (ap (λ desk. desk.keeper))
              served.untouched;
          sent = served.written;
        },
        refl,
      ),
      rw fault.1 (inr (visit, refl, c.tick_at.ensures)),
    )

pub returns-clause-asked : goal.returns-clause-asked
returns-clause-asked g c =
    printed_any (card_request c.args.lab.now) c.forward.result _ _
    (rw (c.as_slice.ensures.value ∙ c.in_ok-request.ensures) at c.in_ok-write_whole.ensures.whole)

pub returns-clause-served : goal.returns-clause-served
returns-clause-served g c = λ within honest reached.
    let visit : Visit = record {
      exchange = record {
        known = g.L.Reader.Read.remaining c.in_ok-connection.connection.reader;
        tick = c.tick_at.result;
        reply = c.serve_connection.new.desk.reply;
      };
      ending = Ok tt;
      before = g.L.Writer.Write.contents c.in_ok-connection.connection.writer;
      after = g.L.Writer.Write.contents c.serve_connection.new.writer;
    } in (
      visit ∷ [],
      (
        c.args.desk.now.keeper,
        c.serve_connection.new.desk.keeper,
        refl,
        record {
          within = within;
          honest = honest;
          reached = reached;
          handled = c.in_ok-serve_connection.ensures.handled;
          untouched = tt;
          sent = c.in_ok-serve_connection.ensures.written;
        },
        refl,
      ),
      served_any _ c.forward.result visit c.tick_at.ensures refl,
    )
