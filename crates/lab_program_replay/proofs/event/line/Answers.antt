use Rattle.std.proofs.Common.{◌≡◌, ◌+◌, Global, [], ◌∷◌, ◌++◌, ap, sym, ◌∙◌, arith, true}
use Rattle.std.specs.Prelude.{is_ok}
use Rattle.std.proofs.lemmas.Bool.Decides.{nat_tests}
use Rattle.lab_program_replay.specs.Event.{most_line}
use Rattle.lab_program_replay.proofs.ReadLemmas.{has_read-more, taken_after}
use Rattle.lab_program_replay.proofs.NextLemmas.{line_taken, line_short}
use Rattle.lab_program_replay.proofs.event.line.Goals as goal

pub returns-in-None-2-clause-taken : goal.returns-in-None-2-clause-taken
returns-in-None-2-clause-taken g c =
    let took = rw c.in-None-2.is at c.in_ok-byte.ensures.taken in
    line_short Global (g.B.Read.remaining c.args.reader.now)
    (g.B.Read.remaining c.loop-reader.reader) (g.B.Read.remaining c.byte.new.reader)
    c.loop-reader.line.items c.loop-reader.invariant.1 took (grind (arith, nat_tests))

pub returns-in-Some-eq10-clause-taken : goal.returns-in-Some-eq10-clause-taken
returns-in-Some-eq10-clause-taken g c =
    let took = rw c.in-Some-eq10.is at c.in_ok-byte.ensures.taken in
    line_taken (g.B.Read.remaining c.args.reader.now) (g.B.Read.remaining c.loop-reader.reader)
    (g.B.Read.remaining c.byte.new.reader)
    c.loop-reader.line c.in-Some-eq10.field-0 c.in-Some-eq10.field-0-test
    (omega arith) c.loop-reader.invariant.1 took

pub returns-in-Some-eq10-clause-bounded : goal.returns-in-Some-eq10-clause-bounded
returns-in-Some-eq10-clause-bounded g c =
    let took = rw c.in-Some-eq10.is at c.in_ok-byte.ensures.taken in
    taken_after (g.B.Read.remaining c.args.reader.now) (g.B.Read.remaining c.loop-reader.reader)
    (g.B.Read.remaining c.byte.new.reader)
    c.loop-reader.line.items c.in-Some-eq10.field-0 (most_line + 1)
    (omega arith) c.loop-reader.invariant.1 took

pub loop-reader-preserved : goal.loop-reader-preserved
loop-reader-preserved g c =
    let took = rw c.in-Some.is at c.in_ok-byte.ensures.taken in
    let ok : is_ok c.push.result ≡ true =
    sym c.map_err.ensures.variant ∙ ap is_ok c.in_ok-map_err-in-Some.was in
    let pushed : c.push.new.self.items ≡ c.loop-reader.line.items ++ c.in-Some.byte ∷ [] =
    rw ok at c.push.ensures.items in
    let longer = rw ok at c.push.ensures.len in
    let read = has_read-more (g.B.Read.remaining c.args.reader.now)
    (g.B.Read.remaining c.loop-reader.reader) (g.B.Read.remaining c.byte.new.reader)
    c.loop-reader.line.items c.in-Some.byte c.in-Some.byte-test.1 c.loop-reader.invariant.1 took in
    (omega (arith, longer), rw pushed read)
