-- The old file isn't asked again of which schema it is: what it answered when it was opened holds of the rows that are read.
use Rattle.std.proofs.Common.{refl, subst}
use Rattle.sqlite.specs.Held.{state}
use Rattle.lab_move_tables.specs.Standing.{StandsBy}
use Rattle.lab_move_tables.proofs.OldReaders.{reads_bare}
use Rattle.lab_move.specs.declared.faults.MoveFault.TheVariants.{File}
use Rattle.lab_move.specs.Moving.{HasCause}
use Rattle.lab_move.specs.OldFiles.{StandsFor}
use Rattle.lab_move.proofs.Ends.{lasting, unbegun, left_unfinished, started, whole_now}
use Rattle.lab_move.proofs.CountedFiles.{begun_open}
use Rattle.lab_move.proofs.Causes.{made_cause, made_untouched, filled_cause, filled_late, all_moved}
use Rattle.lab_move.proofs.MoveOwed.{blamed_since, filled_moves, made_free, made_moves}
use Rattle.lab_move.proofs.OldOwed.{names_older, stands_still}
use Rattle.lab_move.proofs.OldVerdicts.{none_asked}
use Rattle.lab_move.proofs.StoreCauses.{never_begun, under_way}
use Rattle.lab_move.proofs.moving.migrate.Goals as goal

pub fill-ending-requires : goal.fill-ending-requires
fill-ending-requires g c = record { at_rest = c.in-Ok.ensures.begun.once.at_rest }

pub returns-in-Ok-clause-moved : goal.returns-in-Ok-clause-moved
returns-in-Ok-clause-moved g c =
    let before = state g.S.Store c.into_parts-file.result.0.conn in
    let after = state g.S.Store c.fill-ending.new.old.conn in
    let by = stands_still before after c.into_parts-file.result.1 c.fill-ending.ensures.reads.passes.clean c.into_parts-file.ensures.owed in
    rw (← c.into_parts-file.ensures.conn) (λ blank clean t file late. all_moved StandsFor before after (state g.T.Store c.fill-ending.new.new) c.fill-ending.result t (file, late)
    (c.fill-ending.ensures.reads.answer t (by late t file) late)
    (whole_now g.T.Store blank c.in-Ok.ensures.begun before before after (λ late. refl) by c.fill-ending.ensures.fills clean))

pub returns-in-Ok-clause-counted : goal.returns-in-Ok-clause-counted
returns-in-Ok-clause-counted g c =
    rw (← c.into_parts-file.ensures.conn) (λ blank clean late.
    let it = begun_open blank c.in-Ok.ensures.begun (c.fill-ending.ensures.fills.clean clean) in
    c.fill-ending.ensures.counted late clean it.0 it.1)

pub returns-in-Ok-clause-ready : goal.returns-in-Ok-clause-ready
returns-in-Ok-clause-ready g c blank clean =
    let before = state g.S.Store c.into_parts-file.result.0.conn in
    let after = state g.S.Store c.fill-ending.new.old.conn in
    started g.T.Store blank c.in-Ok.ensures.begun before before after (λ late. refl)
    (stands_still before after c.into_parts-file.result.1 c.fill-ending.ensures.reads.passes.clean c.into_parts-file.ensures.owed) c.fill-ending.ensures.fills clean

pub returns-in-Ok-clause-refused : goal.returns-in-Ok-clause-refused
returns-in-Ok-clause-refused g c =
    let before = state g.S.Store c.into_parts-file.result.0.conn in
    let after = state g.S.Store c.fill-ending.new.old.conn in
    rw (← c.into_parts-file.ensures.conn) (filled_cause (StandsBy c.into_parts-file.result.1) before before after (state g.T.Store c.args.new.now) c.fill-ending.result (λ late. refl)
    (stands_still before after c.into_parts-file.result.1 c.fill-ending.ensures.reads.passes.clean c.into_parts-file.ensures.owed) c.fill-ending.ensures.fault)

pub returns-in-Ok-clause-owed : goal.returns-in-Ok-clause-owed
returns-in-Ok-clause-owed g c =
    let before = state g.S.Store c.into_parts-file.result.0.conn in
    let after = state g.S.Store c.fill-ending.new.old.conn in
    let by = stands_still before after c.into_parts-file.result.1 c.fill-ending.ensures.reads.passes.clean c.into_parts-file.ensures.owed in
    rw (← c.into_parts-file.ensures.conn) (filled_moves before after (state g.T.Store c.args.new.now) c.into_parts-file.result.1 c.fill-ending.result
    (λ late. (c.into_parts-file.ensures.owed (c.fill-ending.ensures.reads.passes.clean late), made_free _ tt c.in-Ok.ensures.taken))
    (λ t file late. c.fill-ending.ensures.reads.answer t (by late t file) late)
    (blamed_since (StandsBy c.into_parts-file.result.1) before before after c.fill-ending.result (λ late. refl) by c.fill-ending.ensures.fault))

pub returns-in-Ok-clause-cause : goal.returns-in-Ok-clause-cause
returns-in-Ok-clause-cause g c =
    let before = c.into_parts-file.result.0 in
    let after = c.fill-ending.new.old in
    rw (← c.into_parts-file.ensures.conn) (λ late clean.
    under_way before after (λ file. file.conn) (state g.S.Store) g.T.Store c.args.new.now c.make_tables.new.conn c.fill-ending.new.new c.into_parts-file.result.1 c.in-Ok.ensures.begun
    (names_older (state g.S.Store before.conn).now c.into_parts-file.result.1 (c.into_parts-file.ensures.owed (c.fill-ending.ensures.reads.passes.clean late)))
    (made_free _ tt c.in-Ok.ensures.taken) clean c.fill-ending.result c.fill-ending.ensures.fills (λ begun. c.fill-ending.ensures.cause late begun clean))

pub returns-in-Ok-clause-old_same : goal.returns-in-Ok-clause-old_same
returns-in-Ok-clause-old_same g c = rw (← c.into_parts-file.ensures.conn) (reads_bare c.fill-ending.ensures.reads)

pub returns-in-Ok-clause-unfinished : goal.returns-in-Ok-clause-unfinished
returns-in-Ok-clause-unfinished g c =
    let before = state g.S.Store c.into_parts-file.result.0.conn in
    let after = state g.S.Store c.fill-ending.new.old.conn in
    rw (← c.into_parts-file.ensures.conn) (λ blank. left_unfinished g.T.Store blank c.in-Ok.ensures.begun before before after (λ late. refl)
    (stands_still before after c.into_parts-file.result.1 c.fill-ending.ensures.reads.passes.clean c.into_parts-file.ensures.owed) c.fill-ending.ensures.fills)

pub returns-in-Ok-clause-durable : goal.returns-in-Ok-clause-durable
returns-in-Ok-clause-durable g c =
    let before = state g.S.Store c.into_parts-file.result.0.conn in
    let after = state g.S.Store c.fill-ending.new.old.conn in
    rw (← c.into_parts-file.ensures.conn) (λ blank clean.
    lasting g.T.Store g.met.T.Store.stays g.met.T.Store.settled before after c.fill-ending.new.new c.fill-ending.result c.fill-ending.ensures.fills.at_rest clean
    (whole_now g.T.Store blank c.in-Ok.ensures.begun before before after (λ late. refl)
    (stands_still before after c.into_parts-file.result.1 c.fill-ending.ensures.reads.passes.clean c.into_parts-file.ensures.owed) c.fill-ending.ensures.fills clean))

pub returns-in-Ok-clause-untouched : goal.returns-in-Ok-clause-untouched
returns-in-Ok-clause-untouched g c =
    filled_late (StandsBy c.into_parts-file.result.1) _ (state g.S.Store c.into_parts-file.result.0.conn) (state g.S.Store c.fill-ending.new.old.conn) c.fill-ending.result c.fill-ending.ensures.fault

pub returns-in-Ok-clause-taken : goal.returns-in-Ok-clause-taken
returns-in-Ok-clause-taken g c taken = absurd (let wrong = c.in-Ok.ensures.taken taken in cc)

pub returns-in-Err-clause-refused : goal.returns-in-Err-clause-refused
returns-in-Err-clause-refused g c =
    let before = state g.S.Store c.into_parts-file.result.0.conn in
    let fresh = state g.T.Store c.args.new.now in
    subst (λ conn. HasCause (state g.S.Store conn) before fresh (File c.in-Err.fault)) c.into_parts-file.ensures.conn
    (made_cause before before fresh c.in-Err.fault c.in-Err.ensures.not_empty c.in-Err.ensures.fault)

pub returns-in-Err-clause-owed : goal.returns-in-Err-clause-owed
returns-in-Err-clause-owed g c =
    let before = state g.S.Store c.into_parts-file.result.0.conn in
    rw (← c.into_parts-file.ensures.conn) (made_moves before before (state g.T.Store c.args.new.now) c.into_parts-file.result.1 c.into_parts-file.ensures.owed c.in-Err.fault c.in-Err.ensures.fault
    c.in-Err.ensures.not_empty)

pub returns-in-Err-clause-cause : goal.returns-in-Err-clause-cause
returns-in-Err-clause-cause g c =
    let before = c.into_parts-file.result.0.conn in
    rw (← c.into_parts-file.ensures.conn) (λ late clean.
    never_begun (state g.S.Store) g.T.Store before before c.args.new.now c.make_tables.new.conn c.in-Err.fault (c.in-Err.ensures.cause.cause clean))

pub returns-in-Err-clause-old_same : goal.returns-in-Err-clause-old_same
returns-in-Err-clause-old_same g c = rw (← c.into_parts-file.ensures.conn) (none_asked _ (state g.S.Store c.into_parts-file.result.0.conn))

pub returns-in-Err-clause-unfinished : goal.returns-in-Err-clause-unfinished
returns-in-Err-clause-unfinished g c =
    let before = state g.S.Store c.into_parts-file.result.0.conn in
    rw (← c.into_parts-file.ensures.conn) (λ blank. unbegun g.T.Store blank _ before before c.in-Err.ensures.begun)

pub returns-in-Err-clause-untouched : goal.returns-in-Err-clause-untouched
returns-in-Err-clause-untouched g c =
    let before = state g.S.Store c.into_parts-file.result.0.conn in
    made_untouched before before (state g.T.Store c.args.new.now) c.in-Err.fault c.in-Err.ensures.not_empty c.in-Err.ensures.fault

pub returns-in-Err-clause-taken : goal.returns-in-Err-clause-taken
returns-in-Err-clause-taken g c taken = (tt, (c.in-Err.ensures.not_empty (c.in-Err.ensures.taken taken)).1)
