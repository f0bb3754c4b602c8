use Rattle.std.proofs.Common.{inl, Err}
use Rattle.sqlite.specs.Held.{state}
use Rattle.lab_move_tables.specs.Standing.{StandsBy}
use Rattle.lab_move_tables.proofs.OldReaders.{may_end}
use Rattle.lab_move_write.proofs.Commits.{nothing_made}
use Rattle.lab_move.proofs.OneLab.{blames_as, errs_as, lab_reads, lab_carries, lab_blamed, unread_blamed}
use Rattle.lab_move.proofs.RefusedLabs.{refused_found}
use Rattle.lab_move.proofs.filling.move_lab.Goals as goal

pub returns-in-Ok-clause-reads : goal.returns-in-Ok-clause-reads
returns-in-Ok-clause-reads g c = lab_reads c.args.code.now c.in-Ok.found c.in-Ok.ensures.reads.reads c.place_found.result c.place_found.ensures.sound

pub returns-in-Ok-clause-carries : goal.returns-in-Ok-clause-carries
returns-in-Ok-clause-carries g c = lab_carries c.args.code.now c.in-Ok.found c.in-Ok.ensures.reads.reads c.place_found.result c.place_found.ensures.placed

pub returns-in-Ok-clause-fault : goal.returns-in-Ok-clause-fault
returns-in-Ok-clause-fault g c = errs_as c.place_found.result (lab_blamed c.args.code.now c.in-Ok.found c.in-Ok.ensures.reads.reads) c.place_found.ensures.fault

pub returns-in-Err-clause-reads : goal.returns-in-Err-clause-reads
returns-in-Err-clause-reads g c = may_end c.in-Err.ensures.reads.reads (Err c.unread.result) (λ e. Unit {0}) tt

pub returns-in-Err-clause-carries : goal.returns-in-Err-clause-carries
returns-in-Err-clause-carries g c = nothing_made _ _ (state g.T.Store c.args.new.now) c.requires.at_rest

pub returns-in-Err-clause-fault : goal.returns-in-Err-clause-fault
returns-in-Err-clause-fault g c =
    blames_as c.unread.result
    (unread_blamed (StandsBy c.args.older) c.args.code.now c.in-Err.fault (g.D.Readable.state c.args.old.now) (g.D.Readable.state c.whole.new.conn) c.in-Err.ensures.not_kept)
    c.unread.ensures.blames

pub returns-in-Ok-clause-cause : goal.returns-in-Ok-clause-cause
returns-in-Ok-clause-cause g c read ours clean =
    refused_found g.T.Store c.args.new.now c.place_found.new.new c.place_found.result c.args.older c.args.code.now (g.D.Readable.state c.args.old.now) (g.D.Readable.state c.whole.new.conn) c.in-Ok.found
    (λ t file. c.in-Ok.ensures.reads.reads.answer t file read) (c.place_found.ensures.cause ours clean)

pub returns-in-Err-clause-cause : goal.returns-in-Err-clause-cause
returns-in-Err-clause-cause g c read ours clean told = inl (λ t file readable. c.in-Err.ensures.reads.cause t file readable read (c.unread.ensures.told told))
