-- Before the first event nothing was begun; then the run is one from nothing.
use Rattle.std.proofs.Common.{◌∙◌, ap, subst, sym}
use Rattle.std.proofs.lemmas.Result.{err_from_is_err_and}
use Rattle.sqlite.proofs.Callers.{memory_is_clean}
use Rattle.lab_program_replay.specs.declared.fault.ReplayFault.TheVariants.{Memory}
use Rattle.sqlite.specs.Steps.{over_memory}
use Rattle.lab_store.specs.StoreWorlds.{store_world}
use Rattle.lab_program_replay.specs.Private.Replays.{IsBeginFault}
use Rattle.lab_program_replay.proofs.ReplayLemmas.{begin_of_reader, fresh_reader, from_nobody, never_begun, none_beyond}
use Rattle.lab_program_replay.proofs.replays.run_input.Goals as goal

pub returns-in_err-store : goal.returns-in_err-store
returns-in_err-store g c =
    let p = err_from_is_err_and c.from_residual.result c.from_residual.ensures.1 in
    rw p.1 (never_begun p.0 _ _ (subst IsBeginFault (sym p.2) c.in_err-store.ensures.fault))

pub returns-in_default : goal.returns-in_default
returns-in_default g c = never_begun Memory _ _ tt

pub returns-in_err-reader : goal.returns-in_err-reader
returns-in_err-reader g c =
    let p = err_from_is_err_and c.from_residual-in_err-reader.result
    c.from_residual-in_err-reader.ensures.1 in
    rw p.1 (never_begun p.0 _ _ (begin_of_reader p.0 p.2))

pub returns : goal.returns
returns g c =
    let none = c.in_ok-store.ensures.nobody in
    let same = c.in-Ok.ensures.keeper in
    let fresh = fresh_reader (λ limited. g.R.Read.remaining limited.reader) c.in_ok-reader.reader
    c.new-2.result
    c.in_ok-reader.ensures.inner c.in_ok-reader.ensures.empty c.in_ok-reader.ensures.capacity in
    let input = ap (λ limited. g.R.Read.remaining limited.reader) c.new-2.ensures in
    from_nobody _ _ _ _ _ _ _ (rw (sym same) at none) (fresh ∙ input)
    (c.run_events.ensures.replayed (none_beyond (store_world over_memory c.in-Ok.desk.keeper) (rw (sym same) at none))
    (memory_is_clean c.run_events.new.desk.keeper) (rw (sym same) at c.in_ok-store.ensures.reached))
