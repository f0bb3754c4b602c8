use Rattle.lab_program_files.proofs.histories.an_installation_goes_on_alone.Goals as goal
use Rattle.lab_program_files.proofs.HistoryLemmas.{goes_on_alone}

pub returns : goal.returns
returns g c = goes_on_alone {g = g.D.Disk} g.met.D.Disk.seen_may_stay
