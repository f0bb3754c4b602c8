use Rattle.lab_seal.proofs.VersionLemmas.{one_spelling}
use Rattle.lab_seal.proofs.reading.one_spelling.Goals as goal

pub returns : goal.returns
returns c = one_spelling
