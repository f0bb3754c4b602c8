use Rattle.std.proofs.Common.{ap, sym}
use Rattle.lab_seal_hashes.proofs.DigitsLemmas.{digits_exact, spelled_if_read}
use Rattle.lab_seal_hashes.proofs.hexadecimal.bytes_of_digits.Goals as goal

pub returns-clause-exact : goal.returns-clause-exact
returns-clause-exact c = rw (sym c.decoded_digest.ensures) at (digits_exact 32 c.args.digits.now)

pub returns-clause-spelled : goal.returns-clause-spelled
returns-clause-spelled c = spelled_if_read 32 c.args.digits.now _ (sym c.decoded_digest.ensures)
