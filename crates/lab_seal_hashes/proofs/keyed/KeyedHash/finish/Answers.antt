use Rattle.std.proofs.Common.{◌++◌}
use Rattle.lab_seal_hashes.specs.Hmac.{inner_block, outer_block, hmac_sha256}
use Rattle.lab_seal_hashes.proofs.keyed.KeyedHash.finish.Goals as goal

pub returns : goal.returns
unfolding hmac_sha256
returns c = λ key text keyed held.
    let outer = c.chain_update.ensures (outer_block key) (rw c.copy_of.ensures keyed.1) in
    rw (← c.finalize-digest.ensures (inner_block key ++ text) held) (c.finalize.ensures _ outer)
