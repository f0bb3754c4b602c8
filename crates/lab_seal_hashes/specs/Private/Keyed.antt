-- A key of HMAC (RFC 2104, section 4: the results of hashing the two blocks of a key may be kept
-- and used again).
use Rattle.std.specs.Prelude.{ℕ, List}
use Rattle.sha2.specs.Hashers.{Holds256}
use Rattle.lab_seal_hashes.specs.Hmac.{inner_block, outer_block}
use Rattle.lab_seal_hashes.specs.declared.keyed.KeyedHash.{KeyedHash}

-- the two hashers have taken in the blocks of this key
abbrev pub IsKeyed : List ℕ → KeyedHash → Type 0
IsKeyed key keyed = Holds256 keyed.inner (inner_block key) × Holds256 keyed.outer (outer_block key)
