-- HMAC of RFC 2104 with the hash function SHA-256 of FIPS 180-4, as equations on lists of bytes.
-- The strings in quotes are those of the RFC's sections 2 and 3, where B, the length of a block, is
-- 64 bytes.
use Rattle.std.specs.Prelude.{ℕ, ◌-◌, nat_lt, if◌then◌else◌, List, ◌++◌, length, map, replicate, bit_xor}
use Rattle.sha2.specs.Sha256.{sha256}

-- "append zeros to the end of K to create a B byte string"
abbrev pub zero_filled : List ℕ → List ℕ
zero_filled key = key ++ replicate (64 - length key) 0

-- "keys longer than B bytes are first hashed using H"
unfoldable pub block_key : List ℕ → List ℕ
block_key key = if nat_lt 64 (length key) then zero_filled (sha256 key) else zero_filled key

-- the exclusive-or of each byte with one byte
abbrev pub xor_each : ℕ → List ℕ → List ℕ
xor_each pad bytes = map (λ byte. bit_xor byte pad) bytes

-- K XOR ipad, where "ipad = the byte 0x36 repeated B times"
abbrev pub inner_block : List ℕ → List ℕ
inner_block key = xor_each 0x36 (block_key key)

-- K XOR opad, where "opad = the byte 0x5C repeated B times"
abbrev pub outer_block : List ℕ → List ℕ
outer_block key = xor_each 0x5C (block_key key)

-- H(K XOR opad, H(K XOR ipad, text))
unfoldable pub hmac_sha256 : List ℕ → List ℕ → List ℕ
hmac_sha256 key text = sha256 (outer_block key ++ sha256 (inner_block key ++ text))
