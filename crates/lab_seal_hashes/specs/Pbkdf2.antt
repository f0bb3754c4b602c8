-- PBKDF2 of RFC 8018, section 5.2, with HMAC-SHA-256 (appendix B.1.2) as its pseudorandom function,
-- for a derived key of one block, which has 32 bytes.
use Rattle.std.specs.Prelude.{ℕ, zero, suc, List, [], ◌++◌, map, bit_xor}
use Rattle.std.specs.List.{zip}
use Rattle.std.specs.Int.{w32, to_be_bytes}
use Rattle.lab_seal_hashes.specs.Hmac.{hmac_sha256}

-- the exclusive-or of two strings of one length, byte by byte
abbrev pub xor_bytes : List ℕ → List ℕ → List ℕ
xor_bytes left right = map (λ (pair : ℕ × ℕ). bit_xor pair.0 pair.1) (zip left right)

-- INT (1), "a four-octet encoding of the integer", most significant octet first
abbrev pub first_block_number : List ℕ
first_block_number = to_be_bytes w32 1

-- U_1 = PRF (P, S || INT (1)), and U_j = PRF (P, U_{j-1}); U_0 stands for what U_1 is taken of
unfoldable pub round_bytes : List ℕ → List ℕ → ℕ → List ℕ
round_bytes password salt zero = salt ++ first_block_number
round_bytes password salt (suc j) = hmac_sha256 password (round_bytes password salt j)

-- F (P, S, c, 1) = U_1 \xor U_2 \xor ... \xor U_c, for c from 1 on
unfoldable pub pbkdf2_block : List ℕ → List ℕ → ℕ → List ℕ
pbkdf2_block password salt zero = []
pbkdf2_block password salt (suc zero) = round_bytes password salt 1
pbkdf2_block password salt (suc (suc c)) =
    xor_bytes (pbkdf2_block password salt (suc c)) (round_bytes password salt (suc (suc c)))
