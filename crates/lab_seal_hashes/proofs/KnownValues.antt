-- Values from outside, so that a wrong rule in the definitions does not check.
use Rattle.std.proofs.Common.{◌≡◌, ℕ, List, [], ◌∷◌, refl, true, false, Option, Some, None}
use Rattle.std.specs.Prelude.{codes, map}
use Rattle.hex.specs.Hex.{encode_lower, encode_with, decode_pairs}
use Rattle.sha2.specs.Sha256.{sha256, hash_after, compress, rounds, schedule, first_words, digest_bytes}
use Rattle.lab_seal_hashes.specs.Hmac.{hmac_sha256, block_key}
use Rattle.lab_seal_hashes.specs.Pbkdf2.{pbkdf2_block, round_bytes}
use Rattle.lab_seal_hashes.specs.Digits.{bytes_of_digits}
use Rattle.lab_seal_hashes.specs.Words.{big_endian, token_of, half_of, salt_of, founder_salts}

-- the example of FIPS 180-4
pub known_digest : encode_lower (sha256 (codes "abc"))
    ≡ codes "ba7816bf8f01cfea414140de5dae2223b00361a396177a9cb410ff61f20015ad"
unfolding sha256 hash_after compress rounds schedule first_words digest_bytes encode_with
known_digest = refl

-- RFC 4231, section 4.3
pub known_hmac : encode_lower (hmac_sha256 (codes "Jefe") (codes "what do ya want for nothing?"))
    ≡ codes "5bdcc146bf60754e6a042426089575c75a003f089d2739839dec58b964ec3843"
unfolding hmac_sha256 block_key sha256 hash_after compress rounds schedule first_words digest_bytes encode_with
known_hmac = refl

-- the vectors of RFC 6070, by PBKDF2 with HMAC-SHA-256
pub known_stretchings : (encode_lower (pbkdf2_block (codes "password") (codes "salt") 1)
    ≡ codes "120fb6cffcf8b32c43e7225256c4f837a86548c92ccc35480805987cb70be17b")
    × (encode_lower (pbkdf2_block (codes "password") (codes "salt") 2)
    ≡ codes "ae4d0c95af6b46d32d0adff928f06dd02a303f8ef3c251dfd6e2d85a95474c43")
unfolding pbkdf2_block round_bytes hmac_sha256 block_key sha256 hash_after compress rounds schedule first_words digest_bytes encode_with
known_stretchings = (refl, refl)

pub known_digits : (bytes_of_digits 2 (codes "0aff") ≡ Some (10 ∷ 255 ∷ []))
    × (bytes_of_digits 2 (codes "0AFF") ≡ None) × (bytes_of_digits 2 (codes "0af") ≡ None)
    × (bytes_of_digits 2 (codes "0aff00") ≡ None) × (bytes_of_digits 2 (codes "0afg") ≡ None)
unfolding bytes_of_digits decode_pairs
known_digits = (refl, refl, refl, refl, refl)

-- eight words
abbrev words : List ℕ
words = 1 ∷ 2 ∷ 3 ∷ 4 ∷ 0x0102030405060708 ∷ 6 ∷ 7 ∷ 8 ∷ []

pub known_words : (encode_lower (token_of words) ≡ codes "0000000000000001000000000000000200000000000000030000000000000004")
    × (encode_lower (half_of words) ≡ codes "00000000000000010000000000000002")
    × (encode_lower (salt_of words) ≡ codes "01020304050607080000000000000006")
    × (map encode_lower (founder_salts words)
    ≡ codes "00000000000000010000000000000002" ∷ codes "00000000000000030000000000000004" ∷ codes "01020304050607080000000000000006" ∷ [])
unfolding big_endian encode_with
known_words = (refl, refl, refl, refl)
