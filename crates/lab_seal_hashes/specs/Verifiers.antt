-- A verifier of a password: a salt, a number of rounds, and what PBKDF2 of RFC 8018 made of them
-- and the password.
use Rattle.std.specs.Prelude.{ℕ, Bool, List, bytes_eq}
use Rattle.lab_seal_hashes.specs.Pbkdf2.{pbkdf2_block}
use Rattle.lab_seal_hashes.specs.declared.verifiers.VerifierParts.{VerifierParts}

-- the verifier of a password
abbrev pub verifier_of : List ℕ → List ℕ → ℕ → VerifierParts
verifier_of password salt rounds = record {
  salt = salt;
  rounds = rounds;
  bytes = pbkdf2_block password salt rounds;
}

-- a verifier is that of a password of which PBKDF2 makes its bytes
abbrev pub is_verified : VerifierParts → List ℕ → Bool
is_verified verifier password =
    bytes_eq verifier.bytes (pbkdf2_block password verifier.salt verifier.rounds)
