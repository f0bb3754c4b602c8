-- What the eight random words of a tick are used as. A word has 64 bits, and its bytes go most
-- significant first.
use Rattle.std.specs.Prelude.{ℕ, ◌*◌, List, [], ◌∷◌, ◌++◌, take, drop}
use Rattle.std.specs.Int.{w64, to_be_bytes}
use Rattle.hex.specs.Hex.{encode_lower}

-- the bytes of words, one after the other
unfoldable pub big_endian : List ℕ → List ℕ
big_endian [] = []
big_endian (word ∷ words) = to_be_bytes w64 word ++ big_endian words

-- a token is words 0 to 3
abbrev pub token_of : List ℕ → List ℕ
token_of words = big_endian (take 4 words)

-- a half of a one-time word is words 0 and 1
abbrev pub half_of : List ℕ → List ℕ
half_of words = big_endian (take 2 words)

-- a one-time word is two halves as they are written, one after the other: 64 lower hexadecimal
-- digits, of which two persons are given 32 each (21 CFR 11.200(a)(3), use by anyone else "requires
-- collaboration of two or more individuals")
abbrev pub one_time_word : List ℕ → List ℕ → List ℕ
one_time_word first second = encode_lower first ++ encode_lower second

-- the salt that is the two words of a pair: pair 0 is words 0 and 1
abbrev pub salt_at : List ℕ → ℕ → List ℕ
salt_at words pair = big_endian (take 2 (drop (2 * pair) words))

-- a salt is words 4 and 5
abbrev pub salt_of : List ℕ → List ℕ
salt_of words = salt_at words 2

-- the salts of the three founders of a laboratory are words 0 and 1, 2 and 3, and 4 and 5
abbrev pub founder_salts : List ℕ → List (List ℕ)
founder_salts words = salt_at words 0 ∷ salt_at words 1 ∷ salt_at words 2 ∷ []
