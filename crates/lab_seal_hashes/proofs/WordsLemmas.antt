-- The bytes of words, one more word at a time.
use Rattle.std.proofs.Common.{◌≡◌, ℕ, ◌+◌, ◌*◌, ◌<◌, ◌≤◌, List, [], ◌∷◌, ◌++◌, length, take, get_or, refl, sym, append_assoc, arith}
use Rattle.std.specs.Int.{w64, to_be_bytes}
use Rattle.std.proofs.lemmas.List.{take_more}
use Rattle.std.proofs.lemmas.Slice.{take-put_mid}
use borrow.Rule.Slice.PartMut.{put_mid}
use Rattle.lab_seal_hashes.specs.Words.{big_endian}

-- a word at the end
pub big_endian-push : (words : List ℕ) (word : ℕ)
    → big_endian (words ++ word ∷ []) ≡ big_endian words ++ to_be_bytes w64 word
unfolding big_endian
big_endian-push [] word = refl
big_endian-push (first ∷ words) word = rw (big_endian-push words word) (sym (append_assoc (to_be_bytes w64 first) (big_endian words) (to_be_bytes w64 word)))

-- the bytes after the word at index i is written behind the words before it
pub big_endian-more : (words out bytes : List ℕ) (i k : ℕ) → take (8 * i) out ≡ big_endian (take i words) → i < length words
    → 8 * i ≤ length out → bytes ≡ to_be_bytes w64 (get_or words i 0)
    → take (8 * (i + 1)) (put_mid (8 * i) k out bytes) ≡ big_endian (take (i + 1) words)
big_endian-more words out bytes i k held below fits is =
    let long : length bytes ≡ 8 = rw is refl in
    let front : take (8 * (i + 1)) (put_mid (8 * i) k out bytes) ≡ take (8 * i) out ++ bytes = take-put_mid (8 * i) k out bytes (8 * (i + 1)) (omega arith) fits in
    rw (front, held, is, take_more words i 0 below, big_endian-push) refl
