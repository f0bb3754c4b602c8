-- The rounds of PBKDF2, one after the other, and the exclusive-or of two lists by its elements.
use Rattle.std.proofs.Common.{◌≡◌, ℕ, zero, suc, ◌+◌, ◌<◌, ◌≤◌, List, length, get_or, refl, sym, ap, ◌∙◌, arith, add-one}
use Rattle.std.specs.Prelude.{bit_xor}
use Rattle.std.specs.List.{zip}
use Rattle.std.proofs.lemmas.Grind.{same_number_lists}
use Rattle.std.proofs.lemmas.List.{length-map, get_or-map}
use Rattle.std.proofs.lemmas.Slice.Zip.{length-zip, get_or-zip}
use Rattle.lab_seal_hashes.specs.Hmac.{hmac_sha256}
use Rattle.lab_seal_hashes.specs.Pbkdf2.{xor_bytes, round_bytes, pbkdf2_block}

-- one more round
pub round_bytes-more : (password salt : List ℕ) (c : ℕ)
    → round_bytes password salt (c + 1) ≡ hmac_sha256 password (round_bytes password salt c)
unfolding round_bytes
round_bytes-more password salt c = rw add-one refl

pub pbkdf2_block-more : (password salt : List ℕ) (c : ℕ) → 1 ≤ c
    → pbkdf2_block password salt (c + 1) ≡ xor_bytes (pbkdf2_block password salt c) (round_bytes password salt (c + 1))
unfolding pbkdf2_block
pbkdf2_block-more password salt zero h = absurd (omega arith)
pbkdf2_block-more password salt (suc c) h = rw (add-one (suc c)) refl

-- an element of the exclusive-or
pub get_or-xor_bytes : (xs ys : List ℕ) (k : ℕ) → k < length xs → k < length ys
    → get_or (xor_bytes xs ys) k 0 ≡ bit_xor (get_or xs k 0) (get_or ys k 0)
get_or-xor_bytes xs ys k below_xs below_ys =
    let below : k < length (zip xs ys) = rw length-zip (omega arith) in
    get_or-map (λ (pair : ℕ × ℕ). bit_xor pair.0 pair.1) (zip xs ys) k (0, 0) 0 below
    ∙ ap (λ (pair : ℕ × ℕ). bit_xor pair.0 pair.1) (get_or-zip xs ys k (0, 0) below_xs below_ys)

-- a list is the exclusive-or where each of its elements is
pub xor_bytes_from : (xs ys zs : List ℕ) → length xs ≡ length zs → length ys ≡ length zs
    → ((k : ℕ) → k < length zs → get_or zs k 0 ≡ bit_xor (get_or xs k 0) (get_or ys k 0))
    → zs ≡ xor_bytes xs ys
xor_bytes_from xs ys zs same_xs same_ys each =
    let long : length zs ≡ length (xor_bytes xs ys) = rw (length-map, length-zip) (omega arith) in
    same_number_lists zs (xor_bytes xs ys) long
    (λ k below. each k below ∙ sym (get_or-xor_bytes xs ys k (omega arith) (omega arith)))
