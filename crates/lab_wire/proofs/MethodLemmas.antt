-- The two methods of the table are read without memory.
use Rattle.std.proofs.Common.{◌≡◌, ◌≤◌, ℕ, List, Bool, true, false, None, Result, Err, refl, sym, ap, subst, ◌∙◌, length, arith, is_ok}
use Rattle.std.specs.Prelude.{IsOk, bytes_eq}
use Rattle.std.proofs.lemmas.Bool.{false≢true}
use Rattle.std.proofs.lemmas.Slice.Eq.{bytes_eq-Decides}
use Rattle.http_header.specs.Token.{IsToken, is_token_byte}
use Rattle.http_header.proofs.TokenLemmas.{AllPass-from_test}
use Rattle.lab_wire.specs.Routes.{get_method, post_method}
use Rattle.lab_wire.specs.Private.Places.{Place, asked_by}

get_token : IsToken get_method
unfolding is_token_byte
get_token = (omega arith, AllPass-from_test is_token_byte get_method refl)

post_token : IsToken post_method
unfolding is_token_byte
post_token = (omega arith, AllPass-from_test is_token_byte post_method refl)

err_is_not_ok : {A E : Type 0} (read : Result A E) (fault : E) → read ≡ Err fault → IsOk read → ⊥
err_is_not_ok read fault is ok = false≢true (ap is_ok (sym is) ∙ ok)

not_this : (one method : List ℕ) → IsToken one → length one ≤ 15 → (IsToken method → length method ≤ 15 → ⊥) → bytes_eq one method ≡ false
not_this one method token short not = by (bytes_eq one method) refl
  where
    by : (v : Bool) → bytes_eq one method ≡ v → bytes_eq one method ≡ false
    by true is =
        let same : one ≡ method = (bytes_eq-Decides one method).0 is in
        absurd (not (subst IsToken same token) (subst (λ m. length m ≤ 15) same short))
    by false is = is

-- where a method isn't read, it is none of the two
pub unread : {A E : Type 0} (read : Result A E) (fault : E) (method : List ℕ) (p : Place) → read ≡ Err fault
    → (IsToken method → length method ≤ 15 → IsOk read) → None ≡ asked_by method p
unread read fault method p is reads =
    let not : IsToken method → length method ≤ 15 → ⊥ = λ token short. err_is_not_ok read fault is (reads token short) in
    rw (not_this get_method method get_token (omega arith) not, not_this post_method method post_token (omega arith) not) refl
