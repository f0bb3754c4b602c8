-- The query of a session fits an id and a token, whatever rows a file of ours has.
use Rattle.std.proofs.Common.{ℕ, ℤ, List, [], ◌∷◌, refl, lit≤}
use Rattle.sqlite_value.specs.declared.value.Value.TheVariants.{Int, Blob}
use Rattle.sqlite_tied.specs.Compute.{everything}
use Rattle.sqlite.specs.Listing.{understood}
use Rattle.lab_store_read.proofs.Causes.{Fits, fits_by}
use Rattle.lab_store_read_people.proofs.SessionTexts.{session_text, session_query}

pub session_fits : (lab : ℤ) (token : List ℕ) → Fits session_text session_query (Int lab ∷ Blob token ∷ [])
unfolding understood everything
session_fits lab token = fits_by _ _ _ (lit≤ tt, refl) refl refl refl
