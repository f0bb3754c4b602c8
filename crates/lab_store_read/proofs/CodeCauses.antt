-- The query of a person's code fits an id, whatever rows a file of ours has.
use Rattle.std.proofs.Common.{ℤ, [], ◌∷◌, refl, lit≤}
use Rattle.sqlite_value.specs.declared.value.Value.TheVariants.{Int}
use Rattle.sqlite_tied.specs.Compute.{everything}
use Rattle.sqlite.specs.Listing.{understood}
use Rattle.lab_store_read.proofs.Causes.{Fits, fits_by}
use Rattle.lab_store_read.proofs.Texts.{code_text, code_query}

pub code_fits : (id : ℤ) → Fits code_text code_query (Int id ∷ [])
unfolding understood everything
code_fits id = fits_by _ _ _ (lit≤ tt, refl) refl refl refl
