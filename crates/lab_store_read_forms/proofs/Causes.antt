-- The queries fit what they ask with, whatever rows a file of ours has.
use Rattle.std.proofs.Common.{ℕ, ℤ, pos, List, [], ◌∷◌, refl, lit≤}
use Rattle.sqlite_value.specs.declared.value.Value.TheVariants.{Int, Text}
use Rattle.sqlite_sql.specs.Term.{col}
use Rattle.sqlite_tied.specs.Compute.{everything}
use Rattle.sqlite.specs.Listing.{understood}
use Rattle.lab_store_read.proofs.Causes.{Fits, fits_by}
use Rattle.lab_store_read.proofs.Texts.{own_query, is_param}
use Rattle.lab_store_read_forms.proofs.Texts.{form_text, form_query, field_text, field_columns}
use Rattle.lab_store_read_forms.proofs.KindTexts.{name_text}
use Rattle.lab_store_read_forms.proofs.ByCodeTexts.{exact_text, exact_query, form_versions_text, form_versions_query}

pub form_fits : (id : ℤ) → Fits form_text form_query (Int id ∷ [])
unfolding understood everything
form_fits id = fits_by _ _ _ (lit≤ tt, refl) refl refl refl

pub field_fits : (form : ℤ) → Fits field_text (own_query 10 (is_param 2 0 ∷ []) field_columns 3) (Int form ∷ [])
unfolding understood everything
field_fits form = fits_by _ _ _ (lit≤ tt, refl) refl refl refl

pub name_fits : (field : ℤ) → Fits name_text (own_query 13 (is_param 2 0 ∷ []) (col 1 4 ∷ []) 3) (Int field ∷ [])
unfolding understood everything
name_fits field = fits_by _ _ _ (lit≤ tt, refl) refl refl refl

pub exact_fits : (lab : ℤ) (code : List ℕ) (version : ℕ) → Fits exact_text exact_query (Int lab ∷ Text code ∷ Int (pos version) ∷ [])
unfolding understood everything
exact_fits lab code version = fits_by _ _ _ (lit≤ tt, refl) refl refl refl

pub form_versions_fits : (lab : ℤ) (code : List ℕ) → Fits form_versions_text form_versions_query (Int lab ∷ Text code ∷ [])
unfolding understood everything
form_versions_fits lab code = fits_by _ _ _ (lit≤ tt, refl) refl refl refl
