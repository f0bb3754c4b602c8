-- The queries fit what they ask with, whatever rows a file of ours has.
use Rattle.std.proofs.Common.{ℕ, ℤ, pos, List, [], ◌∷◌, refl, lit≤}
use Rattle.sqlite_value.specs.declared.value.Value.TheVariants.{Int, Text}
use Rattle.sqlite_tied.specs.Compute.{everything}
use Rattle.sqlite.specs.Listing.{understood}
use Rattle.lab_store_read.proofs.Causes.{Fits, fits_by}
use Rattle.lab_store_read.proofs.Texts.{record_query, children_query, own_query, is_param, range_tests}
use Rattle.lab_store_read_records.proofs.RetrievalTexts.{about_text, about_query, within_text, within_columns}
use Rattle.lab_store_read_records.proofs.Texts.{lab_text, lab_query, child_tests, entry_text, entry_columns, signature_text, signature_columns, version_text}
use Rattle.lab_store_read_records.proofs.Texts.{version_columns, record_text}

pub lab_fits : (code : List ℕ) → Fits lab_text lab_query (Text code ∷ [])
unfolding understood everything
lab_fits code = fits_by _ _ _ (lit≤ tt, refl) refl refl refl

pub entry_fits : (version : ℤ) → Fits entry_text (own_query 20 (is_param 2 0 ∷ []) entry_columns 3) (Int version ∷ [])
unfolding understood everything
entry_fits version = fits_by _ _ _ (lit≤ tt, refl) refl refl refl

pub signature_fits : (version : ℤ) → Fits signature_text (children_query 22 (child_tests 4) signature_columns 3) (Int version ∷ [])
unfolding understood everything
signature_fits version = fits_by _ _ _ (lit≤ tt, refl) refl refl refl

pub version_fits : (kept : ℤ) → Fits version_text (children_query 18 (child_tests 5) version_columns 3) (Int kept ∷ [])
unfolding understood everything
version_fits kept = fits_by _ _ _ (lit≤ tt, refl) refl refl refl

pub record_fits : (lab : ℤ) (number : ℕ) → Fits record_text record_query (Int lab ∷ Int (pos number) ∷ [])
unfolding understood everything
record_fits lab number = fits_by _ _ _ (lit≤ tt, refl) refl refl refl

pub about_fits : (lab : ℤ) (form sample : List ℕ) → Fits about_text about_query (Int lab ∷ Text form ∷ Text sample ∷ [])
unfolding understood everything
about_fits lab form sample = fits_by _ _ _ (lit≤ tt, refl) refl refl refl

pub within_fits : (lab : ℤ) (from to : ℕ) → Fits within_text (own_query 15 (is_param 2 0 ∷ range_tests 3) within_columns 3) (Int lab ∷ Int (pos from) ∷ Int (pos to) ∷ [])
unfolding understood everything
within_fits lab from to = fits_by _ _ _ (lit≤ tt, refl) refl refl refl
