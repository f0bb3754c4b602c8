-- The query of the trail fits its parameters, whatever rows a file of ours has; and what rows of the trail lead to.
use Rattle.std.proofs.Common.{ℕ, ℤ, pos, List, [], ◌∷◌, refl, subst, lit≤, All}
use Rattle.std.proofs.lemmas.List.Elements.{All-map, All-weaker}
use Rattle.sqlite_value.specs.declared.value.Value.TheVariants.{Int}
use Rattle.sqlite_value.specs.Order.{Row}
use Rattle.sqlite_tied.specs.Compute.{everything}
use Rattle.sqlite.specs.Listing.{understood}
use Rattle.lab_store_tables.specs.Rows.{Tables}
use Rattle.lab_store_read.proofs.Causes.{Fits, fits_by}
use Rattle.lab_store_read.proofs.Texts.{is_param, own_query, range_tests}
use Rattle.lab_store_read_trail.specs.Readable.{HasTold, HasDoer, HasWholeTold}
use Rattle.lab_store_read_trail.specs.Shown.{told_shown_within, told_read}
use Rattle.lab_store_read_trail.specs.Private.Trails.{told_heads_within}
use Rattle.lab_store_read_trail.proofs.Texts.{told_text, told_columns}
use Rattle.lab_store_read_trail.proofs.TrailsFound.{told_found}

pub told_fits : (lab : ℤ) (from to : ℕ) → Fits told_text (own_query 25 (is_param 2 0 ∷ range_tests 3) told_columns 3) (Int lab ∷ Int (pos from) ∷ Int (pos to) ∷ [])
unfolding understood everything
told_fits lab from to = fits_by _ _ _ (lit≤ tt, refl) refl refl refl

pub all_columns : (t : Tables) (rows : List Row) → All (HasWholeTold t) rows → All HasTold rows
all_columns t rows = All-weaker (HasWholeTold t) HasTold (λ row is. is.own) rows

pub all_doers : (t : Tables) (lab : ℤ) (from to : ℕ) → All (HasWholeTold t) (told_shown_within t lab from to) → All (HasDoer t) (told_heads_within t lab from to)
all_doers t lab from to h =
    let rows = told_shown_within t lab from to in
    subst (All (HasDoer t)) (told_found t lab from to)
    (All-map (HasDoer t) told_read rows (All-weaker (HasWholeTold t) (λ row. HasDoer t (told_read row)) (λ row is. is.doer) rows h))
