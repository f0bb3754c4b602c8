-- The queries of persons fit their parameters, whatever rows a file of ours has; and what readable rows of persons have.
use Rattle.std.proofs.Common.{ℕ, ℤ, List, [], ◌∷◌, slice_get, Option, None, Some, option_map, refl, subst, lit≤, All, IfSome}
use Rattle.std.proofs.lemmas.List.Elements.{All-map, All-weaker}
use Rattle.sqlite_value.specs.declared.value.Value.TheVariants.{Int, Text}
use Rattle.sqlite_value.specs.Order.{Row}
use Rattle.sqlite_tied.specs.Compute.{everything}
use Rattle.sqlite.specs.Listing.{understood}
use Rattle.lab_store_tables.specs.Rows.{Tables}
use Rattle.lab_store_read.specs.Causes.{HasFirst}
use Rattle.lab_store_read.proofs.Causes.{Fits, fits_by}
use Rattle.lab_store_read.proofs.Texts.{is_param, own_query}
use Rattle.lab_store_read_people.specs.Private.Heads.{person_heads_of}
use Rattle.lab_store_read_people.specs.PersonsShown.{persons_shown, person_read}
use Rattle.lab_store_read_people.specs.PersonsReadable.{HasPerson, HasAsker, HasWholePerson}
use Rattle.lab_store_read_people.proofs.PersonsFound.{persons_found}
use Rattle.lab_store_read_people.proofs.PersonTexts.{person_text, person_query, persons_text, person_columns}

-- ---- queries

pub person_fits : (lab : ℤ) (code : List ℕ) → Fits person_text person_query (Int lab ∷ Text code ∷ [])
unfolding understood everything
person_fits lab code = fits_by _ _ _ (lit≤ tt, refl) refl refl refl

pub persons_fits : (lab : ℤ) → Fits persons_text (own_query 3 (is_param 2 0 ∷ []) person_columns 3) (Int lab ∷ [])
unfolding understood everything
persons_fits lab = fits_by _ _ _ (lit≤ tt, refl) refl refl refl

-- ---- rows

pub first_columns : (t : Tables) (rows : List Row) → HasFirst (HasWholePerson t) rows → HasFirst HasPerson rows
first_columns t rows = go (slice_get rows 0)
  where
    go : (o : Option Row) → IfSome o (HasWholePerson t) → IfSome o HasPerson
    go None h = tt
    go (Some row) h = h.own

pub first_asker : (t : Tables) (rows : List Row) → HasFirst (HasWholePerson t) rows → IfSome (option_map person_read (slice_get rows 0)) (HasAsker t)
first_asker t rows = go (slice_get rows 0)
  where
    go : (o : Option Row) → IfSome o (HasWholePerson t) → IfSome (option_map person_read o) (HasAsker t)
    go None h = tt
    go (Some row) h = h.asker

pub all_columns : (t : Tables) (rows : List Row) → All (HasWholePerson t) rows → All HasPerson rows
all_columns t rows = All-weaker (HasWholePerson t) HasPerson (λ row is. is.own) rows

pub all_askers : (t : Tables) (lab : ℤ) → All (HasWholePerson t) (persons_shown t lab) → All (HasAsker t) (person_heads_of t lab)
all_askers t lab h =
    let rows = persons_shown t lab in
    subst (All (HasAsker t)) (persons_found t lab) (All-map (HasAsker t) person_read rows (All-weaker (HasWholePerson t) (λ row. HasAsker t (person_read row)) (λ row is. is.asker) rows h))
