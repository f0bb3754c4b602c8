-- The query of a number fits its parameters, whatever rows a file of ours has, and the row that it shows is readable.
use Rattle.std.proofs.Common.{◌≡◌, inl, inr, ℕ, ℤ, List, [], ◌∷◌, length, true, None, IsTrue, Any, refl, sym, ap, subst, lit≤, arith}
use Rattle.sqlite_value.specs.declared.value.Value.TheVariants.{Int}
use Rattle.sqlite_value.specs.Order.{Row}
use Rattle.sqlite_sql.specs.Group.{Aggregate, value_over, Overflows}
use Rattle.sqlite_sql.specs.Query.{Query, has_no_fold}
use Rattle.sqlite_sql.specs.Program.{overlay}
use Rattle.sqlite_sql.specs.Term.{Env}
use Rattle.sqlite_sql.proofs.QueryLemmas.{no_fold_overflows}
use Rattle.sqlite_tied.specs.Compute.{everything}
use Rattle.sqlite_tied.specs.Listing.{count_rows}
use Rattle.sqlite_typing.specs.Types.{accepts_program}
use Rattle.sqlite.specs.declared.error.Error.{Error}
use Rattle.sqlite.specs.Effect.{Database, RefusesQuery}
use Rattle.sqlite.specs.Listing.{understood}
use Rattle.lab_store_tables.specs.Schema.{lab_schema}
use Rattle.lab_store_read.proofs.Causes.{IsOne, Fits}
use Rattle.lab_store_read_people.specs.Private.CountsShown.{count_shown, shows_number}
use Rattle.lab_store_read_people.proofs.CountAnswers.{rows_counted}
use Rattle.lab_store_read_people.proofs.PersonTexts.{count_text, count_query}

any_one : {X : Type 0} (P : X → Type 0) (x : X) → Any P (x ∷ []) → P x
any_one P x h = let first : h.0 ≡ 0 = omega (arith, h.2) in subst P (sym (rw first at h.3)) h.4

-- no count is lost
never_lost : (all : List Env) → ¬ Overflows count_rows all
never_lost all h =
    let lost : value_over h.2.1 rows_counted ≡ None = any_one (λ (a : Aggregate). value_over h.2.1 a ≡ None) rows_counted h.2.4 in
    absurd (let e = lost in cc)

fits_counted : (sql : List ℕ) (query : Query) (params : Row) → IsOne sql (length params) (understood lab_schema sql) → accepts_program lab_schema [] query params ≡ true
    → query.group ≡ count_rows → has_no_fold query.from ≡ true → Fits sql query params
fits_counted sql query params one typed counted plain = record { one = one; taken = by }
  where
    by : (db : Database) (e : Error) → db.schema ≡ lab_schema → ¬ RefusesQuery None db (record { lets = []; body = query }) params e
    by db e ours (inl mismatch) = absurd (let wrong = rw (ours, typed) at mismatch.1 in cc)
    by db e ours (inr (inl over)) = elim over.1 [ inl group ↦ never_lost _ (rw counted at group) | inr fold ↦ no_fold_overflows (overlay db.trees []) query.from (params ∷ []) plain fold ]
    by db e ours (inr (inr limit)) = absurd (let wrong = limit.1 in cc)

pub count_fits : (lab : ℤ) → Fits count_text count_query (Int lab ∷ [])
unfolding understood everything
count_fits lab = fits_counted _ _ _ (lit≤ tt, refl) refl refl refl

pub number_stands : (rows : List Row) (many : ℕ) → rows ≡ count_shown many → IsTrue (shows_number rows)
number_stands rows many is = ap shows_number is
