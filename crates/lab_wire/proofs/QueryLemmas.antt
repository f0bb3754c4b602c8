-- A query by its members.
use Rattle.std.proofs.Common.{◌≡◌, ◌<◌, ◌∙◌, ℕ, List, [], ◌∷◌, None, length, refl, ap, arith, codes}
use Rattle.std.specs.List.{position_or_len, before_first, after_first, slice_split}
use Rattle.std.proofs.lemmas.List.Splits.{slice_split_first, length-slice_split}
use Rattle.lab_wire.specs.Queries.{is_ampersand, range_of, range_by, number_behind, range_in}
use Rattle.lab_wire.proofs.Parts.{one_part}

pub no_other : (query : List ℕ) → position_or_len is_ampersand query ≡ length query → range_in query ≡ None
unfolding range_in
no_other query none = ap range_by (one_part is_ampersand query none)

pub some_others : (query : List ℕ) → position_or_len is_ampersand query < length query
    → range_in query ≡ range_by (before_first is_ampersand query ∷ slice_split is_ampersand (after_first is_ampersand query))
unfolding range_in
some_others query found = ap range_by (slice_split_first is_ampersand query 0 found)

pub one_other : (one others : List ℕ) → position_or_len is_ampersand others ≡ length others
    → range_by (one ∷ slice_split is_ampersand others)
    ≡ range_of (number_behind (codes "from=") one) (number_behind (codes "to=") others)
one_other one others none = ap (λ parts. range_by (one ∷ parts)) (one_part is_ampersand others none)

three : (one other : List ℕ) (more : List (List ℕ)) → 0 < length more → range_by (one ∷ other ∷ more) ≡ None
three one other [] some = absurd (omega arith)
three one other (third ∷ more) some = refl

pub too_many : (one others : List ℕ) → position_or_len is_ampersand others < length others
    → range_by (one ∷ slice_split is_ampersand others) ≡ None
too_many one others found =
    ap (λ parts. range_by (one ∷ parts)) (slice_split_first is_ampersand others 0 found)
    ∙ three one _ _ (omega (arith, length-slice_split is_ampersand (after_first is_ampersand others)))
