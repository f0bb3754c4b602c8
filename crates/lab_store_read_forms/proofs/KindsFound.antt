-- What was read of the names of a choice, as what the tables have, and what a field takes with its names.
use Rattle.std.proofs.Common.{◌≡◌, ℕ, ℤ, Bool, true, false, List, [], map, unwrap_or, cond, bytes_eq, codes, refl}
use Rattle.sqlite_keyed.proofs.ListLemmas.{map-map}
use Rattle.lab_forms.specs.declared.kinds.Kind.{Kind}
use Rattle.lab_forms.specs.declared.kinds.Kind.TheVariants.{Number, Text as Words, Choice, Date, YesNo}
use Rattle.lab_store_tables.specs.Rows.{KindColumns, Tables}
use Rattle.lab_store_tables.specs.Columns.{kind_in}
use Rattle.lab_store_tables.specs.Meaning.{names_of}
use Rattle.lab_store_read_forms.specs.Kinds.{is_choice, kind_with}
use Rattle.lab_store_read_forms.specs.KindsShown.{name_shown, names_shown, name_read}

pub names_found : (t : Tables) (field : ℤ) → map name_read (names_shown t field) ≡ names_of t field
names_found t field = map-map name_read name_shown _

-- a kind that isn't a choice needs no names
pub kind_asked : (kind : Kind) (names : List (List ℕ)) → kind_with kind (cond (is_choice kind) names []) ≡ kind_with kind names
kind_asked (Number unit decimals min max) names = refl
kind_asked (Words size) names = refl
kind_asked (Choice choices) names = refl
kind_asked Date names = refl
kind_asked YesNo names = refl

pub kind_named : (columns : KindColumns) (names : List (List ℕ)) → kind_with (kind_in columns []) names ≡ kind_in columns names
kind_named columns names =
    go (bytes_eq columns.word (codes "number")) (bytes_eq columns.word (codes "text")) (bytes_eq columns.word (codes "choice")) (bytes_eq columns.word (codes "date"))
  where
    go : (a b c d : Bool) → kind_with (cond a (Number (unwrap_or columns.unit []) (unwrap_or columns.decimals 0) columns.low columns.high)
        (cond b (Words (unwrap_or columns.size 0)) (cond c (Choice []) (cond d Date YesNo)))) names
        ≡ cond a (Number (unwrap_or columns.unit []) (unwrap_or columns.decimals 0) columns.low columns.high)
        (cond b (Words (unwrap_or columns.size 0)) (cond c (Choice names) (cond d Date YesNo)))
    go true b c d = refl
    go false true c d = refl
    go false false true d = refl
    go false false false true = refl
    go false false false false = refl
