-- Definitions for proofs only, which belong to specs/Sheets.antt: no clause names them.
use Rattle.std.specs.Prelude.{ℕ, ◌+◌, ◌/◌, ◌%◌, Bool, not, ◌&&◌, ◌==◌, List, [], ◌∷◌, ◌++◌, map, length, filter, Option, Some, None, bytes_eq, nat_lt, codes, if◌then◌else◌}
use Rattle.std.specs.List.{list_any}
use Rattle.sqlite_value.specs.declared.value.Value.TheVariants.{Null}
use Rattle.sqlite_sql.specs.Term.{Term, lit, col}
use Rattle.lab_store_tables.specs.Sheets.{Content, Described, Sheet, names, Id, Number, Flag, Words, Octets}

abbrev pub content_word : Content → List ℕ
content_word Id = codes "INTEGER"
content_word Number = codes "INTEGER"
content_word Flag = codes "INTEGER"
content_word Words = codes "TEXT"
content_word Octets = codes "BLOB"

abbrev pub joined : List ℕ → List (List ℕ) → List ℕ
joined between [] = []
joined between (one ∷ []) = one
joined between (one ∷ other ∷ others) = one ++ between ++ joined between (other ∷ others)

abbrev comma : List ℕ
comma = codes ", "

abbrev leads_text : Option (List ℕ) → List ℕ
leads_text None = []
leads_text (Some parent) = codes " REFERENCES " ++ parent ++ codes " (id)"

abbrev is_among : List (List ℕ) → List ℕ → Bool
is_among keys name = list_any (bytes_eq name) keys

abbrev is_single : List (List ℕ) → Bool
is_single key = length key == 1

-- a key of one column stands beside it, and every other behind the columns
abbrev unique_beside : List (List (List ℕ)) → List ℕ → List ℕ
unique_beside keys name =
    if list_any (λ key. is_single key && is_among key name) keys then codes " UNIQUE" else []

abbrev column_text : List (List (List ℕ)) → Described → List ℕ
column_text keys one =
    one.name ++ codes " " ++ content_word one.content
    ++ (if one.needed then codes " NOT NULL" else [])
    ++ unique_beside keys one.name ++ leads_text one.leads

abbrev unique_text : List (List ℕ) → List ℕ
unique_text key = codes "UNIQUE (" ++ joined comma key ++ codes ")"

abbrev pub create_text : Sheet → List ℕ
create_text sheet =
    codes "CREATE TABLE " ++ sheet.name ++ codes " ("
    ++ joined comma (codes "id INTEGER PRIMARY KEY" ∷ map (column_text sheet.uniques) sheet.columns
    ++ map unique_text (filter (λ key. not (is_single key)) sheet.uniques))
    ++ codes ") STRICT"

-- a parameter of a statement, as ?1
abbrev param : ℕ → List ℕ
param n =
    if nat_lt n 10 then 63 ∷ (48 + n) ∷ []
    else 63 ∷ (48 + n / 10) ∷ (48 + n % 10) ∷ []

abbrev params_from : ℕ → List (List ℕ) → List (List ℕ)
params_from n [] = []
params_from n (one ∷ others) = param n ∷ params_from (n + 1) others

abbrev pub insert_text : Sheet → List ℕ
insert_text sheet =
    codes "INSERT INTO " ++ sheet.name ++ codes " (" ++ joined comma (names sheet.columns)
    ++ codes ") VALUES ("
    ++ joined comma (params_from 1 (names sheet.columns)) ++ codes ")"

abbrev cols_from : ℕ → ℕ → List Described → List Term
cols_from slot at [] = []
cols_from slot at (one ∷ others) = col slot at ∷ cols_from slot (at + 1) others

abbrev pub insert_terms : List Described → List Term
insert_terms columns = lit Null ∷ lit Null ∷ cols_from 0 0 columns
