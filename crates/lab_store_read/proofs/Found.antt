-- What was read of the rows that a query shows, as what the tables have.
use Rattle.std.proofs.Common.{Option, Some, unwrap_or, ◌≡◌, ℕ, ℤ, List, [], ◌∷◌, map, filter, slice_get, option_map, refl, sym, ap, subst, ◌∙◌, Bool, true, false, ◌&&◌, None, IsTrue}
use Rattle.std.proofs.lemmas.Bool.{and_parts}
use Rattle.std.specs.Str.{is_utf8}
use Rattle.lab_forms_texts.specs.Names.{is_person_code}
use Rattle.sqlite_keyed.proofs.ListLemmas.{slice_get-filter}
use Rattle.std.specs.Ordering.{int_eq}
use Rattle.sqlite_keyed.specs.Keyed.{get_by}
use Rattle.lab_store_tables.specs.Rows.{PersonRow, person_id, Tables, number, flag, optional, number_in, flag_in, optional_in}
use Rattle.lab_store_tables.specs.Meaning.{code_of}
use Rattle.lab_store_read.specs.Cells.{is_text_cell}
use Rattle.lab_store_read.specs.Shown.{code_shown, codes_shown, shows_code}
use Rattle.lab_store_read.specs.Private.Shown.{code_read}
use Rattle.sqlite_value.specs.declared.value.Value.TheVariants.{Int, Blob, Text}
use Rattle.sqlite_value.specs.Order.{bytes}
use Rattle.sqlite_rules.specs.Edit.{id_in}

-- ---- a column is read as it was

pub flag_back : (b : Bool) → flag_in (flag b) ≡ b
flag_back true = refl
flag_back false = refl

pub text_back : (o : Option (List ℕ)) → optional_in bytes (optional Text o) ≡ o
text_back None = refl
text_back (Some one) = refl

pub number_back : (o : Option ℕ) → optional_in number_in (optional number o) ≡ o
number_back None = refl
number_back (Some one) = refl

pub blob_back : (o : Option (List ℕ)) → optional_in bytes (optional Blob o) ≡ o
blob_back None = refl
blob_back (Some one) = refl

pub id_back : (o : Option ℤ) → optional_in id_in (optional Int o) ≡ o
id_back None = refl
id_back (Some one) = refl

-- ---- the code of a person

code_found : (t : Tables) (id : ℤ) → option_map code_read (slice_get (codes_shown t id) 0) ≡ option_map (λ (one : PersonRow). one.code) (get_by person_id t.persons id)
code_found t id = go (filter (λ (one : PersonRow). int_eq one.id id) t.persons) ∙ ap (option_map (λ (one : PersonRow). one.code)) (slice_get-filter (λ (one : PersonRow). int_eq one.id id) t.persons)
  where
    go : (found : List PersonRow) → option_map code_read (slice_get (map code_shown found) 0) ≡ option_map (λ (one : PersonRow). one.code) (slice_get found 0)
    go [] = refl
    go (one ∷ more) = refl

-- the code that the first row shows
pub code_is : (t : Tables) (id : ℤ) (code : List ℕ) → Some code ≡ option_map code_read (slice_get (codes_shown t id) 0) → code ≡ code_of t id
code_is t id code h = ap (λ (o : Option (List ℕ)). unwrap_or o []) (h ∙ code_found t id)

-- no code is empty
empty_code : IsTrue (is_utf8 [] && is_person_code []) → ⊥
unfolding is_person_code
empty_code h = let wrong : false ≡ true = (and_parts (is_utf8 []) (is_person_code []) h).1 in cc

-- where the code of the person with the id is one, the query shows it
pub code_there : (t : Tables) (id : ℤ) → IsTrue (is_text_cell is_person_code (Text (code_of t id))) → IsTrue (shows_code (codes_shown t id))
code_there t id h =
    go (filter (λ (one : PersonRow). int_eq one.id id) t.persons)
    (subst (λ (o : Option PersonRow). IsTrue (is_text_cell is_person_code (Text (unwrap_or (option_map (λ (one : PersonRow). one.code) o) []))))
    (sym (slice_get-filter (λ (one : PersonRow). int_eq one.id id) t.persons)) h)
  where
    go : (found : List PersonRow) → IsTrue (is_text_cell is_person_code (Text (unwrap_or (option_map (λ (one : PersonRow). one.code) (slice_get found 0)) [])))
        → IsTrue (shows_code (map code_shown found))
    go [] none = absurd (empty_code none)
    go (one ∷ more) there = there
