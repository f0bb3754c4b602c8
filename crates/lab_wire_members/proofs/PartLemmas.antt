-- The elements of a list, one after the other.
use Rattle.std.proofs.Common.{◌≡◌, ◌∙◌, ℕ, suc, ◌+◌, ◌<◌, List, [], ◌∷◌, ◌++◌, length, map, take, drop, get_or, Ok, Err, refl, sym, ap, add-one}
use Rattle.std.proofs.Math.Seq.{drop-cons, take-suc}
use Rattle.std.proofs.lemmas.List.{map-append, take-append-drop}
use Rattle.serde_json.specs.Data.{Data}
use Rattle.serde_json.specs.View.{view}
use Rattle.serde_json.specs.declared.value.Value.{Value}
use Rattle.lab_forms_texts.specs.declared.refusals.Fault.{Fault}
use Rattle.lab_wire_members.specs.declared.refusals.BodyRefusal.{BodyRefusal}
use Rattle.lab_forms_texts.specs.declared.refusals.Fault.TheVariants.{Refused, Memory}
use Rattle.lab_wire_members.specs.Readings.{Reading, then_read, FaultyInTurn}
use Rattle.lab_wire_members.specs.Parts.{each_read}

-- two lists are read one after the other
abbrev joined : {A : Type 0} → Reading (List A) → Reading (List A) → Reading (List A)
joined one other = then_read one (λ xs. then_read other (λ ys. Ok (xs ++ ys)))

joined_first : {A : Type 0} (x : A) (one other : Reading (List A))
    → then_read (joined one other) (λ others. Ok (x ∷ others)) ≡ joined (then_read one (λ others. Ok (x ∷ others))) other
joined_first x (Err refusal) other = refl
joined_first x (Ok xs) (Err refusal) = refl
joined_first x (Ok xs) (Ok ys) = refl

joined_none : {A : Type 0} (other : Reading (List A)) → other ≡ joined (Ok []) other
joined_none (Err refusal) = refl
joined_none (Ok ys) = refl

joined_step : {A : Type 0} (first : Reading A) (one other : Reading (List A))
    → then_read first (λ x. then_read (joined one other) (λ others. Ok (x ∷ others)))
    ≡ joined (then_read first (λ x. then_read one (λ others. Ok (x ∷ others)))) other
joined_step (Err refusal) one other = refl
joined_step (Ok x) one other = joined_first x one other

each_joined : {A : Type 0} (says : Data → Reading A) (ds es : List Data)
    → each_read says (ds ++ es) ≡ joined (each_read says ds) (each_read says es)
each_joined says [] es = joined_none (each_read says es)
each_joined says (d ∷ ds) es =
    ap (λ rest. then_read (says d) (λ x. then_read rest (λ others. Ok (x ∷ others)))) (each_joined says ds es)
    ∙ joined_step (says d) (each_read says ds) (each_read says es)

-- one element more
pub each_more : {A : Type 0} (says : Data → Reading A) (values : List Value) (i : ℕ) (value : Value) (xs : List A) (x : A)
    → i < length values → value ≡ get_or values i value
    → each_read says (map view (take i values)) ≡ Ok xs → says (view value) ≡ Ok x
    → each_read says (map view (take (i + 1) values)) ≡ Ok (xs ++ x ∷ [])
each_more says values i value xs x inside is read this =
    let here : take (i + 1) values ≡ take i values ++ value ∷ [] = rw add-one (take-suc values i value inside ∙ ap (λ y. take i values ++ y ∷ []) (sym is)) in
    rw (here, map-append view (take i values) (value ∷ []), each_joined says (map view (take i values)) (view value ∷ []), read, this) refl

-- the first fault of an element is that of the list
pub each_fault : {A : Type 0} (says : Data → Reading A) (values : List Value) (i : ℕ) (value : Value) (xs : List A) (fault : Fault BodyRefusal)
    → i < length values → value ≡ get_or values i value
    → each_read says (map view (take i values)) ≡ Ok xs → FaultyInTurn (says (view value)) fault
    → FaultyInTurn (each_read says (map view values)) fault
each_fault says values i value xs Memory inside is read this = this
each_fault says values i value xs (Refused refusal) inside is read this =
    let rest : drop i values ≡ value ∷ drop (i + 1) values = rw add-one (drop-cons values i value inside ∙ ap (λ y. y ∷ drop (suc i) values) (sym is)) in
    ap (λ all. each_read says (map view all)) (sym (take-append-drop i values))
    ∙ rw (rest, map-append view (take i values) (value ∷ drop (i + 1) values), each_joined says (map view (take i values)) (view value ∷ map view (drop (i + 1) values)), read, this) refl
