-- Codes that are kept: none, one more, and the one that is found with an id.
use Rattle.std.proofs.Common.{◌≡◌, ℕ, ◌-◌, ◌<◌, ℤ, List, [], ◌∷◌, ◌++◌, length, reverse, find, Option, Some, None, option_map, All, refl, sym, ap, ◌∙◌, subst, ap₂, int_eq, arith}
use Rattle.std.proofs.lemmas.Bool.Decides.{Decides-int_eq}
use Rattle.std.proofs.lemmas.List.{get_or-reverse, length-reverse}
use Rattle.std.proofs.lemmas.List.Elements.{All-contains, All-nil, All-push, All-same}
use Rattle.sqlite_rules.proofs.ListLemmas.{contains_had, has_found}
use Rattle.lab_store_tables.specs.Rows.{Tables}
use Rattle.lab_store_tables.specs.Meaning.{code_of}
use Rattle.lab_store_read.specs.declared.known.KnownCode.{KnownCode}
use Rattle.lab_store_read.specs.Known.{AreKnown, IsKnown}
use Rattle.lab_store_read.specs.Private.Known.{code_among, kept_code, known_by}

abbrev pub known_with : ℤ → List ℕ → KnownCode
known_with id code = record { id = id; code = code }

all_reversed : {X : Type 0} (P : X → Type 0) (xs : List X) → All P xs → All P (reverse xs)
all_reversed P xs all = λ k d below.
    let within : k < length xs = subst (λ (count : ℕ). k < count) (length-reverse xs) below in
    subst P (sym (get_or-reverse xs k d within)) (all (length xs - 1 - k) d (omega arith))

pub known_none : (t : Tables) (known : List KnownCode) → known ≡ [] → AreKnown t known
known_none t known none = record { codes = All-same (IsKnown t) known [] none (All-nil (IsKnown t)) }

-- a copy of a code that was read, kept behind others
pub known_pushed : (before after : List KnownCode) (given id : ℤ) (copy code own : List ℕ) → given ≡ id → copy ≡ code → code ≡ own
    → after ≡ before ++ known_with given copy ∷ [] → after ≡ before ++ known_with id own ∷ []
known_pushed before after given id copy code own same copied read pushed =
    pushed ∙ ap₂ (λ (one : ℤ) (text : List ℕ). before ++ known_with one text ∷ []) same (copied ∙ read)

pub known_more : (t : Tables) (id : ℤ) (before after : List KnownCode) → after ≡ before ++ known_by t id ∷ [] → AreKnown t before → AreKnown t after
known_more t id before after is are =
    record { codes = All-same (IsKnown t) after (before ++ known_by t id ∷ []) is (All-push (IsKnown t) before (known_by t id) are.codes refl) }

found_is : (t : Tables) (id : ℤ) (known : List KnownCode) → All (IsKnown t) known → (one : KnownCode)
    → find (λ (it : KnownCode). int_eq it.id id) known ≡ Some one → one.code ≡ code_of t id
found_is t id known all one found =
    let there = has_found (λ (it : KnownCode). int_eq it.id id) known one found in
    let own : one.id ≡ id = (Decides-int_eq one.id id).0 there.1 in
    let is : one.code ≡ code_of t one.id = All-contains (IsKnown t) known one all (contains_had known one there.0) in
    is ∙ ap (code_of t) own

-- the code that is kept with the id is the one of the person with the id
pub among_is : (t : Tables) (id : ℤ) (known given : List KnownCode) (found : Option (List ℕ)) (code : List ℕ) → given ≡ known → found ≡ code_among given id
    → found ≡ Some code → AreKnown t known → code ≡ code_of t id
among_is t id known given found code same sought told are = by (find (λ (it : KnownCode). int_eq it.id id) (reverse known)) refl
  where
    is : Some code ≡ code_among known id
    is = sym told ∙ sought ∙ ap (λ (l : List KnownCode). code_among l id) same

    by : (one : Option KnownCode) → find (λ (it : KnownCode). int_eq it.id id) (reverse known) ≡ one → code ≡ code_of t id
    by None lacks = absurd (let wrong : Some code ≡ None = is ∙ ap (option_map kept_code) lacks in cc)
    by (Some one) has =
        let kept : Some code ≡ Some one.code = is ∙ ap (option_map kept_code) has in
        let own : code ≡ one.code = cc in
        own ∙ found_is t id (reverse known) (all_reversed (IsKnown t) known are.codes) one has
