-- Ways to write values at the front of a text, and to read them back: each reads exactly what it writes. Where one stands
-- behind another, so does what they write and read together.
use Rattle.std.proofs.Common.{◌≡◌, ℕ, ◌<◌, ◌^◌, List, ◌++◌, length, Option, Some, refl, sym, ap, subst, ◌∙◌, append_assoc}
use Rattle.lab_seal_versions.specs.Versions.{item}
use Rattle.lab_seal.specs.Reading.{first_item, first_as, ◌>>=◌}
use Rattle.lab_seal.proofs.ReadLemmas.{bind_some, some_same, item_sound, item_complete}

-- what the bytes of an item stand for
pub record Spelling (A : Type 0) : Type 1 where
  pub reads : List ℕ → Option A
  pub IsGood : A → Type 0
  pub bytes_of : A → List ℕ
  pub sound : (bytes : List ℕ) (x : A) → reads bytes ≡ Some x → IsGood x × (bytes ≡ bytes_of x)
  pub complete : (x : A) → IsGood x → reads (bytes_of x) ≡ Some x
  pub short : (x : A) → IsGood x → length (bytes_of x) < 2 ^ 64

-- a value at the front of a text
pub record Reader (A : Type 0) : Type 1 where
  pub first : List ℕ → Option (A × List ℕ)
  pub IsGood : A → Type 0
  pub text_of : A → List ℕ
  pub sound : (text : List ℕ) (found : A × List ℕ) → first text ≡ Some found → IsGood found.0 × (text ≡ text_of found.0 ++ found.1)
  pub complete : (x : A) (rest : List ℕ) → IsGood x → first (text_of x ++ rest) ≡ Some (x, rest)

pub item_found : {A : Type 0} (s : Spelling A) (text : List ℕ) (found : A × List ℕ) → first_as s.reads text ≡ Some found
    → s.IsGood found.0 × (text ≡ item (s.bytes_of found.0) ++ found.1)
unfolding first_as
item_found {A} s text found e =
    let a = bind_some (first_item text) _ found e in
    let read : List ℕ × List ℕ = a.0 in
    let b = bind_some (s.reads read.0) _ found a.2 in
    let x : A = b.0 in
    let same : (x, read.1) ≡ found = some_same (x, read.1) found b.2 in
    let spelled = s.sound read.0 x b.1 in
    let whole = item_sound text read.0 read.1 a.1 in
    let P : A × List ℕ → Type 0 = λ p. s.IsGood p.0 × (text ≡ item (s.bytes_of p.0) ++ p.1) in
    subst P same (spelled.0, whole.1 ∙ ap (λ l. item l ++ read.1) spelled.1)

pub item_back : {A : Type 0} (s : Spelling A) (x : A) (rest : List ℕ) → s.IsGood x
    → first_as s.reads (item (s.bytes_of x) ++ rest) ≡ Some (x, rest)
unfolding first_as
item_back s x rest good = rw (item_complete (s.bytes_of x) rest (s.short x good), s.complete x good) refl

abbrev pub item_reader : {A : Type 0} → Spelling A → Reader A
item_reader s = record {
  first = first_as s.reads;
  IsGood = s.IsGood;
  text_of = λ x. item (s.bytes_of x);
  sound = item_found s;
  complete = item_back s;
}

-- what stands at the front, where the reading goes on behind it
pub record IsFound {R A : Type 0} (IsGood : A → Type 0) (text_of : A → List ℕ) (text : List ℕ) (k : A → List ℕ → Option R)
    (r : R) : Type 0 where
  pub value : A
  pub rest : List ℕ
  pub good : IsGood value
  pub text_is : text ≡ text_of value ++ rest
  pub more : k value rest ≡ Some r

pub record Part (R A : Type 0) : Type 1 where
  pub reads : List ℕ → (A → List ℕ → Option R) → Option R
  pub IsGood : A → Type 0
  pub text_of : A → List ℕ
  pub sound : (text : List ℕ) (k : A → List ℕ → Option R) (r : R) → reads text k ≡ Some r → IsFound IsGood text_of text k r
  pub complete : (x : A) (rest : List ℕ) (k : A → List ℕ → Option R) → IsGood x → reads (text_of x ++ rest) k ≡ k x rest

pub part_found : {R A : Type 0} (c : Reader A) (text : List ℕ) (k : A → List ℕ → Option R) (r : R)
    → c.first text >>= (λ found. k found.0 found.1) ≡ Some r → IsFound c.IsGood c.text_of text k r
part_found {R} {A} c text k r e =
    let a = bind_some (c.first text) (λ (found : A × List ℕ). k found.0 found.1) r e in
    let found : A × List ℕ = a.0 in
    let has = c.sound text found a.1 in
    record { value = found.0; rest = found.1; good = has.0; text_is = has.1; more = a.2 }

pub part_back : {R A : Type 0} (c : Reader A) (x : A) (rest : List ℕ) (k : A → List ℕ → Option R) → c.IsGood x
    → c.first (c.text_of x ++ rest) >>= (λ found. k found.0 found.1) ≡ k x rest
part_back {R} {A} c x rest k good = ap (λ (o : Option (A × List ℕ)). o >>= (λ found. k found.0 found.1)) (c.complete x rest good)

-- a value that is read first
abbrev pub part : {R A : Type 0} → Reader A → Part R A
part {R} {A} c = record {
  reads = λ text k. c.first text >>= (λ found. k found.0 found.1);
  IsGood = c.IsGood;
  text_of = c.text_of;
  sound = part_found c;
  complete = part_back c;
}

pub both_found : {R A B : Type 0} (one : Part R A) (other : A → Part R B) (text : List ℕ) (k : A × B → List ℕ → Option R) (r : R)
    → one.reads text (λ x rest. (other x).reads rest (λ y more. k (x, y) more)) ≡ Some r
    → IsFound {R = R} {A = A × B} (λ p. one.IsGood p.0 × (other p.0).IsGood p.1) (λ p. one.text_of p.0 ++ (other p.0).text_of p.1) text k r
both_found one other text k r e =
    let a = one.sound text (λ x rest. (other x).reads rest (λ y more. k (x, y) more)) r e in
    let b = (other a.value).sound a.rest (λ y more. k (a.value, y) more) r a.more in
    record {
      value = (a.value, b.value);
      rest = b.rest;
      good = (a.good, b.good);
      text_is = a.text_is ∙ ap (λ l. one.text_of a.value ++ l) b.text_is
          ∙ sym (append_assoc (one.text_of a.value) ((other a.value).text_of b.value) b.rest);
      more = b.more;
    }

pub both_back : {R A B : Type 0} (one : Part R A) (other : A → Part R B) (p : A × B) (rest : List ℕ) (k : A × B → List ℕ → Option R)
    → one.IsGood p.0 × (other p.0).IsGood p.1
    → one.reads ((one.text_of p.0 ++ (other p.0).text_of p.1) ++ rest) (λ x rest. (other x).reads rest (λ y more. k (x, y) more))
    ≡ k p rest
both_back one other p rest k good =
    ap (λ l. one.reads l (λ x rest. (other x).reads rest (λ y more. k (x, y) more)))
    (append_assoc (one.text_of p.0) ((other p.0).text_of p.1) rest)
    ∙ one.complete p.0 ((other p.0).text_of p.1 ++ rest) (λ x rest. (other x).reads rest (λ y more. k (x, y) more)) good.0
    ∙ (other p.0).complete p.1 rest (λ y more. k (p.0, y) more) good.1

-- a value, and another one behind it
abbrev pub behind : {R A B : Type 0} → Part R A → (A → Part R B) → Part R (A × B)
behind {R} {A} {B} one other = record {
  reads = λ text k. one.reads text (λ x rest. (other x).reads rest (λ y more. k (x, y) more));
  IsGood = λ p. one.IsGood p.0 × (other p.0).IsGood p.1;
  text_of = λ p. one.text_of p.0 ++ (other p.0).text_of p.1;
  sound = both_found one other;
  complete = both_back one other;
}

-- what is made of the values that stand one behind the other
pub made_found : {A B : Type 0} (made : A → B) (parts_of : B → A) → ((x : A) → parts_of (made x) ≡ x)
    → (p : Part (B × List ℕ) A) (text : List ℕ) (found : B × List ℕ) → p.reads text (λ x rest. Some (made x, rest)) ≡ Some found
    → p.IsGood (parts_of found.0) × (text ≡ p.text_of (parts_of found.0) ++ found.1)
made_found {A} {B} made parts_of there p text found e =
    let a = p.sound text (λ x rest. Some (made x, rest)) found e in
    let at : (made a.value, a.rest) ≡ found = some_same (made a.value, a.rest) found a.more in
    let Q : A → Type 0 = λ x. p.IsGood x × (text ≡ p.text_of x ++ a.rest) in
    let P : B × List ℕ → Type 0 = λ q. p.IsGood (parts_of q.0) × (text ≡ p.text_of (parts_of q.0) ++ q.1) in
    subst P at (subst Q (sym (there a.value)) (a.good, a.text_is))

pub made_back : {A B : Type 0} (made : A → B) (parts_of : B → A) → ((y : B) → made (parts_of y) ≡ y)
    → (p : Part (B × List ℕ) A) (y : B) (rest : List ℕ) → p.IsGood (parts_of y)
    → p.reads (p.text_of (parts_of y) ++ rest) (λ x rest. Some (made x, rest)) ≡ Some (y, rest)
made_back {A} {B} made parts_of back p y rest good =
    p.complete (parts_of y) rest (λ x rest. Some (made x, rest)) good ∙ ap (λ (z : B). Some (z, rest)) (back y)

abbrev pub reader : {A B : Type 0} (made : A → B) (parts_of : B → A) → ((x : A) → parts_of (made x) ≡ x)
    → ((y : B) → made (parts_of y) ≡ y)
    → (p : Part (B × List ℕ) A) (first : List ℕ → Option (B × List ℕ))
    → ((text : List ℕ) → first text ≡ p.reads text (λ x rest. Some (made x, rest))) → Reader B
reader {A} {B} made parts_of there back p first same = record {
  first = first;
  IsGood = λ y. p.IsGood (parts_of y);
  text_of = λ y. p.text_of (parts_of y);
  sound = λ text found e. made_found made parts_of there p text found (sym (same text) ∙ e);
  complete = λ y rest good. same (p.text_of (parts_of y) ++ rest) ∙ made_back made parts_of back p y rest good;
}
