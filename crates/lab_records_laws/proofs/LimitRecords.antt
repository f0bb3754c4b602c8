-- Records, as a command leaves them.
use Rattle.std.proofs.Common.{◌≡◌, ◌≤◌, ◌<◌, ◌+◌, ◌-◌, ℕ, suc, Bool, true, false, cond, List, [], ◌∷◌, ◌++◌, length, Option, Some, refl, sym, ◌∙◌, ap, subst, arith}
use Rattle.std.specs.Prelude.{All, map, slice_get}
use Rattle.std.specs.Cmp.{unsigned_Decides}
use Rattle.std.proofs.lemmas.List.Elements.{All-nil, All-cons, All-head, All-tail, All-push}
use Rattle.lab_seal_versions.specs.declared.rows.EntryRow.{EntryRow}
use Rattle.lab_records_kept.specs.declared.records.Record.{Record}
use Rattle.lab_records_kept.specs.declared.records.Version.{Version}
use Rattle.lab_records_kept.specs.declared.records.Signature.{Signature}
use Rattle.lab_records_kept.specs.Changes.{in_record, in_version, in_last, with_row, with_signature, entered_in, signed_in, opened_in}
use Rattle.lab_records_kept.specs.Lookups.{record_of, has_number, is_numbered, last_of}
use Rattle.lab_records_kept.specs.Limits.{AreNumberedAfter, AreNumbered, HasFewRows, IsOrderly, version_limit, row_limit}
use Rattle.lab_records_laws.proofs.LimitLists.{numbered_same, numbered_more, same_length, longer}
use Rattle.lab_records_laws.proofs.LimitLast.{found_passes}

abbrev pub record_number : Record → ℕ
record_number kept = kept.number

abbrev pub version_number : Version → ℕ
version_number version = version.origin.number

-- ---- one record among others

all_case : (test : Bool) (Holds : Record → Type 0) (next : Record → Record) (kept one : Record)
    (others done : List Record) (found_later : Option Record)
    → cond test (Some one) found_later ≡ Some kept
    → Holds (next kept) → All Holds (one ∷ others)
    → (found_later ≡ Some kept → All Holds done)
    → All Holds (cond test (next one ∷ others) (one ∷ done))
all_case true Holds next kept one others done found_later found holds all further =
    let same : kept ≡ one = cc in
    All-cons Holds (next one) others (subst (λ k. Holds (next k)) same holds)
    (All-tail Holds one others all)
all_case false Holds next kept one others done found_later found holds all further =
    All-cons Holds one done (All-head Holds one others all) (further found)

-- what holds of all records, and of what becomes of one, holds of all afterwards
pub all_in_record : (Holds : Record → Type 0) (next : Record → Record) (number : ℕ)
    (kept : Record) (records : List Record) → record_of records number ≡ Some kept
    → Holds (next kept) → All Holds records → All Holds (in_record number next records)
all_in_record Holds next number kept [] found holds all = all
all_in_record Holds next number kept (one ∷ others) found holds all =
    all_case (has_number number one) Holds next kept one others (in_record number next others)
    (record_of others number) found holds all (λ further. all_in_record Holds next number kept
    others further holds (All-tail Holds one others all))

number_case : (test : Bool) (next : Record → Record) (one : Record) (others done : List Record)
    → (next one).number ≡ one.number → map record_number done ≡ map record_number others
    → map record_number (cond test (next one ∷ others) (one ∷ done))
    ≡ map record_number (one ∷ others)
number_case true next one others done same further =
    ap (λ n. n ∷ map record_number others) same
number_case false next one others done same further = ap (λ l. one.number ∷ l) further

-- records keep their numbers where the one does
pub record_numbers : (next : Record → Record) (number : ℕ) (records : List Record)
    → ((kept : Record) → (next kept).number ≡ kept.number)
    → map record_number (in_record number next records) ≡ map record_number records
record_numbers next number [] same = refl
record_numbers next number (one ∷ others) same =
    number_case (has_number number one) next one others (in_record number next others) (same one)
    (record_numbers next number others same)

-- a record that is found has the number
pub record_found : (number : ℕ) (kept : Record) (records : List Record)
    → record_of records number ≡ Some kept → kept.number ≡ number
record_found number kept records found =
    (unsigned_Decides kept.number number).0
    (found_passes (has_number number) kept records found)

pub all_found : (Holds : Record → Type 0) (number : ℕ) (kept : Record) (records : List Record)
    → record_of records number ≡ Some kept → All Holds records → Holds kept
all_found Holds number kept [] found all = absurd (cc)
all_found Holds number kept (one ∷ others) found all =
    all_found_case (has_number number one) Holds kept one others (record_of others number) found
    all (λ further. all_found Holds number kept others further (All-tail Holds one others all))
  where
    all_found_case : (test : Bool) (Holds : Record → Type 0) (kept one : Record)
        (others : List Record) (found_later : Option Record)
        → cond test (Some one) found_later ≡ Some kept → All Holds (one ∷ others)
        → (found_later ≡ Some kept → Holds kept) → Holds kept
    all_found_case true Holds kept one others found_later found all further =
        let same : one ≡ kept = cc in subst Holds same (All-head Holds one others all)
    all_found_case false Holds kept one others found_later found all further = further found

-- ---- a row more in the last version

last_further : (one other : Version) (others : List Version)
    → last_of (one ∷ other ∷ others) ≡ last_of (other ∷ others)
last_further one other others =
    let less : length (one ∷ other ∷ others) - 1 ≡ suc (length (other ∷ others) - 1) =
    omega arith in
    ap (λ n. slice_get (one ∷ other ∷ others) n) less

last_numbers : (row : EntryRow) (versions : List Version)
    → map version_number (in_last (with_row row) versions) ≡ map version_number versions
last_numbers row [] = refl
last_numbers row (one ∷ []) = refl
last_numbers row (one ∷ other ∷ others) =
    ap (λ l. one.origin.number ∷ l) (last_numbers row (other ∷ others))

row_more : (row : EntryRow) (version : Version) → length version.rows < row_limit
    → HasFewRows (with_row row version)
row_more row version few =
    let more : length (version.rows ++ row ∷ []) ≡ length version.rows + 1 =
    longer version.rows row in omega arith

last_few : (row : EntryRow) (version : Version) (versions : List Version)
    → last_of versions ≡ Some version → length version.rows < row_limit
    → All HasFewRows versions → All HasFewRows (in_last (with_row row) versions)
last_few row version [] last few all = all
last_few row version (one ∷ []) last few all =
    let same : version ≡ one = cc in
    All-cons HasFewRows (with_row row one) []
    (row_more row one (subst (λ v. length v.rows < row_limit) same few)) (All-nil HasFewRows)
last_few row version (one ∷ other ∷ others) last few all =
    All-cons HasFewRows one (in_last (with_row row) (other ∷ others))
    (All-head HasFewRows one (other ∷ others) all)
    (last_few row version (other ∷ others) (sym (last_further one other others) ∙ last) few
    (All-tail HasFewRows one (other ∷ others) all))

pub entered_orderly : (row : EntryRow) (version : Version) (kept : Record)
    → last_of kept.versions ≡ Some version → length version.rows < row_limit → IsOrderly kept
    → IsOrderly (entered_in row kept)
entered_orderly row version kept last few orderly =
    let numbers : map version_number (in_last (with_row row) kept.versions)
    ≡ map version_number kept.versions = last_numbers row kept.versions in
    let long : length (in_last (with_row row) kept.versions) ≡ length kept.versions =
    same_length version_number kept.versions (in_last (with_row row) kept.versions) numbers in
    record {
      some = subst (λ n. 1 ≤ n) (sym long) orderly.some;
      few = subst (λ n. n ≤ version_limit) (sym long) orderly.few;
      numbered = numbered_same version_number 0 kept.versions
          (in_last (with_row row) kept.versions) numbers orderly.numbered;
      rows = last_few row version kept.versions last few orderly.rows;
    }

-- ---- a signature more

sign_case : (test : Bool) (signature : Signature) (one : Version) (others done : List Version)
    → map version_number done ≡ map version_number others
    → map version_number (cond test (with_signature signature one ∷ others) (one ∷ done))
    ≡ map version_number (one ∷ others)
sign_case true signature one others done next = refl
sign_case false signature one others done next = ap (λ l. one.origin.number ∷ l) next

sign_numbers : (number : ℕ) (signature : Signature) (versions : List Version)
    → map version_number (in_version number (with_signature signature) versions)
    ≡ map version_number versions
sign_numbers number signature [] = refl
sign_numbers number signature (one ∷ others) =
    sign_case (is_numbered number one) signature one others
    (in_version number (with_signature signature) others) (sign_numbers number signature others)

few_case : (test : Bool) (signature : Signature) (one : Version) (others done : List Version)
    → All HasFewRows (one ∷ others) → All HasFewRows done
    → All HasFewRows (cond test (with_signature signature one ∷ others) (one ∷ done))
few_case true signature one others done all next =
    All-cons HasFewRows (with_signature signature one) others (All-head HasFewRows one others all)
    (All-tail HasFewRows one others all)
few_case false signature one others done all next =
    All-cons HasFewRows one done (All-head HasFewRows one others all) next

sign_few : (number : ℕ) (signature : Signature) (versions : List Version)
    → All HasFewRows versions
    → All HasFewRows (in_version number (with_signature signature) versions)
sign_few number signature [] all = all
sign_few number signature (one ∷ others) all =
    few_case (is_numbered number one) signature one others
    (in_version number (with_signature signature) others) all
    (sign_few number signature others (All-tail HasFewRows one others all))

pub signed_orderly : (number : ℕ) (signature : Signature) (kept : Record) → IsOrderly kept
    → IsOrderly (signed_in number signature kept)
signed_orderly number signature kept orderly =
    let numbers : map version_number (in_version number (with_signature signature) kept.versions)
    ≡ map version_number kept.versions = sign_numbers number signature kept.versions in
    let long : length (in_version number (with_signature signature) kept.versions)
    ≡ length kept.versions = same_length version_number kept.versions
    (in_version number (with_signature signature) kept.versions) numbers in
    record {
      some = subst (λ n. 1 ≤ n) (sym long) orderly.some;
      few = subst (λ n. n ≤ version_limit) (sym long) orderly.few;
      numbered = numbered_same version_number 0 kept.versions
          (in_version number (with_signature signature) kept.versions) numbers orderly.numbered;
      rows = sign_few number signature kept.versions orderly.rows;
    }

-- ---- a version more

last_counted : (before : ℕ) (last : Version) (versions : List Version)
    → last_of versions ≡ Some last → AreNumberedAfter version_number before versions
    → last.origin.number ≡ before + length versions
last_counted before last [] is numbered = absurd (cc)
last_counted before last (one ∷ []) is numbered =
    let same : last ≡ one = cc in
    let number : last.origin.number ≡ one.origin.number = ap version_number same in
    let first : one.origin.number ≡ before + 1 = numbered.0 in omega arith
last_counted before last (one ∷ other ∷ others) is numbered =
    let next : last.origin.number ≡ before + 1 + length (other ∷ others) =
    last_counted (before + 1) last (other ∷ others)
    (sym (last_further one other others) ∙ is) numbered.1 in omega arith

-- the last of a record's versions has the number of how many there are
pub last_number_is : (last : Version) (kept : Record) → last_of kept.versions ≡ Some last
    → IsOrderly kept → last.origin.number ≡ length kept.versions
last_number_is last kept is orderly =
    let counted : last.origin.number ≡ 0 + length kept.versions =
    last_counted 0 last kept.versions is orderly.numbered in omega arith

pub opened_orderly : (version last : Version) (kept : Record)
    → last_of kept.versions ≡ Some last → version.origin.number ≡ last.origin.number + 1
    → last.origin.number < version_limit → length version.rows ≤ row_limit → IsOrderly kept
    → IsOrderly (opened_in version kept)
opened_orderly version last kept is next few few_rows orderly =
    let number : last.origin.number ≡ length kept.versions = last_number_is last kept is orderly in
    let long : length (kept.versions ++ version ∷ []) ≡ length kept.versions + 1 =
    longer kept.versions version in
    record {
      some = omega arith;
      few = omega arith;
      numbered = numbered_more version_number kept.versions version (omega arith) orderly.numbered;
      rows = All-push HasFewRows kept.versions version orderly.rows few_rows;
    }

-- ---- a record of one version

pub new_orderly : (version : Version) (kept : Record) → kept.versions ≡ version ∷ []
    → version.origin.number ≡ 1 → version.rows ≡ [] → IsOrderly kept
new_orderly version kept is number rows =
    let long : length kept.versions ≡ 1 = ap (λ l. length l) is in
    let none : length version.rows ≡ 0 = ap (λ l. length l) rows in
    let few : HasFewRows version = omega arith in
    record {
      some = omega arith;
      few = omega arith;
      numbered = subst (λ l. AreNumbered version_number l) (sym is) (omega arith, record {});
      rows = subst (λ l. All HasFewRows l) (sym is)
          (All-cons HasFewRows version [] few (All-nil HasFewRows));
    }
