-- Kinds, fields and forms are found equal exactly where they are equal.
use Rattle.std.proofs.Common.{◌≡◌, ◌≢◌, ℕ, List, Bool, true, false, Option, Some, None, refl, sym, ap, arith}
use Rattle.std.specs.Prelude.{◌&&◌, ◌==◌, bytes_eq}
use Rattle.std.specs.Bool.{Decides, MatchBool}
use Rattle.std.specs.Cmp.{booleans_Decides, unsigned_Decides}
use Rattle.std.specs.Cmp.Lexicographic.{pointwise, pointwise_decides}
use Rattle.std.specs.Option.{option_eq}
use Rattle.std.proofs.lemmas.Slice.Eq.{bytes_eq-Decides}
use Rattle.std.proofs.lemmas.Option.{same_Some}
use Rattle.std.proofs.Math.Bool.{beq}
use Rattle.lab_forms.specs.declared.kinds.Kind.{Kind}
use Rattle.lab_forms.specs.declared.kinds.Kind.TheVariants.{Number, Text, Choice, Date, YesNo}
use Rattle.lab_forms.specs.declared.forms.Field.{Field}
use Rattle.lab_forms.specs.Kinds.{kind_eq}
use Rattle.lab_forms.specs.Forms.{FormSheet, field_eq, form_eq}

-- both tests pass
record Both (s t : Bool) : Type 0 where
  first : s ≡ true
  second : t ≡ true

both : (s t : Bool) → (s && t) ≡ true → Both s t
both s t e = record { first = grind arith; second = grind arith }

options_Decides : {K : Type 0} (E : K → K → Bool) → ((x y : K) → Decides (E x y) (x ≡ y)) → (p q : Option K) → Decides (option_eq E p q) (p ≡ q)
options_Decides E d None None = (λ _. refl, λ _. refl)
options_Decides E d None (Some y) = (λ e. cc, λ e. cc)
options_Decides E d (Some x) None = (λ e. cc, λ e. cc)
options_Decides E d (Some x) (Some y) = (λ e. ap Some ((d x y).0 e), λ e. (d x y).1 (same_Some x y e))

-- two bounds that are there or not
bounds_Decides : (p q : Option (List ℕ)) → Decides (option_eq bytes_eq p q) (p ≡ q)
bounds_Decides = options_Decides bytes_eq bytes_eq-Decides

pub kinds_Decides : (one other : Kind) → Decides (kind_eq one other) (one ≡ other)
kinds_Decides (Number u n lo hi) (Number u' n' lo' hi') = (
  λ e. let numbers : (bytes_eq u u' && (n == n') && option_eq bytes_eq lo lo' && option_eq bytes_eq hi hi') ≡ true = grind (arith, e) in
      let a = both (bytes_eq u u' && (n == n') && option_eq bytes_eq lo lo') _ numbers in
      let b = both (bytes_eq u u' && (n == n')) _ a.first in
      let c = both (bytes_eq u u') _ b.first in
      let su = (bytes_eq-Decides u u').0 c.first in let sn = (unsigned_Decides n n').0 c.second in
      let sl = (bounds_Decides lo lo').0 b.second in let sh = (bounds_Decides hi hi').0 a.second in
      λ i. Number (su i) (sn i) (sl i) (sh i),
  λ e. let su : u ≡ u' = cc in let sn : n ≡ n' = cc in let sl : lo ≡ lo' = cc in let sh : hi ≡ hi' = cc in
      rw ((bytes_eq-Decides u u').1 su, (unsigned_Decides n n').1 sn, (bounds_Decides lo lo').1 sl, (bounds_Decides hi hi').1 sh) refl,
)
kinds_Decides (Number u n lo hi) (Text m) = (λ e. cc, λ e. cc)
kinds_Decides (Number u n lo hi) (Choice c) = (λ e. cc, λ e. cc)
kinds_Decides (Number u n lo hi) Date = (λ e. cc, λ e. cc)
kinds_Decides (Number u n lo hi) YesNo = (λ e. cc, λ e. cc)
kinds_Decides (Text m) (Number u n lo hi) = (λ e. cc, λ e. cc)
kinds_Decides (Text m) (Text m') = (λ e. let size = both (m == m') true e in ap Text ((unsigned_Decides m m').0 size.first), λ e. let size : m ≡ m' = cc in rw ((unsigned_Decides m m').1 size) refl)
kinds_Decides (Text m) (Choice c) = (λ e. cc, λ e. cc)
kinds_Decides (Text m) Date = (λ e. cc, λ e. cc)
kinds_Decides (Text m) YesNo = (λ e. cc, λ e. cc)
kinds_Decides (Choice c) (Number u n lo hi) = (λ e. cc, λ e. cc)
kinds_Decides (Choice c) (Text m) = (λ e. cc, λ e. cc)
kinds_Decides (Choice c) (Choice c') = (λ e. ap Choice ((pointwise_decides bytes_eq-Decides c c').0 e), λ e. (pointwise_decides bytes_eq-Decides c c').1 cc)
kinds_Decides (Choice c) Date = (λ e. cc, λ e. cc)
kinds_Decides (Choice c) YesNo = (λ e. cc, λ e. cc)
kinds_Decides Date (Number u n lo hi) = (λ e. cc, λ e. cc)
kinds_Decides Date (Text m) = (λ e. cc, λ e. cc)
kinds_Decides Date (Choice c) = (λ e. cc, λ e. cc)
kinds_Decides Date Date = (λ _. refl, λ _. refl)
kinds_Decides Date YesNo = (λ e. cc, λ e. cc)
kinds_Decides YesNo (Number u n lo hi) = (λ e. cc, λ e. cc)
kinds_Decides YesNo (Text m) = (λ e. cc, λ e. cc)
kinds_Decides YesNo (Choice c) = (λ e. cc, λ e. cc)
kinds_Decides YesNo Date = (λ e. cc, λ e. cc)
kinds_Decides YesNo YesNo = (λ _. refl, λ _. refl)

field_eta : (one other : Field) → one.key ≡ other.key → one.label ≡ other.label → one.required ≡ other.required → one.kind ≡ other.kind → one ≡ other
field_eta one other k l r s = λ i. record { key = k i; label = l i; required = r i; kind = s i }

pub fields_Decides : (one other : Field) → Decides (field_eq one other) (one ≡ other)
fields_Decides one other = (
  λ e. let a = both (bytes_eq one.key other.key && bytes_eq one.label other.label && beq one.required other.required) _ e in
      let b = both (bytes_eq one.key other.key && bytes_eq one.label other.label) _ a.first in
      let c = both (bytes_eq one.key other.key) _ b.first in
      field_eta one other ((bytes_eq-Decides one.key other.key).0 c.first) ((bytes_eq-Decides one.label other.label).0 c.second)
      ((booleans_Decides one.required other.required).0 b.second) ((kinds_Decides one.kind other.kind).0 a.second),
  λ e. rw (← e, (bytes_eq-Decides one.key one.key).1 refl, (bytes_eq-Decides one.label one.label).1 refl, (booleans_Decides one.required one.required).1 refl, (kinds_Decides one.kind one.kind).1 refl) refl,
)

forms_Decides : (one other : FormSheet) → Decides (form_eq one other) (one ≡ other)
forms_Decides one other = (
  λ e. let a = both (pointwise field_eq one.fields other.fields) _ e in
      let fields = (pointwise_decides fields_Decides one.fields other.fields).0 a.first in
      let approval = (booleans_Decides one.approval other.approval).0 a.second in
      λ i. record { fields = fields i; approval = approval i },
  λ e. rw (← e, (pointwise_decides fields_Decides one.fields one.fields).1 refl, (booleans_Decides one.approval one.approval).1 refl) refl,
)

-- what a test of two forms has told
pub forms_told : (one other : FormSheet) (same : Bool) → same ≡ form_eq one other → MatchBool same (one ≡ other) (one ≢ other)
forms_told one other true e = (forms_Decides one other).0 (sym e)
forms_told one other false e = λ same. let is = (forms_Decides one other).1 same in cc
