-- What SQL's comparisons of two values answer, and which texts are one.
use Rattle.std.proofs.Common.{◌≡◌, ℕ, ℤ, ◌<ℤ◌, Bool, true, false, List, Some, refl, ap, ◌∙◌, int_eq, bytes_eq}
use Rattle.std.specs.Ordering.{is_eq, is_ne}
use Rattle.std.proofs.lemmas.Map.Text.{is_eq-slice_cmp}
use Rattle.std.proofs.lemmas.Slice.Eq.{bytes_eq-Decides}
use Rattle.sqlite_value.specs.declared.keys.Collation.TheVariants.{Binary}
use Rattle.sqlite_value.specs.declared.value.Value.TheVariants.{Int, Text, Blob}
use Rattle.sqlite_value.proofs.OrderLemmas.{value_cmp-Int, value_cmp-Text, value_cmp-Blob}
use Rattle.sqlite_sql.specs.Ops.{binary, is_true, from_truth}
use Rattle.sqlite_sql.specs.declared.ops.BinaryOp.TheVariants.{Compare}
use Rattle.sqlite_sql.specs.declared.ops.CompareOp.TheVariants.{Eq}
use Rattle.sqlite_schema.specs.Rules.{differ}
use Rattle.sqlite_keyed.proofs.KeyedLemmas.{Less-from_lt}

pub truth_is : (b : Bool) → is_true (from_truth (Some b)) ≡ b
truth_is true = refl
truth_is false = refl

pub equal_ints : (a b : ℤ) → is_true (binary (Compare Eq Binary) (Int a) (Int b)) ≡ int_eq a b
unfolding binary
equal_ints a b = truth_is _ ∙ ap is_eq (value_cmp-Int a b)

pub equal_texts : (s t : List ℕ) → is_true (binary (Compare Eq Binary) (Text s) (Text t)) ≡ bytes_eq s t
unfolding binary
equal_texts s t = truth_is _ ∙ ap is_eq (value_cmp-Text s t) ∙ is_eq-slice_cmp s t

pub equal_blobs : (s t : List ℕ) → is_true (binary (Compare Eq Binary) (Blob s) (Blob t)) ≡ bytes_eq s t
unfolding binary
equal_blobs s t = truth_is _ ∙ ap is_eq (value_cmp-Blob s t) ∙ is_eq-slice_cmp s t

pub ids_differ : (a b : ℤ) → a <ℤ b → differ (Int a) (Int b) ≡ true
unfolding binary
ids_differ a b low = truth_is _ ∙ ap is_ne (value_cmp-Int a b ∙ Less-from_lt a b low)

pub text_is : (s t : List ℕ) → bytes_eq s t ≡ true → s ≡ t
text_is s t e = (bytes_eq-Decides s t).0 e

pub text_alike : (s t : List ℕ) → s ≡ t → bytes_eq s t ≡ true
text_alike s t e = (bytes_eq-Decides s t).1 e
