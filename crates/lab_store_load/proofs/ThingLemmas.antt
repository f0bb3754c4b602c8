-- What is meant: of equal members, it is equal.
use Rattle.std.proofs.Common.{◌≡◌}
use Rattle.lab_store_load.specs.declared.things.Things.{Things}

pub same_things : (one other : Things) → one.form ≡ other.form → one.filed ≡ other.filed → one ≡ other
same_things one other form filed = λ i. record other { form = form i; filed = filed i }
