-- The list that is meant: of equal members, it is equal.
use Rattle.std.proofs.Common.{◌≡◌}
use Rattle.lab_store_load.specs.declared.lists.Listed.{Listed}

pub same_listed : (one other : Listed) → one.persons ≡ other.persons → one.records ≡ other.records → one.trail ≡ other.trail → one ≡ other
same_listed one other persons records trail = λ i. record other { persons = persons i; records = records i; trail = trail i }
