-- Who gives a command, where that person is known by code and id.
use Rattle.std.specs.Prelude.{◌≡◌, ℤ, Option, Some, None}
use Rattle.lab_store_tables.specs.Rows.{Tables}
use Rattle.lab_store_tables.specs.Changes.{person_named}
use Rattle.lab_store_write.specs.declared.named.Giver.{Giver}

-- whoever is known is a person of the laboratory, by this code and this id
abbrev pub Knows : ℤ → Option Giver → Tables → Type 0
Knows lab None t = Unit {0}
Knows lab (Some giver) t = person_named t lab giver.code.now ≡ Some giver.id.id
