-- What is tried in turn by a person who is known by code and id.
use Rattle.std.proofs.Common.{◌≡◌, ℕ, ◌<◌, ℤ, List, take, length, get_or, Option}
use Rattle.lab_store_tables.specs.Rows.{Tables}
use Rattle.lab_store_tables.specs.Changes.{InTurn}
use Rattle.lab_store_write.specs.declared.named.Giver.{Giver}
use Rattle.lab_store_write.specs.Causes.{Statement, Tries}
use Rattle.lab_store_write.specs.Givers.{Knows}
use Rattle.lab_store_write.specs.Private.Givers.{EachKnowing}
use Rattle.lab_store_write.specs.Tried.{TriedFrom, TriesInTurn}
use Rattle.lab_store_write.proofs.Givers.{known_turns}
use Rattle.lab_store_write.proofs.Trying.{in_turn}

pub in_turn_knowing : {A : Type 0} (lab : ℤ) (giver : Option Giver) (step : A → Tables → Tables → Type 0) → ((one : A) (old new : Tables) → step one old new → new.persons ≡ old.persons)
    → (tries : A → Tries) (xs : List A) (i : ℕ) (one : A) → one ≡ get_or xs i one → i < length xs → (before mid : Tables) (tried : Statement) (at : Tables)
    → InTurn (EachKnowing lab giver step) (take i xs) before mid → TriedFrom (Knows lab giver) (tries one) mid tried at
    → TriedFrom (Knows lab giver) (TriesInTurn step tries xs) before tried at
in_turn_knowing lab giver step leaves tries xs i one is within before mid tried at made it known =
    let both = known_turns lab giver step leaves (take i xs) before mid made known in
    in_turn step tries xs i one is within before mid tried at both.0 (it both.1)
