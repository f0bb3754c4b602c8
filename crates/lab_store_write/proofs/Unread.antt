-- A row that shows no id is one of some rows that don't all show one.
use Rattle.std.proofs.Common.{◌≡◌, ◌⊎◌, inl, inr, ℕ, ◌<◌, List, length, get_or, IsFalse, IsTrue}
use Rattle.std.specs.List.{list_all}
use Rattle.sqlite_value.specs.Order.{Row}
use Rattle.sqlite_keyed.proofs.ListLemmas.{list_all_fails}
use Rattle.sqlite.specs.declared.error.Error.{Error}
use Rattle.lab_store_read.specs.Faults.{is_out_of_memory}
use Rattle.lab_store_write.specs.Causes.{shows_id, IsUnread}

pub row_unread : {F : Type 0} (rows : List Row) (i : ℕ) (row : Row) → row ≡ get_or rows i row → i < length rows → (e : Error) → IsUnread row e
    → IsFalse (list_all shows_id rows) ⊎ (IsTrue (is_out_of_memory e) ⊎ F)
row_unread rows i row is within e (inl memory) = inr (inl memory)
row_unread rows i row is within e (inr unread) = inl (list_all_fails shows_id rows i row within is unread)
