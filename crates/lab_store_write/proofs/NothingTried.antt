-- What proofs alone name, beside Tried.antt of specs/.
use Rattle.lab_store_write.specs.Causes.{Tries}

-- none at all
abbrev pub Never : Tries
Never old tried at = ⊥
