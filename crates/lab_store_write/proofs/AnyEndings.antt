-- What proofs alone name, beside Causes.antt of specs/.
use Rattle.sqlite.specs.declared.error.Error.{Error}
use Rattle.sqlite.specs.State.{State}
use Rattle.lab_store_write.specs.Causes.{Anything, EndsTrying, FailsTrying}

-- it isn't said which statement was tried last
abbrev pub EndsBy : {T : Type 0} → (T → State) → T → T → Error → Type 0
EndsBy state old new e = EndsTrying Anything state old new e

abbrev pub FailsBy : {T : Type 0} → (T → State) → T → T → Error → Type 0
FailsBy state old new e = FailsTrying Anything state old new e
