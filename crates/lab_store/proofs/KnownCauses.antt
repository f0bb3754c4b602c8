-- Small instances of the definition: calls that tell of the store for a cause, and one that has none for it.
use Rattle.std.proofs.Common.{◌≡◌, inl, inr, ℕ, pos, ◌-◌, ◌<◌, ◌^◌, true, false, List, [], ◌∷◌, None, Err, refl, sym, subst, arith}
use Rattle.std.specs.Prelude.{IsTrue, codes}
use Rattle.sqlite_trees.specs.declared.store.Store.{Ghosts}
use Rattle.sqlite.specs.declared.error.Error.TheVariants.{QueryReturnedNoRows}
use Rattle.sqlite.specs.Held.{Held, state}
use Rattle.sqlite.specs.State.{HasCleanDisk, IsRolledBack, Survives}
use Rattle.lab_records_kept.specs.declared.changes.Change.{Change}
use Rattle.lab_records_kept.specs.declared.changes.Change.TheVariants.{Last, Strays}
use Rattle.lab_store_tables.specs.Rows.{Tables}
use Rattle.lab_store_tables.specs.Ready.{IsReady, tables_of}
use Rattle.lab_store_tables.proofs.KnownFile.{file}
use Rattle.lab_store_write.specs.Causes.{Statement, RunsInside, IsNamedInVain}
use Rattle.lab_store_write.specs.Statements.{setting_last}
use Rattle.lab_store_write.proofs.Transactions.{unchanged}
use Rattle.lab_store_write_changes.specs.Causes.{IsTooMuch}
use Rattle.lab_store.specs.Causes.{CommitHasItsCause, FailsInside, RefusesChanges, TriesOf}

module _ {S : Type 0} (g : Ghosts S) where
  -- a connection that was shut is told of
  pub known_shut : {E : Type 0} (IsTold : E → Type 0) (Readable Refused : Tables → Type 0) (held : Held S) (fault : E) → (state g held).is_open ≡ false
      → CommitHasItsCause {T = Unit {0}} g IsTold Readable Refused held held (Err fault)
  known_shut IsTold Readable Refused held fault shut = record { limit = refl; cause = λ ready clean readable told. inl (inr (inl shut)) }

  -- so is a statement that sets no row where one is named, behind others of a transaction that is then undone
  pub known_vain : (tried : Statement) (old last end new : Held S) → IsTrue (state g old).is_open → Survives (state g (record old { in_transaction = true })) (state g last) (λ _. ⊥) → RunsInside (state g last) (state g end)
      → IsNamedInVain tried (state g last) (state g end) QueryReturnedNoRows → Survives (state g end) (state g new) (λ _. ⊥) → IsRolledBack (state g end) (state g new) → FailsInside g old new
  known_vain tried old last end new opened led goes vain ended undone = record {
    from = old;
    as_is = unchanged (state g old) opened;
    last = end;
    error = QueryReturnedNoRows;
    told = refl;
    ends = record { last = last; led = led; ran = goes; tried = tried; own = tt; why = inr vain };
    ended = ended;
    undone = undone;
  }

  -- an open connection without a limit, whose disk had no fault and where no transaction was undone, isn't told of, unless something is refused
  pub known_uncaused : {E : Type 0} (IsTold : E → Type 0) (Readable Refused : Tables → Type 0) (held : Held S) (fault : E) → IsReady (state g held) → HasCleanDisk (state g held)
      → Readable (tables_of (state g held)) → IsTrue (state g held).is_open → (state g held).step_limit ≡ None → (state g held).faults < 2 ^ 64 - 1
      → ((state g held).marks ≡ [] → ⊥) → (Refused (tables_of (state g held)) → ⊥) → IsTold fault
      → CommitHasItsCause {T = Unit {0}} g IsTold Readable Refused held held (Err fault) → ⊥
  known_uncaused IsTold Readable Refused held fault ready clean readable opened limit few marked taken told it = elim (it.cause ready clean readable told) [
    | inl caused ↦ elim caused [
      | inl faulted ↦ omega (arith, few, faulted)
      | inr other ↦ elim other [ inl shut ↦ (let o = opened in let s = shut in cc) | inr limited ↦ (let wrong = rw limit at limited.0 in cc) ]
    ]
    | inr other ↦ elim other [ inl refused ↦ taken refused | inr inside ↦ marked inside.undone.unmarked ]
  ]

-- changes are refused where no laboratory has the code
pub known_nobody : (t : Tables) (change : Change) → t ≡ file → RefusesChanges (codes "zinc") (change ∷ []) t
known_nobody t change is = subst (λ (one : Tables). RefusesChanges (codes "zinc") (change ∷ []) one) (sym is) (inl (refl, λ none. (let wrong = none in cc)))

-- a count that no column holds is refused of any
pub known_great : (t : Tables) (code : List ℕ) → RefusesChanges code (Strays (2 ^ 63) ∷ []) t
known_great t code = inr (record { one = Strays (2 ^ 63); among = (0, omega arith, refl); much = omega arith })

-- and a moment of none that is there
pub known_there : (t : Tables) (moment : ℕ) → t ≡ file → RefusesChanges (codes "aqua") (Last moment ∷ []) t → ⊥
known_there t moment is (inl nobody) = let wrong = rw is at nobody.0 in cc
known_there t moment is (inr it) =
    let below = it.among.1 in
    let zero : it.among.0 ≡ 0 = omega (arith, below) in
    subst IsTooMuch (sym (rw zero at it.among.2)) it.much

-- of aqua's last moment its own row is set, over the rows as they were
pub known_tried : TriesOf (codes "aqua") (Last 1600 ∷ []) file (setting_last (pos 7) 1600) file
known_tried = (_, refl, inl (record { before = []; one = Last 1600; behind = []; whole = refl; begun = file; made = refl; next = (refl, refl) }))

-- and where no laboratory has the code, nothing is tried
pub known_none_tried : (changes : List Change) (tried : Statement) (at : Tables) → TriesOf (codes "zinc") changes file tried at → ⊥
known_none_tried changes tried at it = let wrong = it.1 in cc
