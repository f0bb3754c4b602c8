-- Why a copy that is written from a keeper ends with the fault of its store: the keeper refused to
-- load the head of the laboratory, or its records were refused by the way that they are written.
use Rattle.std.specs.Prelude.{◌≡◌, ◌≤◌, ◌⊎◌, ℕ, List, None, option_map}
use Rattle.lab_forms_texts.specs.Ordinals.{ordinal_of}
use Rattle.lab_records_kept.specs.declared.needs.RecordWanted.TheVariants.{Numbered}
use Rattle.lab_records_keeper.specs.declared.keeper.Keeper.{Ghosts}
use Rattle.lab_records_keeper.specs.Worlds.{Given, Passes, Shuts}
use Rattle.lab_records_copy_out.specs.Resting.{IsOnlyRead}
use Rattle.lab_records_copy_out.specs.CopyTexts.{record_need}

-- records of a laboratory, from a number to a last one, that a way to write them refuses
abbrev pub Refusing : Type 0 → Type 1
Refusing S = S → S → List ℕ → ℕ → ℕ → Type 0

module _ {S : Type 0} (keeper : Ghosts S) where
  -- the keeper refused to load one of the records, and had only been read before
  pub record RefusesOne (old new : S) (code : List ℕ) (from last : ℕ) : Type 0 where
    pub number : ℕ
    pub first : from ≤ number
    pub within : number ≤ last
    pub mid : S
    pub read : IsOnlyRead keeper.world keeper.rests old mid
    -- a fault alone shut the keeper, before the state between and after it
    pub shuts_before : Given (keeper.world old) (keeper.world mid)
        (Shuts (keeper.world old) (keeper.world mid))
    -- an honest end makes the state between honest
    pub passes : Passes (keeper.world mid) (keeper.world new)
    pub shuts : Given (keeper.world mid) (keeper.world new)
        (Shuts (keeper.world mid) (keeper.world new))
    pub refused : keeper.refuses_load mid new code
        (record_need (option_map (λ (one : ℕ). Numbered one) (ordinal_of number)))

  -- the records of the laboratory were refused, and the keeper had only been read before
  pub record RefusesRecords (records : Refusing S) (old new : S) (code : List ℕ) (from to : ℕ)
      : Type 0 where
    pub mid : S
    pub read : IsOnlyRead keeper.world keeper.rests old mid
    -- a fault alone shut the keeper, before the state between and after it
    pub shuts_before : Given (keeper.world old) (keeper.world mid)
        (Shuts (keeper.world old) (keeper.world mid))
    pub named : List ℕ
    pub its : Given (keeper.world old) (keeper.world mid) (named ≡ code)
    pub last : ℕ
    pub within : last ≤ to
    pub passes : Passes (keeper.world mid) (keeper.world new)
    pub shuts : Given (keeper.world mid) (keeper.world new)
        (Shuts (keeper.world mid) (keeper.world new))
    pub refused : records mid new named from last

  -- a copy was refused
  abbrev pub RefusesCopy : Refusing S → S → S → List ℕ → ℕ → ℕ → Type 0
  RefusesCopy records old new code from to =
      keeper.refuses_load old new code (record_need None)
      ⊎ RefusesRecords records old new code from to
