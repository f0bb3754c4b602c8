-- A laboratory's last moment is set before steps that say nothing of it, or after them.
use Rattle.std.proofs.Common.{◌≡◌, ℕ, ℤ, Bool, true, false, cond, List, [], ◌∷◌, Some, refl, sym, ap, ap₂, ◌∙◌, int_eq}
use Rattle.sqlite_keyed.specs.Lists.{update_where}
use Rattle.lab_store_tables.specs.Rows.{LabRow, Tables}
use Rattle.lab_store_tables.specs.Changes.{in_lab, InTurn}
use Rattle.lab_store_write.specs.TrailAdded.{with_last}

module _ (lab : ℤ) (moment : ℕ) where
  abbrev pub later : Tables → Tables
  later t = with_last lab (Some moment) t

  abbrev pub set_last : LabRow → LabRow
  set_last one = record one { last = moment }

  -- ---- a counter of the laboratory's row

  module _ (next : LabRow → LabRow) (same_id : (one : LabRow) → (next one).id ≡ one.id) (either : (one : LabRow) → set_last (next one) ≡ next (set_last one)) where
    abbrev mine : LabRow → Bool
    mine one = int_eq one.id lab

    swapped : (labs : List LabRow) → update_where mine set_last (update_where mine next labs) ≡ update_where mine next (update_where mine set_last labs)
    swapped [] = refl
    swapped (x ∷ xs) = ap₂ ◌∷◌ (go (mine x) refl) (swapped xs)
      where
        go : (b : Bool) → mine x ≡ b
            → cond (mine (cond b (next x) x)) (set_last (cond b (next x) x)) (cond b (next x) x)
            ≡ cond (mine (cond b (set_last x) x)) (next (cond b (set_last x) x)) (cond b (set_last x) x)
        go true is =
            ap (λ (c : Bool). cond c (set_last (next x)) (next x)) (ap (λ (id : ℤ). int_eq id lab) (same_id x) ∙ is)
            ∙ either x ∙ sym (ap (λ (c : Bool). cond c (next (set_last x)) (set_last x)) is)
        go false is = ap (λ (c : Bool). cond c (set_last x) x) is ∙ sym (ap (λ (c : Bool). cond c (next x) x) is)

    pub counted_later : (t : Tables) → later (in_lab lab next t) ≡ in_lab lab next (later t)
    counted_later t = ap (λ (labs : List LabRow). record t { labs = labs }) (swapped t.labs)

  -- ---- rows that are added in turn

  pub turns_beside : {A : Type 0} (step : A → Tables → Tables → Type 0) → ((one : A) (old new : Tables) → step one old new → step one (later old) (later new))
      → (items : List A) (old new : Tables) → InTurn step items old new → InTurn step items (later old) (later new)
  turns_beside step each [] old new it = ap later it
  turns_beside step each (one ∷ others) old new it = (later it.0, each one old it.0 it.1, turns_beside step each others it.0 new it.2)
