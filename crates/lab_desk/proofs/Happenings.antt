-- Events as what happens, one by one.
use Rattle.std.proofs.Common.{◌≡◌, ◌<◌, ℕ, suc, zero, List, [], ◌∷◌, length, get_or, map, refl, sym, ap, subst}
use Rattle.lab_desk_events.specs.declared.events.Event.{Event}
use Rattle.lab_desk_events.specs.Alone.{happening}

pub happening_at : (events : List Event) (at : ℕ) (event : Event) → event ≡ get_or events at event →
    happening event ≡ get_or (map happening events) at (happening event)
happening_at [] at event is = refl
happening_at (one ∷ others) zero event is = ap happening is
happening_at (one ∷ others) (suc at) event is = happening_at others at event is

pub as_many : (events : List Event) → length (map happening events) ≡ length events
as_many [] = refl
as_many (one ∷ others) = ap suc (as_many others)

pub within_happenings : (events : List Event) (at : ℕ) → at < length events →
    at < length (map happening events)
within_happenings events at within = subst (λ many. at < many) (sym (as_many events)) within
