-- A laboratory's own events rest on the events alone, and on which of them were taken.
use Rattle.std.proofs.Common.{◌≡◌, ℕ, Bool, List, [], ◌∷◌, None, refl, sym, ◌∙◌, ap, cond, map}
use Rattle.std.specs.List.{cons_option}
use Rattle.lab_desk_events.specs.Alone.{Own, Happening, own_of}
use Rattle.lab_desk_events.specs.Runs.{Handled, IsAccountOf, own_in, own_events}

-- the own events among these, of which these were taken
abbrev own_told : List ℕ → List Happening → List Bool → List Own
own_told code [] taken = []
own_told code (event ∷ events) [] = []
own_told code (event ∷ events) (is_taken ∷ taken) =
    cons_option (cond is_taken (own_of code event) None) (own_told code events taken)

own_events_told : (code : List ℕ) (handled : List Handled) →
    own_events code handled
    ≡ own_told code (map (λ (one : Handled). one.event) handled)
    (map (λ (one : Handled). one.taken) handled)
own_events_told code [] = refl
own_events_told code (one ∷ others) =
    ap (λ (owns : List Own). cons_option (own_in code one) owns) (own_events_told code others)

own_events_as_told : (code : List ℕ) (events : List Happening) (taken : List Bool)
    (handled : List Handled) → IsAccountOf events taken handled →
    own_events code handled ≡ own_told code events taken
own_events_as_told code events taken handled told =
    own_events_told code handled
    ∙ ap (λ (all : List Happening). own_told code all (map (λ (one : Handled). one.taken) handled))
    told.events_are
    ∙ ap (λ (all : List Bool). own_told code events all) told.taken_are

pub same_own_events : (events : List Happening) (taken : List Bool) (handled others : List Handled)
    (code : List ℕ) → IsAccountOf events taken handled → IsAccountOf events taken others →
    own_events code handled ≡ own_events code others
same_own_events events taken handled others code told other_told =
    own_events_as_told code events taken handled told
    ∙ sym (own_events_as_told code events taken others other_told)
