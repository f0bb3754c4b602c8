-- What a source gives, one after the other: the moments of a clock, words of chance, connections.
-- What comes is known of a source that tests hand in, and unknown of the system's clock, source of
-- chance and listener.
use Rattle.std.specs.Prelude.{◌≡◌, ℕ, List, [], ◌∷◌, ◌++◌, Option, Some, None}
use Rattle.lab_forms_texts.specs.declared.tick.Tick.{Tick}

-- these were given, in order, and the rest is still to come
abbrev pub GivesInOrder : {X : Type 0} → Option (List X) → Option (List X) → List X → Type 0
GivesInOrder None new given = Unit {0}
GivesInOrder {X} (Some all) new given = (rest : List X) × (all ≡ given ++ rest) × (new ≡ Some rest)

-- ---- the tick

-- what a clock and a source of random words give before a task and after it, where that is known
pub record Drawing : Type 0 where
  pub moments : Option (List ℕ)
  pub later : Option (List ℕ)
  pub words : Option (List (List ℕ))
  pub further : Option (List (List ℕ))

abbrev pub drawing_of : Option (List ℕ) → Option (List ℕ) → Option (List (List ℕ)) →
    Option (List (List ℕ)) → Drawing
drawing_of moments later words further =
    record { moments = moments; later = later; words = words; further = further }

-- the tick is of the moment and the words that they gave
abbrev pub IsDrawn : Drawing → Tick → Type 0
IsDrawn drawing tick = GivesInOrder drawing.moments drawing.later (tick.moment ∷ [])
    × GivesInOrder drawing.words drawing.further (tick.words ∷ [])
