-- One connection more: it is handled after the others.
use Rattle.std.proofs.Common.{◌≡◌, ℕ, List, [], ◌∷◌, ◌++◌, map, Option, Some, None, Ok, Err, refl, sym, ap, subst, ◌∙◌, append_assoc}
use Rattle.std.proofs.lemmas.List.{map-append}
use Rattle.lab_records_keeper.specs.declared.keeper.Keeper.{Ghosts}
use Rattle.lab_desk_foundings.specs.declared.run_faults.ServeFault.TheVariants.{Read, Interim, Reply}
use Rattle.lab_program_host.specs.declared.faults.ConnectionFault.TheVariants.{Serving, Memory}
use Rattle.lab_program_host.specs.Sources.{GivesInOrder, drawing_of}
use Rattle.lab_program_serve.specs.Visits.{AreFirst, AreGiven, AreVisits, Ending, StandsFirst, IsVisit, OnUnserved, Sources, Visit}
use Rattle.lab_program_serve.proofs.VisitWords.{reply_after}

-- ---- what sources give

pub gives_nothing : {X : Type 0} (coming : Option (List X)) → GivesInOrder coming coming []
gives_nothing None = tt
gives_nothing (Some all) = (all, refl, refl)

gives_more : {X : Type 0} (first next last : Option (List X)) (given : List X) (one : X) →
    GivesInOrder first next given → GivesInOrder next last (one ∷ []) → GivesInOrder first last (given ++ one ∷ [])
gives_more None next last given one before here = tt
gives_more (Some all) next last given one before here =
    let there : GivesInOrder (Some before.0) last (one ∷ []) =
    subst (λ left. GivesInOrder left last (one ∷ [])) before.2 here in (
      there.0,
      before.1 ∙ ap (λ left. given ++ left) there.1
          ∙ sym (append_assoc given (one ∷ []) there.0),
      there.2,
    )

-- what a visit has of a source
gives_of : {X : Type 0} (part : Visit → X) (visits : List Visit) (visit : Visit)
    (first next last : Option (List X)) → GivesInOrder first next (map part visits) →
    GivesInOrder next last (part visit ∷ []) → GivesInOrder first last (map part (visits ++ visit ∷ []))
gives_of part visits visit first next last before here =
    subst (GivesInOrder first last) (sym (map-append part visits (visit ∷ [])))
    (gives_more first next last (map part visits) (part visit) before here)

-- ---- connections

abbrev pub sources_of : (coming left : Option (List (Option (List ℕ)))) →
    (moments later : Option (List ℕ)) → (words further : Option (List (List ℕ))) → Sources
sources_of coming left moments later words further = record {
  coming = coming;
  left = left;
  drawing = drawing_of moments later words further;
}

pub given_none : (coming : Option (List (Option (List ℕ)))) (moments : Option (List ℕ))
    (words : Option (List (List ℕ))) →
    AreGiven [] (sources_of coming coming moments moments words words)
given_none coming moments words = record {
  readers_are = gives_nothing coming;
  moments_are = gives_nothing moments;
  words_are = gives_nothing words;
}

pub given_more : (visits : List Visit) (visit : Visit)
    (coming left last : Option (List (Option (List ℕ))))
    (moments later latest : Option (List ℕ)) (words further furthest : Option (List (List ℕ))) →
    AreGiven visits (sources_of coming left moments later words further) →
    GivesInOrder left last (visit.exchange.known ∷ []) →
    GivesInOrder later latest (visit.exchange.tick.moment ∷ []) →
    GivesInOrder further furthest (visit.exchange.tick.words ∷ []) →
    AreGiven (visits ++ visit ∷ []) (sources_of coming last moments latest words furthest)
given_more visits visit coming left last moments later latest words further furthest given one two
    three = record {
      readers_are = gives_of (λ (one : Visit). one.exchange.known) visits visit coming left last
          given.readers_are one;
      moments_are = gives_of (λ (one : Visit). one.exchange.tick.moment) visits visit moments later
          latest given.moments_are two;
      words_are = gives_of (λ (one : Visit). one.exchange.tick.words) visits visit words further
          furthest given.words_are three;
    }

pub visits_more : {S : Type 0} (keeper : Ghosts S) (Between : List ℕ → S → S → Type 0)
    (reply : List ℕ) (old mid start new : S) (visits : List Visit) (visit : Visit) →
    AreVisits keeper Between reply old visits mid →
    Between (reply_after reply visits) mid start → IsVisit keeper start visit new →
    AreVisits keeper Between reply old (visits ++ visit ∷ []) new
visits_more keeper Between reply old mid start new [] visit same on one =
    (start, new, subst (λ kept. Between reply kept start) same on, one, refl)
visits_more keeper Between reply old mid start new (first ∷ others) visit so on one = (
  so.0,
  so.1,
  so.2,
  so.3,
  visits_more keeper Between first.exchange.reply so.1 mid start new others visit so.4 on one,
)

pub reply_last : (reply : List ℕ) (visits : List Visit) (visit : Visit) →
    reply_after reply (visits ++ visit ∷ []) ≡ visit.exchange.reply
reply_last reply [] visit = refl
reply_last reply (first ∷ others) visit = reply_last first.exchange.reply others visit

-- a fact on a request that wasn't served, and what follows from it
pub unserved : {P Q : Type 0} (ending : Ending) → (P → Q) → OnUnserved ending P →
    OnUnserved ending Q
unserved (Ok _) follows fact = tt
unserved (Err (Serving Read)) follows fact = follows fact
unserved (Err (Serving (Interim sent))) follows fact = follows fact
unserved (Err (Serving (Reply sent))) follows fact = tt
unserved (Err Memory) follows fact = follows fact

-- the first of what was given
front_of : {X : Type 0} (all left : Option (List X)) (given : List X) → GivesInOrder all left given →
    StandsFirst given all
front_of None left given it = tt
front_of (Some all) left given it = (it.0, it.1)

pub first_of : (visits : List Visit) (sources : Sources) → AreGiven visits sources →
    AreFirst visits sources
first_of visits sources it = record {
  readers_are = front_of sources.coming sources.left _ it.readers_are;
  moments_are = front_of sources.drawing.moments sources.drawing.later _ it.moments_are;
  words_are = front_of sources.drawing.words sources.drawing.further _ it.words_are;
}
