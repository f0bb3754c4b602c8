-- Values from outside, so that a wrong rule in the definitions does not check: what notes that a request came, and the card, which notes
-- nothing.
use Rattle.std.proofs.Common.{refl, sym, ap, Bool, [], ◌∷◌, codes, None, true, false, true≢false}
use Rattle.lab_forms_texts.specs.declared.tick.Tick.{Tick}
use Rattle.lab_records_kept.specs.declared.changes.Change.{Change}
use Rattle.lab_records_kept.specs.declared.changes.Change.TheVariants.{Last, Strays}
use Rattle.lab_records_kept.specs.declared.labs.Lab.{Lab}
use Rattle.lab_records_kept.proofs.KnownDefaults.{bare_lab}
use Rattle.lab_records_machine.specs.declared.commands.Command.TheVariants.{Card as AsksCard}
use Rattle.lab_records_machine.specs.declared.replies.Reply.TheVariants.{Card as ShowsCard, Refused}
use Rattle.lab_records_rules.specs.declared.refusals.Refusal.TheVariants.{ClockBehind}
use Rattle.lab_records_laws.specs.TakenSteps.{NotesFirst, TakesStep}

abbrev notes_a_moment : Change → Bool
notes_a_moment (Last moment) = true
notes_a_moment _ = false

-- no change, or the moment first
pub known_notes : NotesFirst 1100 [] × NotesFirst 1100 (Last 1100 ∷ Strays 5 ∷ []) × (NotesFirst 1100 (Strays 5 ∷ []) → ⊥)
known_notes = (tt, refl, λ same. true≢false (sym (ap notes_a_moment same)))

-- a laboratory whose last moment was 1100
abbrev aqua : Lab
aqua = record bare_lab { code = codes "aqua"; name = codes "Aqua Lab"; last = 1100 }

-- its card changes nothing, and is refused before the last moment
pub known_card : (tick : Tick) → TakesStep aqua (record tick { moment = 1200 }) (record { token = None; command = AsksCard })
    (record { reply = ShowsCard (codes "aqua") (codes "Aqua Lab"); changes = [] })
known_card tick = record { reply = refl; notes = tt; fits = λ _ _. tt; after = refl }

pub known_early_card : (tick : Tick) → TakesStep aqua (record tick { moment = 1099 }) (record { token = None; command = AsksCard })
    (record { reply = Refused ClockBehind; changes = [] })
known_early_card tick = record { reply = refl; notes = tt; fits = λ _ _. tt; after = refl }
