-- A rehearsal: the laboratory that is founded in memory, and the one request of it.
use Rattle.std.proofs.Common.{◌≡◌, ◌≢◌, ℕ, pos, List, [], ◌∷◌, ◌++◌, inr, Option, Some, None, Result, Ok, Err, refl, sym, ap, subst, unwrap_or, ◌∙◌}
use Rattle.std.specs.Prelude.{IfErr, IfSome, IsOk, IsSome, IsTrue, take}
use Rattle.std.specs.Io.KnownBytes.{Appends}
use Rattle.std.proofs.KnownBytes.{Appends-nil}
use Rattle.std.proofs.lemmas.Bool.{false≢true}
use Rattle.lab_forms_texts.specs.declared.faults.MomentFault.{MomentFault}
use Rattle.lab_forms_texts.specs.declared.tick.Tick.{Tick}
use Rattle.lab_forms_texts.specs.Moment.{is_moment}
use Rattle.lab_records_kept.specs.declared.labs.Lab.{Lab}
use Rattle.lab_records_keeper.specs.declared.faults.PlacingFault.TheVariants.{LabExists, Storage, Memory}
use Rattle.lab_records_machine.specs.Births.{newborn}
use Rattle.lab_records_memory.specs.Lists.{lab_of, world_of}
use Rattle.lab_desk_foundings.specs.declared.faults.FoundFault.{FoundFault}
use Rattle.lab_desk_foundings.specs.declared.faults.FoundFault.TheVariants.{Body as BadBody, Birth as OfBirth, Placing}
use Rattle.lab_desk_foundings.specs.Faults.{FoundFaultFits}
use Rattle.lab_desk_foundings.specs.Foundings.{Body, Founds, founding_in}
use Rattle.lab_program_host.proofs.ReadLemmas.{all_of}
use Rattle.lab_program_host.specs.declared.faults.RehearsalFault.{RehearsalFault}
use Rattle.lab_program_host.specs.declared.faults.RehearsalFault.TheVariants.{Founding, Server}
use Rattle.lab_program_host.specs.declared.faults.ServerFault.{ServerFault}
use Rattle.lab_program_serve.specs.Rehearsals.{Forwards, IsServedAt, IsUnfounded, OfBody, rehearsal_tick}
use Rattle.lab_program_serve.specs.Private.Rehearsals.{IsFounded}
use Rattle.lab_program_serve.specs.RehearseTask.{Prints}
use Rattle.lab_program_serve.specs.Texts.{IsPrinted}
use Rattle.lab_program_serve.specs.Visits.{Visit}
use Rattle.lab_program_serve.proofs.TextLemmas.{printed_all}

-- there is a first moment
pub is_first_moment : (told : Result ℕ MomentFault) →
    IfErr told (λ _. (n : ℕ) → IsTrue (is_moment n) → pos 0 ≢ pos n) → IsOk told
is_first_moment (Ok moment) fault = refl
is_first_moment (Err told) fault = absurd (fault 0 refl refl)

-- the laboratory that was founded is the one that there is
pub founded_alone : (code bytes : List ℕ) (tick : Tick) (old new : List Lab) →
    tick ≡ rehearsal_tick 0 → old ≡ [] →
    Founds (world_of old) (world_of new) (λ lab. new ≡ old ++ lab ∷ []) code tick
    (founding_in bytes) → IsFounded code bytes new
founded_alone code bytes tick old new at none founds =
    let founded : Founds (world_of old) (world_of new) (λ lab. new ≡ old ++ lab ∷ []) code
    (rehearsal_tick 0) (founding_in bytes) =
    subst (λ one. Founds (world_of old) (world_of new) (λ lab. new ≡ old ++ lab ∷ []) code one
    (founding_in bytes)) at founds in (
      newborn code (rehearsal_tick 0) founded.founding,
      record { founding = founded.founding; read = founded.read; bears = founded.bears },
      founded.rows ∙ ap (λ labs. labs ++ newborn code (rehearsal_tick 0) founded.founding ∷ []) none,
    )

none_there : (old : List Lab) (code : List ℕ) → old ≡ [] → IsSome (lab_of old code) → ⊥
none_there old code none there =
    false≢true (subst (λ (labs : List Lab). IsSome (lab_of labs code)) none there)

-- a founding over no laboratories is refused for its body or its birth alone
unfounded_alone : (code : List ℕ) (tick : Tick) (body : Body) (old : List Lab) (fault : FoundFault) →
    old ≡ [] →
    FoundFaultFits ⊥ (Unit {0} → Unit {0} → IsSome (lab_of old code)) code tick body fault →
    FoundFaultFits ⊥ ⊥ code tick body fault
unfounded_alone code tick body old (BadBody refusal) none fits = fits
unfounded_alone code tick body old (OfBirth refusal) none fits = fits
unfounded_alone code tick body old (Placing LabExists) none fits =
    (fits.0, none_there old code none (fits.1 tt tt))
unfounded_alone code tick body old (Placing Storage) none fits = fits
unfounded_alone code tick body old (Placing Memory) none fits = tt

pub unfounded_so : (code bytes : List ℕ) (tick : Tick) (old : List Lab) (fault : FoundFault)
    (told : RehearsalFault) → told ≡ Founding fault → tick ≡ rehearsal_tick 0 → old ≡ [] →
    FoundFaultFits ⊥ (Unit {0} → Unit {0} → IsSome (lab_of old code)) code tick
    (founding_in bytes) fault → IsUnfounded code bytes told
unfounded_so code bytes tick old fault told is at none fits =
    subst (IsUnfounded code bytes) (sym is)
    (unfounded_alone code (rehearsal_tick 0) (founding_in bytes) old fault none
    (subst (λ one. FoundFaultFits ⊥ (Unit {0} → Unit {0} → IsSome (lab_of old code)) code one
    (founding_in bytes) fault) at fits))

-- a fault of the server says nothing of the founding
pub unfounded_server : (known : Option (List ℕ)) (code : List ℕ) (fault : ServerFault)
    (told : RehearsalFault) → told ≡ Server fault → OfBody known (λ bytes. IsUnfounded code bytes told)
unfounded_server known code fault told is = (
  unwrap_or known [],
  all_of known,
  subst (IsUnfounded code (unwrap_or known [])) (sym is) tt,
)

-- ---- over the connection

-- nothing was printed
pub forwards_none : {F : Type 0} (known : Option (List ℕ)) (fault : F)
    (output : Option (List ℕ)) → Forwards known (Err fault) output output
forwards_none None fault output = ([], tt, Appends-nil output)
forwards_none (Some all) fault output = ([], (0, refl), Appends-nil output)

-- all that was read was written, or its first bytes
pub forwards_cut : {F : Type 0} (known : Option (List ℕ)) (bytes : List ℕ) (sent : ℕ) (fault : F)
    (before after : Option (List ℕ)) → IfSome known (λ all. bytes ≡ all) →
    Appends before after (take sent bytes) → Forwards known (Err fault) before after
forwards_cut None bytes sent fault before after read written =
    (take sent bytes, tt, written)
forwards_cut (Some all) bytes sent fault before after read written =
    (take sent bytes, (sent, ap (take sent) read), written)

-- a text that was written whole, whatever came later
pub printed_any : {F : Type 0} (text : List ℕ) (ending : Result (Unit {0}) F)
    (before after : Option (List ℕ)) → Appends before after text →
    IsPrinted text ending before after
printed_any text (Ok _) before after whole = whole
printed_any text (Err _) before after whole = printed_all text before after whole

-- one connection was served, whatever came later
pub served_any : {F : Type 0} (tick : Tick) (ending : Result (Unit {0}) F) (visit : Visit) →
    visit.exchange.tick ≡ tick → visit.ending ≡ Ok tt → IsServedAt tick ending (visit ∷ [])
served_any tick (Ok _) visit at whole = (visit, refl, at, whole)
served_any tick (Err _) visit at whole = inr (visit, refl, at)

-- ---- the task

-- before the request nothing is printed
pub prints_none : (fault : RehearsalFault) → Prints (Err fault) []
prints_none (Founding fault) = refl
prints_none (Server fault) = tt

-- after it whatever the client got
pub prints_any : (fault : ServerFault) (told : RehearsalFault) (printed : List ℕ) →
    told ≡ Server fault → Prints (Err told) printed
prints_any fault told printed is =
    subst (λ one. Prints (Err one) printed) (sym is) tt

-- what was written of what a client got
pub forwarded : {F : Type 0} (known : Option (List ℕ)) (ending : Result (Unit {0}) F)
    (before after : Option (List ℕ)) → Forwards known ending before after →
    (printed : List ℕ) × Appends before after printed
forwarded known (Ok _) before after forwards = (forwards.0, forwards.2)
forwarded known (Err _) before after forwards = (forwards.0, forwards.2)
