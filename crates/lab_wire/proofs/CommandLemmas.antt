-- What is asked of a laboratory, by the command that is found.
use Rattle.std.proofs.Common.{◌≡◌, ℕ, List, Option, Some, None, Result, Ok, Err, ap, refl, ◌∙◌, inl}
use Rattle.std.specs.Prelude.{IfOk, IfErr, option_map}
use Rattle.std.specs.Option.{ok_or}
use Rattle.lab_wire_heads.specs.Requests.{RequestParts}
use Rattle.lab_records_machine.specs.declared.commands.Command.{Command}
use Rattle.lab_records_machine.specs.declared.commands.ReadingCommand.{ReadingCommand}
use Rattle.lab_wire_members.specs.declared.refusals.BodyRefusal.TheVariants.{BadBody}
use Rattle.lab_wire.specs.declared.queries.Range.{Range}
use Rattle.lab_wire.specs.declared.route_refusals.RouteRefusal.{RouteRefusal}
use Rattle.lab_wire.specs.declared.route_refusals.RouteRefusal.TheVariants.{Body}
use Rattle.lab_forms_texts.specs.declared.refusals.Fault.{Fault}
use Rattle.lab_forms_texts.specs.declared.refusals.Fault.TheVariants.{Refused, Memory}
use Rattle.lab_wire.specs.Commands.{reads_in, ranged, PostsBytes, asked_of, asked_at, destination_in, command_asked, RouteFaultFits}
use Rattle.lab_wire.specs.Private.Commands.{FaultFits}
use Rattle.lab_wire.specs.Routes.{Destination}
use Rattle.lab_wire.specs.declared.commands.Asked.{Asked}

-- ---- the command of what is asked

-- what a query without a range is refused as
abbrev bad_query : Fault RouteRefusal
bad_query = Refused (Body BadBody)

pub reads_range : (reads : ℕ → ℕ → ReadingCommand) (range : Option Range)
    → IfOk (ok_or (option_map (λ (r : Range). reads_in (reads r.from r.to)) range) bad_query) (λ command. ranged reads range ≡ Ok command)
reads_range reads None = tt
reads_range reads (Some range) = refl

pub reads_no_range : (makes : Type 0) (reads : ℕ → ℕ → ReadingCommand) (range : Option Range)
    → IfErr (ok_or (option_map (λ (r : Range). reads_in (reads r.from r.to)) range) bad_query) (FaultFits makes (ranged reads range))
reads_no_range makes reads None = refl
reads_no_range makes reads (Some range) = tt

-- what is found is copied
pub found_there : {A : Type 0} (makes : Type 0) (found : Result A RouteRefusal) (r : Result A (Fault RouteRefusal)) (given : A) → found ≡ Ok given
    → IfErr r (λ fault. fault ≡ Memory) → IfErr r (FaultFits makes found)
found_there makes found (Ok x) given is faulty = tt
found_there makes found (Err fault) given is faulty = rw faulty (inl (rw is refl))

pub ruleset finding = (reads_range, reads_no_range, found_there)

-- ---- what is asked of the laboratory

pub asks_it : (lab : List ℕ) (token : Option (List ℕ)) (found : Result Command RouteRefusal) (given : Command) (r : Result Asked (Fault RouteRefusal)) → found ≡ Ok given
    → IfOk r (λ asks. asked_of lab token (Ok given) ≡ Ok asks) → IfOk r (λ asks. asked_of lab token found ≡ Ok asks)
asks_it lab token found given (Ok asks) is asks_that = ap (asked_of lab token) is ∙ asks_that
asks_it lab token found given (Err fault) is asks_that = tt

pub asks_unmade : (makes : Type 0) (lab : List ℕ) (token : Option (List ℕ)) (found : Result Command RouteRefusal) (given : Command) (r : Result Asked (Fault RouteRefusal))
    → found ≡ Ok given → IfErr r (λ fault. fault ≡ Memory) → IfErr r (FaultFits makes (asked_of lab token found))
asks_unmade makes lab token found given (Ok asks) is faulty = tt
asks_unmade makes lab token found given (Err fault) is faulty = rw faulty (inl (rw is refl))

pub asks_nothing : (makes : Type 0) (lab : List ℕ) (token : Option (List ℕ)) (found : Result Command RouteRefusal) (fault : Fault RouteRefusal)
    → FaultFits makes found fault → FaultFits makes (asked_of lab token found) fault
asks_nothing makes lab token found (Refused refusal) is = ap (asked_of lab token) is
asks_nothing makes lab token (Ok given) Memory is = inl refl
asks_nothing makes lab token (Err refusal) Memory is = is

pub ruleset asking = (asks_it, asks_unmade, asks_nothing)

-- ---- where a request goes somewhere

pub asks_there : (parts : RequestParts) (to : Destination) (r : Result Asked (Fault RouteRefusal)) → destination_in parts ≡ Ok to
    → IfOk r (λ asks. asked_at parts (Ok to) ≡ Ok asks) → IfOk r (λ asks. command_asked parts ≡ Ok asks)
unfolding command_asked
asks_there parts to (Ok asks) goes is = ap (asked_at parts) goes ∙ is
asks_there parts to (Err fault) goes is = is

pub fault_there : (parts : RequestParts) (to : Destination) (r : Result Asked (Fault RouteRefusal)) → destination_in parts ≡ Ok to
    → IfErr r (FaultFits (PostsBytes to.aim parts.body) (asked_at parts (Ok to))) → IfErr r (RouteFaultFits parts)
unfolding command_asked
fault_there parts to (Ok asks) goes is = is
fault_there parts to (Err (Refused refusal)) goes is = ap (asked_at parts) goes ∙ is
fault_there parts to (Err Memory) goes is = rw goes is

pub goes_nowhere : (parts : RequestParts) (refusal : RouteRefusal) → destination_in parts ≡ Err refusal → command_asked parts ≡ Err refusal
unfolding command_asked
goes_nowhere parts refusal is = ap (asked_at parts) is
