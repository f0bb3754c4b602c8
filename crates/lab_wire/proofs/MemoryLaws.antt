-- What is never told as out of memory: that a request goes nowhere, that what it reads is refused, that an empty body is.
use Rattle.std.proofs.Common.{◌≡◌, ◌∙◌, inl, inr, ℕ, List, [], Result, Ok, Err, IsOk, sym, ap, subst, arith}
use Rattle.std.specs.Prelude.{is_ok, ⊤}
use Rattle.std.proofs.lemmas.Bool.{false≢true}
use Rattle.lab_wire_heads.specs.Requests.{RequestParts}
use Rattle.lab_wire.specs.declared.route_refusals.RouteRefusal.{RouteRefusal}
use Rattle.lab_wire.specs.declared.aims.Aim.{Aim}
use Rattle.lab_wire.specs.declared.aims.Aim.TheVariants.{Card, Persons, Form, Record, Version, Records, Trail, Copy, Posted}
use Rattle.lab_wire.specs.Routes.{Destination}
use Rattle.lab_wire.specs.Commands.{destination_in, command_asked, PostsBytes, PostsBytesTo, MakesSomething}
use Rattle.lab_wire.proofs.CommandLemmas.{goes_nowhere}

refused_is_not_ok : {A : Type 0} (found : Result A RouteRefusal) (refusal : RouteRefusal) → found ≡ Err refusal → IsOk found → ⊥
refused_is_not_ok found refusal is ok = false≢true (ap is_ok (sym is) ∙ ok)

-- a request that is refused, and posts no byte
refused_unmade : (request : RequestParts) (refusal : RouteRefusal) → command_asked request ≡ Err refusal
    → (PostsBytesTo (destination_in request) request.body → ⊥) → MakesSomething request → ⊥
refused_unmade request refusal is none (inl ok) = refused_is_not_ok (command_asked request) refusal is ok
refused_unmade request refusal is none (inr posts) = none posts

-- one that goes nowhere
pub nowhere_unmade : (request : RequestParts) (refusal : RouteRefusal) → destination_in request ≡ Err refusal → MakesSomething request → ⊥
nowhere_unmade request refusal is =
    refused_unmade request refusal (goes_nowhere request refusal is)
    (λ posts. subst (λ (found : Result Destination RouteRefusal). PostsBytesTo found request.body) is posts)

-- one that reads, so that its query is refused
abbrev pub Reads : Aim → Type 0
Reads (Posted post) = ⊥
Reads _ = ⊤

reads_no_byte : (aim : Aim) (body : List ℕ) → Reads aim → PostsBytes aim body → ⊥
reads_no_byte Card body reads posts = posts
reads_no_byte Persons body reads posts = posts
reads_no_byte (Form code version) body reads posts = posts
reads_no_byte (Record number) body reads posts = posts
reads_no_byte (Version number version) body reads posts = posts
reads_no_byte Records body reads posts = posts
reads_no_byte Trail body reads posts = posts
reads_no_byte Copy body reads posts = posts
reads_no_byte (Posted post) body reads posts = reads

pub reading_unmade : (request : RequestParts) (to : Destination) (refusal : RouteRefusal) → destination_in request ≡ Ok to → Reads to.aim
    → command_asked request ≡ Err refusal → MakesSomething request → ⊥
reading_unmade request to refusal goes reads is =
    refused_unmade request refusal is
    (λ posts. reads_no_byte to.aim request.body reads (subst (λ (found : Result Destination RouteRefusal). PostsBytesTo found request.body) goes posts))

-- one that posts an empty body
no_byte_at : (aim : Aim) → PostsBytes aim [] → ⊥
no_byte_at Card posts = posts
no_byte_at Persons posts = posts
no_byte_at (Form code version) posts = posts
no_byte_at (Record number) posts = posts
no_byte_at (Version number version) posts = posts
no_byte_at Records posts = posts
no_byte_at Trail posts = posts
no_byte_at Copy posts = posts
no_byte_at (Posted post) some = absurd (omega arith)

no_byte_to : (found : Result Destination RouteRefusal) → PostsBytesTo found [] → ⊥
no_byte_to (Err refusal) posts = posts
no_byte_to (Ok to) posts = no_byte_at to.aim posts

pub empty_body_unmade : (request : RequestParts) (refusal : RouteRefusal) → request.body ≡ [] → command_asked request ≡ Err refusal
    → MakesSomething request → ⊥
empty_body_unmade request refusal empty is =
    refused_unmade request refusal is
    (λ posts. no_byte_to (destination_in request) (subst (λ (body : List ℕ). PostsBytesTo (destination_in request) body) empty posts))
