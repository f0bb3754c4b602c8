-- What an accepted request is refused for, and the methods that a refusal tells (RFC 9110, sections
-- 10.2.1 and 15.5.6).
use Rattle.std.specs.Prelude.{ℕ, List, codes}
use Rattle.lab_forms_texts.specs.Faults.{Entry}
use Rattle.lab_wire_members.specs.Refusals.{body_entry}
use Rattle.lab_wire.specs.declared.route_refusals.Allowed.{Allowed}
use Rattle.lab_wire.specs.declared.route_refusals.Allowed.TheVariants.{Get, Post, GetOrPost}
use Rattle.lab_wire.specs.declared.route_refusals.RouteRefusal.{RouteRefusal}
use Rattle.lab_wire.specs.declared.route_refusals.RouteRefusal.TheVariants.{NoRoute, Method, Body}

-- the methods of a place, as a list
abbrev pub allowed_text : Allowed → List ℕ
allowed_text Get = codes "GET"
allowed_text Post = codes "POST"
allowed_text GetOrPost = codes "GET, POST"

abbrev pub route_entry : RouteRefusal → Entry
route_entry NoRoute = record { number = 86; word = codes "no_route" }
route_entry (Method allowed) = record { number = 87; word = codes "method" }
route_entry (Body refusal) = body_entry refusal
