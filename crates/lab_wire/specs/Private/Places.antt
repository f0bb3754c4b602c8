-- What clauses of private functions say beside Places.antt.
use Rattle.std.specs.Prelude.{ℕ, Bool, List, ◌&&◌, bytes_eq, find, map, option_map, if◌then◌else◌, Option, Some, None, Result, Ok, Err}
use Rattle.lab_wire.specs.declared.route_refusals.Allowed.{Allowed}
use Rattle.lab_wire.specs.declared.route_refusals.Allowed.TheVariants.{Get, Post, GetOrPost}
use Rattle.lab_wire.specs.declared.route_refusals.RouteRefusal.{RouteRefusal}
use Rattle.lab_wire.specs.declared.route_refusals.RouteRefusal.TheVariants.{Method}
use Rattle.lab_wire.specs.declared.routes.Route.{Route}
use Rattle.lab_wire.specs.declared.routes.Place.{Place as PlaceOfCode}
use Rattle.lab_wire.specs.Paths.{segments}
use Rattle.lab_wire.specs.Routes.{Row, routes, get_method, post_method, all_admitted}
use Rattle.lab_wire.specs.Places.{texts}

-- a place as the table writes it, and what is read there, and posted
pub record Place : Type 0 where
  pub text : List ℕ
  pub get : Option Route
  pub post : Option Route

-- as the code has it
abbrev pub place_shown : PlaceOfCode → Place
place_shown p = record { text = p.text.now; get = p.get; post = p.post }

-- ---- the places of the table

-- a row by the method, whose place is written so
abbrev pub is_at : List ℕ → List ℕ → Row → Bool
is_at method text row = bytes_eq row.method method && bytes_eq row.place text

abbrev pub row_at : List ℕ → List ℕ → Option Row
row_at method text = find (is_at method text) routes

abbrev pub route_at : List ℕ → List ℕ → Option Route
route_at method text = option_map (λ row. row.route) (row_at method text)

abbrev pub place_at : List ℕ → Place
place_at text = record {
  text = text;
  get = route_at get_method text;
  post = route_at post_method text;
}

abbrev pub places : List Place
places = map place_at texts

-- ---- the place of a request

abbrev pub is_to : List ℕ → Place → Bool
is_to place p = all_admitted (segments p.text) (segments place)

-- the place of the table that admits it
unfoldable pub place_to : List ℕ → Option Place
place_to place = find (is_to place) places

-- what is asked there by a method, in these letters
abbrev pub asked_by : List ℕ → Place → Option Route
asked_by method p =
    if bytes_eq get_method method then p.get
    else (if bytes_eq post_method method then p.post else None)

-- the methods by which something is asked there
abbrev pub allowed_by : Option Route → Option Route → Allowed
allowed_by (Some read) (Some posted) = GetOrPost
allowed_by (Some read) None = Get
allowed_by None posted = Post

abbrev pub allowed_at : Place → Allowed
allowed_at p = allowed_by p.get p.post

abbrev pub route_or_methods : Option Route → Allowed → Result Route RouteRefusal
route_or_methods None methods = Err (Method methods)
route_or_methods (Some route) methods = Ok route
