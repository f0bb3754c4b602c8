-- What the reading of members comes to, step by step.
use Rattle.std.proofs.Common.{◌≡◌, ◌≢◌, ◌<◌, ◌+◌, ℕ, suc, List, [], ◌∷◌, length, map, get_or, drop, Bool, false, cond, Some, None, refl, sym, ap, ◌∙◌, arith, add-one}
use Rattle.std.specs.Prelude.{String, ◌&&◌, ◌==◌, count_by, is_some, option_and_then}
use Rattle.std.specs.List.{list_all}
use Rattle.std.proofs.Math.Seq.{drop-cons}
use Rattle.std.proofs.lemmas.Bool.{ne_eqb}
use Rattle.std.proofs.lemmas.List.Sums.{sum_by-cons}
use Rattle.std.proofs.lemmas.List.Folds.{list_all-map}
use Rattle.std.specs.declared.alloc.Global.{Global}
use Rattle.serde_json.specs.Data.{Data, Members}
use Rattle.serde_json.specs.Find.{get, as_object}
use Rattle.serde_json.specs.View.{view, items_view, members_view}
use Rattle.serde_json.specs.declared.value.Value.{Value}
use Rattle.lab_people_access.specs.declared.roles.Roles.{Roles}
use Rattle.lab_wire_members.specs.declared.members.MemberWanted.{MemberWanted}
use Rattle.lab_wire_members.specs.Members.{list_of, member_count, MemberRule, rule_shown, keeps, has_members, role_in, role_added, roles_with}

-- ---- lists

pub views_listed : (values : List Value) → list_of (items_view values) ≡ map view values
views_listed [] = refl
views_listed (value ∷ values) = ap (λ rest. view value ∷ rest) (views_listed values)

pub all_of_views : (p : Data → Bool) (values : List Value) → list_all p (map view values) ≡ list_all (λ value. p (view value)) values
all_of_views p values = list_all-map p view values

-- one word more
pub next_role : (roles : Roles) (values : List Value) (i : ℕ) (value : Value) → i < length values → value ≡ get_or values i value
    → roles_with roles (map view (drop i values))
    ≡ option_and_then (λ more. roles_with more (map view (drop (i + 1) values))) (role_added roles (role_in (view value)))
next_role roles values i value inside is =
    let here : drop i values ≡ value ∷ drop (i + 1) values = rw add-one (drop-cons values i value inside ∙ ap (λ y. y ∷ drop (suc i) values) (sym is)) in
    rw here refl

-- ---- the members of an object

pub member_count-view : (entries : List (String Global × Value)) → member_count (members_view entries) ≡ length entries
member_count-view [] = refl
member_count-view (entry ∷ entries) = grind (arith, member_count-view entries)

counted : {A B : Type 0} (f : A → B) (p : B → Bool) (xs : List A) → count_by p (map f xs) ≡ count_by (λ x. p (f x)) xs
counted f p [] = refl
counted f p (x ∷ xs) =
    sum_by-cons (λ y. cond (p y) 1 0) (f x) (map f xs)
    ∙ ap (λ n. cond (p (f x)) 1 0 + n) (counted f p xs)
    ∙ sym (sum_by-cons (λ y. cond (p (f y)) 1 0) x xs)

pub no_object : (rules : List MemberRule) (d : Data) → as_object d ≡ None → has_members rules d ≡ false
unfolding has_members
no_object rules d none = rw none refl

-- what the code found: how many members there are, how many of them the rules know, and whether all keep them
pub object_found : (rules : List MemberWanted) (d : Data) (found : Members) (count there : ℕ) (kept : Bool)
    → as_object d ≡ Some found → member_count found ≡ count
    → there ≡ count_by (λ rule. is_some (get (rule_shown rule).name d)) rules
    → kept ≡ list_all (λ rule. keeps (rule_shown rule) (get (rule_shown rule).name d)) rules
    → ((count == there) && kept) ≡ has_members (map rule_shown rules) d
unfolding has_members
object_found rules d found count there kept is counts are keep =
    rw (
      is,
      counts,
      are,
      keep,
      counted rule_shown (λ (rule : MemberRule). is_some (get rule.name d)) rules,
      list_all-map (λ (rule : MemberRule). keeps rule (get rule.name d)) rule_shown rules,
    ) refl

-- where it has others
pub object_others : (rules : List MemberWanted) (d : Data) (found : Members) (count there : ℕ)
    → as_object d ≡ Some found → member_count found ≡ count
    → there ≡ count_by (λ rule. is_some (get (rule_shown rule).name d)) rules
    → count ≢ there → (count == there) ≡ has_members (map rule_shown rules) d
object_others rules d found count there is counts are others =
    let other = ne_eqb count there others in
    let kept : Bool = list_all (λ rule. keeps (rule_shown rule) (get (rule_shown rule).name d)) rules in
    other ∙ ap (λ b. b && kept) (sym other) ∙ object_found rules d found count there kept is counts are refl
