-- Members are added one after the other.
use Rattle.std.proofs.Common.{◌≡◌, ℕ, ◌+◌, ◌<◌, List, [], ◌∷◌, ◌++◌, length, take, map, get_or, refl, sym, ap, ◌∙◌}
use Rattle.std.proofs.lemmas.List.{map_more}
use Rattle.serde_json.specs.Data.{Data, Members, put}
use Rattle.lab_wire_replies.specs.declared.members.Member.{Member}
use Rattle.lab_wire_replies.specs.Parts.{members_onto}
use Rattle.lab_wire_replies.specs.Members.{told_data, member_data}

joined : (first more : List (List ℕ × Data)) (before : Members)
    → members_onto (first ++ more) before ≡ members_onto more (members_onto first before)
joined [] more before = refl
joined (one ∷ first) more before = joined first more (put one.0 one.1 before)

-- one member more
pub one_more : (list : List Member) (i : ℕ) (one : Member) (told : Data) (start before after : Members)
    → i < length list → one ≡ get_or list i one → before ≡ members_onto (map member_data (take i list)) start
    → told ≡ told_data one.told → after ≡ put one.name.now told before
    → after ≡ members_onto (map member_data (take (i + 1) list)) start
one_more list i one told start before after inside is were this added =
    added
    ∙ ap (λ it. put one.name.now it before) this
    ∙ ap (put one.name.now (told_data one.told)) were
    ∙ sym (joined (map member_data (take i list)) (member_data one ∷ []) start)
    ∙ ap (λ it. members_onto (map member_data (take i list) ++ member_data it ∷ []) start) is
    ∙ ap (λ all. members_onto all start) (sym (map_more member_data list i one inside))
