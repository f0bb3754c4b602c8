use Rattle.std.proofs.Common.{◌∙◌, sym, ap, Some, map}
use Rattle.std.specs.Prelude.{option_map}
use Rattle.serde_json.specs.View.{view}
use Rattle.lab_wire_members.specs.Members.{list_of}
use Rattle.lab_wire_members.proofs.MemberLemmas.{views_listed}
use Rattle.lab_wire_members.proofs.members.list_in.Goals as goal

pub returns-in-Some : goal.returns-in-Some
returns-in-Some c =
    ap (λ values. Some (map view values)) c.as_slice.ensures.value ∙ ap Some (sym (views_listed _))
    ∙ ap (option_map list_of) c.in-Some.ensures
