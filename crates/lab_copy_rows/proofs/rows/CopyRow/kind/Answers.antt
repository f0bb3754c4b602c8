use Rattle.std.proofs.Common.{◌∙◌, List, String, Global, ap, slice_get}
use Rattle.lab_copy_rows.proofs.TextLemmas.{kind_told, kind_missing}
use Rattle.lab_copy_rows.proofs.rows.CopyRow.kind.Goals as goal

pub returns-in-Some : goal.returns-in-Some
returns-in-Some c =
    rw (← c.self.view_is)
    (c.as_str.ensures.value ∙ kind_told c.self.inside.fields.items c.in-Some.kind.now
    (c.in-Some.ensures.value ∙ ap (λ (l : List (String Global)). slice_get l 0) c.deref.ensures.value))

pub returns-in-None : goal.returns-in-None
returns-in-None c =
    rw (← c.self.view_is)
    (kind_missing c.self.inside.fields.items
    (c.in-None.ensures.value ∙ ap (λ (l : List (String Global)). slice_get l 0) c.deref.ensures.value))
