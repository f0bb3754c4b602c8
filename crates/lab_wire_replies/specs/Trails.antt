-- Rows of the trail, as JSON.
use Rattle.std.specs.Prelude.{List, [], ◌∷◌, map, codes}
use Rattle.serde_json.specs.Data.{Data, string}
use Rattle.lab_records_kept.specs.declared.trails.TrailRow.{TrailRow}
use Rattle.lab_records_kept.specs.Trails.{action_word}
use Rattle.lab_wire_replies.specs.Parts.{object_from, list_from, whole, moment_data, text_or_empty}

-- a row of the trail, with an empty person where it was nobody
abbrev pub trail_row_data : TrailRow → Data
trail_row_data row =
    object_from (
    (codes "action", string (action_word row.action))
    ∷ (codes "moment", moment_data row.moment)
    ∷ (codes "number", whole row.number)
    ∷ (codes "person", text_or_empty row.person)
    ∷ (codes "subject", string row.subject)
    ∷ []
    )

-- rows of the trail
abbrev pub trail_data : List TrailRow → Data
trail_data rows = object_from ((codes "trail", list_from (map trail_row_data rows)) ∷ [])
