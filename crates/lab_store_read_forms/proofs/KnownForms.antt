-- Values from outside, so that a wrong rule in the definitions does not check: forms that are put together of rows
-- of the small file of `lab_store_tables`.
use Rattle.std.proofs.Common.{◌≡◌, pos, map, refl, [], ◌∷◌}
use Rattle.lab_store_tables.specs.Meaning.{fields_of}
use Rattle.lab_store_tables.proofs.KnownFile.{file}
use Rattle.lab_store_read_forms.specs.Private.Forms.{field_by, field_heads_of}
use Rattle.std.specs.Prelude.{codes}
use Rattle.sqlite_value.specs.declared.value.Value.TheVariants.{Text}
use Rattle.lab_forms.specs.declared.kinds.Kind.TheVariants as kind
use Rattle.lab_store_read_forms.specs.Kinds.{kind_with}
use Rattle.lab_store_read_forms.specs.KindsShown.{names_shown}

-- fields with their choices are those of the form
pub known_fields : map (field_by file) (field_heads_of file (pos 1)) ≡ fields_of file (pos 1)
known_fields = refl

-- names in the order of their places
pub known_names : names_shown file (pos 4) ≡ (Text (codes "clear") ∷ []) ∷ (Text (codes "cloudy") ∷ []) ∷ []
known_names = refl

-- only a choice takes names
pub known_kinds : (kind_with (kind.Choice []) (codes "clear" ∷ []) ≡ kind.Choice (codes "clear" ∷ []))
    × (kind_with kind.Date (codes "clear" ∷ []) ≡ kind.Date)
known_kinds = (refl, refl)
