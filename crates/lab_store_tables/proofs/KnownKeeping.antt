-- Values from outside, so that a wrong rule in the definition does not check: the database's own rules
-- hold of the small file of `lab_store_tables` and of no tables at all, and they don't of three slips.
use Rattle.std.proofs.Common.{◌≡◌, pos, true, false, [], ◌∷◌, None, refl}
use Rattle.std.specs.Prelude.{codes}
use Rattle.lab_store_tables.specs.Rows.{Tables}
use Rattle.lab_store_tables.specs.WellKept.{are_labs_apart, are_all_numbered, is_desk}
use Rattle.lab_store_tables.proofs.KnownFile as known
use Rattle.lab_store_tables.specs.ByRules.{IsByRules}

abbrev nothing : Tables
nothing = record {
  desk = [];
  labs = [];
  persons = [];
  sessions = [];
  forms = [];
  fields = [];
  choices = [];
  records = [];
  versions = [];
  entries = [];
  signatures = [];
  trail = [];
}

pub known_file : IsByRules known.file
known_file = record { ids = refl; keys = refl; arrows = refl }

-- tables without rows obey too; that such a file has no row that names the schema is no rule of the database
pub known_nothing : IsByRules nothing × (is_desk nothing.desk ≡ false)
known_nothing = (record { ids = refl; keys = refl; arrows = refl }, refl)

-- the number 8 stands twice in a laboratory's trail
abbrev number_twice : Tables
number_twice = record known.file {
  trail = known.told (pos 19) (pos 7) 8 1600 None (codes "found") (codes "aqua") ∷ known.file.trail;
}

-- two choices of one id
abbrev id_twice : Tables
id_twice = record known.file {
  choices = known.choice (pos 2) (pos 4) 3 (codes "red") ∷ known.file.choices;
}

-- a choice of a field that isn't there
abbrev no_field : Tables
no_field = record known.file {
  choices = known.choice (pos 3) (pos 99) 1 (codes "red") ∷ known.file.choices;
}

pub known_refused :
    (IsByRules number_twice → ⊥) × (IsByRules id_twice → ⊥) × (IsByRules no_field → ⊥)
known_refused = (
  λ rules. absurd (let wrong : ◌≡◌ false true = rules.keys in cc),
  λ rules. absurd (let wrong : ◌≡◌ false true = rules.ids in cc),
  λ rules. absurd (let wrong : ◌≡◌ false true = rules.arrows in cc),
)

-- what no rule of the database forbids: another laboratory's person in a version, and a gap in the numbers of a trail
abbrev dan_of_brick : Tables
dan_of_brick = record known.file {
  entries = known.entry (pos 6) (pos 3) 2 (codes "note") (codes "new") (codes "") (pos 1) 1410 None ∷ known.file.entries;
}

abbrev gap : Tables
gap = record known.file {
  trail = known.told (pos 19) (pos 7) 14 1600 None (codes "found") (codes "aqua") ∷ known.file.trail;
}

pub known_left_to_changes :
    IsByRules dan_of_brick × (are_labs_apart dan_of_brick ≡ false) × IsByRules gap × (are_all_numbered gap ≡ false)
known_left_to_changes = (
  record { ids = refl; keys = refl; arrows = refl },
  refl,
  record { ids = refl; keys = refl; arrows = refl },
  refl,
)
