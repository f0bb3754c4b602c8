-- Values from outside, so that a wrong rule in the definitions does not check: versions of the small
-- file of `lab_store_tables` by their own rows, and which trees its tables are stored in.
use Rattle.std.proofs.Common.{◌≡◌, ℕ, ◌==◌, pos, true, false, List, [], ◌∷◌, Some, None, map, refl, ap, arith}
use Rattle.std.specs.Prelude.{if◌then◌else◌, codes, length}
use Rattle.sqlite_value.specs.Order.{Row}
use Rattle.lab_records_kept.specs.Digests.{digest_of}
use Rattle.lab_store_tables.specs.Rows.{Tables}
use Rattle.lab_store_tables.proofs.RowWords.{desk_row, lab_row}
use Rattle.lab_store_tables.specs.Meaning.{Leaf, leaves_of}
use Rattle.lab_store_tables.specs.Family.{Name, Desk, Labs, rows}
use Rattle.lab_store_tables.proofs.FamilyWords.{stored_row, tree_of}
use Rattle.lab_store_tables.proofs.KnownFile.{filled, desk, lab}
use Rattle.lab_store_tables.proofs.KnownFile as known
use Rattle.lab_store_tables.proofs.KnownValues.{aqua_record, older_version}
use Rattle.lab_store_tables.proofs.KnownChanges.{entered, new_entry}
use Rattle.lab_store_tables.proofs.ChainWords.{digest_at_end, entered_leaf, is_leaf, same_leaf}
use Rattle.lab_store_tables.specs.Held.{AreStored}

-- ---- versions by their own rows

-- the one version of aqua's second record, as yet without rows
abbrev older_leaf : Leaf
older_leaf = record {
  number = 1;
  format = 1;
  opener = codes "dan";
  opened = 1450;
  reason = None;
  rows = [];
  signatures = [];
}

pub known_leaf : leaves_of known.file (pos 1) ≡ older_leaf ∷ []
known_leaf = refl

-- the row of an entry more in the table is an entry more of the version
pub known_entered : leaves_of entered (pos 1) ≡ entered_leaf new_entry older_leaf ∷ []
known_entered = refl

-- a row more comes last
pub known_entered_twice :
    map (λ (one : Leaf). one.rows) (entered_leaf (record new_entry { value = codes "8.05" }) (entered_leaf new_entry older_leaf) ∷ [])
    ≡ (new_entry ∷ record new_entry { value = codes "8.05" } ∷ []) ∷ []
known_entered_twice = refl

-- versions are known by their numbers, not by where they stand or by what they hold
pub known_numbers : (map (is_leaf 2) (leaves_of known.file (pos 3)) ≡ false ∷ true ∷ [])
    × (map (is_leaf 0) (leaves_of known.file (pos 3)) ≡ false ∷ false ∷ [])
    × (same_leaf older_leaf (entered_leaf new_entry older_leaf) ≡ true)
    × (same_leaf older_leaf (record older_leaf { number = 2 }) ≡ false)
known_numbers = (refl, refl, refl, refl)

-- a next version would amend the last one; where there is none, what stands before them
pub known_digests :
    (digest_at_end (codes "aqua") (aqua_record 2 (codes "S2") []) None (leaves_of known.file (pos 1))
    ≡ Some (digest_of (codes "aqua") (aqua_record 2 (codes "S2") []) older_version))
    × (digest_at_end (codes "aqua") (aqua_record 2 (codes "S2") []) None [] ≡ None)
    × (digest_at_end (codes "aqua") (aqua_record 2 (codes "S2") []) (Some (filled 32 9)) [] ≡ Some (filled 32 9))
known_digests = (refl, refl, refl)

-- ---- trees of rows

abbrev small : Tables
small = record {
  desk = desk (pos 1) 3 ∷ [];
  labs = lab (pos 7) (codes "aqua") (codes "Aqua Lab") 1600 2 2 2 12 ∷ [];
  persons = [];
  sessions = [];
  forms = [];
  fields = [];
  choices = [];
  records = [];
  versions = [];
  entries = [];
  signatures = [];
  trail = [];
}

-- the row of `desk` in the tree 0, and the laboratory's in the tree of this number
abbrev trees : ℕ → ℕ → List Row
trees place n = if n == 0 then map desk_row small.desk else (if n == place then map lab_row small.labs else [])

-- laboratories are stored in the tree 1; the tree 2 is that of their codes
stands : (k : Name) → trees 1 (tree_of k) ≡ map (stored_row k) (rows k small)
stands Desk = refl
stands _ = refl

pub known_stored : AreStored (trees 1) small
known_stored = record { at = stands }

pub known_not_stored : AreStored (trees 2) small → ⊥
known_not_stored stored =
    absurd (let wrong : ◌≡◌ {A = ℕ} 0 1 = ap (λ (rows : List Row). length rows) (stored.at Labs) in omega arith)
