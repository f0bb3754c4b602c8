-- Values from outside, so that a wrong test does not check: versions that are settled in turn, approvals that a text tells of,
-- numbers with a gap.
use Rattle.std.proofs.Common.{◌≡◌, ℕ, true, false, List, [], ◌∷◌, refl}
use Rattle.std.specs.Prelude.{codes}
use Rattle.lab_seal_versions.specs.declared.versions.Format.TheVariants.{One, Two}
use Rattle.lab_seal_versions.specs.declared.seals.Meaning.{Meaning}
use Rattle.lab_seal_versions.specs.declared.seals.Meaning.TheVariants.{Authorship, Review}
use Rattle.lab_records_kept.specs.declared.records.Record.{Record}
use Rattle.lab_records_kept.specs.declared.records.Version.{Version}
use Rattle.lab_records_kept.specs.declared.records.Signature.{Signature}
use Rattle.lab_records_kept.proofs.KnownDefaults.{bare_entry, bare_form, bare_record, bare_signature, bare_version}
use Rattle.lab_move_tables.specs.Private.Tests.{says_of_approval, third_differs, are_settled_after, is_signed_dually}
use Rattle.lab_move_tables.specs.Private.Orders.{are_numbered}

abbrev signed : List ℕ → Meaning → Signature
signed person meaning = record bare_signature { person = person; name = person; meaning = meaning; moment = 9 }

abbrev entered : List Signature → Version
entered signatures = record bare_version {
  format = One;
  opener = codes "dan";
  opened = 8;
  rows = record bare_entry { key = codes "lead"; value = codes "7"; person = codes "dan"; moment = 8 } ∷ [];
  signatures = signatures;
}

abbrev kept : Record
kept = record bare_record { number = 1; form = record bare_form { code = codes "water"; version = 1; form = record { fields = []; approval = false } }; sample = codes "S1" }

abbrev released : Version
released = entered (signed (codes "dan") Authorship ∷ signed (codes "eve") Review ∷ [])

-- a version that another follows is settled; the last needn't be
pub known_settled : (are_settled_after kept true (released ∷ entered [] ∷ []) ≡ true) × (are_settled_after kept true (entered [] ∷ released ∷ []) ≡ false)
known_settled = (refl, refl)

-- the author entered a row, the reviewer none
pub known_signed : (is_signed_dually kept released ≡ true) × (is_signed_dually kept (entered (signed (codes "eve") Authorship ∷ [])) ≡ false)
    × (is_signed_dually kept (entered (signed (codes "dan") Authorship ∷ signed (codes "dan") Review ∷ [])) ≡ false)
    × (is_signed_dually kept (entered (signed (codes "dan") Review ∷ [])) ≡ false)
known_signed = (refl, refl, refl, refl)

pub known_tests : (says_of_approval One true ≡ false) × (says_of_approval (Two true) true ≡ true)
    × (third_differs (signed (codes "eve") Review ∷ signed (codes "eve") Review ∷ []) ≡ false)
    × (are_numbered (λ (n : ℕ). n) (1 ∷ 2 ∷ 4 ∷ []) ≡ false) × (are_numbered (λ (n : ℕ). n) (1 ∷ 2 ∷ []) ≡ true)
known_tests = (refl, refl, refl, refl, refl)
