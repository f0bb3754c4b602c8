-- Bodies of the commands on records as docs/COMMANDS.md writes them, so that a wrong rule in the definitions does not check.
use Rattle.std.proofs.Common.{◌≡◌, refl, ℕ, List, [], ◌∷◌, codes, Some, None, Ok, Err, false}
use Rattle.std.specs.Str.{is_utf8, chars}
use lib.Utf8.{encode}
use Rattle.serde_json.specs.Data.{Data, null, number, unsigned, string, array, object, no_items, item, Members, no_members, member}
use Rattle.lab_forms_texts.specs.Names.{is_key, is_name, is_note, is_unit}
use Rattle.lab_forms.specs.declared.faults.FormRefusal.TheVariants.{KeyTwice}
use Rattle.lab_records_rules.specs.declared.items.Item.{Item}
use Rattle.lab_records_machine.specs.declared.commands.Command.TheVariants.{In}
use Rattle.lab_records_machine.specs.declared.commands.SessionCommand.TheVariants.{OnRecord}
use Rattle.lab_records_machine.specs.declared.commands.RecordCommand.TheVariants.{OpenRecord, Enter, Amend}
use Rattle.lab_wire_members.specs.declared.refusals.BodyRefusal.TheVariants.{BadBody, BadName, Form}
use Rattle.lab_wire_members.specs.Members.{has_members}
use Rattle.lab_wire_bodies.specs.Records.{record_named, entry_named, is_amendment_body, item_read, altered_read, amendment_named}
use Rattle.lab_wire_bodies.specs.Signatures.{is_signature_body}

-- a text
abbrev says : List ℕ → Data
says text = string text

-- a record is opened for a form, by its key, and a sample, by its name
abbrev opens : List ℕ → Data
opens form = object (member (codes "form") (says form) (member (codes "sample") (says (codes "S1")) no_members))

pub known_records : (record_named (opens (codes "water")) ≡ Ok (In (OnRecord (OpenRecord (codes "water") (codes "S1")))))
    × (record_named (opens (codes "Water")) ≡ Err BadName)
    × (record_named (object (member (codes "form") (says (codes "water")) no_members)) ≡ Err BadBody)
unfolding record_named has_members is_key is_name is_utf8 chars encode
known_records = (refl, refl, refl)

-- a value is entered, with a reason where there is one
abbrev reading : Item
reading = record { key = codes "lead"; value = codes "7.50"; unit = codes "mg/L" }

abbrev behind_reason : Data → Members
behind_reason about =
    member (codes "record") about (member (codes "unit") (says (codes "mg/L")) (member (codes "value") (says (codes "7.50")) no_members))

abbrev entry : Members → Data
entry others = object (member (codes "key") (says (codes "lead")) others)

pub known_entries : (entry_named (entry (behind_reason (number (unsigned 1)))) ≡ Ok (In (OnRecord (Enter 1 reading None))))
    × (entry_named (entry (member (codes "reason") (says (codes "misread")) (behind_reason (number (unsigned 1)))))
    ≡ Ok (In (OnRecord (Enter 1 reading (Some (codes "misread"))))))
    × (entry_named (entry (member (codes "reason") (says []) (behind_reason (number (unsigned 1))))) ≡ Err BadName)
    × (entry_named (entry (behind_reason (number (unsigned 0)))) ≡ Err BadBody)
    × (entry_named (entry (behind_reason (says (codes "1")))) ≡ Err BadBody)
unfolding entry_named item_read has_members is_key is_unit is_name is_note is_utf8 chars encode
known_entries = (refl, refl, refl, refl, refl)

-- two altered values of one key
abbrev lead : Data
lead = object (member (codes "key") (says (codes "lead")) (member (codes "unit") (says []) (member (codes "value") (says (codes "7.5")) no_members)))

abbrev amends : Data → Data
amends altered = object (member (codes "altered") altered (member (codes "record") (number (unsigned 1)) no_members))

pub known_amendments : (amendment_named (amends (array (item lead no_items)))
    ≡ Ok (In (OnRecord (Amend 1 None (record { key = codes "lead"; value = codes "7.5"; unit = [] } ∷ [])))))
    × (amendment_named (amends (array (item lead (item lead no_items)))) ≡ Err (Form KeyTwice))
    × (amendment_named (amends (array (item null no_items))) ≡ Err BadBody)
    × (amendment_named (amends null) ≡ Err BadBody)
unfolding amendment_named is_amendment_body altered_read item_read has_members is_key is_unit
known_amendments = (refl, refl, refl, refl)

-- only a rejection may have a reason
abbrev signs : List ℕ → Data
signs meaning = object (
    member (codes "digest") (says (codes "00112233445566778899aabbccddeeff00112233445566778899aabbccddeeff"))
    (member (codes "meaning") (says meaning) (member (codes "password") (says []) (member (codes "reason") (says (codes "blurred"))
    (member (codes "record") (number (unsigned 1)) (member (codes "version") (number (unsigned 1)) no_members))))))

pub known_reasons : (is_signature_body (signs (codes "review")) ≡ false) × (is_signature_body (signs (codes "witness")) ≡ false)
unfolding is_signature_body has_members
known_reasons = (refl, refl)
