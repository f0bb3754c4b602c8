-- The bodies of the commands on records: a record that is opened, a value that is entered, and an
-- amendment with the values that it alters, of which no two have one key.
use Rattle.std.specs.Prelude.{ℕ, List, [], ◌∷◌, ◌&&◌, Bool, map, codes, if◌then◌else◌, Ok, Err}
use Rattle.serde_json.specs.Data.{Data}
use Rattle.lab_forms_texts.specs.Names.{is_key, is_name, is_note, is_unit}
use Rattle.lab_forms.specs.Words.{has_text_twice}
use Rattle.lab_forms.specs.declared.faults.FormRefusal.TheVariants.{KeyTwice}
use Rattle.lab_records_rules.specs.declared.items.Item.{Item}
use Rattle.lab_records_machine.specs.declared.commands.Command.{Command}
use Rattle.lab_records_machine.specs.declared.commands.Command.TheVariants.{In}
use Rattle.lab_records_machine.specs.declared.commands.SessionCommand.TheVariants.{OnRecord}
use Rattle.lab_records_machine.specs.declared.commands.RecordCommand.TheVariants.{OpenRecord, Enter, Amend}
use Rattle.lab_wire_members.specs.declared.refusals.BodyRefusal.TheVariants.{Form}
use Rattle.lab_wire_members.specs.declared.members.MemberKind.TheVariants.{Text, Ordinal, List as AnyList}
use Rattle.lab_wire_members.specs.Members.{MemberRule, must, may, has_members, at, ordinal_in, elements_at, each_has}
use Rattle.lab_wire_members.specs.Readings.{Reading, then_read, wanted, text_at, named_at, named_if_at, shaped}
use Rattle.lab_wire_members.specs.Parts.{each_read}

-- a record is opened for a form and a sample
abbrev pub record_members : List MemberRule
record_members = must (codes "form") Text ∷ must (codes "sample") Text ∷ []

abbrev pub record_command : Data → Reading Command
record_command d =
    then_read (named_at is_key (codes "form") d) (λ form.
    then_read (named_at is_name (codes "sample") d) (λ sample.
    Ok (In (OnRecord (OpenRecord form sample)))))

unfoldable pub record_named : Data → Reading Command
record_named d = shaped (has_members record_members d) (record_command d)

-- a value: its field's key, its text and its unit
abbrev pub item_members : List MemberRule
item_members =
    must (codes "key") Text ∷ must (codes "value") Text ∷ must (codes "unit") Text ∷ []

unfoldable pub item_read : Data → Reading Item
item_read d =
    then_read (named_at is_key (codes "key") d) (λ key.
    then_read (text_at (codes "value") d) (λ value.
    then_read (named_at is_unit (codes "unit") d) (λ unit.
    Ok (record { key = key; value = value; unit = unit }))))

-- a value is entered into a record
abbrev pub entry_members : List MemberRule
entry_members =
    must (codes "record") Ordinal ∷ must (codes "key") Text ∷ must (codes "value") Text
    ∷ must (codes "unit") Text ∷ may (codes "reason") Text ∷ []

abbrev pub entry_read : Data → Reading Command
entry_read d =
    then_read (wanted (at ordinal_in (codes "record") d)) (λ number.
    then_read (item_read d) (λ item.
    then_read (named_if_at is_note (codes "reason") d) (λ reason.
    Ok (In (OnRecord (Enter number item reason))))))

unfoldable pub entry_named : Data → Reading Command
entry_named d = shaped (has_members entry_members d) (entry_read d)

-- a record is amended
abbrev pub amendment_members : List MemberRule
amendment_members =
    must (codes "record") Ordinal ∷ may (codes "reason") Text ∷ must (codes "altered") AnyList ∷ []

unfoldable pub is_amendment_body : Data → Bool
is_amendment_body d =
    has_members amendment_members d && each_has item_members (elements_at (codes "altered") d)

abbrev pub item_key : Item → List ℕ
item_key item = item.key

-- the altered values, of which no two have one key
abbrev pub different : List Item → Reading (List Item)
different items =
    if has_text_twice (map item_key items) then Err (Form KeyTwice) else Ok items

unfoldable pub altered_read : Data → Reading (List Item)
altered_read d =
    then_read (wanted (elements_at (codes "altered") d)) (λ elements.
    then_read (each_read item_read elements) different)

abbrev pub amendment_read : Data → Reading Command
amendment_read d =
    then_read (wanted (at ordinal_in (codes "record") d)) (λ number.
    then_read (named_if_at is_note (codes "reason") d) (λ reason.
    then_read (altered_read d) (λ altered.
    Ok (In (OnRecord (Amend number reason altered))))))

unfoldable pub amendment_named : Data → Reading Command
amendment_named d = shaped (is_amendment_body d) (amendment_read d)
