-- A form has no more fields than it may.
use Rattle.std.proofs.Common.{◌≡◌, ◌≤◌, Bool, true, List, length, arith}
use Rattle.std.specs.Prelude.{◌&&◌, not, nat_le, map, IsTrue}
use Rattle.std.specs.List.{list_all}
use Rattle.std.proofs.lemmas.Bool.{leb-true}
use Rattle.lab_forms.specs.declared.forms.Field.{Field}
use Rattle.lab_forms.specs.Words.{has_text_twice}
use Rattle.lab_forms.specs.Forms.{field_limit, is_form, is_field, key_of}
use Rattle.lab_records_machine.specs.declared.commands.Command.{Command}
use Rattle.lab_records_machine.specs.declared.commands.Command.TheVariants.{Card, Open, In}
use Rattle.lab_records_machine.specs.declared.commands.SessionCommand.TheVariants.{OnAccount, OnRecord, Reading}
use Rattle.lab_records_machine.specs.declared.commands.RecordCommand.TheVariants.{MakeForm, OpenRecord, Enter, Amend, Sign}
use Rattle.lab_records_laws.specs.Asking.{IsCommandRight, IsCommandFormed}

third_test : (a b c d : Bool) → (a && b && c && d) ≡ true → c ≡ true
third_test a b c d e = grind arith

few_fields : (fields : List Field) → IsTrue (is_form fields) → length fields ≤ field_limit
unfolding is_form
few_fields fields formed =
    leb-true (length fields) 60
    (third_test (nat_le 1 (length fields)) (not (has_text_twice (map key_of fields)))
    (nat_le (length fields) 60) (list_all is_field fields) formed)

pub formed_is_right : (command : Command) → IsCommandFormed command → IsCommandRight command
formed_is_right (In (OnRecord (MakeForm code form))) formed = few_fields form.fields formed
formed_is_right Card formed = formed
formed_is_right (Open code password) formed = formed
formed_is_right (In (OnAccount command)) formed = formed
formed_is_right (In (OnRecord (OpenRecord form sample))) formed = formed
formed_is_right (In (OnRecord (Enter number item reason))) formed = formed
formed_is_right (In (OnRecord (Amend number reason altered))) formed = formed
formed_is_right (In (OnRecord (Sign number version text signing password code))) formed = formed
formed_is_right (In (Reading command)) formed = formed
