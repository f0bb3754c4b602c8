-- The numbers and words by which the interface of the laboratories tells what was wrong with a form
-- or a value.
use Rattle.std.specs.Prelude.{codes}
use Rattle.lab_forms_texts.specs.Faults.{Entry}
use Rattle.lab_forms.specs.declared.faults.FormRefusal.{FormRefusal}
use Rattle.lab_forms.specs.declared.faults.FormRefusal.TheVariants.{NoFields, KeyTwice, TooManyFields, BadField, NoSuchField, BadValue, WrongUnit, OutOfRange}

abbrev pub form_refusal_entry : FormRefusal → Entry
form_refusal_entry NoFields = record { number = 3; word = codes "no_fields" }
form_refusal_entry KeyTwice = record { number = 4; word = codes "key_twice" }
form_refusal_entry TooManyFields = record { number = 5; word = codes "too_many_fields" }
form_refusal_entry BadField = record { number = 6; word = codes "bad_field" }
form_refusal_entry NoSuchField = record { number = 7; word = codes "no_such_field" }
form_refusal_entry BadValue = record { number = 8; word = codes "bad_value" }
form_refusal_entry WrongUnit = record { number = 9; word = codes "wrong_unit" }
form_refusal_entry OutOfRange = record { number = 10; word = codes "out_of_range" }
