-- What a body is refused for: its shape first, then its names, then what it says of a form.
use Rattle.std.specs.Prelude.{codes}
use Rattle.lab_forms_texts.specs.Faults.{Entry, name_entry}
use Rattle.lab_forms.specs.Faults.{form_refusal_entry}
use Rattle.lab_wire_members.specs.declared.refusals.BodyRefusal.{BodyRefusal}
use Rattle.lab_wire_members.specs.declared.refusals.BodyRefusal.TheVariants.{BadBody, BadName, Form}

abbrev pub body_entry : BodyRefusal → Entry
body_entry BadBody = record { number = 88; word = codes "bad_body" }
body_entry BadName = name_entry
body_entry (Form refusal) = form_refusal_entry refusal
