-- What a whole body names: for each command that has one, by its bytes, and for a founding. The
-- refusals stand in one order: a body of another shape, then a name that doesn't read, then what is
-- wrong with the fields of a form or the keys of an amendment.
use Rattle.std.specs.Prelude.{◌≡◌, ◌<◌, ℕ, List, length, Option, Some, None, Err}
use Rattle.serde_json.specs.Data.{Data}
use Rattle.lab_records_machine.specs.declared.commands.Command.{Command}
use Rattle.lab_wire_members.specs.declared.refusals.BodyRefusal.TheVariants.{BadBody}
use Rattle.lab_forms_texts.specs.declared.refusals.Fault.{Fault}
use Rattle.lab_wire_members.specs.declared.refusals.BodyRefusal.{BodyRefusal}
use Rattle.lab_forms_texts.specs.declared.refusals.Fault.TheVariants.{Refused, Memory}
use Rattle.lab_wire_bodies.specs.declared.bodies.Post.{Post}
use Rattle.lab_wire_bodies.specs.declared.bodies.Post.TheVariants.{Open, Close, ChangePassword, Enrol, AskIssue, ConfirmIssue, SetRoles, Retire, Unlock, MakeForm, OpenRecord, Enter, Amend, Sign}
use Rattle.lab_wire_members.specs.Values.{json_of}
use Rattle.lab_wire_members.specs.Readings.{Reading}
use Rattle.lab_wire_bodies.specs.Accounts.{opening_named, closing_named, password_named, enrolment_named, issue_named, confirmation_named, roles_named, retirement_named, unlocking_named}
use Rattle.lab_wire_bodies.specs.Forms.{form_named}
use Rattle.lab_wire_bodies.specs.Records.{record_named, entry_named, amendment_named}
use Rattle.lab_wire_bodies.specs.Signatures.{signature_named}

-- what is read of JSON; what is none is refused
abbrev pub read_from : {A : Type 0} → (Data → Reading A) → Option Data → Reading A
read_from says None = Err BadBody
read_from says (Some d) = says d

-- what a body names by its bytes
unfoldable pub body_named : {A : Type 0} → (Data → Reading A) → List ℕ → Reading A
body_named says body = read_from says (json_of body)

-- the command that JSON names, by what is posted
abbrev pub post_named : Post → Data → Reading Command
post_named Open d = opening_named d
post_named Close d = closing_named d
post_named ChangePassword d = password_named d
post_named Enrol d = enrolment_named d
post_named AskIssue d = issue_named d
post_named ConfirmIssue d = confirmation_named d
post_named SetRoles d = roles_named d
post_named Retire d = retirement_named d
post_named Unlock d = unlocking_named d
post_named MakeForm d = form_named d
post_named OpenRecord d = record_named d
post_named Enter d = entry_named d
post_named Amend d = amendment_named d
post_named Sign d = signature_named d

-- the faults of reading a body: its refusal, or out of memory where a byte came
abbrev pub BodyFaultFits : {A : Type 0} → (Data → Reading A) → List ℕ → Fault BodyRefusal → Type 0
BodyFaultFits says body (Refused refusal) = body_named says body ≡ Err refusal
BodyFaultFits says body Memory = 0 < length body
