-- The status code of each answer, a line for each refusal that a reply can bear (RFC 9110, section
-- 15; RFC 6585, section 5 for 431). Here, where HTTP is spoken, and nowhere below.
use Rattle.std.specs.Prelude.{ℕ}
use Rattle.lab_forms.specs.declared.faults.FormRefusal.{FormRefusal}
use Rattle.lab_forms.specs.declared.faults.FormRefusal.TheVariants.{NoFields, KeyTwice, TooManyFields, BadField, NoSuchField, BadValue, WrongUnit, OutOfRange}
use Rattle.lab_people_access.specs.declared.refusals.PeopleRefusal.{PeopleRefusal}
use Rattle.lab_people_access.specs.declared.refusals.PeopleRefusal.TheVariants.{Credentials, RandomRepeated, NoSession, PasswordDue, RoleWanted, BadPassword, SamePassword, CodeTaken, LabFull, OwnIssue, IssueOpen, SamePerson, NoIssue, NoSuchPerson}
use Rattle.lab_records_rules.specs.declared.refusals.Refusal.{Refusal}
use Rattle.lab_records_rules.specs.declared.refusals.Refusal.TheVariants as rules
use Rattle.lab_wire_members.specs.declared.refusals.BodyRefusal.{BodyRefusal}
use Rattle.lab_wire_members.specs.declared.refusals.BodyRefusal.TheVariants as bodies
use Rattle.lab_wire_heads.specs.declared.refusals.HeadRefusal.{HeadRefusal}
use Rattle.lab_wire_heads.specs.declared.refusals.HeadRefusal.TheVariants.{BadHead, HeadTooLong, TransferCoding, LengthWanted, BodyTooLong, ShortBody}
use Rattle.lab_wire.specs.declared.route_refusals.RouteRefusal.{RouteRefusal}
use Rattle.lab_wire.specs.declared.route_refusals.RouteRefusal.TheVariants as routes
use Rattle.lab_records_machine.specs.declared.replies.Reply.{Reply}
use Rattle.lab_records_machine.specs.declared.replies.Reply.TheVariants as reply
use Rattle.lab_wire.specs.declared.refusals.RequestRefusal.{RequestRefusal}
use Rattle.lab_wire.specs.declared.refusals.RequestRefusal.TheVariants.{Head, Route}
use Rattle.lab_wire.specs.declared.replies.Answer.{Answer}
use Rattle.lab_wire.specs.declared.replies.Answer.TheVariants.{Replied, Refused, Storage}

-- ---- of a laboratory's machine

-- of forms and values
abbrev pub form_status : FormRefusal → ℕ
form_status NoFields = 400
form_status KeyTwice = 400
form_status TooManyFields = 400
form_status BadField = 400
form_status NoSuchField = 400
form_status BadValue = 400
form_status WrongUnit = 400
form_status OutOfRange = 400

-- of persons and sessions
abbrev pub people_status : PeopleRefusal → ℕ
people_status Credentials = 401
people_status RandomRepeated = 503
people_status NoSession = 401
people_status PasswordDue = 403
people_status (RoleWanted rule) = 403
people_status BadPassword = 400
people_status SamePassword = 409
people_status CodeTaken = 409
people_status LabFull = 409
people_status OwnIssue = 403
people_status IssueOpen = 409
people_status SamePerson = 403
people_status NoIssue = 409
people_status NoSuchPerson = 404

-- of the machine
abbrev pub refusal_status : Refusal → ℕ
refusal_status rules.NoSuchLab = 404
refusal_status rules.ClockBehind = 503
refusal_status (rules.People people) = people_status people
refusal_status (rules.Form form) = form_status form
refusal_status rules.NoSuchForm = 404
refusal_status (rules.RecordExists number) = 409
refusal_status rules.NoSuchRecord = 404
refusal_status rules.NoSuchVersion = 404
refusal_status rules.NotOpen = 409
refusal_status rules.ReasonWanted = 400
refusal_status rules.NothingAltered = 409
refusal_status (rules.NotAltered key) = 409
refusal_status rules.AmendmentOpen = 409
refusal_status rules.EntriesMissing = 409
refusal_status (rules.StaleDigest digest) = 409
refusal_status rules.AlreadySigned = 409
refusal_status rules.OwnWork = 403
refusal_status rules.NotAuthor = 403
refusal_status rules.NotSigned = 409
refusal_status rules.CodeWanted = 403
refusal_status rules.ApprovalNotWanted = 409

-- ---- of the wire

-- of bodies and queries
abbrev pub body_status : BodyRefusal → ℕ
body_status bodies.BadBody = 400
body_status bodies.BadName = 400
body_status (bodies.Form form) = form_status form

-- of heads, and of how a body is sent
abbrev pub head_status : HeadRefusal → ℕ
head_status BadHead = 400
head_status HeadTooLong = 431
head_status TransferCoding = 501
head_status LengthWanted = 411
head_status BodyTooLong = 413
head_status ShortBody = 400

-- of routes
abbrev pub route_status : RouteRefusal → ℕ
route_status routes.NoRoute = 404
route_status (routes.Method allowed) = 405
route_status (routes.Body refusal) = body_status refusal

-- of all that the wire refuses
abbrev pub request_status : RequestRefusal → ℕ
request_status (Head refusal) = head_status refusal
request_status (Route refusal) = route_status refusal

-- ---- of all that is answered

-- of replies: all is well but where a refusal is told
abbrev pub reply_status : Reply → ℕ
reply_status (reply.Refused refusal) = refusal_status refusal
reply_status _ = 200

abbrev pub storage_status : ℕ
storage_status = 503

abbrev pub answer_status : Answer → ℕ
answer_status (Replied told) = reply_status told
answer_status (Refused refusal) = request_status refusal
answer_status Storage = storage_status

-- where memory ran out
abbrev pub memory_status : ℕ
memory_status = 503
