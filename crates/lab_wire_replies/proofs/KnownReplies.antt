-- A reply of each kind, so that a wrong member in the definitions does not check: worked replies, and else what Python's `json`
-- writes of the same members with sorted keys, or Python's `csv` of the rows of a copy.
use Rattle.std.proofs.Common.{◌≡◌, refl, ℕ, List, [], ◌∷◌, ◌++◌, codes, Some, None, true, false}
use Rattle.std.specs.Fmt.{digits}
use Rattle.csv.specs.Writing.{fields_text, is_blank, escaped}
use Rattle.hex.specs.Hex.{encode_with}
use Rattle.serde_json.proofs.OnLiterals.{serde_json_on_literals}
use Rattle.lab_forms_texts.specs.Calendar.{year_of, place_in_year, month_of, day_of_month, hour_of, minute_of, second_of, span_of, place_of}
use Rattle.lab_forms_texts.specs.Moment.{moment_text}
use Rattle.lab_people_access.specs.declared.policy.Rule.TheVariants.{SignReview}
use Rattle.lab_people_access.specs.declared.refusals.PeopleRefusal.TheVariants.{RoleWanted}
use Rattle.lab_people_access.specs.declared.roles.Roles.{Roles}
use Rattle.lab_forms.specs.declared.kinds.Kind.TheVariants.{Number, Text, Choice, Date, YesNo}
use Rattle.lab_records_kept.specs.declared.records.FormVersion.{FormVersion}
use Rattle.lab_records_kept.specs.declared.records.Signature.{Signature}
use Rattle.lab_records_kept.specs.declared.trails.Action.TheVariants.{Found, Amend}
use Rattle.lab_records_kept.proofs.KnownDefaults.{bare_entry, bare_field, bare_form, bare_signature, bare_told, bare_version}
use Rattle.lab_seal_versions.specs.declared.seals.Meaning.TheVariants.{Authorship, Review, Rejection, Approval}
use Rattle.lab_seal_versions.specs.declared.states.State.TheVariants as state
use Rattle.lab_seal_versions.specs.declared.rows.EntryRow.{EntryRow}
use Rattle.lab_seal_versions.specs.declared.versions.Format.TheVariants as format
use Rattle.lab_records_rules.specs.declared.refusals.Refusal.TheVariants as refusal
use Rattle.lab_records_machine.specs.declared.replies.Reply.TheVariants as reply
use Rattle.lab_wire_replies.specs.Replies.{reply_text}

-- a word of a tick, and 32 bytes
abbrev word : ℕ → List ℕ
word last = 0 ∷ 0 ∷ 0 ∷ 0 ∷ 0 ∷ 0 ∷ 0 ∷ last ∷ []

abbrev token : List ℕ
token = word 1 ++ word 2 ++ word 3 ++ word 4

pub known_cards : reply_text (reply.Card (codes "aqua") (codes "Aqua Lab")) ≡ codes "{\"lab\":\"aqua\",\"name\":\"Aqua Lab\"}"
unfolding serde_json_on_literals digits
known_cards = refl

pub known_refusals :
    (reply_text (reply.Refused refusal.NoSuchLab) ≡ codes "{\"error\":\"no_such_lab\",\"number\":40}")
    × (reply_text (reply.Refused refusal.ClockBehind) ≡ codes "{\"error\":\"clock_behind\",\"number\":41}")
    × (reply_text (reply.Refused (refusal.People (RoleWanted SignReview))) ≡ codes "{\"error\":\"role_wanted\",\"number\":24,\"rule\":\"P16\"}")
    × (reply_text (reply.Refused (refusal.RecordExists 1)) ≡ codes "{\"error\":\"record_exists\",\"number\":43,\"record\":1}")
    × (reply_text (reply.Refused (refusal.NotAltered (codes "lead"))) ≡ codes "{\"error\":\"not_altered\",\"key\":\"lead\",\"number\":49}")
    × (reply_text (reply.Refused (refusal.StaleDigest token))
    ≡ codes "{\"digest\":\"0000000000000001000000000000000200000000000000030000000000000004\",\"error\":\"stale_digest\",\"number\":52}")
unfolding serde_json_on_literals digits encode_with
known_refusals = (refl, refl, refl, refl, refl, refl)

pub known_sessions :
    (reply_text (reply.Opened 1 token false)
    ≡ codes "{\"due\":false,\"session\":1,\"token\":\"0000000000000001000000000000000200000000000000030000000000000004\"}")
    × (reply_text (reply.Closed 1) ≡ codes "{\"session\":1}")
    × (reply_text (reply.HalfTold (word 21 ++ word 22)) ≡ codes "{\"half\":\"00000000000000150000000000000016\"}")
unfolding serde_json_on_literals digits encode_with
known_sessions = (refl, refl, refl)

pub known_due : reply_text (reply.Opened 12 token true)
    ≡ codes "{\"due\":true,\"session\":12,"
    ++ codes "\"token\":\"0000000000000001000000000000000200000000000000030000000000000004\"}"
unfolding serde_json_on_literals digits encode_with
known_due = refl

pub known_password : reply_text (reply.PasswordChanged 500) ≡ codes "{\"changed\":\"1970-01-01T00:08:20Z\"}"
unfolding serde_json_on_literals digits moment_text year_of place_in_year month_of day_of_month hour_of minute_of second_of span_of place_of
known_password = refl

abbrev eve : Roles
eve = record { analyst = true; reviewer = true; manager = false; administrator = false; inspector = false }

pub known_persons :
    (reply_text (reply.PersonDone (codes "ivy")) ≡ codes "{\"code\":\"ivy\"}")
    × (reply_text (reply.RolesSet (codes "eve") eve) ≡ codes "{\"code\":\"eve\",\"roles\":[\"analyst\",\"reviewer\"]}")
    × (reply_text (reply.Persons (record { code = codes "eve"; name = codes "Eve"; roles = eve; retired = false; locked = true } ∷ []))
    ≡ codes "{\"persons\":[{\"code\":\"eve\",\"locked\":true,\"name\":\"Eve\",\"retired\":false,\"roles\":[\"analyst\",\"reviewer\"]}]}")
unfolding serde_json_on_literals digits
known_persons = (refl, refl, refl)

abbrev nobody : Roles
nobody = record { analyst = false; reviewer = false; manager = false; administrator = false; inspector = false }

pub known_retired :
    reply_text (reply.Persons (record {
      code = codes "ivy";
      name = codes "Ivy Ide";
      roles = nobody;
      retired = true;
      locked = false;
    } ∷ []))
    ≡ codes "{\"persons\":[{\"code\":\"ivy\",\"locked\":false,\"name\":\"Ivy Ide\",\"retired\":true,"
    ++ codes "\"roles\":[]}]}"
unfolding serde_json_on_literals digits
known_retired = refl

abbrev water : FormVersion
water = record bare_form {
  code = codes "water";
  version = 1;
  form = record {
    fields =
        record bare_field { key = codes "lead"; label = codes "Lead"; required = true; kind = Number (codes "mg/L") 2 (Some (codes "0")) None }
        ∷ record bare_field { key = codes "note"; label = codes "Note"; kind = Text 200 }
        ∷ record bare_field { key = codes "odor"; label = codes "Odor"; kind = Choice (codes "none" ∷ codes "some" ∷ []) }
        ∷ record bare_field { key = codes "day"; label = codes "Day"; kind = Date }
        ∷ [];
    approval = false;
  };
}

pub known_forms :
    (reply_text (reply.FormMade (codes "water") 2) ≡ codes "{\"form\":\"water\",\"version\":2}")
    × (reply_text (reply.FormRead water) ≡ codes "{\"approval\":false,\"fields\":["
    ++ codes "{\"decimals\":2,\"key\":\"lead\",\"kind\":\"number\",\"label\":\"Lead\",\"min\":\"0\",\"required\":true,\"unit\":\"mg/L\"},"
    ++ codes "{\"key\":\"note\",\"kind\":\"text\",\"label\":\"Note\",\"required\":false,\"size\":200},"
    ++ codes "{\"choices\":[\"none\",\"some\"],\"key\":\"odor\",\"kind\":\"choice\",\"label\":\"Odor\",\"required\":false},"
    ++ codes "{\"key\":\"day\",\"kind\":\"date\",\"label\":\"Day\",\"required\":false}],\"form\":\"water\",\"version\":1}")
unfolding serde_json_on_literals digits
known_forms = (refl, refl)

-- a form that wants an approval, with a bound above and a question that is answered by yes or no
abbrev air : FormVersion
air = record bare_form {
  code = codes "air";
  version = 3;
  form = record {
    fields =
        record bare_field {
          key = codes "dust";
          label = codes "Dust";
          required = true;
          kind = Number (codes "mg/m3") 1 None (Some (codes "9.5"));
        }
        ∷ record bare_field {
          key = codes "heat";
          label = codes "Heat";
          kind = Number [] 0 (Some (codes "-40")) (Some (codes "85"));
        }
        ∷ record bare_field { key = codes "clean"; label = codes "Clean"; required = true; kind = YesNo } ∷ [];
    approval = true;
  };
}

pub known_approved_form : reply_text (reply.FormRead air)
    ≡ codes "{\"approval\":true,\"fields\":[{\"decimals\":1,\"key\":\"dust\",\"kind\":\"number\","
    ++ codes "\"label\":\"Dust\",\"max\":\"9.5\",\"required\":true,\"unit\":\"mg/m3\"},{\"decimals\":0,"
    ++ codes "\"key\":\"heat\",\"kind\":\"number\",\"label\":\"Heat\",\"max\":\"85\",\"min\":\"-40\","
    ++ codes "\"required\":false,\"unit\":\"\"},{\"key\":\"clean\",\"kind\":\"yesno\","
    ++ codes "\"label\":\"Clean\",\"required\":true}],\"form\":\"air\",\"version\":3}"
unfolding serde_json_on_literals digits
known_approved_form = refl

pub known_entries :
    (reply_text (reply.RecordOpened 2 1) ≡ codes "{\"record\":2,\"version\":1}")
    × (reply_text (reply.Entered 1 2 3 (171 ∷ [])) ≡ codes "{\"digest\":\"ab\",\"record\":1,\"rows\":3,\"version\":2}")
    × (reply_text (reply.Amended 1 2 (171 ∷ [])) ≡ codes "{\"digest\":\"ab\",\"record\":1,\"version\":2}")
unfolding serde_json_on_literals digits encode_with
known_entries = (refl, refl, refl)

abbrev author : Signature
author = record bare_signature {
  person = codes "dan";
  name = codes "Dan Day";
  meaning = Authorship;
  moment = 1300;
  digest = 171 ∷ [];
  seal = 205 ∷ [];
}

pub known_signatures : reply_text (reply.Signed author (Some state.Signed))
    ≡ codes "{\"digest\":\"ab\",\"meaning\":\"authorship\",\"moment\":\"1970-01-01T00:21:40Z\",\"name\":\"Dan Day\",\"seal\":\"cd\",\"state\":\"signed\"}"
unfolding serde_json_on_literals digits encode_with moment_text year_of place_in_year month_of day_of_month hour_of minute_of second_of span_of place_of
known_signatures = refl

-- a reviewer's, an approver's, and one that rejects, with its reason
abbrev reviewer : Signature
reviewer = record bare_signature {
  person = codes "eve";
  name = codes "Eve Ede";
  meaning = Review;
  moment = 1400;
  digest = 171 ∷ [];
  seal = 206 ∷ [];
}

abbrev approver : Signature
approver = record bare_signature {
  person = codes "fay";
  name = codes "Fay Foe";
  meaning = Approval;
  moment = 1500;
  digest = 171 ∷ [];
  seal = 207 ∷ [];
}

abbrev rejecter : Signature
rejecter = record bare_signature {
  person = codes "eve";
  name = codes "Eve Ede";
  meaning = Rejection (codes "wrong \"unit\"");
  moment = 1600;
  digest = 172 ∷ [];
  seal = 208 ∷ [];
}

pub known_later_signatures :
    (reply_text (reply.Signed reviewer (Some state.Reviewed))
    ≡ codes "{\"digest\":\"ab\",\"meaning\":\"review\",\"moment\":\"1970-01-01T00:23:20Z\","
    ++ codes "\"name\":\"Eve Ede\",\"seal\":\"ce\",\"state\":\"reviewed\"}")
    × (reply_text (reply.Signed approver (Some state.Released))
    ≡ codes "{\"digest\":\"ab\",\"meaning\":\"approval\",\"moment\":\"1970-01-01T00:25:00Z\","
    ++ codes "\"name\":\"Fay Foe\",\"seal\":\"cf\",\"state\":\"released\"}")
    × (reply_text (reply.Signed rejecter (Some state.Rejected))
    ≡ codes "{\"digest\":\"ac\",\"meaning\":\"rejection\",\"moment\":\"1970-01-01T00:26:40Z\","
    ++ codes "\"name\":\"Eve Ede\",\"seal\":\"d0\",\"state\":\"rejected\"}")
    × (reply_text (reply.Signed rejecter None)
    ≡ codes "{\"digest\":\"ac\",\"meaning\":\"rejection\",\"moment\":\"1970-01-01T00:26:40Z\","
    ++ codes "\"name\":\"Eve Ede\",\"seal\":\"d0\",\"state\":null}")
unfolding serde_json_on_literals digits encode_with moment_text year_of place_in_year month_of day_of_month hour_of minute_of second_of span_of place_of
known_later_signatures = (refl, refl, refl, refl)

pub known_records :
    (reply_text (reply.RecordRead (record {
      number = 1;
      form = water;
      sample = codes "S1";
      versions = record { version = 1; state = Some state.Released; digest = 171 ∷ [] }
          ∷ record { version = 2; state = Some state.Open; digest = 205 ∷ [] } ∷ [];
    }))
    ≡ codes "{\"current\":2,\"form\":\"water\",\"form_version\":1,\"record\":1,\"sample\":\"S1\",\"versions\":["
    ++ codes "{\"digest\":\"ab\",\"state\":\"released\",\"version\":1},{\"digest\":\"cd\",\"state\":\"open\",\"version\":2}]}")
    × (reply_text (reply.Records (record {
      number = 1;
      form = codes "water";
      sample = codes "S1";
      current = Some 2;
      state = Some state.Open;
    } ∷ []))
    ≡ codes "{\"records\":[{\"current\":2,\"form\":\"water\",\"record\":1,\"sample\":\"S1\",\"state\":\"open\"}]}")
    × (reply_text (reply.Records []) ≡ codes "{\"records\":[]}")
unfolding serde_json_on_literals digits encode_with
known_records = (refl, refl, refl)

-- versions that were reviewed and rejected; null stands in place of what is not there
pub known_states :
    (reply_text (reply.RecordRead (record {
      number = 2;
      form = air;
      sample = codes "S2";
      versions = record { version = 1; state = Some state.Rejected; digest = 171 ∷ [] }
          ∷ record { version = 2; state = Some state.Reviewed; digest = 205 ∷ [] }
          ∷ record { version = 3; state = None; digest = 206 ∷ [] } ∷ [];
    }))
    ≡ codes "{\"current\":3,\"form\":\"air\",\"form_version\":3,\"record\":2,\"sample\":\"S2\","
    ++ codes "\"versions\":[{\"digest\":\"ab\",\"state\":\"rejected\",\"version\":1},"
    ++ codes "{\"digest\":\"cd\",\"state\":\"reviewed\",\"version\":2},{\"digest\":\"ce\","
    ++ codes "\"state\":null,\"version\":3}]}")
    × (reply_text (reply.RecordRead (record {
      number = 2;
      form = air;
      sample = codes "S2";
      versions = [];
    }))
    ≡ codes "{\"current\":null,\"form\":\"air\",\"form_version\":3,\"record\":2,\"sample\":\"S2\","
    ++ codes "\"versions\":[]}")
    × (reply_text (reply.Records (record {
      number = 2;
      form = codes "air";
      sample = codes "S2";
      current = None;
      state = None;
    } ∷ []))
    ≡ codes "{\"records\":[{\"current\":null,\"form\":\"air\",\"record\":2,\"sample\":\"S2\","
    ++ codes "\"state\":null}]}")
unfolding serde_json_on_literals digits encode_with
known_states = (refl, refl, refl)

abbrev lead : EntryRow
lead = record bare_entry {
  key = codes "lead";
  value = codes "7.50";
  unit = codes "mg/L";
  person = codes "dan";
  moment = 1100;
}

pub known_versions : reply_text (reply.VersionRead (record {
  number = 1;
  form = water;
  sample = codes "S1";
  version = record bare_version {
    format = format.Two false;
    opener = codes "dan";
    opened = 1000;
    rows = lead ∷ [];
    signatures = author ∷ [];
  };
  state = Some state.Signed;
  digest = 171 ∷ [];
  altered = codes "lead" ∷ [];
  values = lead ∷ [];
}))
    ≡ codes "{\"altered\":[\"lead\"],\"approval\":false,\"digest\":\"ab\",\"form\":\"water\",\"form_version\":1,\"format\":2,"
    ++ codes "\"moment\":\"1970-01-01T00:16:40Z\",\"opener\":\"dan\",\"reason\":\"\",\"record\":1,\"rows\":[{\"key\":\"lead\","
    ++ codes "\"moment\":\"1970-01-01T00:18:20Z\",\"person\":\"dan\",\"reason\":\"\",\"unit\":\"mg/L\",\"value\":\"7.50\"}],"
    ++ codes "\"sample\":\"S1\",\"signatures\":[{\"meaning\":\"authorship\",\"moment\":\"1970-01-01T00:21:40Z\",\"name\":\"Dan Day\","
    ++ codes "\"person\":\"dan\",\"reason\":\"\",\"seal\":\"cd\"}],\"state\":\"signed\",\"values\":[{\"key\":\"lead\","
    ++ codes "\"unit\":\"mg/L\",\"value\":\"7.50\"}],\"version\":1}"
unfolding serde_json_on_literals digits encode_with moment_text year_of place_in_year month_of day_of_month hour_of minute_of second_of span_of place_of
known_versions = refl

-- an amendment, with its reason, in the older format, of a record whose form wants an approval
abbrev dust : EntryRow
dust = record bare_entry {
  key = codes "dust";
  value = codes "0.5";
  unit = codes "mg/m3";
  person = codes "dan";
  moment = 1550;
  reason = Some (codes "typing error");
}

pub known_amendments : reply_text (reply.VersionRead (record {
  number = 2;
  form = air;
  sample = codes "S2";
  version = record bare_version {
    format = format.One;
    origin = record {
      number = 2;
      amendment = Some (record { previous = 171 ∷ []; reason = codes "typing error" });
    };
    opener = codes "dan";
    opened = 1550;
    rows = dust ∷ [];
    signatures = reviewer ∷ approver ∷ rejecter ∷ [];
  };
  state = Some state.Rejected;
  digest = 172 ∷ [];
  altered = codes "dust" ∷ [];
  values = dust ∷ [];
}))
    ≡ codes "{\"altered\":[\"dust\"],\"approval\":true,\"digest\":\"ac\",\"form\":\"air\","
    ++ codes "\"form_version\":3,\"format\":1,\"moment\":\"1970-01-01T00:25:50Z\",\"opener\":\"dan\","
    ++ codes "\"reason\":\"typing error\",\"record\":2,\"rows\":[{\"key\":\"dust\","
    ++ codes "\"moment\":\"1970-01-01T00:25:50Z\",\"person\":\"dan\",\"reason\":\"typing error\","
    ++ codes "\"unit\":\"mg/m3\",\"value\":\"0.5\"}],\"sample\":\"S2\","
    ++ codes "\"signatures\":[{\"meaning\":\"review\",\"moment\":\"1970-01-01T00:23:20Z\","
    ++ codes "\"name\":\"Eve Ede\",\"person\":\"eve\",\"reason\":\"\",\"seal\":\"ce\"},"
    ++ codes "{\"meaning\":\"approval\",\"moment\":\"1970-01-01T00:25:00Z\",\"name\":\"Fay Foe\","
    ++ codes "\"person\":\"fay\",\"reason\":\"\",\"seal\":\"cf\"},{\"meaning\":\"rejection\","
    ++ codes "\"moment\":\"1970-01-01T00:26:40Z\",\"name\":\"Eve Ede\",\"person\":\"eve\","
    ++ codes "\"reason\":\"wrong \\\"unit\\\"\",\"seal\":\"d0\"}],\"state\":\"rejected\","
    ++ codes "\"values\":[{\"key\":\"dust\",\"unit\":\"mg/m3\",\"value\":\"0.5\"}],\"version\":2}"
unfolding serde_json_on_literals digits encode_with moment_text year_of place_in_year month_of day_of_month hour_of minute_of second_of span_of place_of
known_amendments = refl

-- a row of somebody
pub known_deeds : reply_text (reply.Trail (record bare_told {
  number = 27;
  moment = 1550;
  person = Some (codes "dan");
  action = Amend;
  subject = codes "2/2";
} ∷ []))
    ≡ codes "{\"trail\":[{\"action\":\"amend\",\"moment\":\"1970-01-01T00:25:50Z\",\"number\":27,"
    ++ codes "\"person\":\"dan\",\"subject\":\"2/2\"}]}"
unfolding serde_json_on_literals digits moment_text year_of place_in_year month_of day_of_month hour_of minute_of second_of span_of place_of
known_deeds = refl

pub known_trails : reply_text (reply.Trail (record bare_told { number = 1; action = Found; subject = codes "aqua" } ∷ []))
    ≡ codes "{\"trail\":[{\"action\":\"found\",\"moment\":\"1970-01-01T00:00:00Z\",\"number\":1,\"person\":\"\",\"subject\":\"aqua\"}]}"
unfolding serde_json_on_literals digits moment_text year_of place_in_year month_of day_of_month hour_of minute_of second_of span_of place_of
known_trails = refl

-- the rows of a copy of no records
abbrev no_records : List (List (List ℕ))
no_records =
    (codes "kind" ∷ codes "lab" ∷ codes "record" ∷ codes "version" ∷ codes "key" ∷ codes "value" ∷ codes "unit"
    ∷ codes "person" ∷ codes "name" ∷ codes "moment" ∷ codes "reason" ∷ codes "digest" ∷ codes "seal" ∷ [])
    ∷ (codes "copy" ∷ codes "aqua" ∷ codes "3" ∷ codes "5" ∷ codes "2" ∷ [] ∷ [] ∷ codes "hal" ∷ codes "Aqua Lab"
    ∷ codes "1970-01-01T01:23:20Z" ∷ [] ∷ [] ∷ [] ∷ [])
    ∷ (codes "end" ∷ codes "aqua" ∷ codes "0" ∷ codes "0" ∷ codes "0" ∷ codes "0" ∷ [] ∷ [] ∷ [] ∷ [] ∷ [] ∷ [] ∷ []
    ∷ [])
    ∷ []

-- a line a row, and a field in quotes where it has a comma, a quote or a line feed
pub known_copies :
    (reply_text (reply.Copied no_records)
    ≡ codes "kind,lab,record,version,key,value,unit,person,name,moment,reason,digest,seal\n"
    ++ codes "copy,aqua,3,5,2,,,hal,Aqua Lab,1970-01-01T01:23:20Z,,,\nend,aqua,0,0,0,0,,,,,,,\n")
    × (reply_text (reply.Copied ((codes "record" ∷ codes "S 1, \"a\"\nb" ∷ []) ∷ [])) ≡ codes "record,\"S 1, \"\"a\"\"\nb\"\n")
    × (reply_text (reply.Copied []) ≡ [])
unfolding fields_text is_blank escaped
known_copies = (refl, refl, refl)
