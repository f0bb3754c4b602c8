-- Bodies as the documents of the interface write them, so that a wrong rule in the definitions does not check.
use Rattle.std.proofs.Common.{◌≡◌, refl, ℕ, List, [], ◌∷◌, codes, Some, None, Ok, Err, true}
use Rattle.std.specs.Str.{is_utf8, chars}
use Rattle.hex.specs.Hex.{decode_pairs}
use Rattle.serde_json.specs.Data.{Data, null, boolean, number, unsigned, string, array, object, Items, no_items, item, Members, no_members, member}
use Rattle.lab_forms_texts.specs.Names.{is_person_code, is_key, is_name, is_note, is_unit}
use lib.Utf8.{encode}
use Rattle.lab_seal_hashes.specs.Digits.{bytes_of_digits}
use Rattle.lab_forms.specs.Forms.{form_refusal}
use Rattle.lab_records_machine.specs.declared.commands.Command.TheVariants.{Open, In}
use Rattle.lab_records_machine.specs.declared.commands.SessionCommand.TheVariants.{OnAccount, OnRecord}
use Rattle.lab_records_machine.specs.declared.commands.AccountCommand.TheVariants.{Close, AskIssue, ConfirmIssue, Retire, Unlock}
use Rattle.lab_records_machine.specs.declared.commands.RecordCommand.TheVariants.{MakeForm, Sign}
use Rattle.lab_wire_members.specs.declared.refusals.BodyRefusal.TheVariants.{BadBody, BadName, Form}
use Rattle.lab_forms.specs.declared.faults.FormRefusal.TheVariants.{NoFields}
use Rattle.lab_forms.specs.declared.kinds.Kind.TheVariants.{Number, Choice, YesNo}
use Rattle.lab_records_rules.specs.declared.outcomes.Signing.TheVariants.{Rejection}
use Rattle.lab_records_machine.specs.declared.births.Founder.{Founder}
use Rattle.lab_wire_members.specs.Members.{has_members}
use Rattle.lab_wire_bodies.specs.Accounts.{opening_named, closing_named, person_named, issue_named, confirmation_named, retirement_named, unlocking_named}
use Rattle.lab_wire_bodies.specs.Signatures.{is_signature_body, signature_read, signature_named}
use Rattle.lab_wire_bodies.specs.Forms.{is_field_body, is_form_body, field_read, form_read, form_named}
use Rattle.lab_wire_bodies.specs.Foundings.{is_founding_body, founder_read, founding_named}
use Rattle.lab_wire_bodies.specs.declared.bodies.Post.TheVariants as post
use Rattle.lab_wire_bodies.specs.Bodies.{post_named}

-- a text
abbrev says : List ℕ → Data
says text = string text

abbrev ann : Data
ann = object (member (codes "code") (says (codes "ann")) (member (codes "password") (says (codes "p")) no_members))

pub known_opening : (opening_named ann ≡ Ok (Open (codes "ann") (codes "p")))
    × (opening_named (object (member (codes "code") (says (codes "Ann")) (member (codes "password") (says []) no_members))) ≡ Err BadName)
    × (opening_named (object (member (codes "code") (says (codes "Ann")) no_members)) ≡ Err BadBody)
    × (opening_named (object (member (codes "code") (says (codes "ann")) (member (codes "password") null no_members))) ≡ Err BadBody)
    × (opening_named (object (member (codes "code") (says (codes "ann")) (member (codes "note") (says []) (member (codes "password") (says []) no_members)))) ≡ Err BadBody)
unfolding opening_named has_members is_person_code
known_opening = (refl, refl, refl, refl, refl)

pub known_closing : (closing_named (object no_members) ≡ Ok (In (OnAccount Close))) × (closing_named null ≡ Err BadBody) × (closing_named ann ≡ Err BadBody)
unfolding closing_named has_members
known_closing = (refl, refl, refl)

-- four commands are told apart by what is posted
abbrev eve : Data
eve = object (member (codes "code") (says (codes "eve")) no_members)

pub known_persons : (post_named post.AskIssue eve ≡ Ok (In (OnAccount (AskIssue (codes "eve")))))
    × (post_named post.ConfirmIssue eve ≡ Ok (In (OnAccount (ConfirmIssue (codes "eve")))))
    × (post_named post.Retire eve ≡ Ok (In (OnAccount (Retire (codes "eve")))))
    × (post_named post.Unlock eve ≡ Ok (In (OnAccount (Unlock (codes "eve")))))
unfolding issue_named confirmation_named retirement_named unlocking_named person_named has_members is_person_code
known_persons = (refl, refl, refl, refl)

pub known_issue : (issue_named (object (member (codes "code") (says (codes "ann")) no_members)) ≡ Ok (In (OnAccount (AskIssue (codes "ann")))))
    × (issue_named ann ≡ Err BadBody)
unfolding issue_named person_named has_members is_person_code
known_issue = (refl, refl)

-- a rejection, with its reason
abbrev signs : List ℕ → Data
signs meaning = object (
    member (codes "digest") (says (codes "00112233445566778899aabbccddeeff00112233445566778899aabbccddeeff"))
    (member (codes "meaning") (says meaning) (member (codes "password") (says []) (member (codes "reason") (says (codes "blurred"))
    (member (codes "record") (number (unsigned 1)) (member (codes "version") (number (unsigned 1)) no_members))))))

pub known_signature : signature_named (signs (codes "rejection"))
    ≡ Ok (In (OnRecord (Sign 1 1 (0 ∷ 17 ∷ 34 ∷ 51 ∷ 68 ∷ 85 ∷ 102 ∷ 119 ∷ 136 ∷ 153 ∷ 170 ∷ 187 ∷ 204 ∷ 221 ∷ 238 ∷ 255
    ∷ 0 ∷ 17 ∷ 34 ∷ 51 ∷ 68 ∷ 85 ∷ 102 ∷ 119 ∷ 136 ∷ 153 ∷ 170 ∷ 187 ∷ 204 ∷ 221 ∷ 238 ∷ 255 ∷ []) (Rejection (Some (codes "blurred"))) [] None)))
unfolding signature_named is_signature_body signature_read has_members bytes_of_digits decode_pairs is_note is_utf8 chars encode
known_signature = refl

-- a form with a field of each of three kinds
abbrev field : List ℕ → List ℕ → Members → Data
field key kind others =
    object (member (codes "key") (says key) (member (codes "kind") (says kind) (member (codes "label") (says key) (member (codes "required") (boolean true) others))))

abbrev forms : Items → Data
forms fields = object (member (codes "approval") (boolean true) (member (codes "fields") (array fields) (member (codes "form") (says (codes "w")) no_members)))

pub known_forms : (form_named (forms
    (item (field (codes "a") (codes "number") (member (codes "decimals") (number (unsigned 2)) (member (codes "unit") (says (codes "mg/L")) no_members)))
    (item (field (codes "b") (codes "choice") (member (codes "choices") (array (item (says (codes "clear")) no_items)) no_members))
    (item (field (codes "c") (codes "yesno") no_members) no_items))))
    ≡ Ok (In (OnRecord (MakeForm (codes "w") (record {
      approval = true;
      fields =
          record { key = codes "a"; label = codes "a"; required = true; kind = Number (codes "mg/L") 2 None None }
          ∷ record { key = codes "b"; label = codes "b"; required = true; kind = Choice (codes "clear" ∷ []) }
          ∷ record { key = codes "c"; label = codes "c"; required = true; kind = YesNo } ∷ [];
    })))))
    × (form_named (forms (item (field (codes "c") (codes "yes") no_members) no_items)) ≡ Err BadBody)
    × (form_named (forms no_items) ≡ Err (Form NoFields))
unfolding form_named is_form_body is_field_body form_read field_read form_refusal has_members is_key is_name is_unit is_utf8 chars encode
known_forms = (refl, refl, refl)

-- three founders, no more and no fewer
abbrev founder : List ℕ → Data
founder code = object (member (codes "code") (says code) (member (codes "name") (says code) (member (codes "password") (says []) no_members)))

abbrev founds : Items → Data
founds founders = object (member (codes "founders") (array founders) (member (codes "name") (says (codes "Aqua Lab")) no_members))

abbrev who : List ℕ → Founder
who code = record { code = code; name = code; password = [] }

pub known_foundings : (founding_named (founds (item (founder (codes "ann")) (item (founder (codes "bob")) (item (founder (codes "cid")) no_items))))
    ≡ Ok (record { name = codes "Aqua Lab"; first = who (codes "ann"); second = who (codes "bob"); third = who (codes "cid") }))
    × (founding_named (founds (item (founder (codes "ann")) (item (founder (codes "bob")) no_items))) ≡ Err BadBody)
    × (founding_named (founds (item (founder (codes "ann")) (item (founder (codes "bob")) (item (founder (codes "cid")) (item (founder (codes "dan")) no_items))))) ≡ Err BadBody)
unfolding founding_named is_founding_body founder_read has_members is_person_code is_name is_utf8 chars encode
known_foundings = (refl, refl, refl)
