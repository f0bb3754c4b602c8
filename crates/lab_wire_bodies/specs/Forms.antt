-- The body of a form: its key, its fields, and whether it wants a third person's approval. A
-- field's members are those of every field and those of its kind.
use Rattle.std.specs.Prelude.{ℕ, List, [], ◌∷◌, ◌++◌, ◌&&◌, Bool, false, bytes_eq, find, codes, Option, None, option_and_then, Result, Ok, Err}
use Rattle.std.specs.List.{list_all}
use Rattle.std.specs.Option.{option_map_or, unwrap_or}
use Rattle.serde_json.specs.Data.{Data}
use Rattle.serde_json.specs.Find.{as_str, as_bool}
use Rattle.lab_forms_texts.specs.Names.{is_key, is_name, is_unit}
use Rattle.lab_forms.specs.declared.forms.Field.{Field}
use Rattle.lab_forms.specs.declared.kinds.Kind.{Kind}
use Rattle.lab_forms.specs.declared.kinds.Kind.TheVariants as kind
use Rattle.lab_forms.specs.declared.faults.FormRefusal.{FormRefusal}
use Rattle.lab_forms.specs.Kinds.{kind_word}
use Rattle.lab_forms.specs.Forms.{FormSheet, form_made}
use Rattle.lab_records_machine.specs.declared.commands.Command.{Command}
use Rattle.lab_records_machine.specs.declared.commands.Command.TheVariants.{In}
use Rattle.lab_records_machine.specs.declared.commands.SessionCommand.TheVariants.{OnRecord}
use Rattle.lab_records_machine.specs.declared.commands.RecordCommand.TheVariants.{MakeForm}
use Rattle.lab_wire_members.specs.declared.refusals.BodyRefusal.TheVariants.{Form}
use Rattle.lab_wire_members.specs.declared.members.MemberKind.TheVariants.{Text, Flag, Whole, Texts, List as AnyList}
use Rattle.lab_wire_bodies.specs.declared.forms.Sort.{Sort}
use Rattle.lab_wire_bodies.specs.declared.forms.Sort.TheVariants.{Number, Text as TextSort, Choice, Date, YesNo}
use Rattle.lab_wire_members.specs.Members.{MemberRule, must, may, has_members, at, whole_in, elements_at}
use Rattle.lab_wire_members.specs.Readings.{Reading, then_read, wanted, admitted, named_at, shaped}
use Rattle.lab_wire_members.specs.Parts.{each_read}

-- ---- members

abbrev pub form_members : List MemberRule
form_members =
    must (codes "form") Text ∷ must (codes "fields") AnyList ∷ may (codes "approval") Flag ∷ []

-- a kind of a field with nothing beside it: what else it says stands at names of its own
abbrev pub kind_of : Sort → Kind
kind_of Number = kind.Number [] 0 None None
kind_of TextSort = kind.Text 0
kind_of Choice = kind.Choice []
kind_of Date = kind.Date
kind_of YesNo = kind.YesNo

-- its word
abbrev pub sort_word : Sort → List ℕ
sort_word sort = kind_word (kind_of sort)

abbrev pub all_sorts : List Sort
all_sorts = Number ∷ TextSort ∷ Choice ∷ Date ∷ YesNo ∷ []

-- the kind that a word names
abbrev pub names_sort : List ℕ → Sort → Bool
names_sort word sort = bytes_eq (sort_word sort) word

abbrev pub sort_of : List ℕ → Option Sort
sort_of word = find (names_sort word) all_sorts

abbrev pub sort_in : Data → Option Sort
sort_in d = option_and_then sort_of (at as_str (codes "kind") d)

-- what every field has
abbrev pub members_of_every_field : List MemberRule
members_of_every_field =
    must (codes "key") Text ∷ must (codes "label") Text ∷ must (codes "required") Flag
    ∷ must (codes "kind") Text ∷ []

-- what a field of a kind has beside that
abbrev pub sort_members : Sort → List MemberRule
sort_members Number =
    must (codes "unit") Text ∷ must (codes "decimals") Whole ∷ may (codes "min") Text
    ∷ may (codes "max") Text ∷ []
sort_members TextSort = must (codes "size") Whole ∷ []
sort_members Choice = must (codes "choices") Texts ∷ []
sort_members Date = []
sort_members YesNo = []

abbrev pub field_members : Sort → List MemberRule
field_members sort = members_of_every_field ++ sort_members sort

-- an element of the fields is of a kind, and has that kind's members
unfoldable pub is_field_body : Data → Bool
is_field_body d = option_map_or (λ sort. has_members (field_members sort) d) (sort_in d) false

unfoldable pub is_form_body : Data → Bool
is_form_body d =
    has_members form_members d
    && option_map_or (list_all is_field_body) (elements_at (codes "fields") d) false

-- ---- readings

-- the names of a choice, in order
abbrev pub choice_read : Data → Reading (List ℕ)
choice_read d = then_read (wanted (as_str d)) (admitted is_name)

abbrev pub number_read : Data → Reading Kind
number_read d =
    then_read (named_at is_unit (codes "unit") d) (λ unit.
    then_read (wanted (at whole_in (codes "decimals") d)) (λ decimals.
    Ok (kind.Number unit decimals (at as_str (codes "min") d) (at as_str (codes "max") d))))

abbrev pub text_read : Data → Reading Kind
text_read d =
    then_read (wanted (at whole_in (codes "size") d)) (λ size. Ok (kind.Text size))

abbrev pub choices_read : Data → Reading Kind
choices_read d =
    then_read (wanted (elements_at (codes "choices") d)) (λ elements.
    then_read (each_read choice_read elements) (λ choices. Ok (kind.Choice choices)))

-- what a field takes, by its kind
abbrev pub kind_read : Sort → Data → Reading Kind
kind_read Number d = number_read d
kind_read TextSort d = text_read d
kind_read Choice d = choices_read d
kind_read Date d = Ok kind.Date
kind_read YesNo d = Ok kind.YesNo

-- a field
unfoldable pub field_read : Data → Reading Field
field_read d =
    then_read (named_at is_key (codes "key") d) (λ key.
    then_read (named_at is_name (codes "label") d) (λ label.
    then_read (wanted (at as_bool (codes "required") d)) (λ required.
    then_read (wanted (sort_in d)) (λ sort.
    then_read (kind_read sort d) (λ kind.
    Ok (record { key = key; label = label; required = required; kind = kind }))))))

-- the fields make a form, or the first thing that is wrong with them is told
abbrev pub form_reading : Result FormSheet FormRefusal → Reading FormSheet
form_reading (Err refusal) = Err (Form refusal)
form_reading (Ok form) = Ok form

unfoldable pub form_read : Data → Reading Command
form_read d =
    then_read (named_at is_key (codes "form") d) (λ code.
    then_read (wanted (elements_at (codes "fields") d)) (λ elements.
    then_read (each_read field_read elements) (λ fields.
    then_read (form_reading (form_made fields (unwrap_or (at as_bool (codes "approval") d) false)))
    (λ form. Ok (In (OnRecord (MakeForm code form)))))))

unfoldable pub form_named : Data → Reading Command
form_named d = shaped (is_form_body d) (form_read d)
