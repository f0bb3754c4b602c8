-- Values of the definitions in `specs/`, computed: the lines that are told of copies.
use Rattle.std.proofs.Common.{◌≡◌, refl, ap, codes, decimal, lit<, ◌∙◌, ◌++◌, List, ℕ}
use Rattle.std.proofs.lemmas.Fmt.{decimal-digits_of, decimal_digit}
use Rattle.lab_copy_rows.specs.declared.flaws.Flaw.TheVariants.{Seal, NoEnd, OnePerson}
use Rattle.lab_program_check.specs.declared.faults.StopFault.TheVariants.{Read}
use Rattle.lab_program_check.specs.Verdicts.{good_line, bad_line, stop_line}

zero : decimal 0 ≡ codes "0"
zero = decimal_digit 0 (lit< tt) ∙ refl

one : decimal 1 ≡ codes "1"
one = decimal-digits_of 1 (lit< tt) (lit< tt) ∙ refl

two : decimal 2 ≡ codes "2"
two = decimal-digits_of 2 (lit< tt) (lit< tt) ∙ refl

four : decimal 4 ≡ codes "4"
four = decimal-digits_of 4 (lit< tt) (lit< tt) ∙ refl

seven : decimal 7 ≡ codes "7"
seven = decimal-digits_of 7 (lit< tt) (lit< tt) ∙ refl

-- a copy of one record with one version, one entry and two signatures
a_sound_copy : good_line (record { records = 1; versions = 1; entries = 1; signatures = 2 }) ≡ codes "good 1 1 1 2\n"
a_sound_copy =
    (λ i. codes "good " ++ one i ++ codes " " ++ one i ++ codes " " ++ one i ++ codes " " ++ two i ++ codes "\n")

-- a copy of no record
a_copy_of_nothing : good_line (record { records = 0; versions = 0; entries = 0; signatures = 0 }) ≡ codes "good 0 0 0 0\n"
a_copy_of_nothing =
    (λ i. codes "good " ++ zero i ++ codes " " ++ zero i ++ codes " " ++ zero i ++ codes " " ++ zero i ++ codes "\n")

-- one letter of a signer's name was changed in row 7
a_changed_name : bad_line (Seal 7) ≡ codes "bad seal 7\n"
a_changed_name = ap (λ (digits : List ℕ). codes "bad seal " ++ digits ++ codes "\n") seven

-- the signatures of the version in row 4 were exchanged
signatures_exchanged : bad_line (OnePerson 4) ≡ codes "bad one_person 4\n"
signatures_exchanged = ap (λ (digits : List ℕ). codes "bad one_person " ++ digits ++ codes "\n") four

-- the end row was cut off
no_end_row : bad_line NoEnd ≡ codes "bad no_end\n"
no_end_row = refl

an_input_that_fails : stop_line Read ≡ codes "labdesk: read_fault\n"
an_input_that_fails = refl
