-- Values of the definitions, computed.
use Rattle.std.proofs.Common.{◌≡◌, decimal, codes, lit<, ◌∙◌, refl, ◌++◌, ap, List, ℕ}
use Rattle.std.proofs.lemmas.Fmt.{decimal-digits_of}
use Rattle.lab_forms_texts.specs.Faults.{memory_entry}
use Rattle.lab_records_keeper.specs.Faults.{storage_entry}
use Rattle.lab_desk_foundings.specs.Foundings.{memory_line, storage_line, founded_line}

ninety : decimal 90 ≡ codes "90"
ninety = decimal-digits_of 90 (lit< tt) (lit< tt) ∙ refl

-- the line for lack of memory
pub memory_line_text : memory_line ≡ codes "refused 90 memory\n"
memory_line_text = ap (λ (digits : List ℕ). codes "refused " ++ digits ++ codes " "
    ++ memory_entry.word ++ codes "\n") ninety

sixty_three : decimal 63 ≡ codes "63"
sixty_three = decimal-digits_of 63 (lit< tt) (lit< tt) ∙ refl

-- the line for the store's refusal
storage_line_text : storage_line ≡ codes "refused 63 storage\n"
storage_line_text = ap (λ (digits : List ℕ). codes "refused " ++ digits ++ codes " "
    ++ storage_entry.word ++ codes "\n") sixty_three

-- the line of a founding
a_founded_line : founded_line (codes "aqua") ≡ codes "founded aqua\n"
a_founded_line = refl
