-- For which tables a file of an older schema stands: those whose rows it shows, asked the fifteen
-- questions by which it is read, however its own tables are written (21 CFR 11.10(c), "accurate and
-- ready retrieval"; ISO/IEC 17025:2017, 8.4.2). What a question shows of a file is what SQL means by
-- it there; of a question that SQL doesn't understand there, nothing is said.
use Rattle.std.specs.Prelude.{◌≡◌, ℕ, ℤ, List, [], ◌∷◌}
use Rattle.sqlite_value.specs.declared.value.Value.TheVariants.{Int, Text}
use Rattle.sqlite_trees.specs.Tree.{Trees}
use Rattle.sqlite.specs.Effect.{Database}
use Rattle.lab_store_tables.specs.Rows.{Tables}
use Rattle.lab_store_tables.specs.Held.{AreRising}
use Rattle.lab_move_tables.specs.declared.older.Older.{Older}
use Rattle.lab_move_tables.specs.OldRows.{old_tables}
use Rattle.lab_move_tables.specs.Questions.{codes_text, lab_text, person_text, owner_text, session_text, form_text, field_text, choice_text, filed_text, version_text, entry_text, entry_place_text, signature_text, signature_place_text, told_text}
use Rattle.lab_move_tables.specs.Showing.{Shows, ShowsSaid}
use Rattle.lab_move_tables.specs.Shown.{codes_shown, labs_shown, persons_shown, owners_shown, sessions_shown, forms_shown, fields_shown, choices_shown, records_shown, versions_shown, entries_shown, entry_places_shown, signatures_shown, signature_places_shown, trail_shown}

-- in them is filled in what the schema didn't know: some rows of it stand for them
abbrev pub AreLifted : Older → Tables → Type 0
AreLifted older t = (rows : Trees) × (old_tables older rows ≡ t)

-- as a file of this older schema
pub record StandsBy (older : Older) (db : Database) (t : Tables) : Type 0 where
  pub lifted : AreLifted older t
  pub rising : AreRising t
  -- laboratories
  pub labs : Shows db codes_text [] (codes_shown t)
  pub lab : (code : List ℕ) → Shows db lab_text (Text code ∷ []) (labs_shown t code)
  -- persons, sessions and the trail of the laboratory with the id
  pub persons : (lab : ℤ) → Shows db (person_text older) (Int lab ∷ []) (persons_shown older t lab)
  pub owner : (id : ℤ) → Shows db owner_text (Int id ∷ []) (owners_shown t id)
  pub sessions : (lab : ℤ) → Shows db session_text (Int lab ∷ []) (sessions_shown t lab)
  pub trail : (lab : ℤ) → Shows db told_text (Int lab ∷ []) (trail_shown t lab)
  -- its forms, and what belongs to the row with the id
  pub forms : (lab : ℤ) → Shows db (form_text older) (Int lab ∷ []) (forms_shown older t lab)
  pub fields : (form : ℤ) → Shows db field_text (Int form ∷ []) (fields_shown t form)
  pub choices : (field : ℤ) → Shows db choice_text (Int field ∷ []) (choices_shown t field)
  -- its records, and what belongs to the row with the id
  pub records : (lab : ℤ) → Shows db filed_text (Int lab ∷ []) (records_shown t lab)
  pub versions : (kept : ℤ)
      → ShowsSaid db (version_text older) (Int kept ∷ []) 4 (versions_shown older t kept)
  pub entries : (version : ℤ)
      → ShowsSaid db entry_text (Int version ∷ []) 5 (entries_shown t version)
  pub entry_places : (version : ℤ)
      → Shows db entry_place_text (Int version ∷ []) (entry_places_shown t version)
  pub signatures : (version : ℤ)
      → ShowsSaid db signature_text (Int version ∷ []) 3 (signatures_shown t version)
  pub signature_places : (version : ℤ)
      → Shows db signature_place_text (Int version ∷ []) (signature_places_shown t version)

-- as a file of some older schema
abbrev pub StandsBySome : Database → Tables → Type 0
StandsBySome db t = (older : Older) × StandsBy older db t
