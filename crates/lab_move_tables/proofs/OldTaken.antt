-- A file whose schema is, text for text, an older one takes each of the fifteen questions.
use Rattle.std.proofs.Common.{◌≡◌, ◌≤◌, inl, inr, ℕ, ℤ, List, [], ◌∷◌, length, true, None, Ok, Err, refl, ap, subst, ◌∙◌, lit≤}
use Rattle.sqlite_value.specs.declared.value.Value.TheVariants.{Int, Text}
use Rattle.sqlite_value.specs.Order.{Row}
use Rattle.sqlite_schema.specs.declared.command.Command.TheVariants.{Select}
use Rattle.sqlite_schema.specs.declared.schema.Schema.{Schema}
use Rattle.sqlite_resolve.specs.declared.compiled.Compiled.{Compiled}
use Rattle.sqlite_resolve.specs.Lowering.{Checked}
use Rattle.sqlite_sql.specs.Query.{Query, has_no_fold}
use Rattle.sqlite_sql.specs.Program.{overlay}
use Rattle.sqlite_sql.proofs.QueryLemmas.{no_fold_overflows}
use Rattle.sqlite_tied.specs.Compute.{everything}
use Rattle.sqlite_typing.specs.Types.{accepts_program}
use Rattle.sqlite.specs.declared.error.Error.{Error}
use Rattle.sqlite.specs.Effect.{Database, RefusesQuery}
use Rattle.sqlite.specs.Listing.{understood, reads_listing, IsSourceOf}
use Rattle.sqlite.proofs.Callers.{IsPlain, command_of}
use Rattle.lab_move_tables.specs.Answering.{IsTaken, TakesAll}
use Rattle.lab_move_tables.specs.OldRows.{IsOldFile}
use Rattle.lab_move_tables.specs.OldSchema.{old_schema}
use Rattle.lab_move_tables.specs.Questions.{codes_text, lab_text, person_text, owner_text, session_text, form_text, field_text, choice_text, filed_text, version_text, entry_text, entry_place_text, signature_text, signature_place_text, told_text}
use Rattle.lab_move_tables.specs.declared.older.Older.{Older}
use Rattle.lab_move_tables.specs.declared.older.Older.TheVariants.{Two}
use Rattle.lab_move_tables.proofs.OldTexts.{MeansIn, codes_means, lab_means, person_means, owner_means, session_means, form_means, field_means, choice_means, filed_means, version_means, entry_means, entry_place_means, signature_means, signature_place_means, told_means}

-- one statement, of so many parameters
abbrev pub IsOne : List ℕ → ℕ → Checked Compiled → Type 0
IsOne sql count (Ok c) = (length sql ≤ c.tail) × (count ≡ length c.names)
IsOne sql count (Err e) = ⊥

module _ {schema : Schema} {sql : List ℕ} {query : Query} {names : List (List ℕ)} (db : Database) (same : db.schema ≡ schema) (means : MeansIn schema sql query names) (params : Row)
    (one : IsOne sql (length params) (understood schema sql)) (typed : accepts_program schema [] query params ≡ true) (alone : query.group ≡ None) (unfolded : has_no_fold query.from ≡ true) where
  refused : (source : Database) (e : Error) → source.schema ≡ schema → ¬ RefusesQuery None source (record { lets = []; body = query }) params e
  refused source e has (inl mismatch) = absurd (let wrong = rw (has, typed) at mismatch.1 in cc)
  refused source e has (inr (inl over)) = elim over.1 [ inl group ↦ absurd (rw alone at group) | inr fold ↦ no_fold_overflows (overlay source.trees []) query.from (params ∷ []) unfolded fold ]
  refused source e has (inr (inr limit)) = absurd (let wrong = limit.1 in cc)

  pub taken_so : IsTaken db sql params
  taken_so = go (understood schema sql) refl one means.command means.plain
    where
      go : (r : Checked Compiled) → understood schema sql ≡ r → IsOne sql (length params) r → command_of r ≡ Select (record { lets = []; body = query }) names → IsPlain r → IsTaken db sql params
      go (Ok c) is whole command plain = record {
        read = c;
        is = ap (λ s. understood s sql) same ∙ is;
        whole = whole.0;
        given = whole.1;
        timeless = plain.1;
        query = query;
        names = names;
        selects = command;
        accepted = λ source from e.
            let db_is : source ≡ db = subst (λ b. IsSourceOf b db source) (ap (λ s. reads_listing s sql) same ∙ means.unlisted) from in
            refused source e (ap (λ (d : Database). d.schema) db_is ∙ same);
      }
      go (Err e) is whole command plain = absurd whole

labs_taken : (db : Database) → db.schema ≡ old_schema → IsTaken db codes_text []
unfolding understood everything
labs_taken db same = taken_so db same (codes_means Two) [] (lit≤ tt, refl) refl refl refl

lab_taken : (db : Database) → db.schema ≡ old_schema → (code : List ℕ) → IsTaken db lab_text (Text code ∷ [])
unfolding understood everything
lab_taken db same code = taken_so db same (lab_means Two) (Text code ∷ []) (lit≤ tt, refl) refl refl refl

persons_taken : (db : Database) → db.schema ≡ old_schema → (lab : ℤ) → IsTaken db (person_text Two) (Int lab ∷ [])
unfolding understood everything
persons_taken db same lab = taken_so db same (person_means Two) (Int lab ∷ []) (lit≤ tt, refl) refl refl refl

owner_taken : (db : Database) → db.schema ≡ old_schema → (id : ℤ) → IsTaken db owner_text (Int id ∷ [])
unfolding understood everything
owner_taken db same id = taken_so db same (owner_means Two) (Int id ∷ []) (lit≤ tt, refl) refl refl refl

sessions_taken : (db : Database) → db.schema ≡ old_schema → (lab : ℤ) → IsTaken db session_text (Int lab ∷ [])
unfolding understood everything
sessions_taken db same lab = taken_so db same (session_means Two) (Int lab ∷ []) (lit≤ tt, refl) refl refl refl

trail_taken : (db : Database) → db.schema ≡ old_schema → (lab : ℤ) → IsTaken db told_text (Int lab ∷ [])
unfolding understood everything
trail_taken db same lab = taken_so db same (told_means Two) (Int lab ∷ []) (lit≤ tt, refl) refl refl refl

forms_taken : (db : Database) → db.schema ≡ old_schema → (lab : ℤ) → IsTaken db (form_text Two) (Int lab ∷ [])
unfolding understood everything
forms_taken db same lab = taken_so db same (form_means Two) (Int lab ∷ []) (lit≤ tt, refl) refl refl refl

fields_taken : (db : Database) → db.schema ≡ old_schema → (form : ℤ) → IsTaken db field_text (Int form ∷ [])
unfolding understood everything
fields_taken db same form = taken_so db same (field_means Two) (Int form ∷ []) (lit≤ tt, refl) refl refl refl

choices_taken : (db : Database) → db.schema ≡ old_schema → (field : ℤ) → IsTaken db choice_text (Int field ∷ [])
unfolding understood everything
choices_taken db same field = taken_so db same (choice_means Two) (Int field ∷ []) (lit≤ tt, refl) refl refl refl

records_taken : (db : Database) → db.schema ≡ old_schema → (lab : ℤ) → IsTaken db filed_text (Int lab ∷ [])
unfolding understood everything
records_taken db same lab = taken_so db same (filed_means Two) (Int lab ∷ []) (lit≤ tt, refl) refl refl refl

versions_taken : (db : Database) → db.schema ≡ old_schema → (kept : ℤ) → IsTaken db (version_text Two) (Int kept ∷ [])
unfolding understood everything
versions_taken db same kept = taken_so db same (version_means Two) (Int kept ∷ []) (lit≤ tt, refl) refl refl refl

entries_taken : (db : Database) → db.schema ≡ old_schema → (version : ℤ) → IsTaken db entry_text (Int version ∷ [])
unfolding understood everything
entries_taken db same version = taken_so db same (entry_means Two) (Int version ∷ []) (lit≤ tt, refl) refl refl refl

entry_places_taken : (db : Database) → db.schema ≡ old_schema → (version : ℤ) → IsTaken db entry_place_text (Int version ∷ [])
unfolding understood everything
entry_places_taken db same version = taken_so db same (entry_place_means Two) (Int version ∷ []) (lit≤ tt, refl) refl refl refl

signatures_taken : (db : Database) → db.schema ≡ old_schema → (version : ℤ) → IsTaken db signature_text (Int version ∷ [])
unfolding understood everything
signatures_taken db same version = taken_so db same (signature_means Two) (Int version ∷ []) (lit≤ tt, refl) refl refl refl

signature_places_taken : (db : Database) → db.schema ≡ old_schema → (version : ℤ) → IsTaken db signature_place_text (Int version ∷ [])
unfolding understood everything
signature_places_taken db same version = taken_so db same (signature_place_means Two) (Int version ∷ []) (lit≤ tt, refl) refl refl refl

pub exact_takes : (older : Older) (db : Database) → IsOldFile older db → TakesAll older db
exact_takes Two db file = record {
  labs = labs_taken db file.schema;
  lab = lab_taken db file.schema;
  persons = persons_taken db file.schema;
  owner = owner_taken db file.schema;
  sessions = sessions_taken db file.schema;
  trail = trail_taken db file.schema;
  forms = forms_taken db file.schema;
  fields = fields_taken db file.schema;
  choices = choices_taken db file.schema;
  records = records_taken db file.schema;
  versions = versions_taken db file.schema;
  entries = entries_taken db file.schema;
  entry_places = entry_places_taken db file.schema;
  signatures = signatures_taken db file.schema;
  signature_places = signature_places_taken db file.schema;
}
