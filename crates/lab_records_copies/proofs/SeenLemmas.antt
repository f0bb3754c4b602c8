-- What lines tell of the version whose rows stand last in them, as its rows come one by one.
use Rattle.std.proofs.Common.{◌≡◌, ℕ, Bool, true, false, List, [], ◌∷◌, ◌++◌, Option, Some, None, refl, sym, ap, ◌∙◌}
use Rattle.std.specs.List.{before_last, after_last, filter_map}
use Rattle.lab_seal.specs.Reading.{◌>>=◌}
use Rattle.lab_seal_versions.specs.declared.rows.EntryRow.{EntryRow}
use Rattle.lab_copy_rows.specs.Copies.{Told, is_of_version, is_version, last_of, record_in, version_in, entry_in, signature_in, last_record, last_version, last_told}
use Rattle.lab_copy_rows.specs.declared.lines.EntryLine.{EntryLine}
use Rattle.lab_copy_rows.specs.declared.lines.Line.{Line}
use Rattle.lab_copy_rows.specs.declared.lines.Line.TheVariants.{Copy, Record, Version, Entry, Signature, End}
use Rattle.lab_copy_rows.specs.declared.lines.RecordLine.{RecordLine}
use Rattle.lab_copy_rows.specs.declared.lines.SignatureLine.{SignatureLine}
use Rattle.lab_copy_rows.specs.declared.lines.VersionLine.{VersionLine}
use Rattle.lab_copy_rows.proofs.ListLemmas.{last_push, keep_push, skip_push, before_here, after_here, before_past, after_past}

-- the lines end in a version's rows, which are these
pub record Seen (lines : List Line) (told : Told) : Type 0 where
  pub last : Line
  pub last_is : last_of lines ≡ Some last
  pub of_version : is_of_version last ≡ true
  pub about : last_record lines ≡ Some told.about
  pub line : last_version lines ≡ Some told.line
  pub previous : last_version (before_last is_version lines) ≡ told.previous
  pub entries : filter_map entry_in (after_last is_version lines) ≡ told.entries
  pub signatures : filter_map signature_in (after_last is_version lines) ≡ told.signatures

abbrev told_by : Option RecordLine → Option VersionLine → Option VersionLine → List EntryRow → List SignatureLine → Option Told
told_by about line previous entries signatures = do
  about ← about
  line ← line
  Some (record { about = about; line = line; previous = previous; entries = entries; signatures = signatures })

told_is : (lines : List Line) → last_told lines
    ≡ told_by (last_record lines) (last_version lines) (last_version (before_last is_version lines))
    (filter_map entry_in (after_last is_version lines)) (filter_map signature_in (after_last is_version lines))
unfolding last_told
told_is lines = refl

-- so the version told last is that one
pub seen_told : (lines : List Line) (told : Told) → Seen lines told → last_told lines ≡ Some told
seen_told lines told seen =
    told_is lines
    ∙ (λ i. told_by (seen.about i) (seen.line i) (seen.previous i) (seen.entries i) (seen.signatures i))

module _ (lines : List Line) where
  pub record_push : (line : Line) → record_in line ≡ None → last_record (lines ++ (line ∷ [])) ≡ last_record lines
  record_push line is = ap last_of (skip_push record_in lines line is)

  pub version_push : (line : Line) → version_in line ≡ None → last_version (lines ++ (line ∷ [])) ≡ last_version lines
  version_push line is = ap last_of (skip_push version_in lines line is)

  pub record_here : (line : RecordLine) → last_record (lines ++ (Record line ∷ [])) ≡ Some line
  record_here line = ap last_of (keep_push record_in lines (Record line) line refl) ∙ last_push (filter_map record_in lines) line

  pub version_kept : (line : RecordLine) → last_version (lines ++ (Record line ∷ [])) ≡ last_version lines
  version_kept line = version_push (Record line) refl

  pub version_here : (line : VersionLine) → last_version (lines ++ (Version line ∷ [])) ≡ Some line
  version_here line = ap last_of (keep_push version_in lines (Version line) line refl) ∙ last_push (filter_map version_in lines) line

  -- a version row more
  abbrev pub version_seen : (about : RecordLine) (line : VersionLine) → last_record lines ≡ Some about
      → Seen (lines ++ (Version line ∷ []))
      (record { about = about; line = line; previous = last_version lines; entries = []; signatures = [] })
  version_seen about line is = record {
    last = Version line;
    last_is = last_push lines (Version line);
    of_version = refl;
    about = record_push (Version line) refl ∙ is;
    line = version_here line;
    previous = ap last_version (before_here is_version lines (Version line) refl);
    entries = ap (filter_map entry_in) (after_here is_version lines (Version line) refl);
    signatures = ap (filter_map signature_in) (after_here is_version lines (Version line) refl);
  }

  -- an entry more
  abbrev pub entry_seen : (told : Told) (line : EntryLine) → Seen lines told
      → Seen (lines ++ (Entry line ∷ [])) (record told { entries = told.entries ++ (line.row ∷ []) })
  entry_seen told line seen =
      let behind = after_past is_version lines (Entry line) refl in
      record {
        last = Entry line;
        last_is = last_push lines (Entry line);
        of_version = refl;
        about = record_push (Entry line) refl ∙ seen.about;
        line = version_push (Entry line) refl ∙ seen.line;
        previous = ap last_version (before_past is_version lines (Entry line) refl) ∙ seen.previous;
        entries =
            ap (filter_map entry_in) behind
            ∙ keep_push entry_in (after_last is_version lines) (Entry line) line.row refl
            ∙ ap (λ rows. rows ++ (line.row ∷ [])) seen.entries;
        signatures =
            ap (filter_map signature_in) behind
            ∙ skip_push signature_in (after_last is_version lines) (Entry line) refl
            ∙ seen.signatures;
      }

  -- a signature more
  pub signature_seen : (told : Told) (line : SignatureLine) → Seen lines told
      → Seen (lines ++ (Signature line ∷ [])) (record told { signatures = told.signatures ++ (line ∷ []) })
  signature_seen told line seen =
      let behind = after_past is_version lines (Signature line) refl in
      record {
        last = Signature line;
        last_is = last_push lines (Signature line);
        of_version = refl;
        about = record_push (Signature line) refl ∙ seen.about;
        line = version_push (Signature line) refl ∙ seen.line;
        previous = ap last_version (before_past is_version lines (Signature line) refl) ∙ seen.previous;
        entries =
            ap (filter_map entry_in) behind
            ∙ skip_push entry_in (after_last is_version lines) (Signature line) refl
            ∙ seen.entries;
        signatures =
            ap (filter_map signature_in) behind
            ∙ keep_push signature_in (after_last is_version lines) (Signature line) line refl
            ∙ ap (λ rows. rows ++ (line ∷ [])) seen.signatures;
      }
