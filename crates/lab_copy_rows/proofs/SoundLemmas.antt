-- The verdict on rows is yes exactly where they are those of a sound copy.
use Rattle.std.proofs.Common.{◌≡◌, ℕ, ◌+◌, Bool, true, false, List, [], ◌∷◌, ◌++◌, Option, Some, None, Result, Ok, Err, ◌↔◌, refl, sym, ap, subst, ◌∙◌, length}
use Rattle.std.specs.Prelude.{if◌then◌else◌}
use Rattle.std.specs.Option.{option_or}
use Rattle.std.specs.Cmp.Lexicographic.{pointwise_decides}
use Rattle.std.proofs.lemmas.Bool.{cond-true}
use Rattle.std.proofs.lemmas.List.{append-nil, append_assoc}
use Rattle.std.proofs.lemmas.Slice.Eq.{bytes_eq-Decides}
use Rattle.lab_copy_rows.specs.Copies.{verdict, verdict_after, verdict_or, verdict_of_line, line_in, is_header, flaw_of_line, flaw_at_end, flaw_of_last_version, is_some_and, is_end, last_of, counts_of, StandFor, AreFlawless, IsSoundCopy}
use Rattle.lab_copy_rows.specs.Rows.{fields_in, header_row}
use Rattle.lab_copy_rows.specs.declared.flaws.Flaw.{Flaw}
use Rattle.lab_copy_rows.specs.declared.flaws.Flaw.TheVariants.{NoEnd, BadRow}
use Rattle.lab_copy_rows.specs.declared.lines.Counts.{Counts}
use Rattle.lab_copy_rows.specs.declared.lines.Line.{Line}

-- the lines end with the end row
abbrev Ends : List Line → Type 0
Ends lines = is_some_and is_end (last_of lines) ≡ true

abbrev Has : Counts → List Line → Type 0
Has counts lines = counts_of lines ≡ counts

-- rows that stand for lines without a flaw, of which the last ends the copy
record AreSound (before : List Line) (rows : List (List (List ℕ))) (counts : Counts) : Type 0 where
  lines : List Line
  reads : StandFor before rows lines
  flawless : AreFlawless before lines
  ends : Ends (before ++ lines)
  counted : Has counts (before ++ lines)

abbrev good : Counts → Result Counts Flaw
good counts = Ok counts

abbrev bad : Flaw → Result Counts Flaw
bad flaw = Err flaw

abbrev no_flaw : Option Flaw
no_flaw = None

abbrev a_flaw : Flaw → Option Flaw
a_flaw flaw = Some flaw

no_yes : (flaw : Flaw) (counts : Counts) → bad flaw ≡ good counts → ⊥
no_yes flaw counts said = cc

flaw_is_one : (flaw : Flaw) → a_flaw flaw ≡ no_flaw → ⊥
flaw_is_one flaw none = cc

same_good : (counts other : Counts) → good counts ≡ good other → counts ≡ other
same_good counts other same = cc

-- a yes is one without a flaw
or_parts : (found : Result Counts Flaw) (flaw : Option Flaw) (counts : Counts)
    → verdict_or found flaw ≡ good counts → (flaw ≡ no_flaw) × (found ≡ good counts)
or_parts found None counts said = (refl, said)
or_parts found (Some flaw) counts said = absurd (no_yes flaw counts said)

line_parts : (before : List Line) (found : Option Line) (after : List Line → Result Counts Flaw) (counts : Counts)
    → verdict_of_line before found after ≡ good counts
    → (line : Line) × (found ≡ Some line) × (flaw_of_line before line ≡ no_flaw) × (after (before ++ (line ∷ [])) ≡ good counts)
line_parts before None after counts said = absurd (no_yes (BadRow (length before + 2)) counts said)
line_parts before (Some line) after counts said =
    let parts = or_parts (after (before ++ (line ∷ []))) (flaw_of_line before line) counts said in
    (line, refl, parts.0, parts.1)

line_yes : (before : List Line) (found : Option Line) (line : Line) (after : List Line → Result Counts Flaw) (counts : Counts)
    → found ≡ Some line → flaw_of_line before line ≡ no_flaw → after (before ++ (line ∷ [])) ≡ good counts
    → verdict_of_line before found after ≡ good counts
line_yes before found line after counts is flawless rest =
    ap (λ (told : Option Line). verdict_of_line before told after) is
    ∙ ap (verdict_or (after (before ++ (line ∷ [])))) flawless ∙ rest

has_ended : (is_ended : Bool) (flaw : Option Flaw)
    → (if is_ended then no_flaw else option_or flaw (Some NoEnd)) ≡ no_flaw → is_ended ≡ true
has_ended true flaw none = refl
has_ended false None none = absurd (flaw_is_one NoEnd none)
has_ended false (Some flaw) none = absurd (flaw_is_one flaw none)

at_end_parts : (before : List Line) (counts : Counts) → verdict_or (good (counts_of before)) (flaw_at_end before) ≡ good counts
    → Ends before × Has counts before
unfolding flaw_at_end
at_end_parts before counts said =
    let parts = or_parts (good (counts_of before)) (flaw_at_end before) counts said in (
      has_ended (is_some_and is_end (last_of before)) (flaw_of_last_version before) parts.0,
      same_good (counts_of before) counts parts.1,
    )

at_end_yes : (before : List Line) (counts : Counts) → Ends before → Has counts before
    → verdict_or (good (counts_of before)) (flaw_at_end before) ≡ good counts
unfolding flaw_at_end
at_end_yes before counts ends counted =
    let none : flaw_at_end before ≡ no_flaw =
    cond-true (is_some_and is_end (last_of before)) no_flaw (option_or (flaw_of_last_version before) (a_flaw NoEnd)) ends in
    ap (verdict_or (good (counts_of before))) none ∙ ap good counted

sound_of_yes : (rows : List (List (List ℕ))) (before : List Line) (counts : Counts)
    → verdict_after before rows ≡ good counts → AreSound before rows counts
unfolding verdict_after StandFor AreFlawless
sound_of_yes [] before counts said =
    let parts = at_end_parts before counts said in
    record {
      lines = [];
      reads = tt;
      flawless = tt;
      ends = subst Ends (sym (append-nil before)) parts.0;
      counted = subst (Has counts) (sym (append-nil before)) parts.1;
    }
sound_of_yes (row ∷ rows) before counts said =
    let parts = line_parts before (line_in before row) (λ lines. verdict_after lines rows) counts said in
    let rest = sound_of_yes rows (before ++ (parts.0 ∷ [])) counts parts.3 in
    let joined = append_assoc before (parts.0 ∷ []) rest.lines in
    record {
      lines = parts.0 ∷ rest.lines;
      reads = (parts.1, rest.reads);
      flawless = (parts.2, rest.flawless);
      ends = subst Ends joined rest.ends;
      counted = subst (Has counts) joined rest.counted;
    }

yes_of_sound : (rows : List (List (List ℕ))) (before lines : List Line) (counts : Counts)
    → StandFor before rows lines → AreFlawless before lines → Ends (before ++ lines) → Has counts (before ++ lines)
    → verdict_after before rows ≡ good counts
unfolding verdict_after StandFor AreFlawless
yes_of_sound [] before [] counts reads flawless ends counted =
    at_end_yes before counts (subst Ends (append-nil before) ends) (subst (Has counts) (append-nil before) counted)
yes_of_sound [] before (line ∷ lines) counts reads flawless ends counted = absurd reads
yes_of_sound (row ∷ rows) before [] counts reads flawless ends counted = absurd reads
yes_of_sound (row ∷ rows) before (line ∷ lines) counts reads flawless ends counted =
    let joined = sym (append_assoc before (line ∷ []) lines) in
    let rest = yes_of_sound rows (before ++ (line ∷ [])) lines counts reads.1 flawless.1 (subst Ends joined ends)
    (subst (Has counts) joined counted) in
    line_yes before (line_in before row) line (λ lines. verdict_after lines rows) counts reads.0 flawless.0 rest

header_parts : (is_first : Bool) (found : Result Counts Flaw) (counts : Counts)
    → (if is_first then found else bad (BadRow 1)) ≡ good counts → (is_first ≡ true) × (found ≡ good counts)
header_parts true found counts said = (refl, said)
header_parts false found counts said = absurd (no_yes (BadRow 1) counts said)

sound : (rows : List (List (List ℕ))) (counts : Counts) → verdict rows ≡ good counts → IsSoundCopy rows counts
unfolding verdict
sound [] counts said = absurd (no_yes NoEnd counts said)
sound (row ∷ rows) counts said =
    let parts = header_parts (is_header row) (verdict_after [] rows) counts said in
    let is = (pointwise_decides bytes_eq-Decides row (fields_in header_row)).0 parts.0 in
    let found = sound_of_yes rows [] counts parts.1 in
    record {
      after_header = rows;
      lines = found.lines;
      begins = ap (λ (first : List (List ℕ)). first ∷ rows) is;
      reads = found.reads;
      flawless = found.flawless;
      ends = found.ends;
      counted = found.counted;
    }

said_yes : (rows : List (List (List ℕ))) (counts : Counts) → IsSoundCopy rows counts → verdict rows ≡ good counts
unfolding verdict
said_yes rows counts is =
    ap verdict is.begins ∙ yes_of_sound is.after_header [] is.lines counts is.reads is.flawless is.ends is.counted

pub yes_means_sound : (rows : List (List (List ℕ))) (counts : Counts) → (verdict rows ≡ Ok counts) ↔ IsSoundCopy rows counts
yes_means_sound rows counts = (sound rows counts, said_yes rows counts)
