-- How far a copy is read: to its end, or into the first row that is longer than any that reads. A row
-- that is longer stands for no line, so that much of the copy has the verdict of the whole.
use Rattle.std.specs.Prelude.{ℕ, ◌+◌, Bool, ◌&&◌, ◌||◌, ◌==◌, nat_lt, nat_le, if◌then◌else◌, List, [], ◌∷◌}
use Rattle.csv.specs.Machine.{step}
use Rattle.csv.specs.Reading.{default_config}
use Rattle.csv.specs.declared.parser.Action.{Action}
use Rattle.csv.specs.declared.parser.Action.TheVariants as act
use Rattle.csv.specs.declared.parser.State.{State}
use Rattle.csv.specs.declared.parser.State.TheVariants as st
use Rattle.lab_copy.specs.declared.fronts.Inside.{Inside}
use Rattle.lab_copy.specs.declared.fronts.Inside.TheVariants as inside
use Rattle.lab_copy.specs.declared.fronts.RowSoFar.{RowSoFar}
use Rattle.lab_copy.specs.declared.fronts.TheConstants.{MOST_FIELDS, MOST_BYTES}

-- how many fields a row has that reads, and how many bytes the longest of them may have: a note's
abbrev pub most_fields : ℕ
most_fields = MOST_FIELDS

abbrev pub most_bytes : ℕ
most_bytes = MOST_BYTES

-- a row so far: where it stands by CSV's states, how many of its fields have ended, and how many
-- bytes the field being read has. The mark is how much of a byte order mark the text is so far, and 3
-- where it is something else, or the mark is over
pub record SoFar : Type 0 where
  pub mark : ℕ
  pub state : State
  pub fields : ℕ
  pub bytes : ℕ

abbrev pub row_begun : SoFar
row_begun = record { mark = 3; state = st.StartRecord; fields = 0; bytes = 0 }

-- no row that reads is as long
abbrev pub is_too_long : SoFar → Bool
is_too_long row = nat_le most_fields row.fields || nat_lt most_bytes row.bytes

-- what a byte does to the fields and the bytes of a row
abbrev pub done_by : Action → SoFar → SoFar
done_by act.Skip row = row
done_by act.Copy row = record row { bytes = row.bytes + 1 }
done_by act.EndField row = record row { fields = row.fields + 1; bytes = 0 }
done_by act.EndRecord row = record row { fields = 0; bytes = 0 }

abbrev pub stepped : State × Action → SoFar → SoFar
stepped to row = done_by to.1 (record row { state = to.0 })

-- how much of a byte order mark, U+FEFF in UTF-8, the text is with a byte more
abbrev pub mark_after : ℕ → ℕ → ℕ
mark_after mark byte =
    if (mark == 0) && (byte == 0xEF) then 1 else if (mark == 1) && (byte == 0xBB) then 2 else 3

-- the row with a byte more; a byte order mark is no part of one
abbrev pub after : SoFar → ℕ → SoFar
after row byte =
    if (row.mark == 2) && (byte == 0xBF) then row_begun
    else stepped (step default_config row.state byte)
    (record row { mark = mark_after row.mark byte })

-- the bytes that are read behind this much of a row
unfoldable pub front : SoFar → List ℕ → List ℕ
front row [] = []
front row (byte ∷ bytes) = if is_too_long row then [] else byte ∷ front (after row byte) bytes

-- what the code keeps of a row so far
abbrev pub state_at : Inside → State
state_at inside.RowStart = st.StartRecord
state_at inside.ReturnEnd = st.AfterCr
state_at inside.FieldStart = st.StartField
state_at inside.Plain = st.InField
state_at inside.Quoted = st.InQuoted
state_at inside.QuoteEnd = st.AfterQuote

abbrev pub so_far : RowSoFar → SoFar
so_far row = record {
  mark = row.mark;
  state = state_at row.inside;
  fields = row.fields;
  bytes = row.bytes;
}
