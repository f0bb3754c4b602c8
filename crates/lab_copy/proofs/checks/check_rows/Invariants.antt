-- what the rows behind the header leave to find is left at each row
use Rattle.std.proofs.Common.{◌≡◌, ℕ}
use Rattle.csv.specs.Reading.{Ready, default_config, reader_config, reader_state, reader_trim, source_of}
use Rattle.csv.specs.declared.reader.Trim.TheVariants as trim
use Rattle.lab_copy.specs.Private.Left.{AreRows}
use Rattle.lab_copy.proofs.LeftWords.{FollowsSome, LeavesAt}
use Rattle.lab_copy.proofs.checks.check_rows.Given as goal

abbrev pub invariant-loop-number : goal.invariant-loop-number
invariant-loop-number g l =
    record {
      config : reader_config l.rows ≡ default_config;
      trim : reader_trim l.rows ≡ trim.None;
      ready : Ready l.rows;
      left : LeavesAt (reader_state l.fn.rows) (source_of g.R.Read.remaining l.fn.rows) l.kept l.number (reader_state l.rows)
          (source_of g.R.Read.remaining l.rows);
      follows : FollowsSome l.kept l.number;
      rows : (total : ℕ) → AreRows total 2 (reader_state l.fn.rows) (source_of g.R.Read.remaining l.fn.rows)
          → AreRows total l.number (reader_state l.rows) (source_of g.R.Read.remaining l.rows);
    }
