-- What clauses of private functions say beside Outs.antt.
use Rattle.std.specs.Prelude.{◌≡◌, ℕ, false, List, Option, Some}
use Rattle.csv.specs.Writing.{default_writer, fields_written, has_written, text_written, writer_setup}
use Rattle.csv.specs.declared.writer.Writer.{Writer}

-- a writer of CSV, set up as by default, has written these bytes, by whole rows
pub record HasWritten {W : Type 0} (contents : W → Option (List ℕ)) (writer : Writer W)
    (bytes : List ℕ) : Type 0 where
  pub setup : writer_setup writer ≡ default_writer
  pub fields : fields_written writer ≡ 0
  pub wrote : has_written writer ≡ false
  pub text : text_written contents writer ≡ Some bytes
