-- Where a file isn't opened, that is told; and else how the move ended.
use Rattle.std.proofs.Common.{Err, Ok, inl, inr, sym}
use Rattle.std.specs.Prelude.{◌⊎◌}
use Rattle.std.proofs.KnownBytes.{Keeps-refl}
use Rattle.lab_program_opening.proofs.FileLemmas.{closed_kept}
use Rattle.lab_program_moves.proofs.moving.migrate.Goals as goal

-- the first two causes of three
first_causes : {A B C : Type 0} → A ⊎ B → A ⊎ B ⊎ C
first_causes (inl one) = inl one
first_causes (inr other) = inr (inl other)

pub returns-in-Err : goal.returns-in-Err
returns-in-Err g c = record {
  ending = Err c.in-Err.fault;
  moves = tt;
  cause = first_causes c.in-Err.ensures.refused;
  told = (Keeps-refl _, c.decline_by.ensures);
}

pub returns-in-Err-open_new : goal.returns-in-Err-open_new
returns-in-Err-open_new g c = record {
  ending = Err c.in-Err-open_new.fault;
  moves = tt;
  cause = inr (inr (
    c.in-Ok.file.conn,
    c.in-Ok.ensures.asked,
    (c.old_file.new.volume, c.in-Err-open_new.ensures.filled),
  ));
  told = (Keeps-refl _, c.decline_by-in-Err-open_new.ensures);
}

pub returns-in-Ok-close : goal.returns-in-Ok-close
returns-in-Ok-close g c =
    let moves = rw (sym c.close.ensures.ending, c.in-Ok-close.is) at c.count_moved.ensures in record {
      ending = Ok (Ok c.in-Ok-close.count);
      moves = (
        c.in-Ok.file.conn,
        c.in-Ok-open_new.conn,
        c.in-Ok.ensures.asked,
        (c.old_file.new.volume, c.in-Ok-open_new.ensures.blank),
        moves.0,
        moves.1,
        closed_kept _ _ _ moves.2 c.close.ensures.closed,
      );
      cause = tt;
      told = c.print.ensures;
    }

pub returns-in-Err-close : goal.returns-in-Err-close
returns-in-Err-close g c =
    let moves = rw (sym c.close.ensures.ending, c.in-Err-close.is) at c.count_moved.ensures in record {
      ending = Ok (Err c.in-Err-close.fault);
      moves = (
        c.in-Ok.file.conn,
        c.in-Ok-open_new.conn,
        c.in-Ok.ensures.asked,
        (c.old_file.new.volume, c.in-Ok-open_new.ensures.blank),
        moves.0,
        moves.1,
        closed_kept _ _ _ moves.2 c.close.ensures.closed,
      );
      cause = tt;
      told = (Keeps-refl _, c.decline_move.ensures);
    }
