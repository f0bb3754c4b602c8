-- The rows of the records of the numbers so far went out and were counted, and the keeper was read.
use Rattle.std.proofs.Common.{◌≡◌, ◌-◌, ◌≤◌}
use Rattle.std.specs.Io.KnownBytes.{Appends}
use Rattle.lab_records_keeper.specs.Worlds.{Given, Shuts}
use Rattle.lab_records_copy_out.specs.Resting.{IsOnlyRead}
use Rattle.lab_records_copy_out.specs.CopyTexts.{numbers_between, record_rows, walked}
use Rattle.lab_records_copy_out.proofs.TextLemmas.{records_text}
use Rattle.lab_records_copy_out.proofs.OutLemmas.{given_rows}
use Rattle.lab_records_copy_out.proofs.wholes.give_wholes.Given as goal

abbrev pub invariant-loop-number : goal.invariant-loop-number
invariant-loop-number g l = record {
  few : l.number - l.fn.from ≤ numbers_between l.fn.from l.fn.last;
  read : IsOnlyRead g.S.Keeper.world g.S.Keeper.rests l.fn.keeper l.keeper;
  shuts : Given (g.S.Keeper.world l.fn.keeper) (g.S.Keeper.world l.keeper)
      (Shuts (g.S.Keeper.world l.fn.keeper) (g.S.Keeper.world l.keeper));
  alive : Given (g.S.Keeper.world l.fn.keeper) (g.S.Keeper.world l.keeper)
      ((g.S.Keeper.world l.fn.keeper).is_live → (g.S.Keeper.world l.keeper).is_live);
  text : (g.S.Keeper.world l.fn.keeper).is_live →
      Given (g.S.Keeper.world l.fn.keeper) (g.S.Keeper.world l.keeper)
      (Appends (g.W.Write.contents l.fn.writer) (g.W.Write.contents l.writer)
      (records_text l.lab (walked ((g.S.Keeper.world l.fn.keeper).meaning l.lab) l.fn.from
      (l.number - l.fn.from))));
  counts : (g.S.Keeper.world l.fn.keeper).is_live →
      Given (g.S.Keeper.world l.fn.keeper) (g.S.Keeper.world l.keeper)
      (l.out ≡ given_rows l.fn.out (record_rows l.lab
      (walked ((g.S.Keeper.world l.fn.keeper).meaning l.lab) l.fn.from
      (l.number - l.fn.from))));
}
