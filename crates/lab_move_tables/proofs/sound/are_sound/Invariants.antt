use Rattle.std.proofs.Common.{◌≡◌, drop}
use Rattle.std.specs.List.{list_all}
use Rattle.lab_move_tables.specs.Private.Tests.{is_sound_record}
use Rattle.lab_move_tables.proofs.sound.are_sound.Given as goal

-- what is left decides
abbrev pub invariant-loop-kept : goal.invariant-loop-kept
invariant-loop-kept l = list_all (is_sound_record l.lab) l.records ≡ list_all (is_sound_record l.lab) (drop l.kept-index l.records)
