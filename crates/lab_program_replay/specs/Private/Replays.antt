-- What clauses of private functions say beside Replays.antt.
use Rattle.lab_program_replay.specs.declared.fault.ReplayFault.{ReplayFault}
use Rattle.lab_program_replay.specs.declared.fault.ReplayFault.TheVariants.{BadEvent, ReadFault, WriteFault, Storage, Memory}

-- a fault that can come before the first event: the input couldn't be read, no store could be made,
-- or memory ran out
abbrev pub IsBeginFault : ReplayFault → Type 0
IsBeginFault BadEvent = ⊥
IsBeginFault ReadFault = Unit {0}
IsBeginFault WriteFault = ⊥
IsBeginFault Storage = Unit {0}
IsBeginFault Memory = Unit {0}
