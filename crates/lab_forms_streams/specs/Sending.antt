-- The words of a writer's and of a reader's fault, which no reply can tell of.
use Rattle.std.specs.Prelude.{ℕ, List, codes}

abbrev pub write_fault_word : List ℕ
write_fault_word = codes "write_fault"

abbrev pub read_fault_word : List ℕ
read_fault_word = codes "read_fault"
