use Rattle.std.proofs.Common.{◌≡◌, ◌++◌, map, length}
use Rattle.std.specs.Vec.Iter.{into_iter_items, into_iter_len}
use Rattle.lab_move_read.specs.Forms.{form_of}
use Rattle.lab_move_read.proofs.forms.forms_alone.Given as goal

-- what was made so far, and what is to come, is all
abbrev pub invariant-loop-one : goal.invariant-loop-one
invariant-loop-one l = record {
  made : l.made ++ map form_of (into_iter_items l.one-iterator) ≡ map form_of l.fn.forms.items;
  counted : into_iter_len l.one-iterator ≡ length (into_iter_items l.one-iterator);
}
