use Rattle.std.proofs.Common.{◌≡◌, map, drop}
use Rattle.lab_forms.specs.Words.{has_text_twice}
use Rattle.lab_wire_bodies.specs.Records.{item_key}
use Rattle.lab_wire_bodies.proofs.records.has_key_twice.Given as goal

-- no key before this place stands again
abbrev pub invariant-loop-place : goal.invariant-loop-place
invariant-loop-place l =
    has_text_twice (map item_key l.items) ≡ has_text_twice (map item_key (drop l.place l.items))
