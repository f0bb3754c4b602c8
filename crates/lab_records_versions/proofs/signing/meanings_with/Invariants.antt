use Rattle.std.proofs.Common.{◌≡◌, map, take}
use Rattle.lab_records_kept.specs.Values.{meaning_of}
use Rattle.lab_records_versions.proofs.signing.meanings_with.Given as goal

-- what the first signatures mean
abbrev pub invariant-loop-signature : goal.invariant-loop-signature
invariant-loop-signature l = l.meanings.items ≡ map meaning_of (take l.signature-index l.signatures)
