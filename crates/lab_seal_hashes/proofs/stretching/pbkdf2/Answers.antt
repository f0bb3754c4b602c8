use Rattle.std.proofs.Common.{◌≡◌, ◌+◌, arith}
use Rattle.lab_seal_hashes.specs.Pbkdf2.{round_bytes, pbkdf2_block}
use Rattle.lab_seal_hashes.proofs.StretchingLemmas.{round_bytes-more, pbkdf2_block-more}
use Rattle.lab_seal_hashes.proofs.stretching.pbkdf2.Goals as goal

pub rounds-init : goal.rounds-init
unfolding round_bytes pbkdf2_block
rounds-init c =
    let first = rw c.to_be_bytes.ensures at (c.tag_of_parts-tag.ensures c.args.password.now c.new-keyed.ensures) in
    record { tag = first; sum = first }

pub rounds-preserved : goal.rounds-preserved
rounds-preserved c =
    let password = c.args.password.now in
    let salt = c.args.salt.now in
    let tag : c.tag-tag.result ≡ round_bytes password salt (c.rounds.round + 1) =
    rw (round_bytes-more password salt c.rounds.round, ← c.rounds.invariant.tag) (c.tag-tag.ensures password c.new-keyed.ensures) in
    record {
      tag = tag;
      sum = rw (pbkdf2_block-more password salt c.rounds.round (omega arith), ← tag, ← c.rounds.invariant.sum) c.xor_into.ensures;
    }
