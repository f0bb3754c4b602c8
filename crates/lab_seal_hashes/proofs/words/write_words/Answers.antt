use Rattle.std.proofs.Common.{refl, ◌∙◌, arith}
use Rattle.lab_seal_hashes.specs.Words.{big_endian}
use Rattle.lab_seal_hashes.proofs.WordsLemmas.{big_endian-more}
use Rattle.lab_seal_hashes.proofs.words.write_words.Goals as goal

pub loop-i-init : goal.loop-i-init
unfolding big_endian
loop-i-init c = refl

pub loop-i-preserved : goal.loop-i-preserved
loop-i-preserved c =
    big_endian-more c.args.words.now c.loop-i.bytes c.copy_from_slice.new.self c.loop-i.i _ c.loop-i.invariant (omega arith) (omega arith)
    (c.copy_from_slice.ensures.after ∙ c.to_be_bytes.ensures)
