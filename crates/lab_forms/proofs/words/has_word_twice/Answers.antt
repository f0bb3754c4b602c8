-- A text that stands again behind this place stands twice, and else what is left decides.
use Rattle.std.proofs.Common.{◌∙◌, sym, arith}
use Rattle.lab_forms.proofs.WordLemmas.{has_text_twice-drop}
use Rattle.lab_forms.proofs.words.has_word_twice.Goals as goal

pub returns-then-has_word : goal.returns-then-has_word
returns-then-has_word g c =
    let step = has_text_twice-drop g.T.Worded.text_of c.args.things.now c.loop-place.place c.index-things-place.result c.word.result.now c.has_word.result (omega arith) c.index-things-place.is c.word.ensures c.has_word.ensures in
    sym (c.loop-place.invariant ∙ (rw c.if-has_word.true at step))

pub loop-place-preserved : goal.loop-place-preserved
loop-place-preserved g c =
    let step = has_text_twice-drop g.T.Worded.text_of c.args.things.now c.loop-place.place c.index-things-place.result c.word.result.now c.has_word.result (omega arith) c.index-things-place.is c.word.ensures c.has_word.ensures in
    c.loop-place.invariant ∙ (rw c.if-has_word.false at step)
