use Rattle.std.proofs.Common.{◌≡◌, map, drop}
use Rattle.lab_forms.specs.Words.{has_text_twice}
use Rattle.lab_forms.proofs.words.has_word_twice.Given as goal

-- no text before this place stands again
abbrev pub invariant-loop-place : goal.invariant-loop-place
invariant-loop-place g l =
    has_text_twice (map g.T.Worded.text_of l.things) ≡ has_text_twice (map g.T.Worded.text_of (drop l.place l.things))
