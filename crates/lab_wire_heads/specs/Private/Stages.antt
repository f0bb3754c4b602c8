-- How far a head has come by its bytes so far. It ends with the first empty line, LF LF or LF CR LF
-- behind its first line; CR and LF before that line are passed over (RFC 9112, sections 2.1 and
-- 2.2).
use Rattle.std.specs.Prelude.{ℕ, Bool, true, false, ◌==◌, if◌then◌else◌}
use Rattle.httparse.specs.Ascii.{carriage_return}
use Rattle.httparse.specs.Pieces.{is_newline}
use Rattle.lab_wire_heads.specs.Heads.{is_line_feed}
use Rattle.lab_wire_heads.specs.declared.stages.HeadStage.{HeadStage}
use Rattle.lab_wire_heads.specs.declared.stages.HeadStage.TheVariants.{Front, Empty, Return, Line, Ended}

-- after one byte more
abbrev pub stage_after : HeadStage → ℕ → HeadStage
stage_after Front b = if is_newline b then Front else Line
stage_after Empty b =
    if is_line_feed b then Ended else (if b == carriage_return then Return else Line)
stage_after Return b = if is_line_feed b then Ended else Line
stage_after Line b = if is_line_feed b then Empty else Line
stage_after Ended b = Ended

-- whether the empty line has come
abbrev pub has_ended : HeadStage → Bool
has_ended Front = false
has_ended Empty = false
has_ended Return = false
has_ended Line = false
has_ended Ended = true
