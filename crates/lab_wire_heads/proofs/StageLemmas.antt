-- The stage of a head by all of its bytes so far: it has ended exactly where the empty line has come.
use Rattle.std.proofs.Common.{◌≡◌, ℕ, ◌+◌, ◌<◌, ◌≤◌, Bool, true, false, List, [], ◌∷◌, ◌++◌, length, take, refl, sym, ap, subst, ◌∙◌, arith, append_assoc, append-nil, take_all}
use Rattle.std.specs.Prelude.{All, set, if◌then◌else◌, ◌==◌}
use Rattle.std.specs.List.{list_any}
use Rattle.std.proofs.lemmas.Bool.{eqb-true, or_parts}
use Rattle.std.proofs.lemmas.List.{take-set, take_more_set, length-take-le, length-set}
use Rattle.std.proofs.lemmas.List.Elements.{All-append, All-cons, All-nil}
use Rattle.std.proofs.lemmas.List.Splits.{slice_split_none}
use Rattle.httparse.specs.Pieces.{is_newline}
use Rattle.httparse.specs.Ascii.{carriage_return}
use Rattle.lab_wire_heads.specs.Heads.{head_limit, is_line_feed, but_last, is_empty_line, has_end, without_front, head_text}
use Rattle.lab_wire_heads.proofs.LineLemmas.{ended_lines_at, full_line, empty_line}
use Rattle.lab_wire_heads.specs.declared.stages.HeadStage.{HeadStage}
use Rattle.lab_wire_heads.specs.declared.stages.HeadStage.TheVariants.{Front, Empty, Return, Line, Ended}
use Rattle.lab_wire_heads.specs.Private.Stages.{stage_after, has_ended}

-- after more bytes
pub after_all : HeadStage → List ℕ → HeadStage
after_all stage [] = stage
after_all stage (b ∷ bytes) = after_all (stage_after stage b) bytes

-- of all bytes so far
pub stage_of : List ℕ → HeadStage
stage_of bytes = after_all Front bytes

after_more : (stage : HeadStage) (bytes : List ℕ) (b : ℕ)
    → after_all stage (bytes ++ b ∷ []) ≡ stage_after (after_all stage bytes) b
unfolding after_all
after_more stage [] b = refl
after_more stage (c ∷ bytes) b = after_more (stage_after stage c) bytes b

pub stage_more : (bytes : List ℕ) (b : ℕ) → stage_of (bytes ++ b ∷ []) ≡ stage_after (stage_of bytes) b
unfolding stage_of
stage_more bytes b = after_more Front bytes b

pub stage_none : stage_of [] ≡ Front
unfolding stage_of after_all
stage_none = refl

stays_ended : (bytes : List ℕ) → has_ended (after_all Ended bytes) ≡ true
unfolding after_all
stays_ended [] = refl
stays_ended (b ∷ bytes) = stays_ended bytes

-- ---- within a line

abbrev NoFeed : List ℕ → Type 0
NoFeed line = All (λ b. is_line_feed b ≡ false) line

-- by the bytes of the line so far
line_stage : List ℕ → HeadStage
line_stage [] = Empty
line_stage (b ∷ []) = if b == carriage_return then Return else Line
line_stage (b ∷ c ∷ line) = Line

-- at a line feed
fed : (line : List ℕ) → stage_after (line_stage line) 10 ≡ (if is_empty_line line then Ended else Empty)
unfolding line_stage
fed [] = refl
fed (b ∷ []) = by (b == carriage_return)
  where
    by : (t : Bool) → stage_after (if t then Return else Line) 10 ≡ (if t then Ended else Empty)
    by true = refl
    by false = refl
fed (b ∷ c ∷ line) = refl

-- at another byte
unfed : (line : List ℕ) (b : ℕ) → is_line_feed b ≡ false
    → stage_after (line_stage line) b ≡ line_stage (line ++ b ∷ [])
unfolding line_stage
unfed [] b is = ap (λ t. if t then Ended else (if b == carriage_return then Return else Line)) is
unfed (c ∷ []) b is = by (c == carriage_return)
  where
    by : (t : Bool) → stage_after (if t then Return else Line) b ≡ Line
    by true = ap (λ t. if t then Ended else Line) is
    by false = ap (λ t. if t then Empty else Line) is
unfed (c ∷ d ∷ line) b is = ap (λ t. if t then Empty else Line) is

no_feed : (line : List ℕ) → NoFeed line → has_end line ≡ false
unfolding has_end
no_feed line none = ap (λ parts. list_any is_empty_line (but_last parts)) (slice_split_none is_line_feed line none)

open_stage : (line : List ℕ) → has_ended (line_stage line) ≡ false
unfolding line_stage
open_stage [] = refl
open_stage (b ∷ []) = by (b == carriage_return)
  where
    by : (t : Bool) → has_ended (if t then Return else Line) ≡ false
    by true = refl
    by false = refl
open_stage (b ∷ c ∷ line) = refl

-- at the start of a line
at_start : (text : List ℕ) → has_ended (after_all (line_stage []) text) ≡ has_end text
    → has_ended (after_all Empty text) ≡ has_end text
unfolding line_stage
at_start text e = e

-- a text, of whose first line some bytes have come
from_line : (line text : List ℕ) → NoFeed line → has_ended (after_all (line_stage line) text) ≡ has_end (line ++ text)
unfolding after_all
from_line line [] none =
    open_stage line ∙ sym (no_feed line none) ∙ sym (ap has_end (append-nil line))
from_line line (b ∷ text) none =
    by (is_line_feed b) refl (from_line [] text (All-nil _)) (from_line (line ++ b ∷ []) text)
  where
    at_feed : (t : Bool) → is_empty_line line ≡ t
        → has_ended (after_all Empty text) ≡ has_end text
        → has_ended (after_all (stage_after (line_stage line) 10) text) ≡ has_end (line ++ 10 ∷ text)
    at_feed true is next =
        ap (λ s. has_ended (after_all s text)) (fed line ∙ ap (λ t. if t then Ended else Empty) is)
        ∙ stays_ended text
        ∙ sym (empty_line (line ++ 10 ∷ text) line text (ended_lines_at line text none) is).ends
    at_feed false is next =
        ap (λ s. has_ended (after_all s text)) (fed line ∙ ap (λ t. if t then Ended else Empty) is)
        ∙ next
        ∙ sym (full_line (line ++ 10 ∷ text) line text (ended_lines_at line text none) is).ends

    by : (t : Bool) → is_line_feed b ≡ t
        → has_ended (after_all (line_stage []) text) ≡ has_end ([] ++ text)
        → (NoFeed (line ++ b ∷ []) → has_ended (after_all (line_stage (line ++ b ∷ [])) text) ≡ has_end ((line ++ b ∷ []) ++ text))
        → has_ended (after_all (stage_after (line_stage line) b) text) ≡ has_end (line ++ b ∷ text)
    by true is next more =
        let feed : b ≡ 10 = eqb-true b 10 is in
        subst (λ c. has_ended (after_all (stage_after (line_stage line) c) text) ≡ has_end (line ++ c ∷ text)) (sym feed)
        (at_feed (is_empty_line line) refl (at_start text next))
    by false is next more =
        ap (λ s. has_ended (after_all s text)) (unfed line b is)
        ∙ more (All-append (λ c. is_line_feed c ≡ false) line (b ∷ []) none (All-cons (λ c. is_line_feed c ≡ false) b [] is (All-nil _)))
        ∙ ap has_end (append_assoc line (b ∷ []) text)

-- ---- from the first byte

no_text : has_end [] ≡ false
unfolding has_end
no_text = refl

one_byte : (b : ℕ) → (b == carriage_return) ≡ false → Line ≡ line_stage (b ∷ [])
unfolding line_stage
one_byte b is = sym (ap (λ t. if t then Return else Line) is)

from_front : (bytes : List ℕ) → has_ended (after_all Front bytes) ≡ has_end (without_front bytes)
unfolding after_all
from_front [] = sym no_text
from_front (b ∷ bytes) = by (is_newline b) refl (from_front bytes)
  where
    by : (t : Bool) → is_newline b ≡ t → has_ended (after_all Front bytes) ≡ has_end (without_front bytes)
        → has_ended (after_all (if is_newline b then Front else Line) bytes)
        ≡ has_end (if is_newline b then without_front bytes else b ∷ bytes)
    by true is next =
        ap (λ t. has_ended (after_all (if t then Front else Line) bytes)) is ∙ next
        ∙ sym (ap (λ t. has_end (if t then without_front bytes else b ∷ bytes)) is)
    by false is next =
        let parts = or_parts (b == carriage_return) (is_line_feed b) is in
        ap (λ t. has_ended (after_all (if t then Front else Line) bytes)) is
        ∙ ap (λ s. has_ended (after_all s bytes)) (one_byte b parts.0)
        ∙ from_line (b ∷ []) bytes (All-cons (λ c. is_line_feed c ≡ false) b [] parts.1 (All-nil _))
        ∙ sym (ap (λ t. has_end (if t then without_front bytes else b ∷ bytes)) is)

pub stage_tells : (bytes : List ℕ) → length bytes ≤ head_limit → has_ended (stage_of bytes) ≡ has_end (head_text bytes)
unfolding stage_of
stage_tells bytes fits = from_front bytes ∙ sym (ap (λ t. has_end (without_front t)) (take_all head_limit bytes fits))

-- ---- of the bytes in a room

pub tells_of : (stage : HeadStage) (room : List ℕ) (count : ℕ) (t : Bool) → count ≤ length room → length room ≡ head_limit
    → stage ≡ stage_of (take count room) → has_ended stage ≡ t → has_end (head_text (take count room)) ≡ t
tells_of stage room count t within size is told =
    sym (stage_tells (take count room) (omega (arith, length-take-le count room within, within, size)))
    ∙ ap has_ended (sym is) ∙ told

-- after one byte more
pub stage_next : (stage : HeadStage) (room : List ℕ) (count byte : ℕ) → count < length room
    → stage ≡ stage_of (take count room)
    → stage_after stage byte ≡ stage_of (take (count + 1) (set room count byte))
stage_next stage room count byte within is =
    ap (λ s. stage_after s byte) is ∙ sym (stage_more (take count room) byte)
    ∙ ap stage_of (sym (take_more_set room count byte within))

-- which had not ended before
pub before_set : (room : List ℕ) (count byte : ℕ) → has_end (head_text (take count room)) ≡ false
    → has_end (head_text (take count (set room count byte))) ≡ false
before_set room count byte before = ap (λ t. has_end (head_text t)) (take-set room count byte) ∙ before

-- whether it has ended with that byte
pub ends_by : (stage after : HeadStage) (room : List ℕ) (count byte : ℕ) (t : Bool) → count < length room
    → length room ≡ head_limit → stage ≡ stage_of (take count room) → after ≡ stage_after stage byte → has_ended after ≡ t
    → has_end (head_text (take (count + 1) (set room count byte))) ≡ t
ends_by stage after room count byte t within size is next told =
    let long : length (set room count byte) ≡ length room = length-set room count byte in
    tells_of after (set room count byte) (count + 1) t (omega (arith, within, long)) (long ∙ size)
    (next ∙ stage_next stage room count byte within is) told
