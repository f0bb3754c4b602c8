-- The parts of a request's target: path and query (RFC 3986, sections 3.3 and 3.4), and in the path
-- of a laboratory its code and the place in it. Nothing is decoded, and `#` is a byte like others.
use Rattle.std.specs.Prelude.{ℕ, Bool, List, [], ◌==◌, if◌then◌else◌, length, drop, nat_eq, slice_index_or, Option, Some, None, codes}
use Rattle.std.specs.List.{before_first, after_first, slice_split, starts_with}

-- b'?', which begins a query
abbrev pub question_mark : ℕ
question_mark = 63

abbrev pub is_question_mark : ℕ → Bool
is_question_mark b = b == question_mark

-- the path of a target: what stands before the query
abbrev pub path_of : List ℕ → List ℕ
path_of target = before_first is_question_mark target

-- its query: what follows the first question mark, or nothing where there is none
abbrev pub query_of : List ℕ → List ℕ
query_of target = after_first is_question_mark target

-- what stands behind a prefix in a text that begins with it
unfoldable pub behind : List ℕ → List ℕ → Option (List ℕ)
behind prefix text =
    if starts_with nat_eq text prefix then Some (drop (length prefix) text) else None

-- what the paths of laboratories begin with
abbrev pub labs_prefix : List ℕ
labs_prefix = codes "/labs/"

-- b'/', which ends a segment of a path
abbrev pub slash : ℕ
slash = 47

abbrev pub is_slash : ℕ → Bool
is_slash b = b == slash

-- the laboratory in what stands behind that prefix, as written: the first segment
abbrev pub lab_in : List ℕ → List ℕ
lab_in rest = before_first is_slash rest

-- and the place in the laboratory: what follows it, from the slash on
abbrev pub place_in : List ℕ → List ℕ
place_in rest = drop (length (lab_in rest)) rest

-- the segments of a place, which is empty or begins with a slash: `/records/5` has two, the empty
-- place has none, and `/` has an empty one
unfoldable pub segments : List ℕ → List (List ℕ)
segments place = drop 1 (slice_split is_slash place)

-- the segment at a number, counted from 0
abbrev pub segment_at : ℕ → List ℕ → List ℕ
segment_at i place = slice_index_or (segments place) i []
