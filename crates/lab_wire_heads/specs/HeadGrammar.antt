-- That reading a head by lines and words is the grammar of request heads (RFC 9112, sections 2.2, 3
-- and 5), as the kit's `httparse` states it for its default settings.
use Rattle.std.specs.Prelude.{◌≡◌, ℕ, ◌+◌, List, length, drop, map, Some}
use Rattle.httparse.specs.Grammar.{print_version, RequestHead, ReadsRequest}
use Rattle.httparse.specs.Grammar as grammar
use Rattle.lab_wire_heads.specs.Heads.{without_front, head_lines, head_length, Field, Head, head_of}

-- what the reading shows of a field of the grammar
abbrev pub field_shown : grammar.Field → Field
field_shown f = record { name = f.name; value = grammar.field_value f }

-- and of a head
abbrev pub head_shown : RequestHead → Head
head_shown h = record {
  method = h.method;
  target = h.target;
  version = print_version h.minor;
  fields = map field_shown h.fields;
}

-- a head of the grammar stands at the front of the text
abbrev pub HasHead : List ℕ → Type 0
HasHead text = (h : RequestHead) × (rest : List ℕ) × ReadsRequest text h rest

-- that head, as it is read
pub record IsReadAs (text : List ℕ) (h : RequestHead) (after : List ℕ) : Type 0 where
  pub head : head_of text ≡ Some (head_shown h)
  pub lines : length (head_lines text) ≡ 1 + length h.fields
  pub rest : drop (head_length text) text ≡ after

-- the grammar's head at the front of the text is the one that is read, of as many lines and with
-- the same rest behind it, and none is read where the grammar has none
pub record IsReadByGrammar (text : List ℕ) : Type 0 where
  pub reads : (h : RequestHead) (rest : List ℕ) → ReadsRequest text h rest → IsReadAs text h rest
  pub only : (head : Head) → head_of text ≡ Some head → HasHead text

-- of all bytes, from the request line on, a head is read exactly by the grammar
abbrev pub GrammarOfHeads : Type 0
GrammarOfHeads = (bytes : List ℕ) → IsReadByGrammar (without_front bytes)
