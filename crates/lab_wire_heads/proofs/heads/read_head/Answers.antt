use Rattle.std.proofs.Common.{◌≡◌, List, ℕ, ◌+◌, length, true, false, sym, ap, ◌∙◌, Ok}
use Rattle.httparse.specs.Grammar.{print_version}
use Rattle.lab_wire_heads.specs.Heads.{head_end, head_length}
use Rattle.lab_wire_heads.proofs.HeadLaws.{reads_head}
use Rattle.lab_wire_heads.proofs.PlaceLemmas.{stands_behind}
use Rattle.lab_wire_heads.proofs.ReadLemmas.{from_text, front_text, too_long, bad_head, fields_of_spans, hosts_of_fields, checked_answer}
use Rattle.lab_wire_heads.proofs.heads.read_head.Goals as goal

pub returns-then-is_over_limits-clause-refused : goal.returns-then-is_over_limits-clause-refused
returns-then-is_over_limits-clause-refused c =
    let bytes : List ℕ = c.args.bytes.now in
    let text : List ℕ = c.head_text-front.result.text.now in
    from_text bytes text c.head_text-front.ensures.text
    (too_long (length bytes) text (head_end bytes) (sym c.is_over_limits.ensures ∙ c.if-is_over_limits.true))

pub returns-in_default-clause-refused : goal.returns-in_default-clause-refused
returns-in_default-clause-refused c =
    let bytes : List ℕ = c.args.bytes.now in
    let text : List ℕ = c.head_text-front.result.text.now in
    from_text bytes text c.head_text-front.ensures.text
    (bad_head (length bytes) text (head_end bytes) (front_text bytes text c.head_text-front.ensures.text)
    (sym c.is_over_limits.ensures ∙ c.if-is_over_limits.false) c.in_default.ensures.none)

pub returns-then-not-keeps_host_rule-clause-refused : goal.returns-then-not-keeps_host_rule-clause-refused
returns-then-not-keeps_host_rule-clause-refused c =
    let bytes : List ℕ = c.args.bytes.now in
    let text : List ℕ = c.head_text-front.result.text.now in
    let head = c.in-Some.ensures.head in
    from_text bytes text c.head_text-front.ensures.text
    (checked_answer (length bytes) text (head_end bytes) head.0 _ c.in-Some.head.version c.host_count-hosts.result c.keeps_host_rule.result false
    (front_text bytes text c.head_text-front.ensures.text)
    (sym c.is_over_limits.ensures ∙ c.if-is_over_limits.false) head.1.reads head.1.version
    (c.host_count-hosts.ensures
    ∙ hosts_of_fields text c.parse_head.new.headers c.in-Some.head.headers head.0.fields head.1.fields)
    c.keeps_host_rule.ensures c.if-not-keeps_host_rule.true)

pub returns-clause-good : goal.returns-clause-good
returns-clause-good c =
    let bytes : List ℕ = c.args.bytes.now in
    let text : List ℕ = c.head_text-front.result.text.now in
    let head = c.in-Some.ensures.head in
    let spans = c.parse_head.new.headers in
    let front = front_text bytes text c.head_text-front.ensures.text in
    let fields = fields_of_spans text spans c.in-Some.head.headers head.0.fields head.1.fields in
    let method = c.of-2.ensures ∙ head.1.method in
    let target = c.in-Ok.ensures.cases.0 ∙ c.of.ensures ∙ head.1.path in
    let length_is = (reads_head text head.0 _ front head.1.reads).size ∙ sym head.1.len in
    let end : head_end bytes ≡ c.head_text-front.result.front + c.in-Some.head.len =
    (λ i. sym c.head_text-front.ensures.front i + head_length (sym c.head_text-front.ensures.text i))
    ∙ ap (λ n. c.head_text-front.result.front + n) length_is in
    from_text bytes text c.head_text-front.ensures.text
    (checked_answer (length bytes) text (head_end bytes) head.0 _ c.in-Some.head.version c.host_count-hosts.result c.keeps_host_rule.result true
    front
    (sym c.is_over_limits.ensures ∙ c.if-is_over_limits.false) head.1.reads head.1.version
    (c.host_count-hosts.ensures
    ∙ hosts_of_fields text spans c.in-Some.head.headers head.0.fields head.1.fields)
    c.keeps_host_rule.ensures c.if-not-keeps_host_rule.false)
    ∙ (λ i. Ok (record {
      head = record {
        method = sym method i;
        target = sym target i;
        version = print_version (sym head.1.version i);
        fields = sym fields i;
      };
      end = end i;
    }))

pub returns-clause-places : goal.returns-clause-places
returns-clause-places c =
    let bytes : List ℕ = c.args.bytes.now in
    let within = c.in-Some.ensures.within in
    let text = c.head_text-front.ensures in
    record {
      method = stands_behind bytes c.head_text-front.result.text.now c.head_text-front.result.front c.in-Some.head.len
          c.in-Some.head.method c.of-2.result.now text.front text.text text.fits within.section.len_fits within.method
          c.of-2.ensures;
      target = stands_behind bytes c.head_text-front.result.text.now c.head_text-front.result.front c.in-Some.head.len
          c.in-Some.head.path c.in-Ok.target.now text.front text.text text.fits within.section.len_fits within.path
          (c.in-Ok.ensures.cases.0 ∙ c.of.ensures);
      text = rw c.in-Ok.ensures.cases.0 (c.in-Ok.ensures.cases.1);
    }
