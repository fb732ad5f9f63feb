-- The reply to a broken answer, and what a framer stands for.
use Rattle.std.proofs.Common.{◌≡◌, ℕ, Bool, true, false, List, [], ◌++◌, None, refl, ap, sym, ◌∙◌, append_assoc}
use Rattle.std.specs.Prelude.{codes, decimal}
use Rattle.std.proofs.lemmas.List.{append-nil}
use Rattle.rack_types.specs.declared.limits.Version.{Version}
use Rattle.rack_types.specs.declared.rules.Rule.{Rule}
use Rattle.rack_types.specs.BodyRules.{body_break}
use Rattle.reply_framing.specs.declared.types.After.{After}
use Rattle.reply_framing.specs.declared.types.Ask.{Ask}
use Rattle.reply_framing.specs.declared.types.Form.TheVariants.{Bare}
use Rattle.reply_framing.specs.Coming.{Coming}
use Rattle.reply_framing.specs.Form.{connection_line}
use Rattle.reply_framing.specs.Framer.{broken_after}
use Rattle.reply_framing.specs.Head.{crlf, status_line, header_lines}
use Rattle.reply_framing.specs.Owes.{StandsFor}
use Rattle.reply_framing.specs.Reply.{body_after, broken_reply, broken_headers, head_text}

-- the head in the place of that of a broken answer
abbrev pub broken_text : Rule → After → Version → List ℕ
broken_text rule after version = head_text 500 (broken_headers rule) Bare None after version

abbrev ask_of : Bool → Bool → Version → Ask
ask_of head persists version = record { head = head; version = version; persists = persists }

module _ (H : Type 0) (rule : Rule) (version : Version) where
  bytes_at : (head persists last : Bool) → (broken_reply {H = H} rule (ask_of head persists version) last).bytes ≡ broken_text rule (broken_after persists last) version ++ []
  unfolding body_break
  bytes_at true true true = refl
  bytes_at true true false = refl
  bytes_at true false last = refl
  bytes_at false true true = refl
  bytes_at false true false = refl
  bytes_at false false last = refl

  rule_at : (head persists last : Bool) → (broken_reply {H = H} rule (ask_of head persists version) last).rule ≡ None
  unfolding body_break
  rule_at true persists last = refl
  rule_at false persists last = refl

  after_at : (head persists last : Bool) → (broken_reply {H = H} rule (ask_of head persists version) last).after ≡ broken_after persists last
  unfolding body_break
  after_at true true true = refl
  after_at true true false = refl
  after_at true false last = refl
  after_at false true true = refl
  after_at false true false = refl
  after_at false false last = refl

-- the lines of the headers that name the rule
broken_lines : (rule : Rule) → header_lines false (broken_headers rule) ≡ codes "x-puma-fault: L" ++ (decimal rule.0 ++ codes "\r\ncontent-length: 0\r\n")
broken_lines rule =
    let number = decimal rule.0 in
    let rest = codes "content-length: 0\r\n" in
    ap (λ w. codes "x-puma-fault: L" ++ w) (ap (λ w. w ++ rest) (append-nil (number ++ crlf)) ∙ append_assoc number crlf rest)

pub broken_text_is : (rule : Rule) (after : After) (version : Version)
    → status_line 500 ++ codes "x-puma-fault: L" ++ decimal rule.0 ++ codes "\r\ncontent-length: 0\r\n" ++ connection_line after version ++ crlf ≡ broken_text rule after version
broken_text_is rule after version =
    let line : List ℕ = status_line 500 in
    let word : List ℕ = codes "x-puma-fault: L" in
    let number : List ℕ = decimal rule.0 in
    let rest : List ℕ = codes "\r\ncontent-length: 0\r\n" in
    let headers : List ℕ = header_lines false (broken_headers rule) in
    let same : ((line ++ word) ++ number) ++ rest ≡ (line ++ headers) ++ [] =
    append_assoc (line ++ word) number rest ∙ append_assoc line word (number ++ rest)
    ∙ ap (λ w. line ++ w) (sym (broken_lines rule)) ∙ sym (append-nil (line ++ headers)) in
    ap (λ w. (w ++ connection_line after version) ++ crlf) same

pub broken_stands : {H : Type 0} (f : Coming H) (rule : Rule) (ask : Ask) (last : Bool) (after : After) → after ≡ broken_after ask.persists last
    → f.rest.bytes ≡ status_line 500 ++ codes "x-puma-fault: L" ++ decimal rule.0 ++ codes "\r\ncontent-length: 0\r\n" ++ connection_line after ask.version ++ crlf
    → f.rest.rule ≡ None → f.after ≡ after → f.hijacker ≡ None
    → StandsFor f (broken_reply rule ask last)
broken_stands {H = H} f rule ask last after after_is bytes none same hijacker =
    let text = broken_text rule (broken_after ask.persists last) ask.version in
    record {
      bytes = bytes ∙ broken_text_is rule after ask.version ∙ ap (λ a. broken_text rule a ask.version) after_is
          ∙ sym (bytes_at H rule ask.version ask.head ask.persists last ∙ append-nil text);
      rule = none ∙ sym (rule_at H rule ask.version ask.head ask.persists last);
      after = ap (λ w. body_after w f.after) none ∙ same ∙ after_is ∙ sym (after_at H rule ask.version ask.head ask.persists last);
      hijacker = hijacker;
    }
