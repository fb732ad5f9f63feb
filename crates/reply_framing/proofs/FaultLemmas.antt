-- Texts that are appended to a ring one behind the other.
use Rattle.std.proofs.Common.{◌≡◌, ℕ, List, ◌++◌, ap, sym, ◌∙◌, append_assoc, codes}
use Rattle.circular_buffer.specs.Buffer.{Buffer, buffer}
use Rattle.rack_types.specs.declared.fault.Fault.{Fault}
use Rattle.reply_framing.specs.Fault.{fault_reply, fault_status, fault_name}
use Rattle.reply_framing.specs.Head.{crlf, status_line, value_line}

pub puts : (a b c : Buffer ℕ) (x y : List ℕ) → b ≡ buffer (a.items ++ x) a.capacity → c ≡ buffer (b.items ++ y) b.capacity → c ≡ buffer (a.items ++ (x ++ y)) a.capacity
puts a b c x y p q =
    q ∙ ap (λ (w : Buffer ℕ). buffer (w.items ++ y) w.capacity) p ∙ ap (λ w. buffer w a.capacity) (append_assoc a.items x y)

pub fault_text : (fault : Fault) → ((status_line (fault_status fault) ++ codes "x-puma-fault: ") ++ fault_name fault) ++ codes "\r\ncontent-length: 0\r\nconnection: close\r\n\r\n" ≡ fault_reply fault
fault_text fault =
    let line : List ℕ = status_line (fault_status fault) in
    let word : List ℕ = codes "x-puma-fault: " in
    let name : List ℕ = fault_name fault in
    let length_line : List ℕ = value_line (codes "content-length") (codes "0") in
    let close_line : List ℕ = value_line (codes "connection") (codes "close") in
    let rest : List ℕ = length_line ++ (close_line ++ crlf) in
    let front : List ℕ = line ++ value_line (codes "x-puma-fault") name in
    append_assoc (line ++ word) name (crlf ++ rest) ∙ append_assoc line word (name ++ (crlf ++ rest))
    ∙ ap (λ w. line ++ (word ++ w)) (sym (append_assoc name crlf rest))
    ∙ sym (append_assoc line (value_line (codes "x-puma-fault") name) rest)
    ∙ sym (append_assoc front length_line (close_line ++ crlf)) ∙ sym (append_assoc (front ++ length_line) close_line crlf)
