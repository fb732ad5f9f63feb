use Rattle.std.proofs.Common.{◌++◌, ap, ◌∙◌, codes}
use Rattle.circular_buffer.specs.Buffer.{buffer}
use Rattle.reply_framing.specs.Fault.{fault_status, fault_name}
use Rattle.reply_framing.specs.Head.{status_line}
use Rattle.reply_framing.proofs.FaultLemmas.{puts, fault_text}
use Rattle.reply_framing.proofs.fault.put_fault.Goals as goal

pub returns : goal.returns
returns c =
    let a = c.args.ring.now in
    let fault = c.args.fault in
    let first = c.put_status.ensures.line ∙ ap (λ s. buffer (a.items ++ status_line s) a.capacity) c.fault_status.ensures in
    let line = status_line (fault_status fault) in
    puts a c.put_name.new.ring c.put-2.new.ring ((line ++ codes "x-puma-fault: ") ++ fault_name fault) (codes "\r\ncontent-length: 0\r\nconnection: close\r\n\r\n")
    (puts a c.put.new.ring c.put_name.new.ring (line ++ codes "x-puma-fault: ") (fault_name fault)
    (puts a c.put_status.new.ring c.put.new.ring line (codes "x-puma-fault: ") first c.put.ensures.text) c.put_name.ensures.name) c.put-2.ensures.text
    ∙ ap (λ w. buffer (a.items ++ w) a.capacity) (fault_text fault)
