use Rattle.std.proofs.Common.{◌≡◌, ◌++◌, ap, ◌∙◌, codes, decimal}
use Rattle.circular_buffer.specs.Buffer.{buffer}
use Rattle.reply_framing.specs.Reason.{reason}
use Rattle.reply_framing.proofs.FaultLemmas.{puts}
use Rattle.reply_framing.proofs.fault.put_status.Goals as goal

pub returns-clause-line : goal.returns-clause-line
returns-clause-line c =
    let a = c.args.ring.now in
    let number : c.as_bytes.result.now ≡ decimal c.args.status = c.as_bytes.ensures.value ∙ c.format.ensures.text in
    let word : c.as_bytes-2.result.now ≡ reason c.args.status = c.as_bytes-2.ensures.value ∙ c.reason.ensures.text in
    let second = c.put-2.ensures.text ∙ ap (λ w. buffer (c.put.new.ring.items ++ w) c.put.new.ring.capacity) number in
    let fourth = c.put-4.ensures.text ∙ ap (λ w. buffer (c.put-3.new.ring.items ++ w) c.put-3.new.ring.capacity) word in
    puts a c.put-4.new.ring c.put-5.new.ring (((codes "HTTP/1.1 " ++ decimal c.args.status) ++ codes " ") ++ reason c.args.status) (codes "\r\n")
    (puts a c.put-3.new.ring c.put-4.new.ring ((codes "HTTP/1.1 " ++ decimal c.args.status) ++ codes " ") (reason c.args.status)
    (puts a c.put-2.new.ring c.put-3.new.ring (codes "HTTP/1.1 " ++ decimal c.args.status) (codes " ")
    (puts a c.put.new.ring c.put-2.new.ring (codes "HTTP/1.1 ") (decimal c.args.status) c.put.ensures.text second) c.put-3.ensures.text) fourth) c.put-5.ensures.text
