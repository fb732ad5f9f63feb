use Rattle.std.proofs.Common.{◌≡◌, ◌<◌, length, Some, None, is_some, [], sym, ap, rules}
use Rattle.std.proofs.lemmas.List.{nil_from_length}
use Rattle.rack_text.specs.Host.{host_parts, name_len}
use Rattle.rack_text.proofs.HostLemmas.{host_parts-nil, host_parts_named, host_parts_nameless, IsHost-told, IsNoHost-told}
use Rattle.rack_text.proofs.host.read_host.Goals as goal

pub returns-then-is_empty : goal.returns-then-is_empty
returns-then-is_empty c =
    let text = c.args.text.now in
    let empty : text ≡ [] = nil_from_length text (search rules) in
    let parts : host_parts text ≡ Some (text, None) = rw empty host_parts-nil in
    record { parts = sym parts; exactly = IsHost-told text text None parts; valid = sym (ap is_some parts) }

pub returns-then-is_empty-2 : goal.returns-then-is_empty-2
returns-then-is_empty-2 c =
    let text = c.args.text.now in
    let some : 0 < length text = search rules in
    let nameless : name_len text ≡ 0 = search rules in
    let none : host_parts text ≡ None = host_parts_nameless text some nameless in
    record { parts = sym none; exactly = IsNoHost-told text none; valid = sym (ap is_some none) }

pub returns-in_err-port : goal.returns-in_err-port
returns-in_err-port c =
    let text = c.args.text.now in
    let named : 0 < name_len text = search rules in
    let none : host_parts text ≡ None = rw (host_parts_named text named) (search rules) in
    rw c.from_residual.ensures (record { parts = sym none; exactly = IsNoHost-told text none; valid = sym (ap is_some none) })

pub returns : goal.returns
returns c =
    let text = c.args.text.now in
    let name = c.split_at.result.0.now in
    let port = c.in_ok-port.port in
    let named : 0 < name_len text = search rules in
    let parts : host_parts text ≡ Some (name, port) = rw (host_parts_named text named) (search rules) in
    record { parts = sym parts; exactly = IsHost-told text name port parts; valid = sym (ap is_some parts) }
