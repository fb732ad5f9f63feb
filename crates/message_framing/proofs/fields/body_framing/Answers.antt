use Rattle.std.proofs.Common.{sym, ◌∙◌, ◌≡◌, true, false, [], map, codes, subst, Option}
use Rattle.httparse.specs.Spans.{header_bytes}
use Rattle.rack_types.specs.Fields.{values_of}
use Rattle.message_framing.specs.declared.fields.Codings.{Codings}
use Rattle.message_framing.specs.Found.{CodingsFound}
use Rattle.message_framing.specs.Framing.{is_host_right}
use Rattle.message_framing.proofs.FieldLemmas.{fields_host, stated_tell, transfer_none, transfer_some}
use Rattle.message_framing.proofs.fields.body_framing.Goals as goal

pub returns-then-not-is_host_right : goal.returns-then-not-is_host_right
returns-then-not-is_host_right c =
    let fields = map (header_bytes c.args.text.now) c.args.places.now in
    let wrong : is_host_right c.args.version (values_of (codes "host") fields) ≡ false =
    sym (c.is_host_right.ensures _ c.find-found.ensures.host_is) ∙ c.if-not-is_host_right.true in
    fields_host c.args.version fields wrong

pub returns-in-None : goal.returns-in-None
returns-in-None c =
    let fields = map (header_bytes c.args.text.now) c.args.places.now in
    let right : is_host_right c.args.version (values_of (codes "host") fields) ≡ true =
    sym (c.is_host_right.ensures _ c.find-found.ensures.host_is) ∙ c.if-not-is_host_right.false in
    let none : values_of (codes "transfer-encoding") fields ≡ [] =
    subst (λ (o : Option Codings). CodingsFound o (values_of (codes "transfer-encoding") fields)) c.in-None.is c.find-found.ensures.codings_are in
    stated_tell c.stated.result c.args.version fields right none (c.stated.ensures _ c.find-found.ensures.length_is)

pub returns-in-None-transfer_fault : goal.returns-in-None-transfer_fault
returns-in-None-transfer_fault c =
    let fields = map (header_bytes c.args.text.now) c.args.places.now in
    let right : is_host_right c.args.version (values_of (codes "host") fields) ≡ true =
    sym (c.is_host_right.ensures _ c.find-found.ensures.host_is) ∙ c.if-not-is_host_right.false in
    let some = subst (λ (o : Option Codings). CodingsFound o (values_of (codes "transfer-encoding") fields)) c.in-Some.is c.find-found.ensures.codings_are in
    transfer_none c.args.version fields right some.0 (c.in-None-transfer_fault.ensures _ _ some.1 c.find-found.ensures.length_is)

pub returns-in-Some-transfer_fault : goal.returns-in-Some-transfer_fault
returns-in-Some-transfer_fault c =
    let fields = map (header_bytes c.args.text.now) c.args.places.now in
    let right : is_host_right c.args.version (values_of (codes "host") fields) ≡ true =
    sym (c.is_host_right.ensures _ c.find-found.ensures.host_is) ∙ c.if-not-is_host_right.false in
    let some = subst (λ (o : Option Codings). CodingsFound o (values_of (codes "transfer-encoding") fields)) c.in-Some.is c.find-found.ensures.codings_are in
    transfer_some c.args.version fields c.in-Some-transfer_fault.fault right some.0 (c.in-Some-transfer_fault.ensures _ _ some.1 c.find-found.ensures.length_is)
