-- What an order did, put together.
use Rattle.std.proofs.Common.{◌≡◌, ◌≢◌, ℕ, ◌<◌, ◌≤◌, ◌⊎◌, List, [], ◌∷◌, ◌++◌, Option, None, Some, refl, ap, sym, ◌∙◌, subst, inl, inr}
use Rattle.rack_outside.specs.Link.{Seen, Tells, faults}
use Rattle.rack_outside.specs.Told.{Rose}
use Rattle.puma_ctl.specs.declared.order.Outcome.{Outcome}
use Rattle.puma_ctl.specs.declared.order.Outcome.TheVariants.{Done, Denied, NoAnswer, Dial, SinkFault, NoMemory}
use Rattle.puma_ctl.specs.Dial.{DialSeen, IsOneDial, with_back}
use Rattle.puma_ctl.specs.Order.{OutSeen, Order, HasReply, printed, pauses_limit, Prints, PrintsLess, EndsShort, GivesNoReply, IsUnanswered, Ended, HandsBack, Ordered, GivesReply, IsExcused, outcome_of}
use Rattle.puma_ctl.specs.Reply.{BeginsReply, IsReply, IsNoReply}
use Rattle.puma_ctl.proofs.ReplyLemmas.{begins_itself, begins_not_refused, begins_stays, begins_unique, refused_stays}
use Rattle.std.proofs.lemmas.List.{append-nil}
use Rattle.std.proofs.lemmas.Bool.Decides.{eqb_tells}
use Rattle.puma_ctl.specs.Steps.{HearsReply, PrintsReply, WritesLess}
use Rattle.puma_ctl.specs.Wish.{wish_bytes}
use Rattle.puma_ctl.proofs.TalkLemmas.{tells_appended}

-- the link is handed back
back_is : (dialled new : DialSeen) (link : Seen) → new ≡ with_back link dialled → new.back ≡ Some link
back_is dialled new link is = ap (λ (d : DialSeen). d.back) is

pub handed : (dialled talked new : DialSeen) (link : Seen) → talked ≡ dialled → new ≡ with_back link talked → new ≡ with_back link dialled
handed dialled talked new link same is = is ∙ ap (with_back link) same

hands : (old dialled new : DialSeen) (link : Seen) → IsOneDial old dialled → new ≡ with_back link dialled → HandsBack old new
hands old dialled new link one is = inr (ap (λ (d : DialSeen). d.dials) is ∙ one.dials, inl (link, back_is dialled new link is))

has_reply : (order : Order) (link : Seen) (status : ℕ) (text back part : List ℕ) → text ≡ wish_bytes order.token order.wish → HearsReply status text link back
    → ((s : ℕ) (body : List ℕ) → BeginsReply back s body → part ≡ body) → HasReply order link status part
has_reply order link status text back part text_is x part_is = record {
  sent = subst (λ (w : List ℕ). Tells link.sent w) text_is x.sent_is;
  given = back;
  given_is = x.given_is;
  begins = subst (λ (w : List ℕ). BeginsReply back status w) (sym (part_is status x.body x.begins)) x.begins;
}

less_printed : (order : Order) (new : DialSeen) (link : Seen) (before out : OutSeen) (status : ℕ) (body : List ℕ) → new.back ≡ Some link
    → HasReply order link status body → Tells before.written [] → WritesLess (printed body) before out → PrintsLess order new out
less_printed order new link before out status body back reply fresh x = record {
  link = link;
  back = back;
  status = status;
  body = body;
  reply = reply;
  front = x.front;
  more = x.more;
  split = x.split;
  less = x.less;
  printed = tells_appended before.written out.written [] x.front fresh x.written;
}

ended : (outcome : Outcome) (order : Order) (old new : DialSeen) (link : Seen) (before out : OutSeen) (status : ℕ) (body : List ℕ) → new.back ≡ Some link
    → HasReply order link status body → Tells before.written [] → PrintsReply outcome status body before out → Ended outcome order old new before out
ended Done order old new link before out status body back reply fresh x = record {
  link = link;
  back = back;
  body = body;
  reply = subst (λ (s : ℕ). HasReply order link s body) x.0 reply;
  printed = tells_appended before.written out.written [] (printed body) fresh x.1;
}
ended (Denied denied) order old new link before out status body back reply fresh x = (
  record {
    link = link;
    back = back;
    body = body;
    reply = subst (λ (s : ℕ). HasReply order link s body) (sym x.0) reply;
    printed = tells_appended before.written out.written [] (printed body) fresh x.2;
  },
  λ is. x.1 (sym x.0 ∙ is),
)
ended NoAnswer order old new link before out status body back reply fresh x = absurd x
ended Dial order old new link before out status body back reply fresh x = absurd x
ended SinkFault order old new link before out status body back reply fresh x =
    (x.1, less_printed order new link before out status body back reply fresh x.0)
ended NoMemory order old new link before out status body back reply fresh x =
    inr (less_printed order new link before out status body back reply fresh x)

pub ordered_reply : (outcome : Outcome) (order : Order) (old dialled new : DialSeen) (link : Seen) (before out : OutSeen) (status : ℕ) (text back part : List ℕ)
    → IsOneDial old dialled → new ≡ with_back link dialled → text ≡ wish_bytes order.token order.wish → HearsReply status text link back
    → ((s : ℕ) (body : List ℕ) → BeginsReply back s body → part ≡ body) → Tells before.written [] → PrintsReply outcome status part before out
    → Ordered outcome order old new before out
ordered_reply outcome order old dialled new link before out status text back part one is text_is x part_is fresh prints = record {
  ended = ended outcome order old new link before out status part (back_is dialled new link is) (has_reply order link status text back part text_is x part_is)
      fresh prints;
  hands = hands old dialled new link one is;
}

pub ordered_unanswered : (order : Order) (old dialled new : DialSeen) (link : Seen) (before : OutSeen) → IsOneDial old dialled
    → new ≡ with_back link dialled → IsUnanswered link → Ordered NoAnswer order old new before before
ordered_unanswered order old dialled new link before one is x = record {
  ended = (link, back_is dialled new link is, x, refl);
  hands = hands old dialled new link one is;
}

pub ordered_failed : (order : Order) (old dialled new : DialSeen) (link : Seen) (before : OutSeen) → IsOneDial old dialled
    → new ≡ with_back link dialled → 0 < faults link → Ordered Dial order old new before before
ordered_failed order old dialled new link before one is x = record {
  ended = (inr (link, back_is dialled new link is, x), refl);
  hands = hands old dialled new link one is;
}

pub ordered_memory : (order : Order) (old dialled new : DialSeen) (link : Seen) (before : OutSeen) → IsOneDial old dialled
    → new ≡ with_back link dialled → Ordered NoMemory order old new before before
ordered_memory order old dialled new link before one is = record { ended = inl refl; hands = hands old dialled new link one is }

-- a reply that was given is the one that came
came_so : (link : Seen) (reply : List ℕ) (s status : ℕ) (got body given : List ℕ) → GivesReply link reply → IsReply reply status body
    → Tells link.given given → BeginsReply given s got → (s ≡ status) × (got ≡ body)
came_so link reply s status got body given gives is told begins =
    let same : gives.given ≡ given = subst (λ (o : Option (List ℕ)). Tells o given) gives.given_is told in
    let whole : reply ≡ given ++ gives.rest = gives.split ∙ ap (λ (w : List ℕ). w ++ gives.rest) same in
    let longer : BeginsReply reply s got = subst (λ (w : List ℕ). BeginsReply w s got) (sym whole) (begins_stays given gives.rest s got begins) in
    begins_unique reply s status got body longer (begins_itself reply status body is)

-- and so something came of it
not_short : (link : Seen) (reply : List ℕ) (status : ℕ) (body : List ℕ) → GivesReply link reply → IsReply reply status body → EndsShort link → ⊥
not_short link reply status body gives is x =
    let same : gives.given ≡ x.given = subst (λ (o : Option (List ℕ)). Tells o x.given) gives.given_is x.given_is in
    let whole : reply ≡ x.given =
    gives.split ∙ ap (λ (w : List ℕ). w ++ gives.rest) same ∙ ap (λ (w : List ℕ). x.given ++ w) (gives.whole x.over) ∙ append-nil x.given in
    x.awaits.none status body (subst (λ (w : List ℕ). BeginsReply w status body) whole (begins_itself reply status body is))

not_none : (link : Seen) (reply : List ℕ) (status : ℕ) (body : List ℕ) → GivesReply link reply → IsReply reply status body → GivesNoReply link → ⊥
not_none link reply status body gives is x =
    let same : gives.given ≡ x.given = subst (λ (o : Option (List ℕ)). Tells o x.given) gives.given_is x.given_is in
    let whole : reply ≡ x.given ++ gives.rest = gives.split ∙ ap (λ (w : List ℕ). w ++ gives.rest) same in
    begins_not_refused reply status body (subst (λ (w : List ℕ). IsNoReply w) (sym whole) (refused_stays x.given gives.rest x.none)) (begins_itself reply status body is)

same_link : (new : DialSeen) (a b : Seen) → new.back ≡ Some a → new.back ≡ Some b → a ≡ b
same_link new a b x y = (let both : Some a ≡ Some b = sym x ∙ y in cc)

not_200 : (s : ℕ) → s ≢ 200 → outcome_of s ≡ Denied s
not_200 s other = elim (eqb_tells s 200) [ inl is ↦ absurd (other is.1) | inr isnt ↦ rw isnt.0 refl ]

-- a reply that was given is printed, unless there is an excuse
pub printed_or_excused : (outcome : Outcome) (order : Order) (old new : DialSeen) (before out : OutSeen) (link : Seen) (reply : List ℕ) (status : ℕ) (body : List ℕ)
    → Ended outcome order old new before out → new.back ≡ Some link → IsReply reply status body → GivesReply link reply
    → IsExcused outcome link old new before out ⊎ ((outcome ≡ outcome_of status) × Tells out.written (printed body))
printed_or_excused Done order old new before out link reply status body x back is gives =
    let one : x.link ≡ link = same_link new x.link link x.back back in
    let told : Tells link.given x.reply.given = subst (λ (l : Seen). Tells l.given x.reply.given) one x.reply.given_is in
    let same = came_so link reply 200 status x.body body x.reply.given gives is told x.reply.begins in
    inr (ap outcome_of same.0, subst (λ (w : List ℕ). Tells out.written (printed w)) same.1 x.printed)
printed_or_excused (Denied s) order old new before out link reply status body x back is gives =
    let p = x.0 in
    let one : p.link ≡ link = same_link new p.link link p.back back in
    let told : Tells link.given p.reply.given = subst (λ (l : Seen). Tells l.given p.reply.given) one p.reply.given_is in
    let same = came_so link reply s status p.body body p.reply.given gives is told p.reply.begins in
    inr (sym (not_200 s x.1) ∙ ap outcome_of same.0, subst (λ (w : List ℕ). Tells out.written (printed w)) same.1 p.printed)
printed_or_excused NoAnswer order old new before out link reply status body x back is gives = unanswered x.2
  where
    one : x.0 ≡ link
    one = same_link new x.0 link x.1 back

    unanswered : IsUnanswered x.0 → IsExcused NoAnswer link old new before out ⊎ ((NoAnswer ≡ outcome_of status) × Tells out.written (printed body))
    unanswered (inl short) = absurd (not_short link reply status body gives is (subst (λ (l : Seen). EndsShort l) one short))
    unanswered (inr (inl none)) = absurd (not_none link reply status body gives is (subst (λ (l : Seen). GivesNoReply l) one none))
    unanswered (inr (inr waited)) = inl (inr (inr (inr (inr (subst (λ (l : Seen). pauses_limit ≤ l.waits) one waited)))))
printed_or_excused Dial order old new before out link reply status body x back is gives = failed x.0
  where
    failed : Rose old.faults new.faults ⊎ ((other : Seen) × (new.back ≡ Some other) × (0 < faults other))
        → IsExcused Dial link old new before out ⊎ ((Dial ≡ outcome_of status) × Tells out.written (printed body))
    failed (inl rose) = inl (inr (inl rose))
    failed (inr other) =
        inl (inr (inr (inr (inl (subst (λ (l : Seen). 0 < faults l) (same_link new other.0 link other.1 back) other.2)))))
printed_or_excused SinkFault order old new before out link reply status body x back is gives = inl (inr (inr (inl x.0)))
printed_or_excused NoMemory order old new before out link reply status body x back is gives = inl (inl refl)
