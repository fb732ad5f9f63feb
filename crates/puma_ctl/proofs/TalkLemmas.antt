-- What is said and heard, call by call.
use Rattle.std.proofs.Common.{◌≡◌, ◌≢◌, ℕ, ◌+◌, ◌-◌, ◌<◌, ◌≤◌, Bool, true, false, List, [], ◌∷◌, ◌++◌, length, take, drop, Option, None, Some, refl, ap, sym, ◌∙◌, subst, arith, append_assoc, length-append, length-drop, inl, inr}
use Rattle.std.proofs.lemmas.List.{take-append-drop, length-take-le, take_all, append-nil}
use Rattle.std.proofs.Math.Seq.{take-add}
use Rattle.rack_outside.specs.Link.{Seen, Tells, marked, faults, Reads, IsOneRead, Writes, IsOneWrite}
use Rattle.rack_outside.specs.Told.{counted, Rose, appended}
use Rattle.rack_outside.specs.declared.link.LinkRead.TheVariants as read
use Rattle.rack_outside.specs.declared.link.LinkWrite.TheVariants as write
use Rattle.message_framing.specs.Request.{head_limit}
use Rattle.puma_ctl.specs.declared.talk.Heard.{Heard}
use Rattle.puma_ctl.specs.declared.talk.Heard.TheVariants as heard
use Rattle.puma_ctl.specs.Dial.{IsFreshLink}
use Rattle.puma_ctl.specs.Order.{OutSeen, IsUnanswered, pauses_limit}
use Rattle.puma_ctl.specs.Reply.{AwaitsReply, body_limit}
use Rattle.puma_ctl.specs.Steps.{IsTalked, Hears, Takes, WritesLess}
use Rattle.puma_ctl.proofs.FoundLemmas.{awaits_head, coming_first}

-- lists that may be told
pub tells_appended : (o n : Option (List ℕ)) (a b : List ℕ) → Tells o a → n ≡ appended o b → Tells n (a ++ b)
tells_appended None n a b told is = subst (λ (m : Option (List ℕ)). Tells m (a ++ b)) (sym is) tt
tells_appended (Some x) n a b told is =
    let more : x ++ b ≡ a ++ b = ap (λ (w : List ℕ). w ++ b) told in
    subst (λ (m : Option (List ℕ)). Tells m (a ++ b)) (sym is) more

pub tells_same : {A : Type 0} (o n : Option A) (a : A) → Tells o a → n ≡ o → Tells n a
tells_same {A} o n a told is = subst (λ (m : Option A). Tells m a) (sym is) told

pub tells_marked : (o n : Option Bool) → n ≡ marked o → Tells n true
tells_marked None n is = subst (λ (m : Option Bool). Tells m true) (sym is) tt
tells_marked (Some b) n is = subst (λ (m : Option Bool). Tells m true) (sym is) refl

pub appended_nil : (o : Option (List ℕ)) → o ≡ appended o []
appended_nil None = refl
appended_nil (Some x) = ap Some (sym (append-nil x))

pub appended_more : (o : Option (List ℕ)) (a b : List ℕ) → appended (appended o a) b ≡ appended o (a ++ b)
appended_more None a b = refl
appended_more (Some x) a b = ap Some (append_assoc x a b)

-- a front of the text was said, and it was waited so often
pub record IsSaying (s : Seen) (text : List ℕ) (from waits : ℕ) : Type 0 where
  pub talked : IsTalked s (take from text) [] waits
  pub within : from ≤ length text
  pub few : waits < pauses_limit

pub saying_first : (s : Seen) (text : List ℕ) → IsFreshLink s → IsSaying s text 0 0
saying_first s text x = record {
  talked = record { sent_is = x.sent; given_is = x.given; unended = x.unended; waits_are = omega arith };
  within = omega arith;
  few = omega arith;
}

pub saying_took : (old new : Seen) (text piece : List ℕ) (from waits n : ℕ) → IsSaying old text from waits → piece ≡ drop from text
    → Writes (write.Took n) piece old new → IsOneWrite old new → IsSaying new text (from + n) waits
saying_took old new text piece from waits n h is wrote keeps =
    let whole : take from text ++ take n piece ≡ take (from + n) text =
    ap (λ (w : List ℕ). take from text ++ take n w) is ∙ sym (take-add from n text) in
    let sent : Tells new.sent (take from text ++ take n piece) = tells_appended old.sent new.sent (take from text) (take n piece) h.talked.sent_is wrote.2 in
    record {
      talked = record {
        sent_is = subst (λ (w : List ℕ). Tells new.sent w) whole sent;
        given_is = tells_same old.given new.given [] h.talked.given_is keeps.given;
        unended = tells_same old.over new.over false h.talked.unended keeps.over;
        waits_are = omega (arith, h.talked.waits_are, keeps.waits);
      };
      within = omega (arith, wrote.1, ap length is, length-drop from text, h.within);
      few = h.few;
    }

-- a wait more
waited_more : (old new waits : ℕ) → waits ≤ old → Rose old new → waits < pauses_limit → waits + 1 ≤ new
waited_more old new waits are rose few = omega (arith, are, rose, few)

pub saying_waited : (old new : Seen) (text piece : List ℕ) (from waits : ℕ) → IsSaying old text from waits → Writes write.NotYet piece old new
    → IsOneWrite old new → waits + 1 < pauses_limit → IsSaying new text from (waits + 1)
saying_waited old new text piece from waits h wrote keeps few = record {
  talked = record {
    sent_is = tells_same old.sent new.sent (take from text) h.talked.sent_is wrote.0;
    given_is = tells_same old.given new.given [] h.talked.given_is keeps.given;
    unended = tells_same old.over new.over false h.talked.unended keeps.over;
    waits_are = waited_more old.waits new.waits waits h.talked.waits_are wrote.1 h.few;
  };
  within = h.within;
  few = few;
}

pub saying_out : (old new : Seen) (text piece : List ℕ) (from waits : ℕ) → IsSaying old text from waits → Writes write.NotYet piece old new
    → pauses_limit ≤ waits + 1 → pauses_limit ≤ new.waits
saying_out old new text piece from waits h wrote out =
    let more : waits + 1 ≤ new.waits = waited_more old.waits new.waits waits h.talked.waits_are wrote.1 h.few in
    omega (arith, more, out)

pub said : (s : Seen) (text : List ℕ) (from waits : ℕ) → IsSaying s text from waits → length text ≤ from → IsTalked s text [] waits × (waits < pauses_limit)
said s text from waits h past =
    let whole : take from text ≡ text = take_all from text past in
    (subst (λ (w : List ℕ). IsTalked s w [] waits) whole h.talked, h.few)

-- these bytes came, of which a reply may still come
pub record IsHearing (s : Seen) (text back : List ℕ) (waits : ℕ) : Type 0 where
  pub talked : IsTalked s text back waits
  pub awaits : AwaitsReply back
  pub few : waits < pauses_limit
  pub short : length back < head_limit + body_limit

pub hearing_first : (s : Seen) (text back : List ℕ) (waits : ℕ) → IsTalked s text [] waits → waits < pauses_limit → back ≡ [] → IsHearing s text back waits
hearing_first s text back waits talked few is =
    let first = coming_first back is in
    record {
      talked = subst (λ (w : List ℕ). IsTalked s text w waits) (sym is) talked;
      awaits = awaits_head back first.0 first.1;
      few = few;
      short = omega (arith, first.1);
    }

-- what came of one read
came : (old new : Seen) (text back room piece : List ℕ) (n waits : ℕ) → IsTalked old text back waits → Reads (read.Bytes n) room old new
    → IsOneRead old new → piece ≡ take n room → IsTalked new text (back ++ piece) waits
came old new text back room piece n waits h reads keeps is =
    let given : Tells new.given (back ++ take n room) = tells_appended old.given new.given back (take n room) h.given_is reads.2 in
    record {
      sent_is = tells_same old.sent new.sent text h.sent_is keeps.sent;
      given_is = subst (λ (w : List ℕ). Tells new.given (back ++ w)) (sym is) given;
      unended = tells_same old.over new.over false h.unended reads.3;
      waits_are = omega (arith, h.waits_are, keeps.waits);
    }

pub hearing_more : (old new : Seen) (text back later room piece : List ℕ) (n waits : ℕ) → IsHearing old text back waits
    → Reads (read.Bytes n) room old new → IsOneRead old new → piece ≡ take n room → Takes None back piece later → IsHearing new text later waits
hearing_more old new text back later room piece n waits h reads keeps is takes = record {
  talked = subst (λ (w : List ℕ). IsTalked new text w waits) (sym takes.0) (came old new text back room piece n waits h.talked reads keeps is);
  awaits = takes.1;
  few = h.few;
  short = takes.2;
}

pub hears_some : (what : Heard) (old new : Seen) (text back later room piece : List ℕ) (n waits : ℕ) → IsHearing old text back waits
    → Reads (read.Bytes n) room old new → IsOneRead old new → piece ≡ take n room → Takes (Some what) back piece later → Hears what text new later
hears_some (heard.Reply status) old new text back later room piece n waits h reads keeps is takes =
    let talked : IsTalked new text later waits =
    subst (λ (w : List ℕ). IsTalked new text w waits) (sym takes.0) (came old new text back room piece n waits h.talked reads keeps is) in
    record { sent_is = talked.sent_is; given_is = talked.given_is; body = takes.1.0; begins = takes.1.1 }
hears_some heard.NoAnswer old new text back later room piece n waits h reads keeps is takes =
    let talked : IsTalked new text later waits =
    subst (λ (w : List ℕ). IsTalked new text w waits) (sym takes.0) (came old new text back room piece n waits h.talked reads keeps is) in
    inr (inl (record { given = later; given_is = talked.given_is; none = takes.1 }))
hears_some heard.Failed old new text back later room piece n waits h reads keeps is takes = absurd takes
hears_some heard.NoMemory old new text back later room piece n waits h reads keeps is takes = tt

-- each piece leaves less to come
pub nearer : (back later room piece : List ℕ) (n waits : ℕ) → later ≡ back ++ piece → piece ≡ take n room → 0 < n → n ≤ length room
    → length later < head_limit + body_limit → (head_limit + body_limit - length later) + (pauses_limit - waits) < (head_limit + body_limit - length back) + (pauses_limit - waits)
nearer back later room piece n waits is piece_is some fits short =
    let size : length piece ≡ n = ap length piece_is ∙ length-take-le n room fits in
    omega (arith, size, ap length is, length-append back piece, some, short)

pub hearing_waited : (old new : Seen) (text back room : List ℕ) (waits : ℕ) → IsHearing old text back waits → Reads read.NotYet room old new
    → IsOneRead old new → waits + 1 < pauses_limit → IsHearing new text back (waits + 1)
hearing_waited old new text back room waits h reads keeps few = record {
  talked = record {
    sent_is = tells_same old.sent new.sent text h.talked.sent_is keeps.sent;
    given_is = tells_same old.given new.given back h.talked.given_is reads.0;
    unended = tells_same old.over new.over false h.talked.unended reads.1;
    waits_are = waited_more old.waits new.waits waits h.talked.waits_are reads.2 h.few;
  };
  awaits = h.awaits;
  few = few;
  short = h.short;
}

pub heard_out : (old new : Seen) (text back room : List ℕ) (waits : ℕ) → IsHearing old text back waits → Reads read.NotYet room old new
    → pauses_limit ≤ waits + 1 → IsUnanswered new
heard_out old new text back room waits h reads out =
    let more : waits + 1 ≤ new.waits = waited_more old.waits new.waits waits h.talked.waits_are reads.2 h.few in
    inr (inr (omega (arith, more, out)))

pub heard_end : (old new : Seen) (text back room : List ℕ) (waits : ℕ) → IsHearing old text back waits → Reads read.End room old new → IsUnanswered new
heard_end old new text back room waits h reads = inl (record {
  over = tells_marked old.over new.over reads.1;
  given = back;
  given_is = tells_same old.given new.given back h.talked.given_is reads.0;
  awaits = h.awaits;
})

-- writing a text, from this place on
pub record IsWriting (text : List ℕ) (from : ℕ) (old new : OutSeen) : Type 0 where
  pub within : from ≤ length text
  pub wrote : new.written ≡ appended old.written (take from text)
  pub later : old.faults ≤ new.faults

pub writing_first : (text : List ℕ) (old : OutSeen) → IsWriting text 0 old old
writing_first text old = record { within = omega arith; wrote = appended_nil old.written; later = omega arith }

pub writing_took : (text piece : List ℕ) (from n : ℕ) (old mid new : OutSeen) → IsWriting text from old mid → piece ≡ drop from text → n ≤ length piece
    → new.written ≡ appended mid.written (take n piece) → mid.faults ≤ new.faults → IsWriting text (from + n) old new
writing_took text piece from n old mid new h is fits adds later =
    let whole : take from text ++ take n piece ≡ take (from + n) text =
    ap (λ (w : List ℕ). take from text ++ take n w) is ∙ sym (take-add from n text) in record {
      within = omega (arith, fits, ap length is, length-drop from text, h.within);
      wrote = adds ∙ ap (λ (o : Option (List ℕ)). appended o (take n piece)) h.wrote ∙ appended_more old.written (take from text) (take n piece)
          ∙ ap (appended old.written) whole;
      later = omega (arith, h.later, later);
    }

pub writing_less : (text : List ℕ) (from : ℕ) (old mid new : OutSeen) → IsWriting text from old mid → from < length text → new.written ≡ mid.written
    → WritesLess text old new
writing_less text from old mid new h less same = record {
  front = take from text;
  more = drop from text;
  split = sym (take-append-drop from text);
  less = λ none. omega (arith, ap length none, length-drop from text, less);
  written = same ∙ h.wrote;
}

pub writing_all : (text : List ℕ) (from : ℕ) (old new : OutSeen) → IsWriting text from old new → length text ≤ from → new.written ≡ appended old.written text
writing_all text from old new h past = h.wrote ∙ ap (appended old.written) (take_all from text past)
