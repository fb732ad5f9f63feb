-- What was found in the bytes, and what it answers.
use Rattle.std.proofs.Common.{◌≡◌, ℕ, ◌+◌, ◌-◌, ◌<◌, ◌≤◌, List, [], ◌∷◌, ◌++◌, length, map, take, drop, Option, None, Some, Result, Ok, Err, refl, ap, sym, ◌∙◌, subst, arith, append_assoc, length-append, length-drop, length-take, min, inl, inr}
use Rattle.std.proofs.lemmas.List.{take-append-drop, take-append-le, length-take-le, take_all}
use Rattle.message_framing.specs.HeadText.{head_len}
use Rattle.message_framing.specs.HeadText.{head_text, skipped}
use Rattle.std.proofs.lemmas.Bool.{cases_lt}
use Rattle.message_framing.specs.Request.{head_limit, head_within}
use Rattle.puma_ctl.specs.Reply.{body_limit, IsReplyHead, BeginsReply, RefusedAt, IsNoReply, AwaitsReply}
use Rattle.puma_ctl.specs.Back.{IsRight, HasHead, FoundIn, KeepsHead, got_of}
use Rattle.puma_ctl.specs.declared.back.Found.{Found}
use Rattle.puma_ctl.specs.declared.back.Found.TheVariants as found
use Rattle.puma_ctl.specs.declared.back.Got.{Got}
use Rattle.puma_ctl.specs.declared.back.Got.TheVariants.{More, Whole, Not}
use Rattle.puma_ctl.proofs.HeadLemmas.{within_inside, within_stays, nil_unended}
use Rattle.puma_ctl.proofs.ReplyLemmas.{reply_head_unique, begins_unique, begins_not_refused, states_within}

-- a head that was found stays, whatever follows
pub has_head_stays : (b c : List ℕ) (start status count : ℕ) → HasHead b start status count → HasHead (b ++ c) start status count
has_head_stays b c start status count x =
    let inside : start ≤ length b = (within_inside b start x.ends).0 in
    record {
      ends = within_stays b c start x.ends;
      head = subst (λ (w : List ℕ). IsReplyHead (head_text w) status count) (sym (take-append-le start b c inside)) x.head;
    }

pub keeps_head : (f : Found) (b c : List ℕ) → AwaitsReply b → FoundIn f b → KeepsHead f (b ++ c)
keeps_head found.Coming b c awaits x = tt
keeps_head (found.Body start count status) b c awaits x = has_head_stays b c start status count x.0
keeps_head (found.Whole start count status) b c awaits x = has_head_stays b c start status count x.0
keeps_head found.Refused b c awaits x = absurd (awaits.unrefused x)

-- a reply begins the bytes that have a head and all of its body
pub begins_whole : (b : List ℕ) (start status count : ℕ) → HasHead b start status count → start + count ≤ length b
    → BeginsReply b status (take count (drop start b))
begins_whole b start status count x all =
    let size : length (take count (drop start b)) ≡ count = length-take-le count (drop start b) (omega (arith, length-drop start b)) in
    record {
      end = start;
      ends = x.ends;
      head = subst (λ (k : ℕ). IsReplyHead (head_text (take start b)) status k) (sym size) x.head;
      rest = drop count (drop start b);
      behind = sym (take-append-drop count (drop start b));
    }

-- while the head is coming, or its body is
pub awaits_head : (b : List ℕ) → head_within b ≡ None → length b < head_limit → AwaitsReply b
awaits_head b none short = record {
  none = λ status body x. (let both : Some x.end ≡ None = sym x.ends ∙ none in cc);
  unrefused = λ refused. (let past : head_limit ≤ length b = subst (λ (o : Option ℕ). RefusedAt o b) none refused in omega (arith, past, short));
}

pub awaits_body : (b : List ℕ) (start status count : ℕ) → HasHead b start status count → length b < start + count → AwaitsReply b
awaits_body b start status count x short = record {
  none = λ other body y.
      (let end : y.end ≡ start = (let both : Some y.end ≡ Some start = sym y.ends ∙ x.ends in cc) in
      let head : IsReplyHead (head_text (take start b)) other (length body) = subst (λ (k : ℕ). IsReplyHead (head_text (take k b)) other (length body)) end y.head in
      let same : length body ≡ count = (reply_head_unique _ other status (length body) count head x.head).1 in
      let all : drop start b ≡ body ++ y.rest = ap (λ (k : ℕ). drop k b) (sym end) ∙ y.behind in
      let size : length (drop start b) ≡ length body + length y.rest = ap length all ∙ length-append body y.rest in
      let inside : start ≤ length b = (within_inside b start x.ends).0 in
      omega (arith, size, same, short, inside, length-drop start b));
  unrefused = λ refused. subst (λ (o : Option ℕ). RefusedAt o b) x.ends refused status count x.head;
}

-- the answer is right
pub right : (f : Found) (b : List ℕ) → FoundIn f b → IsRight (got_of f) b
right found.Coming b x = awaits_head b x.0 x.1
right (found.Body start count status) b x = awaits_body b start status count x.0 x.1
right (found.Whole start count status) b x = (take count (drop start b), begins_whole b start status count x.0 x.1)
right found.Refused b x = x

-- bytes that await more are few
pub few_await : (f : Found) (b : List ℕ) → FoundIn f b → got_of f ≡ More → length b < head_limit + body_limit
few_await found.Coming b x is = omega (arith, x.1)
few_await (found.Body start count status) b x is =
    let head : start ≤ head_limit = (within_inside b start x.0.ends).1 in
    let body : count ≤ body_limit = states_within _ status count x.0.head in
    omega (arith, x.1, head, body)
few_await (found.Whole start count status) b x is = cc
few_await found.Refused b x is = cc

-- a reply that stands, or none that ever will, awaits no more
pub settled_whole : (b : List ℕ) (start status count : ℕ) → HasHead b start status count → start + count ≤ length b → AwaitsReply b → ⊥
settled_whole b start status count x all awaits = awaits.none status _ (begins_whole b start status count x all)

-- no byte came yet
pub coming_first : (b : List ℕ) → b ≡ [] → (head_within b ≡ None) × (length b < head_limit)
coming_first b is = subst (λ (w : List ℕ). (head_within w ≡ None) × (length w < head_limit)) (sym is) (no_end, omega arith)
  where
    no_end : head_within [] ≡ None
    no_end = ap head_len (take_all {A = ℕ} head_limit [] (omega arith)) ∙ nil_unended

-- the body, by what was found
pub body_is : (f : Found) (b : List ℕ) (start count status : ℕ) → f ≡ found.Whole start count status → FoundIn f b → (w : List ℕ) → b ≡ w
    → (part : List ℕ) → part ≡ take count (drop start b) → (other : ℕ) (body : List ℕ) → BeginsReply w other body → part ≡ body
body_is f b start count status is x w same part part_is other body y =
    let stands : FoundIn (found.Whole start count status) b = subst (λ (g : Found). FoundIn g b) is x in
    let here : BeginsReply b other body = subst (λ (v : List ℕ). BeginsReply v other body) (sym same) y in
    part_is ∙ (begins_unique b status other _ body (begins_whole b start status count stands.0 stands.1) here).1

pub body_awaits : (f : Found) (b : List ℕ) (start count status : ℕ) → f ≡ found.Whole start count status → FoundIn f b → (w : List ℕ) → b ≡ w
    → (part : List ℕ) → AwaitsReply w → part ≡ []
body_awaits f b start count status is x w same part awaits =
    let stands : FoundIn (found.Whole start count status) b = subst (λ (g : Found). FoundIn g b) is x in
    absurd (settled_whole b start status count stands.0 stands.1 (subst (λ (v : List ℕ). AwaitsReply v) (sym same) awaits))

pub never_begins : (f : Found) (b : List ℕ) → ((start count status : ℕ) → f ≡ found.Whole start count status → ⊥) → FoundIn f b
    → (status : ℕ) (body : List ℕ) → BeginsReply b status body → ⊥
never_begins found.Coming b other x status body y = (awaits_head b x.0 x.1).none status body y
never_begins (found.Body start count state) b other x status body y = (awaits_body b start state count x.0 x.1).none status body y
never_begins (found.Whole start count state) b other x status body y = other start count state refl
never_begins found.Refused b other x status body y = begins_not_refused b status body x y

-- the bytes up to the limit of a head, cut as the code cuts them
near_is : (b : List ℕ) (k : ℕ) → k ≡ min (length b) head_limit → take k b ≡ take head_limit b
near_is b k is = elim (cases_lt head_limit (length b)) [
  | inl long ↦ (let all : k ≡ head_limit = omega (arith, is, long) in ap (λ (n : ℕ). take n b) all)
  | inr short ↦
      let whole : length b ≤ k = omega (arith, is, short) in
      take_all k b whole ∙ sym (take_all head_limit b short)
]

pub near_end : (b p : List ℕ) (k : ℕ) (o : Option ℕ) → k ≡ min (length b) head_limit → p ≡ take k b → o ≡ head_len p → o ≡ head_within b
near_end b p k o k_is p_is o_is = o_is ∙ ap head_len (p_is ∙ near_is b k k_is)

-- where the head is coming, and where it never ends
pub coming : (b : List ℕ) → None ≡ head_within b → length b < head_limit → FoundIn found.Coming b
coming b none short = (sym none, short)

pub endless : (b : List ℕ) → None ≡ head_within b → head_limit ≤ length b → IsNoReply b
endless b none long = subst (λ (o : Option ℕ). RefusedAt o b) none long

-- where it ends: its text, as the code takes it
text_is : (b h t : List ℕ) (end s : ℕ) → h ≡ take end b → s ≡ skipped h → t ≡ drop s h → t ≡ head_text (take end b)
text_is b h t end s h_is s_is t_is = t_is ∙ ap (λ (k : ℕ). drop k h) s_is ∙ ap head_text h_is

pub has_head : (b h t : List ℕ) (end s status count : ℕ) → Some end ≡ head_within b → h ≡ take end b → s ≡ skipped h → t ≡ drop s h
    → IsReplyHead t status count → HasHead b end status count
has_head b h t end s status count is h_is s_is t_is x = record {
  ends = sym is;
  head = subst (λ (w : List ℕ). IsReplyHead w status count) (text_is b h t end s h_is s_is t_is) x;
}

pub no_head : (b h t : List ℕ) (end s : ℕ) → Some end ≡ head_within b → h ≡ take end b → s ≡ skipped h → t ≡ drop s h
    → ((status count : ℕ) → ¬ (IsReplyHead t status count)) → IsNoReply b
no_head b h t end s is h_is s_is t_is none =
    let never : RefusedAt (Some end) b = λ status count x.
    none status count (subst (λ (w : List ℕ). IsReplyHead w status count) (sym (text_is b h t end s h_is s_is t_is)) x) in
    subst (λ (o : Option ℕ). RefusedAt o b) is never

-- by the answer
pub awaits_more : (f : Found) (b : List ℕ) → FoundIn f b → got_of f ≡ More → AwaitsReply b
awaits_more found.Coming b x is = awaits_head b x.0 x.1
awaits_more (found.Body start count status) b x is = awaits_body b start status count x.0 x.1
awaits_more (found.Whole start count status) b x is = cc
awaits_more found.Refused b x is = cc

pub settled : (f : Found) (b : List ℕ) → FoundIn f b → (got_of f ≡ More → ⊥) → AwaitsReply b → ⊥
settled found.Coming b x other awaits = other refl
settled (found.Body start count status) b x other awaits = other refl
settled (found.Whole start count status) b x other awaits = settled_whole b start status count x.0 x.1 awaits
settled found.Refused b x other awaits = awaits.unrefused x

-- what is answered of the bytes, by what was found
pub answered : (f : Found) (b w : List ℕ) (got : Got) → FoundIn f b → b ≡ w → got ≡ got_of f → IsRight got w
answered f b w got x same is =
    let here : IsRight (got_of f) w = subst (λ (v : List ℕ). IsRight (got_of f) v) same (right f b x) in
    subst (λ (a : Got). IsRight a w) (sym is) here
