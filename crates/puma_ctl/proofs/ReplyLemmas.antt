-- Replies: one begins the bytes at most, and stays there.
use Rattle.std.proofs.Common.{◌≡◌, ℕ, ◌+◌, ◌-◌, ◌<◌, ◌≤◌, List, [], ◌∷◌, ◌++◌, length, map, take, drop, Option, None, Some, refl, ap, sym, ◌∙◌, subst, arith, append_assoc, length-append, length-drop, Bool, true, false, ◌&&◌, nat_le, if◌then◌else◌, inl, inr}
use Rattle.std.proofs.lemmas.List.{take-append-le, drop-append-le, append-nil}
use Rattle.httparse.specs.Grammar.{ResponseHead, status_code}
use Rattle.httparse.specs.Spans.{name_and_value}
use Rattle.httparse.proofs.GrammarLemmas.{response_unique}
use Rattle.message_framing.specs.HeadText.{head_text, head_len}
use Rattle.message_framing.specs.Request.{head_limit, head_within}
use Rattle.puma_ctl.specs.Reply.{body_limit, length_by, stated_length, IsHead, IsReplyHead, BeginsReply, IsReply, RefusedAt, IsNoReply, AwaitsReply}
use Rattle.std.specs.Prelude.{codes}
use Rattle.std.proofs.lemmas.Bool.{leb-true}
use Rattle.rack_text.specs.Decimal.{is_decimal, decimal_value}
use Rattle.rack_types.specs.Fields.{values_of}
use Rattle.puma_ctl.proofs.HeadLemmas.{bool_cases, within_inside, within_stays}

-- a text is one head of a reply at most
pub reply_head_unique : (text : List ℕ) (s t n m : ℕ) → IsReplyHead text s n → IsReplyHead text t m → (s ≡ t) × (n ≡ m)
reply_head_unique text s t n m x y =
    let same : x.head ≡ y.head = (response_unique text x.head y.head [] [] x.reads.0 y.reads.0).0 in
    let stated : Some n ≡ Some m = sym x.states ∙ ap (λ (h : ResponseHead). stated_length (map name_and_value h.fields)) same ∙ y.states in
    (x.status_is ∙ ap status_code same ∙ sym y.status_is, cc)

take_same : (body rest : List ℕ) → take (length body) (body ++ rest) ≡ body
take_same [] rest = refl
take_same (x ∷ body) rest = ap (λ (w : List ℕ). x ∷ w) (take_same body rest)

-- one reply begins the bytes at most
pub begins_unique : (b : List ℕ) (s t : ℕ) (body other : List ℕ) → BeginsReply b s body → BeginsReply b t other → (s ≡ t) × (body ≡ other)
begins_unique b s t body other x y =
    let end : x.end ≡ y.end = (let both : Some x.end ≡ Some y.end = sym x.ends ∙ y.ends in cc) in
    let head : IsReplyHead (head_text (take x.end b)) t (length other) = subst (λ (k : ℕ). IsReplyHead (head_text (take k b)) t (length other)) (sym end) y.head in
    let same = reply_head_unique _ s t (length body) (length other) x.head head in
    let behind : body ++ x.rest ≡ other ++ y.rest = sym x.behind ∙ ap (λ (k : ℕ). drop k b) end ∙ y.behind in
    (same.0, sym (take_same body x.rest) ∙ ap (take (length body)) behind ∙ ap (λ (k : ℕ). take k (other ++ y.rest)) same.1 ∙ take_same other y.rest)

-- it stays there, whatever follows
pub begins_stays : (b c : List ℕ) (s : ℕ) (body : List ℕ) → BeginsReply b s body → BeginsReply (b ++ c) s body
begins_stays b c s body x =
    let inside : x.end ≤ length b = (within_inside b x.end x.ends).0 in
    record {
      end = x.end;
      ends = within_stays b c x.end x.ends;
      head = subst (λ (w : List ℕ). IsReplyHead (head_text w) s (length body)) (sym (take-append-le x.end b c inside)) x.head;
      rest = x.rest ++ c;
      behind = drop-append-le x.end b c inside ∙ ap (λ (w : List ℕ). w ++ c) x.behind ∙ append_assoc body x.rest c;
    }

-- a reply begins itself
pub begins_itself : (b : List ℕ) (s : ℕ) (body : List ℕ) → IsReply b s body → BeginsReply b s body
begins_itself b s body x = record { end = x.end; ends = x.ends; head = x.head; rest = []; behind = x.behind ∙ sym (append-nil body) }

-- what is no reply stays none
refused_longer : (o : Option ℕ) (b c : List ℕ) → o ≡ head_within b → RefusedAt o b → IsNoReply (b ++ c)
refused_longer (Some end) b c is refused =
    let inside : end ≤ length b = (within_inside b end (sym is)).0 in
    let still : head_within (b ++ c) ≡ Some end = within_stays b c end (sym is) in
    let never : RefusedAt (Some end) (b ++ c) = λ status count x.
    refused status count (subst (λ (w : List ℕ). IsReplyHead (head_text w) status count) (take-append-le end b c inside) x) in
    subst (λ (o : Option ℕ). RefusedAt o (b ++ c)) (sym still) never
refused_longer None b c is refused =
    let same : head_within (b ++ c) ≡ None = ap head_len (take-append-le head_limit b c refused) ∙ sym is in
    let long : head_limit ≤ length (b ++ c) = omega (arith, refused, length-append b c) in
    subst (λ (o : Option ℕ). RefusedAt o (b ++ c)) (sym same) long

pub refused_stays : (b c : List ℕ) → IsNoReply b → IsNoReply (b ++ c)
refused_stays b c refused = refused_longer (head_within b) b c refl refused

-- not both
refused_at : (o : Option ℕ) (b : List ℕ) (s : ℕ) (body : List ℕ) → o ≡ head_within b → RefusedAt o b → BeginsReply b s body → ⊥
refused_at None b s body is refused x = cc
refused_at (Some end) b s body is refused x =
    let same : end ≡ x.end = (let both : Some end ≡ Some x.end = is ∙ x.ends in cc) in
    refused s (length body) (subst (λ (k : ℕ). IsReplyHead (head_text (take k b)) s (length body)) (sym same) x.head)

pub begins_not_refused : (b : List ℕ) (s : ℕ) (body : List ℕ) → IsNoReply b → BeginsReply b s body → ⊥
begins_not_refused b s body refused x = refused_at (head_within b) b s body refl refused x

-- the length that a head states is within the limit
value_within : (test : Bool) (v n : ℕ) → (if test && nat_le v body_limit then Some v else None) ≡ Some n → n ≤ body_limit
value_within true v n is = elim (bool_cases (nat_le v body_limit)) [
  | inl fits ↦
      let same : v ≡ n = (let both : Some v ≡ Some n = rw fits at is in cc) in
      subst (λ (k : ℕ). k ≤ body_limit) same (leb-true v body_limit fits)
  | inr past ↦ absurd (let clash : None ≡ Some n = rw past at is in cc)
]
value_within false v n is = cc

length_within : (values : List (List ℕ)) (n : ℕ) → length_by values ≡ Some n → n ≤ body_limit
length_within [] n is = cc
length_within (value ∷ []) n is = value_within (is_decimal value) (decimal_value value) n is
length_within (value ∷ next ∷ more) n is = cc

pub states_within : (text : List ℕ) (s n : ℕ) → IsReplyHead text s n → n ≤ body_limit
states_within text s n x = length_within (values_of (codes "content-length") (map name_and_value x.head.fields)) n x.states
