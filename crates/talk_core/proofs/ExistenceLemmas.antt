-- On all bytes there is a talk: it isn't so that there is none. Whether a request or a refusal stands at the front of some
-- bytes isn't decided here, so no talk is named.
use Rattle.std.proofs.Common.{◌≡◌, ℕ, zero, suc, ◌+◌, ◌<◌, ◌≤◌, List, [], ◌∷◌, ◌++◌, length, take, drop, refl, sym, ap, subst, arith}
use Rattle.std.proofs.lemmas.List.{take-append-drop, length-drop}
use Rattle.rack_types.specs.declared.fault.Fault.{Fault}
use Rattle.rack_types.specs.Request.{Parts}
use Rattle.message_framing.specs.Request.{IsRequest, Refusal, Begins}
use Rattle.message_framing.proofs.CallerLemmas.{wanting_nil, begins_whole}
use Rattle.reply_framing.specs.declared.types.After.{After}
use Rattle.reply_framing.specs.declared.types.After.TheVariants.{Keep, Close, Hijack}
use Rattle.talk_core.specs.Laws.{HasTalk}
use Rattle.talk_core.specs.Talk.{AllKeep, EndsAs, Stop, wanting, refused, closed, hijacked, StopsAs}
use Rattle.talk_core.specs.Teller.{Fates}

-- what becomes of a connection behind the request of each number, counted from the second
abbrev shifted : Fates → Fates
shifted fates k r = fates (k + 1) r

keep_shifted : (fates : Fates) (rs : List Parts) (k : ℕ) → AllKeep (shifted fates) k rs → AllKeep fates (k + 1) rs
keep_shifted fates [] k h = tt
keep_shifted fates (r ∷ rs) k h = (h.0, keep_shifted fates rs (k + 1) h.1)

-- a talk behind a request
module _ (fates : Fates) (r : Parts) (keeps : fates 0 r ≡ Keep) where
  ends_behind : (after : After) (asked : List Parts) → EndsAs after (shifted fates) asked → EndsAs after fates (r ∷ asked)
  ends_behind after asked e =
      let next : length e.front + 1 ≡ suc (length e.front) = omega arith in
      record {
        front = r ∷ e.front;
        last = e.last;
        asked_is = ap (λ (rs : List Parts). r ∷ rs) e.asked_is;
        keeps = (keeps, keep_shifted fates e.front 0 e.keeps);
        fate = subst (λ (n : ℕ). fates n e.last ≡ after) next e.fate;
      }

  stops_behind : (stop : Stop) (asked : List Parts) (rest : List ℕ) → StopsAs stop (shifted fates) asked rest → StopsAs stop fates (r ∷ asked) rest
  stops_behind wanting asked rest h = ((keeps, keep_shifted fates asked 0 h.0), h.1)
  stops_behind (refused f) asked rest h = ((keeps, keep_shifted fates asked 0 h.0), h.1)
  stops_behind closed asked rest h = ends_behind Close asked h
  stops_behind hijacked asked rest h = ends_behind Hijack asked h

  talk_behind : (given front next : List ℕ) → given ≡ front ++ next → IsRequest front r → HasTalk (shifted fates) next → HasTalk fates given
  talk_behind given front next is request t =
      (r ∷ t.0, t.1, t.2, record { asks = (front, next, is, request, t.3.asks); stops = stops_behind t.1 t.0 t.2 t.3.stops })

-- one request is all that is asked
talk_ended : (after : After) (stop : Stop) (fates : Fates) (r : Parts) (given front rest : List ℕ) → given ≡ front ++ rest → IsRequest front r
    → (EndsAs after fates (r ∷ []) → StopsAs stop fates (r ∷ []) rest) → fates 0 r ≡ after → HasTalk fates given
talk_ended after stop fates r given front rest is request stops fate = (
  r ∷ [],
  stop,
  rest,
  record { asks = (front, rest, is, request, refl); stops = stops (record { front = []; last = r; asked_is = refl; keeps = tt; fate = fate }) },
)

-- a request has a byte
some_byte : (b : List ℕ) (n : ℕ) (r : Parts) → IsRequest (take n b) r → 1 ≤ n
some_byte b zero r is = absurd (wanting_nil.0 0 r (begins_whole [] r is))
some_byte b (suc n) r is = omega arith

-- there is one, where there is one on what comes behind a first request
talk_by : (fates : Fates) (given : List ℕ) → ((next : List ℕ) → length next < length given → ¬ (¬ (HasTalk (shifted fates) next)))
    → ¬ (¬ (HasTalk fates given))
talk_by fates given behind none = none ([], wanting, given, record { asks = refl; stops = (tt, (no_request, no_refusal)) })
  where
    no_refusal : (f : Fault) → ¬ (Refusal given f)
    no_refusal f is = none ([], refused f, given, record { asks = refl; stops = (tt, is) })

    both : (m : ℕ) → given ≡ take m given ++ drop m given
    both m = sym (take-append-drop m given)

    by_fate : (after : After) (m : ℕ) (r : Parts) → Begins given m r → fates 0 r ≡ after → ⊥
    by_fate Keep m r b fate =
        let some : 1 ≤ m = some_byte given m r b.1 in
        let less : length (drop m given) < length given = omega (arith, length-drop m given, b.0, some) in
        behind (drop m given) less (λ t. none (talk_behind fates r fate given (take m given) (drop m given) (both m) b.1 t))
    by_fate Close m r b fate = none (talk_ended Close closed fates r given (take m given) (drop m given) (both m) b.1 (λ e. e) fate)
    by_fate Hijack m r b fate = none (talk_ended Hijack hijacked fates r given (take m given) (drop m given) (both m) b.1 (λ e. e) fate)

    no_request : (m : ℕ) (r : Parts) → ¬ (Begins given m r)
    no_request m r b = by_fate (fates 0 r) m r b refl

some_talk_in : (n : ℕ) (fates : Fates) (given : List ℕ) → length given ≤ n → ¬ (¬ (HasTalk fates given))
some_talk_in zero fates given few = talk_by fates given (λ next less. absurd (omega (arith, few, less)))
some_talk_in (suc n) fates given few =
    talk_by fates given (λ next less. let fewer : length next ≤ n = omega (arith, few, less) in some_talk_in n (shifted fates) next fewer)

pub some_talk : (fates : Fates) (given : List ℕ) → ¬ (¬ (HasTalk fates given))
some_talk fates given = let all : length given ≤ length given = omega arith in some_talk_in (length given) fates given all
