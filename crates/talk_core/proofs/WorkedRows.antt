-- Definitions worked out by computation.
use Rattle.std.proofs.Common.{◌≡◌, ℕ, Bool, true, false, List, [], ◌∷◌, ◌++◌, Some, None, codes, refl, arith}
use Rattle.rack_types.specs.declared.fault.Fault.TheVariants.{F, T1}
use Rattle.rack_types.specs.declared.limits.Version.{Version}
use Rattle.rack_types.specs.declared.limits.Version.TheVariants.{Http10, Http11}
use Rattle.rack_types.specs.Request.{Parts}
use Rattle.message_framing.specs.HeadText.{skipped}
use Rattle.message_framing.specs.Request.{IsRequest}
use Rattle.reply_framing.specs.declared.types.After.TheVariants.{Keep, Close}
use Rattle.reply_framing.specs.Fault.{fault_reply}
use Rattle.talk_core.specs.declared.ended.Life.{Life}
use Rattle.talk_core.specs.Asked.{fates_by_request, AllButLastKeep, IsAsked}
use Rattle.talk_core.specs.Tail.{Voice, tail_of, goes_on}
use Rattle.talk_core.specs.Talk.{wanting, refused, text, time_out, timed_text}
use Rattle.talk_core.specs.Teller.{Teller, phase_at, is_last, ask_of}

-- lives: one from the start; a second from request 2; a third from request 5
abbrev lives : List Life
lives = record { first = 0; phase = 0 } ∷ record { first = 2; phase = 1 } ∷ record { first = 5; phase = 2 } ∷ []

first_life : phase_at lives 1 ≡ 0
first_life = refl

second_life : phase_at lives 2 ≡ 1
second_life = refl

before_third_life : phase_at lives 4 ≡ 1
before_third_life = refl

third_life : phase_at lives 5 ≡ 2
third_life = refl

one_life : phase_at (record { first = 0; phase = 7 } ∷ []) 9999 ≡ 7
one_life = refl

-- the 10,000th request is the last, and so is the one that closes by draining
not_last : is_last None 9998 ≡ false
not_last = refl

last : is_last None 9999 ≡ true
last = refl

closing : is_last (Some 3) 3 ≡ true
closing = refl

before_closing : is_last (Some 3) 2 ≡ false
before_closing = refl

-- a request without a field
abbrev get : Version → Parts
get version = record {
  method = codes "GET";
  path = codes "/";
  query = [];
  authority = None;
  version = version;
  fields = [];
  body = [];
  chunked = false;
}

goes_on_in_11 : fates_by_request None 0 (get Http11) ≡ Keep
goes_on_in_11 = refl

closes_in_10 : fates_by_request None 0 (get Http10) ≡ Close
closes_in_10 = refl

closes_at_the_last : fates_by_request None 9999 (get Http11) ≡ Close
closes_at_the_last = refl

closes_by_draining : fates_by_request (Some 4) 4 (get Http11) ≡ Close
closes_by_draining = refl

-- what a reply has to know of its request
asks_with_get : ask_of (get Http11) ≡ record { head = false; version = Http11; persists = true }
asks_with_get = refl

asks_with_head : ask_of (record (get Http10) { method = codes "HEAD" }) ≡ record { head = true; version = Http10; persists = false }
asks_with_head = refl

-- one request was asked, whether it closes or not; of two the first does not close
asked_one : (front rest : List ℕ) → IsRequest front (get Http10) → IsAsked None (front ++ rest) 1 (get Http10 ∷ []) rest
asked_one front rest is = record { asks = (front, rest, refl, is, refl); calls_is = refl; goes_on = tt; closes = tt }

asked_in_11 : AllButLastKeep (fates_by_request None) 0 (get Http11 ∷ get Http10 ∷ [])
asked_in_11 = (refl, tt)

asked_behind_10 : ¬ (AllButLastKeep (fates_by_request None) 0 (get Http10 ∷ get Http11 ∷ []))
asked_behind_10 e = let both : Close ≡ Keep = e.0 in cc

asked_uncounted : (given rest : List ℕ) → ¬ (IsAsked None given 0 (get Http11 ∷ []) rest)
asked_uncounted given rest e = omega (arith, e.calls_is)

-- each reply is the request's number
abbrev numbers : Teller ℕ
numbers k r = record { bytes = k ∷ []; rule = None; after = Keep; hijacker = None }

text_of_two : text numbers (get Http11 ∷ get Http11 ∷ []) wanting ≡ 0 ∷ 1 ∷ []
text_of_two = refl

text_refused : text numbers (get Http11 ∷ []) (refused (F 3)) ≡ 0 ∷ fault_reply (F 3)
text_refused = refl

-- the 408 comes where the rest is begun: by a letter or a lone CR, and not by whole empty lines
timed_by_a_letter : timed_text numbers (get Http11 ∷ []) wanting (codes "\r\nG") ≡ 0 ∷ fault_reply T1
unfolding skipped
timed_by_a_letter = refl

timed_by_a_return : time_out wanting (codes "\r") ≡ fault_reply T1
unfolding skipped
timed_by_a_return = refl

not_timed : time_out wanting (codes "\r\n\n") ≡ []
unfolding skipped
not_timed = refl

not_timed_behind_a_refusal : time_out (refused (F 3)) (codes "G") ≡ []
not_timed_behind_a_refusal = refl

-- a hijacker that says each byte again, and goes on as it is told; at the end it says 9
abbrev mirrors : Voice Bool
mirrors = record { says = λ h bytes. record { bytes = bytes; go_on = h }; ends = λ h bytes. 9 ∷ [] }

tail_without_end : tail_of mirrors true (1 ∷ 2 ∷ []) false ≡ 1 ∷ 2 ∷ []
tail_without_end = refl

tail_with_end : tail_of mirrors true (1 ∷ 2 ∷ []) true ≡ 1 ∷ 2 ∷ 9 ∷ []
tail_with_end = refl

tail_closed : tail_of mirrors false (1 ∷ 2 ∷ []) true ≡ 1 ∷ 2 ∷ []
tail_closed = refl

needs_a_drain : goes_on mirrors true (1 ∷ []) false ≡ true
needs_a_drain = refl

needs_none_at_the_end : goes_on mirrors true (1 ∷ []) true ≡ false
needs_none_at_the_end = refl

needs_none_where_it_closes : goes_on mirrors false (1 ∷ []) false ≡ false
needs_none_where_it_closes = refl
