-- What crates above may cite of the proofs of this one: lemmas over its public definitions. The laws of
-- `src/laws.rt` are among them.
use Rattle.std.proofs.Common.{◌≡◌, ℕ, ◌+◌, ◌≤◌, List, [], ◌++◌, length, take, drop, refl, subst, arith}
use Rattle.rack_types.specs.declared.fault.Fault.{Fault}
use Rattle.rack_types.specs.Request.{Parts}
use Rattle.rack_types.specs.Sound.{IsSound}
use Rattle.message_framing.specs.HeadText.{head_len, skipped, lines_end}
use Rattle.message_framing.specs.Request.{head_limit, Refusal, IsRequest, Begins, Begun, Wanting, waiting_limit}
use Rattle.message_framing.specs.Intake.{LacksRightly}
use Rattle.message_framing.proofs.RequestLemmas as requests
use Rattle.message_framing.proofs.ReaderLemmas.{parts_join}
use Rattle.message_framing.proofs.SoundLemmas as sound
use Rattle.message_framing.proofs.BoundLemmas as bound
use Rattle.message_framing.proofs.BegunLemmas as begun
pub use Rattle.message_framing.proofs.AnswerLemmas.{right_unique, right_behind_request, right_behind_refusal}

-- one request begins a list, of one length
pub begins_unique : (b : List ℕ) (n m : ℕ) (r q : Parts) → Begins b n r → Begins b m q → (n ≡ m) × (r ≡ q)
begins_unique = requests.begins_unique

-- one refusal stands
pub refusal_unique : (b : List ℕ) (f g : Fault) → Refusal b f → Refusal b g → f ≡ g
refusal_unique = requests.refusal_unique

-- not both
pub begins_not_refused : (b : List ℕ) (n : ℕ) (r : Parts) (f : Fault) → Begins b n r → Refusal b f → ⊥
begins_not_refused = requests.begins_not_refused

-- what stands stays, whatever follows
pub begins_stays : (b c : List ℕ) (n : ℕ) (r : Parts) → Begins b n r → Begins (b ++ c) n r
begins_stays = requests.begins_stays

pub refusal_stays : (b c : List ℕ) (f : Fault) → Refusal b f → Refusal (b ++ c) f
refusal_stays = requests.refusal_stays

-- so where nothing stands, nothing stood before
pub wanting_front : (b c : List ℕ) → Wanting (b ++ c) → Wanting b
wanting_front b c waits = (λ n r x. waits.0 n r (begins_stays b c n r x), λ f x. waits.1 f (refusal_stays b c f x))

-- nothing stands in no bytes
pub wanting_nil : Wanting []
unfolding head_len skipped lines_end
wanting_nil = let few : length {A = ℕ} [] ≤ head_limit = omega arith in requests.wanting [] refl few

-- a request begins itself, and all bytes of which it is the front
pub begins_whole : (b : List ℕ) (r : Parts) → IsRequest b r → Begins b (length b) r
begins_whole = requests.begins_whole

pub begins_front : (b piece : List ℕ) (n : ℕ) (r : Parts) → IsRequest (b ++ take n piece) r → Begins (b ++ piece) (length (b ++ take n piece)) r
begins_front b piece n r is =
    subst (λ (w : List ℕ). Begins w (length (b ++ take n piece)) r) (parts_join b piece n)
    (begins_stays (b ++ take n piece) (drop n piece) (length (b ++ take n piece)) r (begins_whole (b ++ take n piece) r is))

-- one request has these bytes
pub request_unique : (b : List ℕ) (r q : Parts) → IsRequest b r → IsRequest b q → r ≡ q
request_unique b r q x y = (begins_unique b (length b) (length b) r q (begins_whole b r x) (begins_whole b q y)).1

-- no request is a proper prefix of another
pub no_longer_request : (b more : List ℕ) (r q : Parts) → IsRequest b r → IsRequest (b ++ more) q → more ≡ []
no_longer_request = requests.no_longer_request

-- each request has what the rules of an environment rest on
pub request_sound : (b : List ℕ) (r : Parts) → IsRequest b r → IsSound r
request_sound = sound.request_sound

-- bytes in which nothing stands are at most so many
pub waiting_bounded : (b : List ℕ) → Wanting b → length b ≤ waiting_limit
waiting_bounded = bound.waiting_bounded

-- where want of memory is right, the request has begun
pub lacking_begun : (b piece : List ℕ) → LacksRightly b piece → Begun (b ++ piece)
lacking_begun = begun.lacking_begun
