-- One answer is right.
use Rattle.std.proofs.Common.{◌≡◌, ℕ, ◌+◌, ◌-◌, List, ◌++◌, length, take, drop, refl, ap, sym, subst, arith, length-append, length-take}
use Rattle.std.proofs.lemmas.List.{append-nil}
use Rattle.rack_types.specs.declared.fault.Fault.{Fault}
use Rattle.rack_types.specs.Request.{Parts}
use Rattle.message_framing.specs.declared.intake.Feed.{Feed}
use Rattle.message_framing.specs.declared.intake.Feed.TheVariants.{More, Whole, Refused}
use Rattle.message_framing.specs.Request.{Refusal, IsRequest, Begins}
use Rattle.message_framing.specs.Intake.{IsRight}
use Rattle.message_framing.proofs.RequestLemmas.{refusal_stays, begins_not_refused, begins_whole, begins_stays, begins_unique, refusal_unique}
use Rattle.message_framing.proofs.ReaderLemmas.{parts_join}

-- a right `Whole` names the request that begins all bytes
whole_begins : (b piece : List ℕ) (n : ℕ) (r : Parts) → IsRequest (b ++ take n piece) r
    → Begins (b ++ piece) (length (b ++ take n piece)) r
whole_begins b piece n r is =
    subst (λ (w : List ℕ). Begins w (length (b ++ take n piece)) r) (parts_join b piece n)
    (begins_stays (b ++ take n piece) (drop n piece) (length (b ++ take n piece)) r (begins_whole (b ++ take n piece) r is))

-- one answer is right
pub right_unique : (a c : Feed) (b piece : List ℕ) → IsRight a b piece → IsRight c b piece → a ≡ c
right_unique More More b piece x y = refl
right_unique More (Whole n) b piece x y = absurd (x.0 _ _ (whole_begins b piece n y.1.0 y.1.1))
right_unique More (Refused f) b piece x y = absurd (x.1 f y)
right_unique (Whole n) More b piece x y = absurd (y.0 _ _ (whole_begins b piece n x.1.0 x.1.1))
right_unique (Whole n) (Whole m) b piece x y =
    let same = (begins_unique (b ++ piece) _ _ _ _ (whole_begins b piece n x.1.0 x.1.1) (whole_begins b piece m y.1.0 y.1.1)).0 in
    let equal : n ≡ m = omega (arith, same, length-append b (take n piece), length-append b (take m piece), length-take n piece, length-take m piece, x.0, y.0) in
    ap Whole equal
right_unique (Whole n) (Refused f) b piece x y = absurd (begins_not_refused _ _ _ f (whole_begins b piece n x.1.0 x.1.1) y)
right_unique (Refused f) More b piece x y = absurd (y.1 f x)
right_unique (Refused f) (Whole n) b piece x y = absurd (begins_not_refused _ _ _ f (whole_begins b piece n y.1.0 y.1.1) x)
right_unique (Refused f) (Refused g) b piece x y = ap Refused (refusal_unique (b ++ piece) f g x y)

-- behind a whole request
pub right_behind_request : (b piece : List ℕ) (r : Parts) → IsRequest b r → IsRight (Whole 0) b piece
right_behind_request b piece r is = (omega arith, (r, subst (λ (w : List ℕ). IsRequest w r) (sym (append-nil b)) is))

-- behind a refusal
pub right_behind_refusal : (b piece : List ℕ) (f : Fault) → Refusal b f → IsRight (Refused f) b piece
right_behind_refusal b piece f is = refusal_stays b piece f is
