-- The empty lines in front of a head.
use Rattle.std.proofs.Common.{◌≡◌, ℕ, suc, ◌+◌, ◌-◌, ◌<◌, ◌≤◌, List, [], ◌∷◌, length, drop, get_or, refl, ◌∙◌, arith, drop-cons, add-one, ◌≢◌, true, false, ◌==◌}
use Rattle.std.proofs.lemmas.List.{drop_all}
use Rattle.message_framing.specs.HeadText.{skipped}
use Rattle.message_framing.proofs.HeadTextLemmas.{no_skip_return, no_skip_letter, not_feed, not_return}

-- a whole empty line more is skipped
pub record IsSkipped (bytes : List ℕ) (at : ℕ) : Type 0 where
  pub within : at ≤ length bytes
  pub same : skipped bytes ≡ at + skipped (drop at bytes)

skip_line_feed : (x : ℕ) (r : List ℕ) → x ≡ 10 → skipped (x ∷ r) ≡ suc (skipped r)
unfolding skipped
skip_line_feed x [] is = rw is refl
skip_line_feed x (c ∷ r) is = rw is refl

pub skip_feed : (bytes : List ℕ) (at : ℕ) → IsSkipped bytes at → at < length bytes → get_or bytes at 0 ≡ 10 → IsSkipped bytes (at + 1)
skip_feed bytes at h below is =
    let split : drop at bytes ≡ get_or bytes at 0 ∷ drop (suc at) bytes = drop-cons bytes at 0 below in
    let more : skipped (drop at bytes) ≡ suc (skipped (drop (suc at) bytes)) = rw split (skip_line_feed _ _ is) in
    record { within = omega arith; same = rw add-one (h.same ∙ omega (arith, more)) }

pub skip_return : (bytes : List ℕ) (at : ℕ) → IsSkipped bytes at → at + 1 < length bytes
    → get_or bytes at 0 ≡ 13 → get_or bytes (at + 1) 0 ≡ 10 → IsSkipped bytes (at + 2)
unfolding skipped
skip_return bytes at h below is feed_is =
    let lower : at < length bytes = omega arith in
    let upper : suc at < length bytes = omega arith in
    let split : drop at bytes ≡ get_or bytes at 0 ∷ drop (suc at) bytes = drop-cons bytes at 0 lower in
    let split_more : drop (suc at) bytes ≡ get_or bytes (suc at) 0 ∷ drop (suc (suc at)) bytes = drop-cons bytes (suc at) 0 upper in
    let then_feed : get_or bytes (suc at) 0 ≡ 10 = rw (← add-one at) feed_is in
    let more : skipped (drop at bytes) ≡ suc (suc (skipped (drop (suc (suc at)) bytes))) = rw split (rw split_more (rw (is, then_feed) refl)) in
    let two : at + 2 ≡ suc (suc at) = omega arith in
    record { within = omega arith; same = rw two (h.same ∙ omega (arith, more)) }

-- no whole empty line stands at this place: the skipped bytes end here
skip_over : (bytes : List ℕ) (at : ℕ) → IsSkipped bytes at → skipped (drop at bytes) ≡ 0 → at ≡ skipped bytes
skip_over bytes at h none = omega (arith, h.same, none)

pub skip_to_end : (bytes : List ℕ) (at : ℕ) → IsSkipped bytes at → length bytes ≤ at → at ≡ skipped bytes
unfolding skipped
skip_to_end bytes at h past = skip_over bytes at h (rw (drop_all at bytes past) refl)

pub skip_to_letter : (bytes : List ℕ) (at : ℕ) → IsSkipped bytes at → at < length bytes
    → get_or bytes at 0 ≢ 10 → get_or bytes at 0 ≢ 13 → at ≡ skipped bytes
skip_to_letter bytes at h below nofeed noreturn =
    skip_over bytes at h (rw (drop-cons bytes at 0 below) (no_skip_letter _ _ (not_feed _ nofeed) (not_return _ noreturn)))

pub skip_to_return : (bytes : List ℕ) (at : ℕ) → IsSkipped bytes at → at + 1 < length bytes
    → get_or bytes at 0 ≢ 10 → get_or bytes at 0 ≡ 13 → get_or bytes (at + 1) 0 ≢ 10 → at ≡ skipped bytes
skip_to_return bytes at h below nofeed is other =
    let lower : at < length bytes = omega arith in
    let upper : suc at < length bytes = omega arith in
    let split : drop at bytes ≡ get_or bytes at 0 ∷ drop (suc at) bytes = drop-cons bytes at 0 lower in
    let split_more : drop (suc at) bytes ≡ get_or bytes (suc at) 0 ∷ drop (suc (suc at)) bytes = drop-cons bytes (suc at) 0 upper in
    let after : (get_or bytes (suc at) 0 == 10) ≡ false = rw (← add-one at) (not_feed _ other) in
    let here : (get_or bytes at 0 == 13) ≡ true = rw is refl in
    skip_over bytes at h (rw split (rw split_more (no_skip_return _ _ _ (not_feed _ nofeed) here after)))

pub skip_to_last_return : (bytes : List ℕ) (at : ℕ) → IsSkipped bytes at → at < length bytes → length bytes ≤ at + 1
    → get_or bytes at 0 ≢ 10 → at ≡ skipped bytes
unfolding skipped
skip_to_last_return bytes at h below last nofeed =
    let split : drop at bytes ≡ get_or bytes at 0 ∷ drop (suc at) bytes = drop-cons bytes at 0 below in
    let past : length bytes ≤ suc at = omega arith in
    let none : drop (suc at) bytes ≡ [] = drop_all (suc at) bytes past in
    skip_over bytes at h (rw split (rw none (rw (not_feed _ nofeed) refl)))
