-- What appends to a ring come to, one behind the other.
use Rattle.std.proofs.Common.{◌≡◌, ℕ, ◌+◌, ◌-◌, ◌≤◌, List, [], ◌++◌, length, take, drop, refl, ap, sym, ◌∙◌, subst, arith, append_assoc}
use Rattle.std.proofs.lemmas.List.{take-append-drop, drop-drop, append-nil, drop_all}
use Rattle.circular_buffer.specs.Buffer.{Buffer, buffer, keep_last}
use Rattle.reply_framing.specs.Coming.{Appends}

pub appends_none : (a : List ℕ) (x : Buffer ℕ) → Appends a a x x
appends_none a x = record { sent = []; bytes = refl; ring = ap (λ w. buffer w x.capacity) (sym (append-nil x.items)) }

pub appends_then : (a b c : List ℕ) (x y z : Buffer ℕ) → Appends a b x y → Appends b c y z → Appends a c x z
appends_then a b c x y z p q = record {
  sent = p.sent ++ q.sent;
  bytes = p.bytes ∙ ap (λ w. p.sent ++ w) q.bytes ∙ sym (append_assoc p.sent q.sent c);
  ring = q.ring ∙ ap (λ (w : Buffer ℕ). buffer (w.items ++ q.sent) w.capacity) p.ring
      ∙ ap (λ w. buffer w x.capacity) (append_assoc x.items p.sent q.sent);
}

pub appends_part : (part rest : List ℕ) (n : ℕ) (x y : Buffer ℕ) → y ≡ buffer (x.items ++ take n part) x.capacity
    → Appends (part ++ rest) (drop n part ++ rest) x y
appends_part part rest n x y e = record {
  sent = take n part;
  bytes = ap (λ w. w ++ rest) (sym (take-append-drop n part)) ∙ append_assoc (take n part) (drop n part) rest;
  ring = e;
}

-- from a place on
pub place_step : (xs rest : List ℕ) (at n : ℕ) (x y : Buffer ℕ) → y ≡ buffer (x.items ++ take n (drop at xs)) x.capacity
    → Appends (drop at xs ++ rest) (drop (at + n) xs ++ rest) x y
place_step xs rest at n x y e =
    subst (λ (w : List ℕ). Appends (drop at xs ++ rest) (w ++ rest) x y) (drop-drop n at xs) (appends_part (drop at xs) rest n x y e)

-- the last so many bytes
pub last_step : (xs rest : List ℕ) (left n : ℕ) (x y : Buffer ℕ) → left ≤ length xs → n ≤ left
    → y ≡ buffer (x.items ++ take n (drop (length xs - left) xs)) x.capacity
    → Appends (keep_last left xs ++ rest) (keep_last (left - n) xs ++ rest) x y
last_step xs rest left n x y within part e =
    let at : length xs - left + n ≡ length xs - (left - n) = omega arith in
    subst (λ (k : ℕ). Appends (keep_last left xs ++ rest) (drop k xs ++ rest) x y) at (place_step xs rest (length xs - left) n x y e)

pub last_step_alone : (xs : List ℕ) (left n : ℕ) (x y : Buffer ℕ) → left ≤ length xs → n ≤ left
    → y ≡ buffer (x.items ++ take n (drop (length xs - left) xs)) x.capacity
    → Appends (keep_last left xs) (keep_last (left - n) xs) x y
last_step_alone xs left n x y within part e =
    let s = last_step xs [] left n x y within part e in
    subst (λ (w : List ℕ). Appends w (keep_last (left - n) xs) x y) (append-nil (keep_last left xs))
    (subst (λ (w : List ℕ). Appends (keep_last left xs ++ []) w x y) (append-nil (keep_last (left - n) xs)) s)

-- the front is all appended, and what stands behind it goes on
pub behind_front : (a l b c : List ℕ) (x y z : Buffer ℕ) → Appends a (l ++ b) x y → l ≡ [] → Appends b c y z → Appends a (l ++ c) x z
behind_front a l b c x y z p none q =
    let p' = subst (λ (w : List ℕ). Appends a (w ++ b) x y) none p in
    subst (λ (w : List ℕ). Appends a (w ++ c) x z) (sym none) (appends_then a b c x y z p' q)

pub keep_none : (left : ℕ) (xs : List ℕ) → left ≡ 0 → keep_last left xs ≡ []
keep_none left xs e = let all : length xs ≤ length xs - left = omega arith in drop_all (length xs - left) xs all

pub keep_all : (xs : List ℕ) → keep_last (length xs) xs ≡ xs
keep_all xs = let e : length xs - length xs ≡ 0 = omega arith in ap (λ k. drop k xs) e
