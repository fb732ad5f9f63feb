-- How the statistics are put together, piece by piece.
use Rattle.std.proofs.Common.{◌≡◌, ℕ, ◌+◌, ◌<◌, List, ◌++◌, length, get_or, drop, refl, ap, ◌∙◌, append_assoc, add-one, drop-cons}
use Rattle.master_core.specs.declared.slot.Slot.{Slot}
use Rattle.control_http.specs.declared.seen.SlotSeen.{SlotSeen}
use Rattle.control_http.specs.Stats.{comma_before, entry, entries}

-- six texts, appended one after the other
pub six : (o p q r s t u a b c d e f : List ℕ) → p ≡ o ++ a → q ≡ p ++ b → r ≡ q ++ c → s ≡ r ++ d → t ≡ s ++ e → u ≡ t ++ f
    → u ≡ o ++ (a ++ b ++ c ++ d ++ e ++ f)
six o p q r s t u a b c d e f h i j k l m = rw (m, l, k, j, i, h) (simp append_assoc)

-- the entries from slot i on begin with its own
pub entries-next : (i : ℕ) (slots : List Slot) (seen : List SlotSeen) (slot : Slot) (s : SlotSeen) → i < length slots → i < length seen
    → entries i (drop i slots) (drop i seen)
    ≡ comma_before i ++ entry i (get_or slots i slot) (get_or seen i s) ++ entries (i + 1) (drop (i + 1) slots) (drop (i + 1) seen)
entries-next i slots seen slot s few less = rw (drop-cons slots i slot few, drop-cons seen i s less) (rw add-one refl)

-- one entry more
pub entries-step : (whole j k l : List ℕ) (i : ℕ) (slots : List Slot) (seen : List SlotSeen) (slot : Slot) (s : SlotSeen)
    → whole ≡ j ++ entries i (drop i slots) (drop i seen) → i < length slots → i < length seen
    → k ≡ j ++ comma_before i → l ≡ k ++ entry i (get_or slots i slot) (get_or seen i s)
    → whole ≡ l ++ entries (i + 1) (drop (i + 1) slots) (drop (i + 1) seen)
entries-step whole j k l i slots seen slot s h few less d e =
    rw (e, d) (h ∙ ap (λ (x : List ℕ). j ++ x) (entries-next i slots seen slot s few less) ∙ simp append_assoc)
