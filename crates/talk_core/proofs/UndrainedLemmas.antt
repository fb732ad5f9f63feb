-- One hijacker at most has a connection.
use Rattle.std.proofs.Common.{◌≡◌, ℕ, List, [], ◌∷◌, ◌++◌, sym, ap, ◌∙◌}
use Rattle.rack_types.specs.Request.{Parts}
use Rattle.talk_core.specs.Ended.{Past, SentWholeTo}
use Rattle.talk_core.specs.Talk.{hijacked}
use Rattle.talk_core.specs.Teller.{Teller, fates_of}
use Rattle.talk_core.proofs.CompareLemmas.{one_talk}
use Rattle.talk_core.proofs.TextLemmas.{one_hijacker}

-- a talk stops at one hijacker, and leaves one rest
pub one_hijack : {H : Type 0} (T : Teller H) (p : Past) (x y : H) (rest other said text : List ℕ) → SentWholeTo T p x rest said
    → SentWholeTo T p y other text → (x ≡ y) × (rest ≡ other)
one_hijack T p x y rest other said text h k =
    let same = one_talk (fates_of T) p.given h.whole.asked k.whole.asked hijacked hijacked rest other h.whole.talk k.whole.talk in
    let s = h.whole.talk.stops in
    let t = k.whole.talk.stops in
    (one_hijacker T s.front t.front s.last t.last x y (sym s.asked_is ∙ same.0 ∙ t.asked_is) h.hijacker k.hijacker, same.2)
