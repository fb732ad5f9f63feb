-- What was sent begins what answers the bytes, where nothing was timed out.
use Rattle.std.proofs.Common.{◌≡◌, ◌≢◌, ℕ, ◌+◌, Bool, true, false, if◌then◌else◌, List, [], ◌∷◌, ◌++◌, length, refl, sym, ap, subst, ◌∙◌, append_assoc, arith, Option, Some}
use Rattle.std.proofs.lemmas.Bool.{false≢true}
use Rattle.std.proofs.lemmas.List.{append-nil}
use Rattle.rack_types.specs.Request.{Parts}
use Rattle.message_framing.proofs.CallerLemmas.{begins_not_refused}
use Rattle.reply_framing.specs.declared.types.After.{After}
use Rattle.reply_framing.specs.declared.types.After.TheVariants.{Keep, Hijack}
use Rattle.reply_framing.specs.Fault.{fault_reply}
use Rattle.talk_core.specs.Answer.{IsBehind, IsAnswer, BeginsAnswer, BeginsLess}
use Rattle.talk_core.specs.Ended.{IsTimed}
use Rattle.talk_core.specs.Stands.{Word, silent, replies, refuses, times_out, hands_over, asked_by, text_by, Stands, Partly}
use Rattle.talk_core.specs.Tail.{Voice, tail_of}
use Rattle.talk_core.specs.Talk.{Asks, Stop, refused, hijacked, StopsAs, Talk, text, replies_to, last_word}
use Rattle.talk_core.specs.Teller.{Teller, fates_of}
use Rattle.talk_core.proofs.CompareLemmas.{GoesFurther, SameEnd, same_end, answered_begins, stop_unique}
use Rattle.talk_core.proofs.HijackLemmas.{tail_so_far}
use Rattle.talk_core.proofs.LawLemmas.{few_asked, none_asked, none_behind}
use Rattle.talk_core.proofs.TalkLemmas.{replies_append, replies_snoc}

-- what was sent and what is lacking
said_all : {H : Type 0} (V : Voice H) (T : Teller H) (over : Bool) (given sent : List ℕ) (k : ℕ) (word : Word H) (rest lacks : List ℕ)
    (h : Stands V T over given sent k word rest lacks) → sent ++ lacks ≡ replies_to T 0 h.whole ++ text_by V T over k word rest
said_all V T over given sent k word rest lacks h =
    ap (λ z. z ++ lacks) h.sent_is ∙ append_assoc (replies_to T 0 h.whole) h.part lacks ∙ ap (λ z. replies_to T 0 h.whole ++ z) h.part_is

-- what was sent begins this text, and what is lacking comes next
abbrev BeginsWith : List ℕ → List ℕ → List ℕ → Type 0
BeginsWith sent lacks all = (more : List ℕ) × (all ≡ sent ++ (lacks ++ more))

-- what begins the replies to the first requests begins the text
begins_front : {H : Type 0} (T : Teller H) (asked front more : List Parts) (stop : Stop) (sent lacks : List ℕ) → asked ≡ front ++ more
    → sent ++ lacks ≡ replies_to T 0 front → BeginsWith sent lacks (text T asked stop)
begins_front T asked front more stop sent lacks e said =
    let behind : List ℕ = replies_to T (0 + length front) more in (
      behind ++ last_word stop,
      ap (λ z. replies_to T 0 z ++ last_word stop) e ∙ ap (λ z. z ++ last_word stop) (replies_append T front more 0)
          ∙ append_assoc (replies_to T 0 front) behind (last_word stop)
          ∙ ap (λ z. z ++ (behind ++ last_word stop)) (sym said) ∙ append_assoc sent lacks (behind ++ last_word stop),
    )

-- and any text that something stands behind
and_tail : (sent lacks all tail : List ℕ) → BeginsWith sent lacks all → BeginsWith sent lacks (all ++ tail)
and_tail sent lacks all tail b = (
  b.0 ++ tail,
  ap (λ z. z ++ tail) b.1 ∙ append_assoc sent (lacks ++ b.0) tail ∙ ap (λ z. sent ++ z) (append_assoc lacks b.0 tail),
)

-- where the peer ended, the tail begins as it does where it did not
tail_more : {H : Type 0} (V : Voice H) (h : H) (rest : List ℕ) (over : Bool) → (more : List ℕ) × (tail_of V h rest true ≡ tail_of V h rest over ++ more)
tail_more V h rest true = ([], sym (append-nil (tail_of V h rest true)))
tail_more V h rest false =
    let last : List ℕ = if (V.says h rest).go_on then V.ends h rest else [] in
    (last, ap (λ z. z ++ last) (sym (tail_so_far V h rest)))

-- the last of these requests hands the connection to one hijacker
pub one_hijacker : {H : Type 0} (T : Teller H) (front other : List Parts) (r q : Parts) (x y : H) → front ++ r ∷ [] ≡ other ++ q ∷ []
    → (T (length front) r).hijacker ≡ Some x → (T (length other) q).hijacker ≡ Some y → x ≡ y
one_hijacker T front other r q x y e h k =
    let ends : SameEnd front other r q = same_end front other r q e in
    let both : (T (length front) r).hijacker ≡ (T (length other) q).hijacker =
    ap (λ (z : List Parts). (T (length z) r).hijacker) ends.front ∙ ap (λ (z : Parts). (T (length other) z).hijacker) ends.last in
    cc

keeps_not : (a : After) → a ≡ Keep → a ≡ Hijack → ⊥
keeps_not a x y = cc

shift : (a b c x : List ℕ) → (a ++ b) ++ (c ++ x) ≡ (a ++ (b ++ c)) ++ x
shift a b c x = append_assoc a b (c ++ x) ∙ ap (λ z. a ++ z) (sym (append_assoc b c x)) ∙ sym (append_assoc a (b ++ c) x)

-- the hijacker that was to say it is the one that the talk hands the connection to
begins_handed : {H : Type 0} (V : Voice H) (T : Teller H) (over : Bool) (given sent : List ℕ) (k : ℕ) (r : Parts) (x : H) (rest lacks : List ℕ)
    (asked more : List Parts) (stop : Stop) (end tail : List ℕ) (h : Stands V T over given sent k (hands_over r x) rest lacks)
    → Talk (fates_of T) given asked stop end → asked ≡ (h.whole ++ r ∷ []) ++ more → Asks rest more end → IsBehind V T asked stop end tail
    → BeginsWith sent lacks (text T asked stop ++ tail)
begins_handed {H} V T over given sent k r x rest lacks asked more stop end tail h t e a b =
    let fate : (T (length h.whole) r).after ≡ Hijack = subst (λ (i : ℕ). (T i r).after ≡ Hijack) h.count h.fits.0 in
    let none : more ≡ [] = none_behind (fates_of T) given end asked h.whole more r stop t e (λ keeps. keeps_not _ keeps fate) in
    let all : asked ≡ h.whole ++ r ∷ [] = e ∙ ap (λ z. (h.whole ++ r ∷ []) ++ z) none ∙ append-nil (h.whole ++ r ∷ []) in
    let same : rest ≡ end = subst (λ (z : List Parts). Asks rest z end) none a in
    let stop_is : stop ≡ hijacked = stop_unique (fates_of T) asked end stop hijacked t.stops
    (record { front = h.whole; last = r; asked_is = all; keeps = h.keeps; fate = fate }) in
    let said : IsBehind V T asked hijacked end tail = subst (λ (s : Stop). IsBehind V T asked s end tail) stop_is b in
    let who : (T (length h.whole) r).hijacker ≡ Some x = subst (λ (i : ℕ). (T i r).hijacker ≡ Some x) h.count h.fits.1 in
    let is : x ≡ said.0 = one_hijacker T h.whole said.1.front r said.1.last x said.0 (sym all ∙ said.1.asked_is) who said.1.hijacker in
    let last : (more : List ℕ) × (tail_of V x rest true ≡ tail_of V x rest over ++ more) = tail_more V x rest over in
    let tail_is : tail ≡ tail_of V x rest over ++ last.0 =
    said.2 ∙ ap (λ (y : H). tail_of V y end true) (sym is) ∙ ap (λ z. tail_of V x z true) (sym same) ∙ last.1 in
    let i : 0 + length h.whole ≡ k = omega (arith, h.count) in (
      last.0,
      ap (λ (s : Stop). text T asked s ++ tail) stop_is ∙ ap (λ z. z ++ tail) (append-nil (replies_to T 0 asked))
          ∙ ap (λ z. replies_to T 0 z ++ tail) all
          ∙ ap (λ z. z ++ tail) (replies_snoc T h.whole 0 r ∙ ap (λ j. replies_to T 0 h.whole ++ (T j r).bytes) i)
          ∙ ap (λ z. (replies_to T 0 h.whole ++ (T k r).bytes) ++ z) tail_is
          ∙ shift (replies_to T 0 h.whole) (T k r).bytes (tail_of V x rest over) last.0
          ∙ ap (λ z. z ++ last.0) (sym (said_all V T over given sent k (hands_over r x) rest lacks h)) ∙ append_assoc sent lacks last.0,
    )

begins_by : {H : Type 0} (V : Voice H) (T : Teller H) (over : Bool) (given sent : List ℕ) (k : ℕ) (word : Word H) (rest lacks : List ℕ)
    (asked more : List Parts) (stop : Stop) (end tail : List ℕ) (h : Stands V T over given sent k word rest lacks) → IsTimed word false
    → Talk (fates_of T) given asked stop end → asked ≡ (h.whole ++ asked_by word) ++ more → Asks rest more end → IsBehind V T asked stop end tail
    → BeginsWith sent lacks (text T asked stop ++ tail)
begins_by V T over given sent k silent rest lacks asked more stop end tail h timed t e a b =
    and_tail sent lacks (text T asked stop) tail
    (begins_front T asked h.whole more stop sent lacks (e ∙ ap (λ z. z ++ more) (append-nil h.whole))
    (said_all V T over given sent k silent rest lacks h ∙ append-nil (replies_to T 0 h.whole)))
begins_by V T over given sent k (replies r) rest lacks asked more stop end tail h timed t e a b =
    let n : k ≡ 0 + length h.whole = omega (arith, h.count) in
    and_tail sent lacks (text T asked stop) tail
    (begins_front T asked (h.whole ++ r ∷ []) more stop sent lacks e
    (said_all V T over given sent k (replies r) rest lacks h ∙ ap (λ i. replies_to T 0 h.whole ++ (T i r).bytes) n ∙ sym (replies_snoc T h.whole 0 r)))
begins_by V T over given sent k (refuses f) rest lacks asked more stop end tail h timed t e a b =
    let none : more ≡ [] = none_asked rest end more (λ m r b. begins_not_refused rest m r f b h.fits) a in
    let all : asked ≡ h.whole = e ∙ ap (λ z. (h.whole ++ []) ++ z) none ∙ append-nil (h.whole ++ []) ∙ append-nil h.whole in
    let same : rest ≡ end = subst (λ (z : List Parts). Asks rest z end) none a in
    let stop_is : stop ≡ refused f = stop_unique (fates_of T) asked end stop (refused f) t.stops
    (subst (λ (z : List ℕ). StopsAs (refused f) (fates_of T) asked z) same
    (subst (λ (z : List Parts). StopsAs (refused f) (fates_of T) z rest) (sym all) (h.keeps, h.fits))) in
    and_tail sent lacks (text T asked stop) tail (
      [],
      ap (λ (s : Stop). text T asked s) stop_is ∙ ap (λ z. replies_to T 0 z ++ fault_reply f) all
          ∙ sym (said_all V T over given sent k (refuses f) rest lacks h) ∙ ap (λ z. sent ++ z) (sym (append-nil lacks)),
    )
begins_by V T over given sent k times_out rest lacks asked more stop end tail h timed t e a b = absurd (false≢true timed)
begins_by V T over given sent k (hands_over r x) rest lacks asked more stop end tail h timed t e a b =
    begins_handed V T over given sent k r x rest lacks asked more stop end tail h t e a b

-- what was sent, and then what is lacking, begins what answers the bytes
begins_with : {H : Type 0} (V : Voice H) (T : Teller H) (over : Bool) (given sent : List ℕ) (calls : ℕ) (closing : Option ℕ) (word : Word H)
    (lacks answer : List ℕ) → Partly V T over given sent calls closing word lacks → IsTimed word false → IsAnswer V T given answer
    → BeginsWith sent lacks answer
begins_with V T over given sent calls closing word lacks answer p timed a =
    let f : GoesFurther (p.stands.whole ++ asked_by word) a.asked p.rest a.rest =
    answered_begins (fates_of T) given a.asked p.stands.whole (asked_by word) a.stop a.rest p.rest (few_asked word) p.stands.keeps p.stands.asks a.talk in
    subst (λ (z : List ℕ). BeginsWith sent lacks z) (sym a.is)
    (begins_by V T over given sent p.k word p.rest lacks a.asked f.more a.stop a.rest a.tail p.stands timed a.talk f.longer f.asks a.behind)

-- so what was sent begins it
pub begins_answer : {H : Type 0} (V : Voice H) (T : Teller H) (over : Bool) (given sent : List ℕ) (calls : ℕ) (closing : Option ℕ) (word : Word H)
    (lacks : List ℕ) → Partly V T over given sent calls closing word lacks → IsTimed word false → BeginsAnswer V T given sent
begins_answer V T over given sent calls closing word lacks p timed answer a =
    let b : BeginsWith sent lacks answer = begins_with V T over given sent calls closing word lacks answer p timed a in
    (lacks ++ b.0, b.1)

some_behind : (lacks more : List ℕ) → lacks ≢ [] → lacks ++ more ≢ []
some_behind [] more some = absurd (some refl)
some_behind (x ∷ xs) more some = λ e. cc

-- and it is not all of it, where some is lacking
pub begins_less : {H : Type 0} (V : Voice H) (T : Teller H) (over : Bool) (given sent : List ℕ) (calls : ℕ) (closing : Option ℕ) (word : Word H)
    (lacks : List ℕ) → lacks ≢ [] → Partly V T over given sent calls closing word lacks → IsTimed word false → BeginsLess V T given sent
begins_less V T over given sent calls closing word lacks some p timed answer a =
    let b : BeginsWith sent lacks answer = begins_with V T over given sent calls closing word lacks answer p timed a in
    (lacks ++ b.0, b.1, some_behind lacks b.0 some)
