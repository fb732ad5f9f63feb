-- How one connection is left that gave too many bytes.
use Rattle.std.proofs.Common.{◌≡◌, ℕ, zero, suc, ◌-◌, ◌^◌, ◌<◌, ◌≤◌, ◌+◌, min, Bool, true, false, if◌then◌else◌, List, [], ◌∷◌, ◌++◌, length, sym, ap, subst, ◌∙◌, arith, length-append, Option, None, Some, ◌⊎◌, inl, inr, refl}
use Rattle.std.proofs.lemmas.List.{append-nil}
use Rattle.rack_outside.specs.Link.{Seen, Tells}
use Rattle.rack_outside.specs.Told.{appended}
use Rattle.hijack_core.specs.declared.stock.Stock.{Stock}
use Rattle.hijack_core.specs.Said.{Starts}
use Rattle.hijack_core.specs.Stock.{stock_says}
use Rattle.hijack_core.specs.StockLaws.{stock-begins}
use Rattle.talk_core.specs.Ended.{Shows}
use Rattle.talk_core.specs.Tail.{tail_of}
use Rattle.talk_core.specs.Teller.{Teller}
use Rattle.talk_core.proofs.CallerLemmas.{begins_answer, stands_more}
use Rattle.conn_steps.specs.Shown.{Shown, Moved}
use Rattle.conn_core.proofs.CallerLemmas.{taken_by, Part}
use Rattle.puma_top.specs.Once.{Site, once_peer, once_voice, teller_of, AnsweredInPart, most_taken, Told, ServedLong}
use Rattle.puma_top.specs.Seen.{SourceSeen, SinkSeen}

-- the source and the sink show what the link shows
pub record AreOf (source : SourceSeen) (sink : SinkSeen) (s : Seen) : Type 0 where
  pub input : source.input ≡ s.input
  pub given : source.given ≡ s.given
  pub faults : source.faults ≡ s.failed_reads
  pub written : sink.written ≡ s.sent
  pub unwritten : sink.faults ≡ s.failed_writes

pub told : (source : SourceSeen) (sink : SinkSeen) (s : Seen) (peer given sent : List ℕ) (over : Bool) → AreOf source sink s
    → Shows s peer given sent over → Told source sink given sent
told source sink s peer given sent over are h = record {
  given_is = subst (λ (o : Option (List ℕ)). Tells o given) (sym are.given) h.given_is;
  written_is = subst (λ (o : Option (List ℕ)). Tells o sent) (sym are.written) h.sent_is;
}

-- a connection of which nothing closes by draining, and no request took too long, stands in part for this talk
pub record PartOnce (site : Site) (s : Seen) (calls : ℕ) (owed : List ℕ) : Type 0 where
  pub given : List ℕ
  pub sent : List ℕ
  pub over : Bool
  pub shows : Shows s once_peer given sent over
  pub part : Part once_voice (teller_of site) over given sent calls None false owed

-- the stock hijackers say nothing at the end
none_at_end : (goes over : Bool) (end : List ℕ) → end ≡ [] → (if goes then if over then end else [] else []) ≡ []
none_at_end true true end none = none
none_at_end true false end none = refl
none_at_end false over end none = refl

tail_is : (h : Stock) (rest : List ℕ) (over : Bool) → tail_of once_voice h rest over ≡ (stock_says h rest).bytes
tail_is h rest over =
    ap (λ z. (stock_says h rest).bytes ++ z) (none_at_end (stock_says h rest).go_on over [] refl) ∙ append-nil (stock_says h rest).bytes

-- so what they say to some bytes goes on in what they say to more
tail_longer : (h : Stock) (rest more : List ℕ) (over : Bool)
    → (longer : List ℕ) × (tail_of once_voice h (rest ++ more) over ≡ tail_of once_voice h rest over ++ longer)
tail_longer h rest more over =
    let starts : Starts (stock_says h rest).bytes (stock_says h (rest ++ more)).bytes = stock-begins h rest more in
    (starts.0, tail_is h (rest ++ more) over ∙ starts.1 ∙ ap (λ z. z ++ starts.0) (sym (tail_is h rest over)))

-- some list is as long
many : (n : ℕ) → (xs : List ℕ) × (n ≤ length xs)
many zero = ([], omega arith)
many (suc n) = let m = many n in (0 ∷ m.0, omega (arith, m.1))

-- what was given, where it is told
given_is : (before now : Option (List ℕ)) (came given : List ℕ) → Tells before [] → now ≡ appended before came → Tells now given
    → (now ≡ None) ⊎ (given ≡ came)
given_is None now came given start is tells = inl is
given_is (Some xs) now came given start is tells =
    let here : now ≡ Some came = is ∙ ap (λ (z : List ℕ). Some (z ++ came)) start in
    inr (sym (subst (λ (o : Option (List ℕ)). Tells o given) here tells))

-- a front of the answer to what was given is one of the answer to more
begins_more : (site : Site) (s : Seen) (calls : ℕ) (owed more : List ℕ) (h : PartOnce site s calls owed) → AnsweredInPart site (h.given ++ more) h.sent
begins_more site s calls owed more h =
    let T : Teller Stock = teller_of site in
    let p = h.part.partly in
    let further = stands_more once_voice T h.over h.given h.sent p.k h.part.word p.rest owed more h.part.timed
    (λ x. tail_longer x p.rest more h.over) p.stands in
    begins_answer once_voice T h.over (h.given ++ more) h.sent calls None h.part.word further.0
    (record { k = p.k; rest = p.rest ++ more; calls_is = p.calls_is; stands = further.1; closes = tt }) h.part.timed

module _ (site : Site) (s : Seen) (calls : ℕ) (owed : List ℕ) (source : SourceSeen) (sink : SinkSeen) (are : AreOf source sink s) where
  pub serves_long : (o n : Shown) (s0 : Seen) (x y : ℕ) → o.taken ≡ 0 → Tells s0.given [] → Moved o n s0 s x y → most_taken ≤ n.taken
      → PartOnce site s calls owed → ServedLong site source sink
  serves_long o n s0 x y none start moved long h =
      let few : o.taken < 2 ^ 64 = omega (arith, none) in
      let taken : n.taken ≡ min (o.taken + length moved.came) (2 ^ 64 - 1) = moved.taken ∙ taken_by (length moved.came) o.taken few in
      elim (given_is s0.given s.given moved.came h.given start moved.given h.shows.given_is) [
        | inl untold ↦
            let more = many most_taken in
            let all : most_taken ≤ length (h.given ++ more.0) = omega (arith, more.1, length-append h.given more.0) in
            record {
              given = h.given ++ more.0;
              written = h.sent;
              told = record {
                given_is = subst (λ (o : Option (List ℕ)). Tells o (h.given ++ more.0)) (sym (are.given ∙ untold)) tt;
                written_is = subst (λ (o : Option (List ℕ)). Tells o h.sent) (sym are.written) h.shows.sent_is;
              };
              begins = begins_more site s calls owed more.0 h;
              long = all;
            }
        | inr same ↦
            let all : most_taken ≤ length h.given = omega (arith, long, taken, none, ap length same) in
            record {
              given = h.given;
              written = h.sent;
              told = told source sink s once_peer h.given h.sent h.over are h.shows;
              begins = begins_answer once_voice (teller_of site) h.over h.given h.sent calls None h.part.word owed h.part.partly h.part.timed;
              long = all;
            }
      ]
