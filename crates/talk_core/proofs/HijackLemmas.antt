-- What stands behind a hijack: the hijacker is told more bytes, or the end.
use Rattle.std.proofs.Common.{◌≡◌, ℕ, Bool, true, false, if◌then◌else◌, List, [], ◌∷◌, ◌++◌, sym, ap, ◌∙◌, append_assoc}
use Rattle.std.proofs.lemmas.List.{append-nil}
use Rattle.hijack_core.specs.declared.hijack.Said.{Said}
use Rattle.hijack_core.specs.Said.{GoesOnAs}
use Rattle.rack_types.specs.Request.{Parts}
use Rattle.talk_core.specs.Teller.{Teller}
use Rattle.talk_core.specs.Tail.{Voice, tail_of}
use Rattle.talk_core.specs.Stands.{hands_over, Stands}
use Rattle.talk_core.proofs.TalkLemmas.{asks_more}

-- the tail is what was said to the first bytes, and then what the hijacker says that it is behind them
pub tail_behind : {H : Type 0} (V : Voice H) (h now : H) (told more : List ℕ) (over : Bool) → GoesOnAs (V.says h) (V.ends h) told (V.says now) (V.ends now)
    → tail_of V h (told ++ more) over ≡ (V.says h told).bytes ++ tail_of V now more over
tail_behind V h now told more over goes =
    ap (λ (s : Said). s.bytes ++ (if s.go_on then if over then V.ends h (told ++ more) else [] else [])) (goes.joined more)
    ∙ ap (λ (e : List ℕ). ((V.says h told).bytes ++ (V.says now more).bytes) ++ (if (V.says now more).go_on then if over then e else [] else [])) (goes.ended more)
    ∙ append_assoc (V.says h told).bytes (V.says now more).bytes (if (V.says now more).go_on then if over then V.ends now more else [] else [])

-- before the peer's end the tail is what was said
pub tail_so_far : {H : Type 0} (V : Voice H) (h : H) (rest : List ℕ) → tail_of V h rest false ≡ (V.says h rest).bytes
tail_so_far V h rest = go (V.says h rest).go_on
  where
    go : (b : Bool) → (V.says h rest).bytes ++ (if b then if false then V.ends h rest else [] else []) ≡ (V.says h rest).bytes
    go true = append-nil (V.says h rest).bytes
    go false = append-nil (V.says h rest).bytes

-- and behind it, where the hijacker goes on, what it says at the end too
pub tail_at_end : {H : Type 0} (V : Voice H) (h : H) (rest : List ℕ) → (V.says h rest).go_on ≡ true
    → tail_of V h rest true ≡ (V.says h rest).bytes ++ V.ends h rest
tail_at_end V h rest goes = ap (λ (b : Bool). (V.says h rest).bytes ++ (if b then if true then V.ends h rest else [] else [])) goes

module _ {H : Type 0} (V : Voice H) (T : Teller H) where
  -- the word goes on: its text has this behind it
  pub goes_further : (over then_over : Bool) (given sent : List ℕ) (k : ℕ) (r : Parts) (h : H) (rest lacks more longer : List ℕ)
      → Stands V T over given sent k (hands_over r h) rest lacks → tail_of V h (rest ++ more) then_over ≡ tail_of V h rest over ++ longer
      → Stands V T then_over (given ++ more) sent k (hands_over r h) (rest ++ more) (lacks ++ longer)
  goes_further over then_over given sent k r h rest lacks more longer s tail = record {
    whole = s.whole;
    count = s.count;
    asks = asks_more (s.whole ++ r ∷ []) given rest more s.asks;
    keeps = s.keeps;
    part = s.part;
    sent_is = s.sent_is;
    part_is = sym (append_assoc s.part lacks longer) ∙ ap (λ x. x ++ longer) s.part_is ∙ append_assoc (T k r).bytes (tail_of V h rest over) longer
        ∙ ap (λ x. (T k r).bytes ++ x) (sym tail);
    fits = s.fits;
  }

  -- more bytes were given behind those that the hijacker was told
  pub stands_heard : (over : Bool) (given sent : List ℕ) (k : ℕ) (r : Parts) (h now : H) (rest lacks more : List ℕ)
      → Stands V T false given sent k (hands_over r h) rest lacks → GoesOnAs (V.says h) (V.ends h) rest (V.says now) (V.ends now)
      → Stands V T over (given ++ more) sent k (hands_over r h) (rest ++ more) (lacks ++ tail_of V now more over)
  stands_heard over given sent k r h now rest lacks more s goes =
      goes_further false over given sent k r h rest lacks more (tail_of V now more over) s
      (tail_behind V h now rest more over goes ∙ ap (λ x. x ++ tail_of V now more over) (sym (tail_so_far V h rest)))

  -- the peer ended, and the hijacker goes on
  pub stands_over : (given sent : List ℕ) (k : ℕ) (r : Parts) (h : H) (rest lacks : List ℕ) → Stands V T false given sent k (hands_over r h) rest lacks
      → (V.says h rest).go_on ≡ true → Stands V T true given sent k (hands_over r h) rest (lacks ++ V.ends h rest)
  stands_over given sent k r h rest lacks s goes = record {
    whole = s.whole;
    count = s.count;
    asks = s.asks;
    keeps = s.keeps;
    part = s.part;
    sent_is = s.sent_is;
    part_is = sym (append_assoc s.part lacks (V.ends h rest)) ∙ ap (λ x. x ++ V.ends h rest) s.part_is
        ∙ append_assoc (T k r).bytes (tail_of V h rest false) (V.ends h rest)
        ∙ ap (λ x. (T k r).bytes ++ x) (ap (λ x. x ++ V.ends h rest) (tail_so_far V h rest) ∙ sym (tail_at_end V h rest goes));
    fits = s.fits;
  }
