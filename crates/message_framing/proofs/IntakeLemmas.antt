-- A feed by its parts.
use Rattle.std.proofs.Common.{◌≡◌, ◌≢◌, ℕ, ◌+◌, ◌-◌, ◌<◌, ◌≤◌, true, false, List, ◌++◌, length, take, drop, Some, Result, Ok, Err, refl, ap, sym, ◌∙◌, subst, arith, length-append, length-drop}
use Rattle.std.proofs.lemmas.List.{take-append-drop, append_assoc, append-nil, take-append-le, drop-append-le}
use Rattle.std.specs.Result.{IsErr}
use Rattle.std.specs.declared.alloc.AllocError.{AllocError}
use Rattle.rack_types.specs.Request.{Parts}
use Rattle.message_framing.specs.declared.fields.Framing.{Framing}
use Rattle.message_framing.specs.declared.intake.Feed.{Feed}
use Rattle.message_framing.specs.declared.intake.Feed.TheVariants.{More, Whole, Refused}
use Rattle.message_framing.specs.declared.intake.Intake.{Intake}
use Rattle.message_framing.specs.declared.standing.ChunkedBody.{ChunkedBody}
use Rattle.message_framing.specs.declared.standing.StatedBody.{StatedBody}
use Rattle.message_framing.specs.declared.standing.Standing.{Standing}
use Rattle.message_framing.specs.HeadText.{head_text}
use Rattle.message_framing.specs.Head.{IsHead, head_framing}
use Rattle.message_framing.specs.Chunks.{EndsInLine}
use Rattle.message_framing.specs.Decoding.{HasRead, LacksIn}
use Rattle.message_framing.specs.Scan.{behind}
use Rattle.message_framing.specs.declared.scan.Line.TheVariants.{Skipping}
use Rattle.message_framing.specs.Request.{head_within, has_too_many_lines, IsRequest, Wanting}
use Rattle.message_framing.specs.Standing.{StatedGoesOn, ChunkedGoesOn, FeedsOn}
use Rattle.message_framing.specs.Intake.{Fed, Spent, Lacked, Lacks, IsRight, NeedsMemory, LacksRightly, TellsWhole, AnswersRightly, RefusesMemory, FeedsTo}
use Rattle.message_framing.specs.Held.{EndsHead, IsChunked, FedAt, SpentAt, StandsWholeAt}
use Rattle.message_framing.specs.FeedParts.{FedOrLacks, from_place, line_behind, GoesOn}
use Rattle.message_framing.proofs.StandingLemmas.{stated_more, stated_whole, stated_refused, stated_lacks, chunked_more, chunked_whole, chunked_refused, chunked_lacks}
use Rattle.message_framing.proofs.RequestLemmas.{ends_at, within_append, wanting, ends_head_stays, ends_head_is}
use Rattle.message_framing.proofs.FedLemmas.{held, holds, fed_waits, waiting_at, whole_at}
use Rattle.message_framing.proofs.FeedHeadLemmas.{few_lines, line_stays}
use Rattle.message_framing.proofs.GoOnLemmas.{Went, ok_same, went_on}
use Rattle.message_framing.specs.declared.fields.Framing.TheVariants as framing
use Rattle.message_framing.specs.declared.standing.Standing.TheVariants as at
use Rattle.message_framing.proofs.ReaderLemmas.{parts_join, steps_join}

-- the parts of a feed: what the head took of the piece, and what stood then
pub record Started (old mid : Intake) (from : ℕ) (piece : List ℕ) : Type 0 where
  pub within : from ≤ length piece
  pub behind_head : mid.standing ≢ at.Open
  pub fed : (b : List ℕ) → Fed old b → FedOrLacks mid.standing mid b (take from piece)
  pub spent : (b : List ℕ) → Spent old b → (from ≡ 0) × Spent mid b
  pub lacks : Lacks old → Lacks mid
  pub lacked_line : Lacks old → mid.line ≡ old.line
  pub waits : (b : List ℕ) → Fed old b → (body : ChunkedBody) → mid.standing ≡ at.Chunked body → Wanting b

-- the head was whole before
pub started_behind : (old : Intake) (piece : List ℕ) → old.standing ≢ at.Open → Started old old 0 piece
started_behind old piece behind_head = record {
  within = omega arith;
  behind_head = behind_head;
  fed = λ b fed. go b old.standing refl fed;
  spent = λ b spent. (refl, spent);
  lacks = λ lacks. lacks;
  lacked_line = λ lacks. refl;
  waits = λ b fed body is. fed_waits old b fed (waiting_at _ _ is tt);
}
  where
    same : (b : List ℕ) → Fed old b → Fed old (b ++ take 0 piece)
    same b fed = subst (λ (w : List ℕ). Fed old w) (sym (append-nil b)) fed

    go : (b : List ℕ) (s : Standing) → old.standing ≡ s → Fed old b → FedOrLacks s old b (take 0 piece)
    go b at.Open is fed = absurd (behind_head is)
    go b (at.Stated body) is fed = same b fed
    go b (at.Chunked body) is fed = same b fed
    go b (at.Whole r) is fed = same b fed
    go b (at.Refused f) is fed = same b fed
    go b at.Lacking is fed = absurd (held old at.Lacking b is fed)

-- the head ended, or was refused, in the piece
pub started_open : (old mid : Intake) (from : ℕ) (piece : List ℕ) → old.standing ≡ at.Open → from ≤ length piece → mid.standing ≢ at.Open
    → ((b : List ℕ) → Fed old b → FedOrLacks mid.standing mid b (take from piece)) → Started old mid from piece
started_open old mid from piece is within behind_head fed = record {
  within = within;
  behind_head = behind_head;
  fed = fed;
  spent = λ b spent. absurd (subst (λ (s : Standing). SpentAt s b) is spent.at);
  lacks = λ lacks. absurd (let clash : at.Open ≡ at.Lacking = sym is ∙ lacks in cc);
  lacked_line = λ lacks. absurd (let clash : at.Open ≡ at.Lacking = sym is ∙ lacks in cc);
  waits = λ b fed body chunked. fed_waits old b fed (waiting_at _ _ is tt);
}

-- where an answer is given, memory was not refused
fed_mid : (mid : Intake) (b w rest : List ℕ) (answer : Feed) (new : Standing) → mid.standing ≢ at.Open
    → FeedsOn mid.standing rest (Ok answer) new → FedOrLacks mid.standing mid b w → Fed mid (b ++ w)
fed_mid mid b w rest answer new behind_head goes h = go mid.standing refl goes h
  where
    go : (s : Standing) → mid.standing ≡ s → FeedsOn s rest (Ok answer) new → FedOrLacks s mid b w → Fed mid (b ++ w)
    go at.Open is goes h = absurd (behind_head is)
    go (at.Stated body) is goes h = h
    go (at.Chunked body) is goes h = h
    go (at.Whole r) is goes h = h
    go (at.Refused f) is goes h = h
    go at.Lacking is goes h = absurd (let clash : false ≡ true = goes.0 in cc)

-- the same of what was taken, by the answer
went_piece : (from : ℕ) (answer whole : Feed) (b piece : List ℕ) (new : Intake) → from ≤ length piece
    → ◌≡◌ {A = Result Feed AllocError} (Ok whole) (from_place from (Ok answer)) → Went answer (b ++ take from piece) (drop from piece) new → Went whole b piece new
went_piece from More whole b piece new within is h =
    let same : More ≡ whole = sym (ok_same whole More is) in
    subst (λ (a : Feed). Went a b piece new) same (subst (λ (w : List ℕ). Fed new w) (parts_join b piece from) h.0, h.1)
went_piece from (Whole n) whole b piece new within is h =
    let same : Whole (from + n) ≡ whole = sym (ok_same whole (Whole (from + n)) is) in
    subst (λ (a : Feed). Went a b piece new) same
    (subst (λ (w : List ℕ). Fed new w) (steps_join b piece from n) h.0, (omega (arith, h.1.0, length-drop from piece), h.1.1))
went_piece from (Refused f) whole b piece new within is h =
    let same : Refused f ≡ whole = sym (ok_same whole (Refused f) is) in
    subst (λ (a : Feed). Went a b piece new) same (subst (λ (w : List ℕ). Fed new w) (parts_join b piece from) h.0, h.1)

-- an answer that tells what stands in the intake is right
right_of : (answer : Feed) (b piece : List ℕ) (new : Intake) → Went answer b piece new → IsRight answer b piece
right_of More b piece new h = fed_waits new (b ++ piece) h.0 h.1
right_of (Whole n) b piece new h = go new.standing refl h.0.at h.1.1
  where
    go : (s : Standing) → new.standing ≡ s → FedAt s new (b ++ take n piece) → StandsWholeAt s
        → (n ≤ length piece) × ((r : Parts) × IsRequest (b ++ take n piece) r)
    go at.Open is f w = absurd w
    go (at.Stated body) is f w = absurd w
    go (at.Chunked body) is f w = absurd w
    go (at.Whole r) is f w = (h.1.0, (r, f))
    go (at.Refused g) is f w = absurd w
    go at.Lacking is f w = absurd w
right_of (Refused f) b piece new h = held new (at.Refused f) (b ++ piece) h.1 h.0

-- an answer from a place of the piece is of the same kind
pub same_kind : (from : ℕ) (answer whole : Feed) (new : Intake) → ◌≡◌ {A = Result Feed AllocError} (Ok whole) (from_place from (Ok answer))
    → TellsWhole answer new → TellsWhole whole new
same_kind from More whole new is h =
    subst (λ (a : Feed). TellsWhole a new) (sym (ok_same whole More is)) h
same_kind from (Whole n) whole new is h =
    subst (λ (a : Feed). TellsWhole a new) (sym (ok_same whole (Whole (from + n)) is)) h
same_kind from (Refused f) whole new is h =
    subst (λ (a : Feed). TellsWhole a new) (sym (ok_same whole (Refused f) is)) h

-- a standing that is no request
not_whole : (s t : Standing) → s ≡ t → (StandsWholeAt t → ⊥) → StandsWholeAt s → ⊥
not_whole s t is none whole = none (subst StandsWholeAt is whole)

stated_tells : (body : StatedBody) (rest : List ℕ) (answer : Feed) (new : Intake) → StatedGoesOn body rest (Ok answer) new.standing → TellsWhole answer new
stated_tells body rest More new goes = not_whole _ _ (stated_more body rest new.standing goes).1 (λ w. w)
stated_tells body rest (Whole n) new goes = whole_at _ _ (stated_whole body rest n new.standing goes).1 tt
stated_tells body rest (Refused f) new goes = absurd (stated_refused body rest f new.standing goes)

chunked_tells : (body : ChunkedBody) (rest : List ℕ) (answer : Feed) (new : Intake) → ChunkedGoesOn body rest (Ok answer) new.standing → TellsWhole answer new
chunked_tells body rest More new goes = not_whole _ _ (chunked_more body rest new.standing goes).1 (λ w. w)
chunked_tells body rest (Whole n) new goes = whole_at _ _ (chunked_whole body rest n new.standing goes).1 tt
chunked_tells body rest (Refused f) new goes = not_whole _ _ (chunked_refused body rest f new.standing goes).0 (λ w. w)

-- the answer tells of a whole request, whatever was fed
tells_whole : (mid : Intake) (rest : List ℕ) (answer : Feed) (new : Intake) → mid.standing ≢ at.Open → FeedsOn mid.standing rest (Ok answer) new.standing
    → TellsWhole answer new
tells_whole mid rest answer new behind_head goes = go mid.standing refl goes
  where
    go : (s : Standing) → mid.standing ≡ s → FeedsOn s rest (Ok answer) new.standing → TellsWhole answer new
    go at.Open is goes = absurd (behind_head is)
    go (at.Stated body) is goes = stated_tells body rest answer new goes
    go (at.Chunked body) is goes = chunked_tells body rest answer new goes
    go (at.Whole r) is goes =
        subst (λ (a : Feed). TellsWhole a new) (sym (ok_same answer (Whole 0) goes.0)) (whole_at _ _ goes.1 tt)
    go (at.Refused f) is goes =
        subst (λ (a : Feed). TellsWhole a new) (sym (ok_same answer (Refused f) goes.0)) (not_whole _ _ goes.1 (λ w. w))
    go at.Lacking is goes = absurd (let clash : false ≡ true = goes.0 in cc)

-- where a request was spent, `Whole(0)` is the answer, and it stays so
spent_on : (mid new : Intake) (b rest : List ℕ) (answer : Feed) → Spent mid b → FeedsOn mid.standing rest (Ok answer) new.standing
    → new.line ≡ line_behind (Ok answer) mid.line rest → (answer ≡ Whole 0) × Spent new b
spent_on mid new b rest answer spent goes line = go mid.standing spent.at goes
  where
    go : (s : Standing) → SpentAt s b → FeedsOn s rest (Ok answer) new.standing → (answer ≡ Whole 0) × Spent new b
    go at.Open h goes = absurd h
    go (at.Stated body) h goes = absurd h
    go (at.Chunked body) h goes = absurd h
    go (at.Whole r) h goes =
        let same : answer ≡ Whole 0 = ok_same answer (Whole 0) goes.0 in (
          same,
          record {
            line = line ∙ ap (λ (a : Feed). line_behind (Ok a) mid.line rest) same ∙ spent.line;
            at = subst (λ (t : Standing). SpentAt t b) (sym goes.1) h;
          },
        )
    go (at.Refused f) h goes = absurd h
    go at.Lacking h goes = absurd h

-- a feed that answers
pub answers_of : (old mid new : Intake) (from : ℕ) (piece : List ℕ) (answer : Feed) → Started old mid from piece
    → GoesOn mid from piece (Ok answer) new → AnswersRightly old piece answer new
answers_of old mid new from piece answer start on = go on.answer on.feeds on.result_is on.line_is
  where
    rest : List ℕ
    rest = drop from piece

    go : (a : Result Feed AllocError) → FeedsOn mid.standing rest a new.standing → ◌≡◌ {A = Result Feed AllocError} (Ok answer) (from_place from a)
        → new.line ≡ line_behind a mid.line rest → AnswersRightly old piece answer new
    go (Err e) goes is line = absurd (let clash : ◌≡◌ {A = Result Feed AllocError} (Ok answer) (Err e) = is in cc)
    go (Ok a) goes is line =
        let went : (b : List ℕ) → Fed old b → Went answer b piece new = λ b fed.
        (let at_mid : Fed mid (b ++ take from piece) =
        fed_mid mid b (take from piece) rest a new.standing start.behind_head goes (start.fed b fed) in
        went_piece from a answer b piece new start.within is
        (went_on mid new a (b ++ take from piece) rest start.behind_head at_mid goes line)) in
        record {
          right = λ b fed. right_of answer b piece new (went b fed);
          holds = λ b fed. (went b fed).0;
          spent = λ b spent. spent_answer a goes is line b spent;
          whole = same_kind from a answer new is (tells_whole mid rest a new start.behind_head goes);
          lacked = λ lacks. lacking_answer a goes (start.lacks lacks);
        }
      where
        spent_answer : (a : Feed) → FeedsOn mid.standing rest (Ok a) new.standing → ◌≡◌ {A = Result Feed AllocError} (Ok answer) (from_place from (Ok a))
            → new.line ≡ line_behind (Ok a) mid.line rest → (b : List ℕ) → Spent old b → (answer ≡ Whole 0) × Spent new b
        spent_answer a goes is line b spent =
            let mid_spent = start.spent b spent in
            let found = spent_on mid new b rest a mid_spent.1 goes line in
            let zero_sum : from + 0 ≡ 0 = omega (arith, mid_spent.0) in
            let here : ◌≡◌ {A = Result Feed AllocError} (Ok answer) (Ok (Whole (from + 0))) =
            is ∙ ap (λ (x : Feed). from_place from (Ok x)) found.0 in
            (ok_same answer (Whole (from + 0)) here ∙ ap Whole zero_sum, found.1)

        lacking_answer : (a : Feed) → FeedsOn mid.standing rest (Ok a) new.standing → Lacks mid → ⊥
        lacking_answer a goes lacks =
            let at_lacking : FeedsOn at.Lacking rest (Ok a) new.standing = subst (λ (s : Standing). FeedsOn s rest (Ok a) new.standing) lacks goes in
            let clash : false ≡ true = at_lacking.0 in
            cc

-- want of memory that is right for a part of the piece is right for the piece
lacks_more : (b w more piece : List ℕ) → w ++ more ≡ piece → LacksRightly b w → LacksRightly b piece
lacks_more b w more piece is h =
    let whole : (b ++ w) ++ more ≡ b ++ piece = append_assoc b w more ∙ ap (λ v. b ++ v) is in
    let inside : h.n ≤ length (b ++ w) = (ends_at (b ++ w) h.n h.end).inside in
    record {
      some = omega (arith, h.some, ap length is, length-append w more);
      wanting = h.wanting;
      n = h.n;
      head = h.head;
      end = subst (λ (v : List ℕ). head_within v ≡ Some h.n) whole (within_append (b ++ w) more h.n h.end);
      few = subst (λ (v : List ℕ). has_too_many_lines (head_text (take h.n v)) ≡ false) whole
          (subst (λ (v : List ℕ). has_too_many_lines (head_text v) ≡ false) (sym (take-append-le h.n (b ++ w) more inside)) h.few);
      is_head = subst (λ (v : List ℕ). IsHead (head_text (take h.n v)) h.head) whole
          (subst (λ (v : List ℕ). IsHead (head_text v) h.head) (sym (take-append-le h.n (b ++ w) more inside)) h.is_head);
      good = h.good;
      needs = needs_more (head_framing h.head) h.n h.needs;
    }
  where
    needs_more : (g : Framing) (n : ℕ) → NeedsMemory g n b w → NeedsMemory g n b piece
    needs_more (framing.Stated m) n needs = needs
    needs_more framing.Chunked n needs =
        let k : ℕ = needs.0 in
        let below : k < length w = needs.1 in
        let order : k ≤ length w = omega (arith, below) in
        let same : take k w ≡ take k piece = sym (take-append-le k w more order) ∙ ap (take k) is in (
          k,
          omega (arith, below, ap length is, length-append w more),
          subst (λ (v : List ℕ). n ≤ length (b ++ v)) same needs.2,
          subst (λ (v : List ℕ). EndsInLine (drop n (b ++ v))) same needs.3,
        )

-- a byte of the rest is a byte of the piece
taken_further : (b piece : List ℕ) (from k : ℕ) → (b ++ take from piece) ++ take k (drop from piece) ≡ b ++ take (from + k) piece
taken_further b piece from k = steps_join b piece from k

-- want of memory among chunks is right
chunks_lack : (body : ChunkedBody) (b piece : List ℕ) (from : ℕ) → Wanting b → IsChunked body (b ++ take from piece)
    → ((t : List ℕ) → HasRead body.chunks t → LacksIn t (drop from piece)) → from ≤ length piece → LacksRightly b piece
chunks_lack body b piece from waits h lacks within =
    let w : List ℕ = b ++ take from piece in
    let rest : List ℕ = drop from piece in
    let all : w ++ rest ≡ b ++ piece = parts_join b piece from in
    let head : EndsHead (b ++ piece) h.start body.request framing.Chunked =
    subst (λ (v : List ℕ). EndsHead v h.start body.request framing.Chunked) all (ends_head_stays w rest h.start _ _ h.head) in
    let found = ends_head_is (b ++ piece) h.start body.request framing.Chunked head in
    let inside : h.start ≤ length w = (ends_at w h.start h.head.end).inside in
    let at = lacks (drop h.start w) h.fed in
    let k : ℕ = at.0 in
    let below : k < length rest = at.1 in
    let joined : drop h.start w ++ take k rest ≡ drop h.start (b ++ take (from + k) piece) =
    sym (drop-append-le h.start w (take k rest) inside) ∙ ap (drop h.start) (taken_further b piece from k) in
    let longer : length w ≤ length (b ++ take (from + k) piece) =
    omega (arith, ap length (taken_further b piece from k), length-append w (take k rest)) in
    let needs : NeedsMemory framing.Chunked h.start b piece = (
      from + k,
      omega (arith, below, within, length-drop from piece),
      omega (arith, inside, longer),
      subst (λ (v : List ℕ). EndsInLine v) joined at.2,
    ) in
    record {
      some = omega (arith, below, length-drop from piece);
      wanting = waits;
      n = h.start;
      head = found.0;
      end = head.end;
      is_head = found.1;
      good = found.2;
      few = few_lines _ _ _ head.head;
      needs = subst (λ (g : Framing). NeedsMemory g h.start b piece) found.3 needs;
    }

-- the bytes that came count
chunks_lacked : (body : ChunkedBody) (mid new : Intake) (b piece : List ℕ) (from : ℕ) → Fed mid (b ++ take from piece)
    → IsChunked body (b ++ take from piece) → new.standing ≡ at.Lacking → new.line ≡ mid.line → Lacked new (b ++ piece)
chunks_lacked body mid new b piece from fed h lacks line = record {
  line = line ∙ fed.line ∙ sym (line_stays (b ++ take from piece) (drop from piece) h.start h.head.end) ∙ ap (behind Skipping) (parts_join b piece from);
  at = lacks;
}

-- so they do where it was refused before
lacked_mid : (mid new : Intake) (b piece : List ℕ) (from : ℕ) → LacksRightly b (take from piece) × Lacked mid (b ++ take from piece)
    → new.standing ≡ at.Lacking → new.line ≡ mid.line → Lacked new (b ++ piece)
lacked_mid mid new b piece from h lacks line = record {
  line = line ∙ h.1.line
      ∙ sym (line_stays (b ++ take from piece) (drop from piece) h.0.n h.0.end) ∙ ap (behind Skipping) (parts_join b piece from);
  at = lacks;
}

-- a feed to which memory is refused
pub refuses_of : (old mid new : Intake) (from : ℕ) (piece : List ℕ) (e : AllocError) → Started old mid from piece
    → GoesOn mid from piece (Err e) new → RefusesMemory old piece new
refuses_of old mid new from piece e start on = go on.answer on.feeds on.result_is on.line_is
  where
    rest : List ℕ
    rest = drop from piece

    refused : (a : AllocError) → FeedsOn mid.standing rest (Err a) new.standing → new.line ≡ mid.line → RefusesMemory old piece new
    refused a goes line = by_standing mid.standing refl goes
      where
        by_standing : (s : Standing) → mid.standing ≡ s → FeedsOn s rest (Err a) new.standing → RefusesMemory old piece new
        by_standing at.Open is goes = absurd (start.behind_head is)
        by_standing (at.Stated body) is goes = absurd (stated_lacks body rest a new.standing goes)
        by_standing (at.Chunked body) is goes =
            let found = chunked_lacks body rest a new.standing goes in
            let at_mid : (b : List ℕ) → Fed old b → Fed mid (b ++ take from piece) = λ b fed.
            subst (λ (s : Standing). FedOrLacks s mid b (take from piece)) is (start.fed b fed) in
            record {
              lacks = found.0;
              came = λ b fed. chunks_lacked body mid new b piece from (at_mid b fed) (held mid (at.Chunked body) _ is (at_mid b fed)) found.0 line;
              stays = λ b h. absurd (let clash : at.Chunked body ≡ at.Lacking = sym is ∙ start.lacks h.at in cc);
              rightly = λ b fed. chunks_lack body b piece from (start.waits b fed body is) (held mid (at.Chunked body) _ is (at_mid b fed)) found.1 start.within;
              unspent = λ b spent. subst (λ (s : Standing). SpentAt s b) is (start.spent b spent).1.at;
            }
        by_standing (at.Whole r) is goes = absurd (let clash : ◌≡◌ {A = Result Feed AllocError} (Err a) (Ok (Whole 0)) = goes.0 in cc)
        by_standing (at.Refused f) is goes = absurd (let clash : ◌≡◌ {A = Result Feed AllocError} (Err a) (Ok (Refused f)) = goes.0 in cc)
        by_standing at.Lacking is goes =
            let at_mid : (b : List ℕ) → Fed old b → LacksRightly b (take from piece) × Lacked mid (b ++ take from piece) = λ b fed.
            subst (λ (s : Standing). FedOrLacks s mid b (take from piece)) is (start.fed b fed) in
            record {
              lacks = goes.1;
              came = λ b fed. lacked_mid mid new b piece from (at_mid b fed) goes.1 line;
              stays = λ b h. record { line = line ∙ start.lacked_line h.at ∙ h.line; at = goes.1 };
              rightly = λ b fed. lacks_more b (take from piece) (drop from piece) piece (take-append-drop from piece) (at_mid b fed).0;
              unspent = λ b spent. subst (λ (s : Standing). SpentAt s b) is (start.spent b spent).1.at;
            }

    go : (a : Result Feed AllocError) → FeedsOn mid.standing rest a new.standing → ◌≡◌ {A = Result Feed AllocError} (Err e) (from_place from a)
        → new.line ≡ line_behind a mid.line rest → RefusesMemory old piece new
    go (Ok More) goes is line = absurd (let clash : ◌≡◌ {A = Result Feed AllocError} (Err e) (Ok More) = is in cc)
    go (Ok (Whole n)) goes is line = absurd (let clash : ◌≡◌ {A = Result Feed AllocError} (Err e) (Ok (Whole (from + n))) = is in cc)
    go (Ok (Refused f)) goes is line = absurd (let clash : ◌≡◌ {A = Result Feed AllocError} (Err e) (Ok (Refused f)) = is in cc)
    go (Err a) goes is line = refused a goes line

-- the head is still coming, and the whole piece was taken
pub answers_more : (old new : Intake) (piece : List ℕ) → old.standing ≡ at.Open → new.standing ≡ at.Open
    → ((b : List ℕ) → Fed old b → Fed new (b ++ piece)) → AnswersRightly old piece More new
answers_more old new piece was is fed = record {
  right = λ b h. fed_waits new (b ++ piece) (fed b h) (waiting_at _ _ is tt);
  holds = fed;
  spent = λ b spent. absurd (subst (λ (s : Standing). SpentAt s b) was spent.at);
  whole = not_whole _ _ is (λ w. w);
  lacked = λ lacks. (let clash : at.Open ≡ at.Lacking = sym was ∙ lacks in cc);
}

-- so many bytes of the rest belong to a request
pub whole_fits : (s t : Standing) (rest : List ℕ) (n : ℕ) → FeedsOn s rest (Ok (Whole n)) t → n ≤ length rest
whole_fits at.Open t rest n goes = absurd (let clash : Whole n ≡ More = ok_same (Whole n) More goes.0 in cc)
whole_fits (at.Stated body) t rest n goes = (stated_whole body rest n t goes).2
whole_fits (at.Chunked body) t rest n goes = (chunked_whole body rest n t goes).2
whole_fits (at.Whole r) t rest n goes =
    let same : Whole n ≡ Whole 0 = ok_same (Whole n) (Whole 0) goes.0 in
    let none : n ≡ 0 = cc in
    omega arith
whole_fits (at.Refused f) t rest n goes = absurd (let clash : Whole n ≡ Refused f = ok_same (Whole n) (Refused f) goes.0 in cc)
whole_fits at.Lacking t rest n goes = absurd (let clash : false ≡ true = goes.0 in cc)

-- a feed, by what its parts did
pub feeds_to : (old mid new : Intake) (from : ℕ) (piece : List ℕ) (result : Result Feed AllocError) → Started old mid from piece
    → GoesOn mid from piece result new → FeedsTo old piece result new
feeds_to old mid new from piece (Ok answer) start on = answers_of old mid new from piece answer start on
feeds_to old mid new from piece (Err e) start on = refuses_of old mid new from piece e start on

-- a request that stands, and a piece
pub stands_on : (i : Intake) (from : ℕ) (piece : List ℕ) (r : Parts) → i.standing ≡ at.Whole r → GoesOn i from piece (Ok (Whole from)) i
stands_on i from piece r is =
    let all : from ≡ from + 0 = omega arith in
    record {
      answer = Ok (Whole 0);
      feeds = subst (λ (s : Standing). FeedsOn s (drop from piece) (Ok (Whole 0)) i.standing) (sym is) (refl, is);
      result_is = ap (λ n. Ok (Whole n)) all;
      line_is = refl;
    }

-- memory is refused rightly
pub refused_rightly : (old new : Intake) (piece b : List ℕ) (result : Result Feed AllocError) → FeedsTo old piece result new → Fed old b
    → IsErr result → LacksRightly b piece
refused_rightly old new piece b (Ok answer) h fed is = absurd (let clash : false ≡ true = is in cc)
refused_rightly old new piece b (Err e) h fed is = h.rightly b fed
