-- A head that is coming, and what it opens.
use Rattle.std.proofs.Common.{◌≡◌, ℕ, ◌≤◌, List, length, None, ◌+◌, ◌-◌, ◌<◌, Bool, true, false, MatchBool, [], ◌++◌, take, drop, Some, option_map, refl, ap, sym, ◌∙◌, subst, arith, length-append, length-take, ◌≢◌, Result, Ok, is_ok, if◌then◌else◌}
use Rattle.std.proofs.lemmas.List.{take-append-drop, take_all, drop_all, append_assoc, take-append-le}
use Rattle.std.specs.declared.alloc.AllocError.{AllocError}
use Rattle.std.proofs.Math.Seq.{take-append-add}
use Rattle.rack_types.specs.declared.fault.Fault.TheVariants.{F}
use Rattle.rack_types.specs.Request.{Parts, framed}
use Rattle.message_framing.specs.declared.scan.Line.{Line}
use Rattle.message_framing.specs.declared.scan.Line.TheVariants.{Skipping, Ended}
use Rattle.message_framing.specs.declared.intake.Intake.{Intake}
use Rattle.message_framing.specs.HeadText.{head_len, head_text}
use Rattle.message_framing.specs.Scan.{behind, ends}
use Rattle.message_framing.specs.Request.{head_limit, head_within, has_too_many_lines, Refusal, IsRequest, Wanting}
use Rattle.message_framing.specs.Intake.{Fed, NeedsMemory}
use Rattle.message_framing.specs.Held.{IsOpen, EndsHead}
use Rattle.message_framing.specs.FeedParts.{FedOrLacks}
use Rattle.message_framing.specs.declared.fields.Framing.{Framing}
use Rattle.message_framing.specs.declared.standing.Standing.{Standing}
use Rattle.message_framing.specs.Head.{is_chunked, request_with}
use Rattle.message_framing.specs.Body.{IsBody}
use Rattle.message_framing.specs.Decoding.{HasRead}
use Rattle.message_framing.specs.Places.{StandsIn, StandsHead, RefusesHead}
use Rattle.message_framing.specs.Standing.{Judges, StandsBehind}
use Rattle.message_framing.specs.declared.head.Head.{Head}
use Rattle.message_framing.proofs.HeadTextLemmas.{scan_head}
use Rattle.message_framing.proofs.ScanLemmas.{ends_append, ends_within, behind_append, behind_ended, ended_behind}
use Rattle.message_framing.proofs.RequestLemmas.{ends_at, ends_so, within_append, whole_end, wanting, too_long, request_of_body, refusal_of_head, ends_head_is}
use Rattle.message_framing.proofs.FedLemmas.{held, holds}
use Rattle.message_framing.specs.declared.fields.Framing.TheVariants as framing
use Rattle.message_framing.specs.declared.standing.Standing.TheVariants as at

-- the bytes so far have no end, and the scan stands behind them
pub record Coming (b : List ℕ) (line : Line) : Type 0 where
  pub within : length b ≤ head_limit
  pub unended : head_len b ≡ None
  pub line_is : line ≡ behind Skipping b

pub coming : (i : Intake) (b : List ℕ) → IsOpen i b → i.line ≡ behind Skipping b → Coming b i.line
coming i b o line = record { within = o.within; unended = o.unended; line_is = line }

-- an intake that is open holds the bytes so far
pub open_of : (i : Intake) (b : List ℕ) → Fed i b → i.standing ≡ at.Open → IsOpen i b × Coming b i.line
open_of i b fed is =
    let o : IsOpen i b = held i at.Open b is fed in
    (o, coming i b o fed.line)

-- the head text ends at byte n of the next bytes
pub record Completes (b piece : List ℕ) (n : ℕ) : Type 0 where
  pub some : 0 < n
  pub inside : n ≤ length piece
  pub size : length (b ++ take n piece) ≡ length b + n
  pub front : take (length b + n) (b ++ piece) ≡ b ++ take n piece
  pub end : head_within (b ++ piece) ≡ Some (length b + n)
  pub whole : head_within (b ++ take n piece) ≡ Some (length b + n)

pub completes : (b piece : List ℕ) (line : Line) (m n : ℕ) → Coming b line → m ≤ head_limit - length b
    → ends line (take m piece) ≡ Some n → Completes b piece n
completes b piece line m n c room found =
    let part : n ≤ length (take m piece) = (ends_within line (take m piece) n found).1 in
    let inside : n ≤ length piece = omega (arith, part, length-take m piece) in
    let short : length (take n piece) ≡ n = length-take n piece ∙ omega (arith, inside) in
    let unended : ends Skipping b ≡ None = scan_head b ∙ c.unended in
    let later : ends Skipping (b ++ take m piece) ≡ Some (length b + n) =
    ends_append Skipping b (take m piece) unended
    ∙ ap (λ l. option_map (λ k. length b + k) (ends l (take m piece))) (sym c.line_is)
    ∙ ap (option_map (λ k. length b + k)) found in
    let near : head_len (b ++ take m piece) ≡ Some (length b + n) = sym (scan_head (b ++ take m piece)) ∙ later in
    let limit : length b + n ≤ head_limit = omega (arith, c.within, room, part, length-take m piece) in
    let all : (b ++ take m piece) ++ drop m piece ≡ b ++ piece =
    append_assoc b (take m piece) (drop m piece) ∙ ap (λ w. b ++ w) (take-append-drop m piece) in
    let end : head_within (b ++ piece) ≡ Some (length b + n) =
    subst (λ (w : List ℕ). head_within w ≡ Some (length b + n)) all
    (within_append (b ++ take m piece) (drop m piece) (length b + n) (ends_so (b ++ take m piece) (length b + n) near limit)) in
    let front : take (length b + n) (b ++ piece) ≡ b ++ take n piece = take-append-add b piece n in
    let size : length (b ++ take n piece) ≡ length b + n = length-append b (take n piece) ∙ ap (λ k. length b + k) short in
    record {
      some = (ends_within line (take m piece) n found).0;
      inside = inside;
      size = size;
      front = front;
      end = end;
      whole = subst (λ (w : List ℕ). head_within w ≡ Some (length b + n)) front (whole_end (b ++ piece) (length b + n) end);
    }

-- a head without a body is its own request
framed_same : (text : List ℕ) (r : Parts) (g : Framing) → StandsHead text r g → framed [] (is_chunked g) r ≡ r
unfolding request_with
framed_same text r g h = go (has_too_many_lines text) h
  where
    go : (many : Bool) → MatchBool many ⊥ (StandsIn text r g) → framed [] (is_chunked g) r ≡ r
    go true x = absurd x
    go false x =
        let same : framed [] (is_chunked g) (request_with x.0 x.4.0 []) ≡ request_with x.0 x.4.0 [] =
        ap (λ (k : Framing). framed [] (is_chunked k) (request_with x.0 x.4.0 [])) x.3 in
        ap (framed [] (is_chunked g)) x.4.2 ∙ same ∙ sym x.4.2

-- the lines of a head that stands are few enough
pub few_lines : (text : List ℕ) (r : Parts) (g : Framing) → StandsHead text r g → has_too_many_lines text ≡ false
few_lines text r g h = go (has_too_many_lines text) refl h
  where
    go : (many : Bool) → has_too_many_lines text ≡ many → MatchBool many ⊥ (StandsIn text r g) → has_too_many_lines text ≡ false
    go true is x = absurd x
    go false is x = is

-- the head text is all that came
pub record HeadAlone (w : List ℕ) (r : Parts) (g : Framing) : Type 0 where
  pub head : EndsHead w (length w) r g
  pub nothing : drop (length w) w ≡ []

head_alone : (w head : List ℕ) (r : Parts) (g : Framing) → head_within w ≡ Some (length w) → head ≡ w → StandsHead (head_text head) r g
    → HeadAlone w r g
head_alone w head r g end is stands =
    let all : length w ≤ length w = omega arith in record {
      head = record {
        end = end;
        head = subst (λ (t : List ℕ). StandsHead (head_text t) r g) (is ∙ sym (take_all (length w) w all)) stands;
      };
      nothing = drop_all (length w) w all;
    }

-- what stands behind a head that was judged
pub judged : (s : Standing) (i : Intake) (b piece head : List ℕ) (n : ℕ) → Completes b piece n → head ≡ b ++ take n piece
    → Wanting b × (head_within b ≡ None) → i.line ≡ behind Skipping (b ++ take n piece) → i.standing ≡ s → Judges head s → FedOrLacks s i b (take n piece)
judged at.Open i b piece head n c is none line stands h = absurd h.2
judged (at.Stated body) i b piece head n c is none line stands h =
    let w : List ℕ = b ++ take n piece in
    let alone : HeadAlone w h.0.request h.0.framing = head_alone w head _ _ (c.whole ∙ ap Some (sym c.size)) is h.1 in
    holds i (at.Stated body) w stands line (record {
      start = length w;
      head = subst (λ (g : Framing). EndsHead w (length w) body.request g) h.2.0
          (subst (λ (r : Parts). EndsHead w (length w) r h.0.framing) (sym h.2.1) alone.head);
      bytes = h.2.2 ∙ sym alone.nothing;
    })
judged (at.Chunked body) i b piece head n c is none line stands h =
    let w : List ℕ = b ++ take n piece in
    let alone : HeadAlone w h.0.request h.0.framing = head_alone w head _ _ (c.whole ∙ ap Some (sym c.size)) is h.1 in
    holds i (at.Chunked body) w stands line (record {
      start = length w;
      head = subst (λ (g : Framing). EndsHead w (length w) body.request g) h.2.0
          (subst (λ (r : Parts). EndsHead w (length w) r h.0.framing) (sym h.2.1) alone.head);
      fed = subst (λ (t : List ℕ). HasRead body.chunks t) (sym alone.nothing) h.2.2;
    })
judged (at.Whole r) i b piece head n c is none line stands h =
    let w : List ℕ = b ++ take n piece in
    let alone : HeadAlone w h.0.request h.0.framing = head_alone w head _ _ (c.whole ∙ ap Some (sym c.size)) is h.1 in
    let body : IsBody h.0.framing (drop (length w) w) [] =
    subst (λ (g : Framing). IsBody g (drop (length w) w) []) (sym h.2.0) (ap length (sym alone.nothing), sym alone.nothing) in
    let whole : IsRequest w (framed [] (is_chunked h.0.framing) h.0.request) = request_of_body w (length w) _ _ [] alone.head body in
    let same : framed [] (is_chunked h.0.framing) h.0.request ≡ r = framed_same _ _ _ h.1 ∙ sym h.2.1 in
    holds i (at.Whole r) w stands line (subst (λ (q : Parts). IsRequest w q) same whole)
judged (at.Refused f) i b piece head n c is none line stands h =
    let w : List ℕ = b ++ take n piece in
    let all : length w ≤ length w = omega arith in
    holds i (at.Refused f) w stands line
    (refusal_of_head w (length w) f (c.whole ∙ ap Some (sym c.size))
    (subst (λ (t : List ℕ). RefusesHead (head_text t) f) (is ∙ sym (take_all (length w) w all)) h))
judged at.Lacking i b piece head n c is none line stands h =
    let w : List ℕ = b ++ take n piece in
    let alone : HeadAlone w h.0.request h.0.framing = head_alone w head _ _ (c.whole ∙ ap Some (sym c.size)) is h.1 in
    let found = ends_head_is w (length w) _ _ alone.head in (
      record {
        some = omega (arith, c.some, c.inside, length-take n piece);
        wanting = none.0;
        n = length w;
        head = found.0;
        end = alone.head.end;
        is_head = found.1;
        good = found.2;
        few = few_lines _ _ _ alone.head.head;
        needs = subst (λ (g : Framing). NeedsMemory g (length w) b (take n piece)) (sym h.2.1 ∙ found.3) (h.2.2, none.1);
      },
      record { line = line; at = stands },
    )

-- the piece went in whole, and the head text has not ended
pub goes_on : (b piece : List ℕ) (line : Line) → Coming b line → length b + length piece ≤ head_limit → ends line piece ≡ None
    → Wanting (b ++ piece) × Coming (b ++ piece) (behind line piece)
goes_on b piece line c fits none =
    let unended : ends Skipping b ≡ None = scan_head b ∙ c.unended in
    let later : head_len (b ++ piece) ≡ None =
    sym (scan_head (b ++ piece)) ∙ ends_append Skipping b piece unended
    ∙ ap (λ l. option_map (λ k. length b + k) (ends l piece)) (sym c.line_is)
    ∙ ap (option_map (λ k. length b + k)) none in
    let size : length (b ++ piece) ≤ head_limit = omega (arith, fits, length-append b piece) in (
      wanting (b ++ piece) later size,
      record {
        within = size;
        unended = later;
        line_is = ap (λ l. behind l piece) c.line_is ∙ sym (behind_append Skipping b piece);
      },
    )

-- the limit is passed without an end
pub passes : (b piece : List ℕ) (line : Line) (m : ℕ) → Coming b line → m ≡ head_limit - length b → m < length piece
    → ends line (take m piece) ≡ None → Refusal (b ++ piece) (F 1)
passes b piece line m c room long none =
    let size : length (take m piece) ≡ m = length-take m piece ∙ omega (arith, long) in
    let sum : length b + length (take m piece) ≤ head_limit = omega (arith, size, room, c.within) in
    let near = goes_on b (take m piece) line c sum none in
    let full : length (b ++ take m piece) ≡ head_limit = length-append b (take m piece) ∙ omega (arith, size, room, c.within) in
    let all : (b ++ take m piece) ++ drop m piece ≡ b ++ piece =
    append_assoc b (take m piece) (drop m piece) ∙ ap (λ w. b ++ w) (take-append-drop m piece) in
    let reach : head_limit ≤ length (b ++ take m piece) = omega (arith, full) in
    let shut : length (b ++ take m piece) ≤ head_limit = omega (arith, full) in
    let front : take head_limit (b ++ piece) ≡ b ++ take m piece =
    ap (take head_limit) (sym all) ∙ take-append-le head_limit (b ++ take m piece) (drop m piece) reach
    ∙ take_all head_limit (b ++ take m piece) shut in
    let over : head_limit < length (b ++ piece) = omega (arith, room, long, c.within, length-append b piece) in
    too_long (b ++ piece) (ap head_len front ∙ near.1.unended) over

-- behind a whole head the scan has ended
pub ended_line : (b : List ℕ) (n : ℕ) → head_within b ≡ Some n → behind Skipping b ≡ Ended
ended_line b n is = ended_behind Skipping b n (scan_head b ∙ (ends_at b n is).len)

-- the bytes behind a head that is whole do not move the scan
pub line_stays : (b c : List ℕ) (n : ℕ) → head_within b ≡ Some n → behind Skipping (b ++ c) ≡ behind Skipping b
line_stays b c n is =
    let ended : behind Skipping b ≡ Ended = ended_line b n is in
    behind_append Skipping b c ∙ ap (λ l. behind l c) ended ∙ behind_ended c ∙ sym ended

-- what a head that earns no refusal opens was judged
pub judges_head : (s : Standing) (head : Head) (bytes : List ℕ) → StandsHead (head_text bytes) head.request head.framing → StandsBehind head s → Judges bytes s
judges_head at.Open head bytes stands opens = (head, stands, opens)
judges_head (at.Stated body) head bytes stands opens = (head, stands, opens)
judges_head (at.Chunked body) head bytes stands opens = (head, stands, opens)
judges_head (at.Whole r) head bytes stands opens = (head, stands, opens)
judges_head (at.Refused f) head bytes stands opens = absurd opens
judges_head at.Lacking head bytes stands opens = (head, stands, opens)

-- what was judged is not open
pub judged_closed : (s : Standing) (bytes : List ℕ) → Judges bytes s → s ≢ at.Open
judged_closed at.Open bytes h is = h.2
judged_closed (at.Stated body) bytes h is = cc
judged_closed (at.Chunked body) bytes h is = cc
judged_closed (at.Whole r) bytes h is = cc
judged_closed (at.Refused f) bytes h is = cc
judged_closed at.Lacking bytes h is = cc

-- a piece was appended
pub appended : (r : Result (Unit {0}) AllocError) (u : Unit {0}) (new old more : List ℕ) → new ≡ (if is_ok r then old ++ more else old) → r ≡ Ok u
    → new ≡ old ++ more
appended r u new old more is ok = is ∙ ap (λ (x : Result (Unit {0}) AllocError). if is_ok x then old ++ more else old) ok

-- the limit is kept, and the head has not ended
pub unended_within : (b : List ℕ) (line : Line) → Coming b line → Wanting b × (head_within b ≡ None)
unended_within b line c = (wanting b c.unended c.within, ap head_len (take_all head_limit b c.within) ∙ c.unended)
