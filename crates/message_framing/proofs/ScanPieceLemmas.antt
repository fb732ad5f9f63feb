-- The scan of a piece, byte by byte and from line feed to line feed.
use Rattle.std.proofs.Common.{◌≡◌, ◌≢◌, ℕ, zero, suc, ◌+◌, ◌-◌, ◌<◌, ◌≤◌, false, ◌==◌, List, [], ◌∷◌, length, drop, get_or, None, Some, option_map, refl, ap, ◌∙◌, arith, inl, inr, drop-cons, add-one, Bool, true, sym, subst}
use Rattle.std.proofs.lemmas.List.{drop_all, drop-drop, length-drop}
use Rattle.memchr.specs.Find.{Nowhere, Passes, is_byte}
use Rattle.message_framing.specs.Scan.{next, behind, ends}
use Rattle.message_framing.specs.declared.scan.Line.{Line}
use Rattle.message_framing.specs.declared.scan.Line.TheVariants.{Text, Ended}
use Rattle.message_framing.proofs.HeadTextLemmas.{add_more, add_twice, one_more_suc, bool_cases, add_zero, add_suc}

-- the first k bytes have no line feed
abbrev pub NoFeedBelow : ℕ → List ℕ → Type 0
NoFeedBelow k w = (j : ℕ) → j < k → (get_or w j 0 == 10) ≡ false

no_feed_next : (x : ℕ) → (x == 10) ≡ false → next Text x ≡ Text
no_feed_next x no_feed = elim (bool_cases (x == 13)) [
  | inl here ↦ rw (no_feed, here) refl
  | inr other ↦ rw (no_feed, other) refl
]

-- inside a line the scan may go on to the next line feed
pub over_text : (k : ℕ) (w : List ℕ) → k ≤ length w → NoFeedBelow k w
    → (ends Text w ≡ option_map (λ n. k + n) (ends Text (drop k w))) × (behind Text w ≡ behind Text (drop k w))
unfolding ends behind
over_text zero w fits none = (add_zero (ends Text w), refl)
over_text (suc k) [] fits none = absurd (omega arith)
over_text (suc k) (x ∷ w) fits none =
    let later : NoFeedBelow k w = λ j below. none (suc j) (omega arith) in
    let within : k ≤ length w = omega arith in
    let rest = over_text k w within later in
    let here : next Text x ≡ Text = no_feed_next x (none 0 (omega arith)) in (
      rw here (ap (option_map suc) rest.0 ∙ add_suc k _),
      rw here rest.1,
    )

-- the scan of a piece has come to its place i
pub record IsScanned (first line : Line) (piece : List ℕ) (i : ℕ) : Type 0 where
  pub within : i ≤ length piece
  pub end : ends first piece ≡ option_map (λ n. i + n) (ends line (drop i piece))
  pub state : behind first piece ≡ behind line (drop i piece)

-- it begins at the front
pub scan_begins : (line : Line) (piece : List ℕ) → IsScanned line line piece 0
scan_begins line piece = record { within = omega arith; end = add_zero _; state = refl }

-- at the end of the piece
pub scan_is_over : (first line : Line) (piece : List ℕ) (i : ℕ) → IsScanned first line piece i → length piece ≤ i
    → (ends first piece ≡ None) × (behind first piece ≡ line)
unfolding ends behind
scan_is_over first line piece i h past =
    let empty : drop i piece ≡ [] = drop_all i piece past in
    (h.end ∙ rw empty refl, h.state ∙ rw empty refl)

-- one byte further
pub scan_step : (first line : Line) (piece : List ℕ) (i : ℕ) → IsScanned first line piece i → i < length piece
    → (next line (get_or piece i 0) ≡ Ended → ends first piece ≡ Some (i + 1))
    × (next line (get_or piece i 0) ≢ Ended → IsScanned first (next line (get_or piece i 0)) piece (i + 1))
unfolding ends behind
scan_step first line piece i h below =
    let split : drop i piece ≡ get_or piece i 0 ∷ drop (i + 1) piece = rw add-one (drop-cons piece i 0 below) in
    let after = next line (get_or piece i 0) in (
      λ ended. h.end ∙ rw split (rw ended refl),
      λ goes. record {
        within = omega arith;
        end = h.end ∙ rw split (ap (option_map (λ n. i + n)) (one_more_suc after _ goes) ∙ add_more i _);
        state = h.state ∙ rw split refl;
      },
    )

-- over the bytes of a line up to its line feed
pub scan_over : (first : Line) (piece : List ℕ) (i k : ℕ) → IsScanned first Text piece i → k ≤ length (drop i piece)
    → NoFeedBelow k (drop i piece) → IsScanned first Text piece (i + k)
scan_over first piece i k h fits none =
    let over = over_text k (drop i piece) fits none in
    let same : drop k (drop i piece) ≡ drop (i + k) piece = drop-drop k i piece in record {
      within = omega (arith, length-drop i piece, h.within);
      end = h.end ∙ ap (option_map (λ n. i + n)) over.0 ∙ add_twice i k _ ∙ ap (λ w. option_map (λ n. i + k + n) (ends Text w)) same;
      state = h.state ∙ over.1 ∙ ap (behind Text) same;
    }

-- a test that is not true
pub not_true : (b : Bool) → ¬ (b ≡ true) → b ≡ false
not_true true never = absurd (never refl)
not_true false never = refl

-- where memchr found no line feed below k
pub none_below : (w : List ℕ) (k : ℕ) → Nowhere (Passes (is_byte 10) w) 0 k → NoFeedBelow k w
none_below w k none = λ j below. not_true _ (none j (omega arith) below)

-- inside a line, over what memchr passed
pub scan_to_feed : (first : Line) (piece w : List ℕ) (i k : ℕ) → IsScanned first Text piece i → w ≡ drop i piece
    → k < length w → Nowhere (Passes (is_byte 10) w) 0 k → IsScanned first Text piece (i + k)
scan_to_feed first piece w i k h is below none =
    let fits : k ≤ length (drop i piece) = rw (← is) (omega arith) in
    let clear : NoFeedBelow k (drop i piece) = rw (← is) (none_below w k none) in
    scan_over first piece i k h fits clear

-- inside a line whose line feed has not come
pub scan_without_feed : (first : Line) (piece w : List ℕ) (i : ℕ) → IsScanned first Text piece i → w ≡ drop i piece
    → Nowhere (Passes (is_byte 10) w) 0 (length w) → (ends first piece ≡ None) × (behind first piece ≡ Text)
scan_without_feed first piece w i h is none =
    let fits : length w ≤ length (drop i piece) = rw is (omega arith) in
    let clear : NoFeedBelow (length w) (drop i piece) = rw (← is) (none_below w (length w) none) in
    let past : length piece ≤ i + length w = omega (arith, ap length is, length-drop i piece) in
    scan_is_over first Text piece (i + length w) (scan_over first piece i (length w) h fits clear) past

-- the scan is at a place from which one byte can be read
pub record IsReady (first line : Line) (piece : List ℕ) (i : ℕ) : Type 0 where
  pub scanned : IsScanned first line piece i
  pub below : i < length piece

pub ready_at_feed : (first line : Line) (piece w : List ℕ) (i k at : ℕ) → IsScanned first line piece i → line ≡ Text → w ≡ drop i piece
    → k < length w → Nowhere (Passes (is_byte 10) w) 0 k → at ≡ i + k → IsReady first line piece at
ready_at_feed first line piece w i k at h text is below none here =
    let there : IsScanned first Text piece (i + k) =
    scan_to_feed first piece w i k (subst (λ (l : Line). IsScanned first l piece i) text h) is below none in
    let size : length w ≡ length piece - i = ap length is ∙ length-drop i piece in
    record {
      scanned = rw here (subst (λ (l : Line). IsScanned first l piece (i + k)) (sym text) there);
      below = omega (arith, size, here);
    }

pub ready_here : (first line : Line) (piece : List ℕ) (i at : ℕ) → IsScanned first line piece i → i < length piece → at ≡ i
    → IsReady first line piece at
ready_here first line piece i at h below here = record { scanned = rw here h; below = omega (arith, here) }

pub ready_step : (first line after : Line) (piece : List ℕ) (i : ℕ) → IsReady first line piece i → after ≡ next line (get_or piece i 0)
    → (after ≡ Ended → Some (i + 1) ≡ ends first piece) × (after ≢ Ended → IsScanned first after piece (i + 1))
ready_step first line after piece i h is =
    let step = scan_step first line piece i h.scanned h.below in (
      λ ended. sym (step.0 (sym is ∙ ended)),
      λ goes. rw is (step.1 (λ e. goes (is ∙ e))),
    )
