-- Each kind of step keeps the rule of a flag.
use Rattle.std.proofs.Common.{◌≡◌, ◌≢◌, ℕ, zero, suc, ◌-◌, ◌≤◌, max, true, true≢false, List, [], ◌∷◌, set, slice_index, slice_set, sym, refl, ap, ◌∙◌, subst, ⊎_elim, arith}
use Rattle.std.specs.Prelude.{sum_by}
use Rattle.std.proofs.lemmas.List.Sums.{sum_by_push}
use mathlib.Core.Option.{some, none, some-injective, some-ne-none}
use lib.ListN.{get_elem?}
use Rattle.atomic_table.specs.Table.{State, Me, keeps, step, Allows, Splits, Joins}
use Rattle.atomic_table.proofs.Lists.{at_snoc, set_else}
use Rattle.slot_flag.specs.declared.view.SeatView.{SeatView}
use Rattle.slot_flag.specs.Seat.{IsWhole, first_seat, split_off, with_one_more_out, joined, spent}
use Rattle.slot_flag.specs.Rule.{Fits, Kept, Tells, stepped, Raises, Looks, Learns}
use Rattle.slot_flag.proofs.ViewLemmas.{sum_by-set_at, le-sum_by, get_elem-set, each-set, le-highest, highest-le, highest-set, highest-append, highest-without, highest-alone}

pub begins : Kept (0 ∷ []) (first_seat ∷ [])
begins =
    record { word = 0; first = 0; out = 0; is_word = refl; greatest = refl; count = refl; each = each } where
      each : (id : ℕ) (v : SeatView) → get_elem? (first_seat ∷ []) id ≡ some v → Fits 0 0 0 id v
      each zero v e =
          subst (Fits 0 0 0 0) (some-injective first_seat v e)
          (record { once = omega arith; spent = λ _. refl; seen = omega arith; level = omega arith; first = λ _. (refl, refl, refl) })
      each (suc id) v e = absurd (some-ne-none v (sym e))

-- what any step of this seat is told
tells : (words : List ℕ) (views : List SeatView) (id : ℕ) (v : SeatView) → v.live ≡ 1 → Kept words views
    → get_elem? views id ≡ some v → Tells v (slice_index words 0)
tells words views id v alive k at =
    let found = slice_index words 0 in
    let is : found ≡ k.word = ap (λ l. slice_index l 0) k.is_word in
    let mine = k.each id v at in
    let seen = mine.seen in
    let great = k.greatest in
    let whole : IsWhole v → found ≡ v.raised = λ w.
    let own = mine.first w.0 in
    let count = k.count in
    let one : sum_by (λ (u : SeatView). u.live) views ≡ v.live = omega (arith, own.1, w.1) in
    is ∙ (sym great ∙ highest-alone (λ (u : SeatView). u.live) views id v at one (λ j u e z. (k.each j u e).spent z)) in
    record {
      seen = omega arith;
      raised = omega (arith, le-highest views id v at);
      level = omega (arith, highest-le 2 views (λ j u e. (k.each j u e).level));
      whole = whole;
    }

-- a step that raises this level, or 0, and sees the new word
moves : (words : List ℕ) (views : List SeatView) (id level looks : ℕ) (v : SeatView) → v.live ≡ 1 → level ≤ 2 → Kept words views
    → get_elem? views id ≡ some v
    → let to = max (slice_index words 0) level in Kept (slice_set words 0 to) (set views id (stepped to level looks v))
moves words views id level looks v alive small k at =
    let to = max (slice_index words 0) level in
    let is : slice_index words 0 ≡ k.word = ap (λ l. slice_index l 0) k.is_word in
    let w = stepped to level looks v in
    let mine = k.each id v at in
    let s = sum_by-set_at (λ (u : SeatView). u.live) views id v w at in
    let count = k.count in
    record {
      word = to;
      first = k.first;
      out = k.out;
      is_word = ap (λ l. slice_set l 0 to) k.is_word;
      greatest = highest-set views id level v w at refl ∙ ap (λ m. max m level) (k.greatest ∙ sym is);
      count = omega arith;
      each = each-set (Fits to k.first k.out) views id w
          (record { once = mine.once; spent = λ z. absurd (omega arith); seen = omega arith; level = omega (arith, mine.level); first = mine.first })
          (λ j u apart e.
          let q = k.each j u e in
          record { once = q.once; spent = q.spent; seen = omega (arith, q.seen); level = q.level; first = q.first });
    }

module _ {S : Type 0} where
  pub raises : (slots id level : ℕ) (me : Me S SeatView) → me.0.live ≡ 1 → level ≤ 2
      → Allows (λ (s : State S SeatView). Kept s.words s.views) slots id me 0 (λ n. max n level) (Raises (step slots 0 level 0 none) me)
  raises slots id level me alive small s k len at below = (
    stepped (max (slice_index s.words 0) level) level 0 me.0,
    keeps,
    tt,
    moves s.words s.views id level 0 me.0 alive small k at,
    (refl, refl, tells s.words s.views id me.0 alive k at),
  )

  -- a step that changes nothing, and that looks or not
  reads : (id looks : ℕ) (me : Me S SeatView) → me.0.live ≡ 1 → (s : State S SeatView) → Kept s.words s.views
      → get_elem? s.views id ≡ some me.0
      → Kept (slice_set s.words 0 (slice_index s.words 0)) (set s.views id (stepped (slice_index s.words 0) 0 looks me.0))
  reads id looks me alive s k at =
      let n = slice_index s.words 0 in
      let same : max n 0 ≡ n = omega arith in
      subst (λ m. Kept (slice_set s.words 0 m) (set s.views id (stepped m 0 looks me.0))) same
      (moves s.words s.views id 0 looks me.0 alive (omega arith) k at)

  pub looks : (slots id : ℕ) (me : Me S SeatView) → me.0.live ≡ 1
      → Allows (λ (s : State S SeatView). Kept s.words s.views) slots id me 0 (λ n. n) (Looks (step slots 0 0 0 none) me)
  looks slots id me alive s k len at below = (
    stepped (slice_index s.words 0) 0 1 me.0,
    keeps,
    tt,
    reads id 1 me alive s k at,
    (refl, refl, tells s.words s.views id me.0 alive k at),
  )

  pub learns : (slots id : ℕ) (me : Me S SeatView) → me.0.live ≡ 1
      → Allows (λ (s : State S SeatView). Kept s.words s.views) slots id me 0 (λ n. n) (Learns (step slots 0 0 0 none) me)
  learns slots id me alive s k len at below = (
    stepped (slice_index s.words 0) 0 0 me.0,
    keeps,
    tt,
    reads id 0 me alive s k at,
    (refl, refl, tells s.words s.views id me.0 alive k at),
  )

  pub splits : (id : ℕ) (v : SeatView) → v.live ≡ 1 → v.first ≡ true
      → Splits (λ (s : State S SeatView). Kept s.words s.views) id v (with_one_more_out v) (split_off v.seen)
  splits id v alive first s k at =
      let w = with_one_more_out v in
      let r = split_off v.seen in
      let mine = k.each id v at in
      let own = mine.first first in
      let F : ℕ → SeatView → Type 0 = Fits k.word k.first (suc k.out) in
      let old : (j : ℕ) (u : SeatView) → get_elem? (set s.views id w) j ≡ some u → F j u =
      each-set F s.views id w
      (record { once = mine.once; spent = mine.spent; seen = mine.seen; level = mine.level; first = λ _. (own.0, omega (arith, own.1), own.2) })
      (λ j u apart e.
      let q = k.each j u e in
      record { once = q.once; spent = q.spent; seen = q.seen; level = q.level; first = λ f. absurd (apart ((q.first f).0 ∙ sym own.0)) }) in
      let a = highest-set s.views id 0 v w at (omega arith) in
      let t = sum_by-set_at (λ (u : SeatView). u.live) s.views id v w at in
      let great = k.greatest in
      let count = k.count in
      record {
        word = k.word;
        first = k.first;
        out = suc k.out;
        is_word = k.is_word;
        greatest = highest-append (set s.views id w) r ∙ omega arith;
        count = omega (arith, sum_by_push (λ (u : SeatView). u.live) (set s.views id w) r);
        each = λ j u e. ⊎_elim (λ x. old j u x)
            (λ (is : r ≡ u). subst (F j) is
            (record { once = omega arith; spent = λ z. refl; seen = mine.seen; level = omega arith; first = λ f. absurd (true≢false (sym f)) }))
            (at_snoc (set s.views id w) r u j e);
      }

  pub joins : (id : ℕ) (v : SeatView) (other : ℕ) (u : SeatView) → v.live ≡ 1 → v.first ≡ true → u.live ≡ 1
      → Joins (λ (s : State S SeatView). Kept s.words s.views) id v other u (joined v u) spent
  joins id v other u alive first lives s k at apart at' =
      let both = joined v u in
      let mine = k.each id v at in
      let own = mine.first first in
      let mid : List SeatView = set s.views id both in
      let last : List SeatView = set mid other spent in
      let here = get_elem-set s.views id v both at in
      let stays : get_elem? last id ≡ some both = set_else mid other id spent (λ e. apart (sym e)) ∙ here in
      let was : get_elem? s.views other ≡ some u = sym (set_else s.views id other both apart) ∙ at' in
      let theirs = k.each other u was in
      let a = sum_by-set_at (λ (x : SeatView). x.live) s.views id v both at in
      let b = sum_by-set_at (λ (x : SeatView). x.live) mid other u spent at' in
      let c = le-sum_by (λ (x : SeatView). x.live) last id both stays in
      let count = k.count in
      let seen : max v.seen u.seen ≤ k.word = omega (arith, mine.seen, theirs.seen) in
      let level : max v.raised u.raised ≤ 2 = omega (arith, mine.level, theirs.level) in
      let G : ℕ → SeatView → Type 0 = Fits k.word k.first (k.out - 1) in
      let F : ℕ → SeatView → Type 0 = λ j x. j ≢ other → G j x in
      let old : (j : ℕ) (x : SeatView) → get_elem? mid j ≡ some x → F j x =
      each-set F s.views id both
      (λ _. record { once = mine.once; spent = λ z. absurd (omega arith); seen = seen; level = level; first = λ _. (own.0, ap (λ n. n - 1) own.1, own.2) })
      (λ j x other' e _.
      let q = k.each j x e in
      record { once = q.once; spent = q.spent; seen = q.seen; level = q.level; first = λ f. absurd (other' ((q.first f).0 ∙ sym own.0)) }) in
      let great = k.greatest in
      let raise = highest-set s.views id u.raised v both at refl in
      let under = le-highest s.views other u was in
      record {
        word = k.word;
        first = k.first;
        out = k.out - 1;
        is_word = k.is_word;
        greatest = highest-without mid id other both u spent here at' apart (omega arith) refl ∙ (raise ∙ omega arith);
        count = omega arith;
        each = each-set G mid other spent
            (record { once = omega arith; spent = λ _. refl; seen = omega arith; level = omega arith; first = λ f. absurd (true≢false (sym f)) })
            (λ j x no e. old j x e no);
      }
