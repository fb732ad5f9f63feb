-- Each kind of step keeps the rule of a lane.
use Rattle.std.proofs.Common.{◌≡◌, ◌≢◌, ℕ, zero, suc, ◌+◌, ◌-◌, ◌≤◌, true, true≢false, List, [], ◌∷◌, ◌++◌, map, set, sym, refl, ap, ◌∙◌, subst, ⊎_elim, arith}
use Rattle.std.specs.Prelude.{sum_by, All}
use Rattle.std.proofs.lemmas.List.Sums.{sum_by-cons, sum_by-append, sum_by_push}
use Rattle.std.proofs.lemmas.List.Elements.{All-nil, All-tail, All-push}
use mathlib.Core.Option.{some, some-injective, some-ne-none}
use lib.ListN.{get_elem?}
use Rattle.std.specs.declared.snapshot.Snapshot.{Snapshot}
use Rattle.crossbeam_queue.specs.Fifo.{Pushes, Pops, Forks, Merges, Learns as Teaches}
use Rattle.atomic_table.proofs.Lists.{at_snoc, set_else}
use Rattle.pool_core.specs.declared.view.Cargo.{Cargo}
use Rattle.pool_core.specs.declared.view.Cargo.TheVariants.{Start, Item}
use Rattle.pool_core.specs.declared.view.Stage.{Stage}
use Rattle.pool_core.specs.declared.view.Stage.TheVariants.{Fresh, Loaded, Open}
use Rattle.pool_core.specs.declared.view.PassView.{PassView}
use Rattle.pool_core.specs.Repeats.{SameElements}
use Rattle.pool_core.specs.Pass.{IsOpen, FitsStage, with_put, with_taken, split_off, with_one_more_out, joined, IsLeft}
use Rattle.pool_core.specs.Rule.{fresh_pass, at_stage, spent, FitsView, Holds, entries, Kept, Knows, Puts, Takes, Learns, PutsData, TakesData, Agrees}
use Rattle.pool_core.proofs.ViewLemmas.{sum_by-set_at, le-sum_by, get_elem-set, each-set, others_have_none, sum_by-alone}

module _ {T D : Type 0} (entry : T → ℕ × ℕ) (fits : D → T → Type 0) where
  sum_by-entries_push : (h : ℕ × ℕ → ℕ) (cargo : List (Cargo T D)) (x : T)
      → sum_by h (entries entry fits (cargo ++ Item x ∷ [])) ≡ sum_by h (entries entry fits cargo) + h (entry x)
  sum_by-entries_push h [] x = sum_by-cons h (entry x) [] ∙ omega arith
  sum_by-entries_push h (Start s ∷ cs) x = sum_by-entries_push h cs x
  sum_by-entries_push h (Item y ∷ cs) x =
      omega (arith, sum_by-cons h (entry y) (entries entry fits (cs ++ Item x ∷ [])), sum_by-cons h (entry y) (entries entry fits cs), sum_by-entries_push h cs x)

  entries-items : (items : List T) → entries entry fits (map Item items) ≡ map entry items
  entries-items [] = refl
  entries-items (x ∷ xs) = ap (λ l. entry x ∷ l) (entries-items xs)

  map-push : (items : List T) (x : T) → map {A = T} {B = Cargo T D} (λ y. Item y) items ++ Item x ∷ [] ≡ map {A = T} {B = Cargo T D} (λ y. Item y) (items ++ x ∷ [])
  map-push [] x = refl
  map-push (y ∷ ys) x = ap (λ l. Item y ∷ l) (map-push ys x)

  open_from : (stage : Stage D) (x : T) → FitsStage fits stage x → IsOpen stage
  open_from Fresh x f = f
  open_from (Loaded d) x f = f
  open_from (Open d) x f = tt

  -- what an open queue holds are items that fit
  holds_items : (stage : Stage D) (out : ℕ) (cargo : List (Cargo T D)) → IsOpen stage → Holds fits stage out cargo
      → (items : List T) × (cargo ≡ map Item items) × All (FitsStage fits stage) items
  holds_items Fresh out cargo o h = absurd o
  holds_items (Loaded d) out cargo o h = absurd o
  holds_items (Open d) out cargo o h = h

  holds_from : (stage : Stage D) (out : ℕ) (items : List T) → IsOpen stage → All (FitsStage fits stage) items
      → Holds fits stage out (map Item items)
  holds_from Fresh out items o a = absurd o
  holds_from (Loaded d) out items o a = absurd o
  holds_from (Open d) out items o a = (items, refl, a)

  holds_put : (stage : Stage D) (out : ℕ) (cargo : List (Cargo T D)) (x : T) → FitsStage fits stage x → Holds fits stage out cargo
      → Holds fits stage out (cargo ++ Item x ∷ [])
  holds_put stage out cargo x f h =
      let o = open_from stage x f in
      let k = holds_items stage out cargo o h in
      let is : cargo ++ Item x ∷ [] ≡ map Item (k.0 ++ x ∷ []) = ap (λ c. c ++ Item x ∷ []) k.1 ∙ map-push k.0 x in
      subst (Holds fits stage out) (sym is) (holds_from stage out (k.0 ++ x ∷ []) o (All-push (FitsStage fits stage) k.0 x k.2 f))

  -- the oldest item, and the others
  first_of : (c : Cargo T D) (cargo : List (Cargo T D)) (items : List T) → c ∷ cargo ≡ map Item items
      → (x : T) × (rest : List T) × (items ≡ x ∷ rest) × (c ≡ Item x) × (cargo ≡ map Item rest)
  first_of c cargo [] e = absurd (cc)
  first_of c cargo (x ∷ rest) e = (x, rest, refl, cc, cc)

  holds_less : (stage : Stage D) (out n : ℕ) (cargo : List (Cargo T D)) → n ≤ out → Holds fits stage out cargo → Holds fits stage n cargo
  holds_less Fresh out n cargo le h = let z = h.1 in (h.0, omega arith)
  holds_less (Loaded d) out n cargo le h = let z = h.3 in (h.0, h.1, h.2, omega arith)
  holds_less (Open d) out n cargo le h = h

  holds_more : (stage : Stage D) (out n : ℕ) (cargo : List (Cargo T D)) → IsOpen stage → Holds fits stage out cargo → Holds fits stage n cargo
  holds_more Fresh out n cargo o h = absurd o
  holds_more (Loaded d) out n cargo o h = absurd o
  holds_more (Open d) out n cargo o h = h

  -- what a step of this pass knows of the items that the queue holds
  knows : (id : ℕ) (v : PassView D) (items : List T) (views : List (PassView D)) → v.live ≡ 1
      → All (FitsStage fits v.stage) items → Kept entry fits (map Item items) views → get_elem? views id ≡ some v
      → Knows entry fits v items
  knows id v items views alive all k at =
      record {
        fit = all;
        whole = λ whole.
            record {
              fit = all;
              balance = λ weight.
                  let own = (k.each id v at).first whole.0 in
                  let count = k.count in
                  let one : sum_by (λ (u : PassView D). u.live) views ≡ v.live = omega (arith, own.1, whole.1) in
                  let put = sum_by-alone (λ (u : PassView D). u.live) (λ u. sum_by weight u.put) views id v at one (λ j u e z. ap (sum_by weight) ((k.each j u e).spent z).0) in
                  let taken = sum_by-alone (λ (u : PassView D). u.live) (λ u. sum_by weight u.taken) views id v at one (λ j u e z. ap (sum_by weight) ((k.each j u e).spent z).1) in
                  let sums = k.balance weight in
                  let held : sum_by weight (entries entry fits (map Item items)) ≡ sum_by weight (map entry items) = ap (sum_by weight) (entries-items items) in
                  omega (arith, sum_by-append weight v.taken (map entry items));
            };
      }

  pub begins : Kept entry fits [] (fresh_pass ∷ [])
  begins =
      record { stage = Fresh; home = 0; out = 0; count = refl; balance = λ h. refl; each = each; holds = (refl, refl) } where
        each : (id : ℕ) (v : PassView D) → get_elem? (fresh_pass ∷ []) id ≡ some v → FitsView Fresh 0 0 id v
        each zero v e =
            subst (FitsView Fresh 0 0 0) (some-injective fresh_pass v e)
            (record { once = omega arith; same = λ _. (refl, refl); spent = λ _. (refl, refl); first = λ _. (refl, refl, refl) })
        each (suc id) v e = absurd (some-ne-none v (sym e))

  pub puts : (n id : ℕ) (v : PassView D) (x : T) → v.live ≡ 1 → FitsStage fits v.stage x
      → Pushes (Kept entry fits) n id v (Item x) (Puts entry fits v (Item x))
  puts n id v x alive fit cargo views room k at =
      let w = with_put (entry x) v in
      let mine = k.each id v at in
      let same : v.stage ≡ k.stage = (mine.same alive).0 in
      let count = k.count in
      let s = sum_by-set_at (λ (u : PassView D). u.live) views id v w at in (
        w,
        record {
          stage = k.stage;
          home = k.home;
          out = k.out;
          count = omega arith;
          balance = λ h.
              let a = sum_by-set_at (λ (u : PassView D). sum_by h u.put) views id v w at in
              let b = sum_by-set_at (λ (u : PassView D). sum_by h u.taken) views id v w at in
              let p = k.balance h in
              omega (arith, sum_by_push h v.put (entry x), sum_by-entries_push h cargo x);
          each = each-set (FitsView k.stage k.home k.out) views id w
              (record { once = mine.once; same = mine.same; spent = λ z. absurd (omega arith); first = mine.first })
              (λ j u apart e. k.each j u e);
          holds = holds_put k.stage k.out cargo x (subst (λ s. FitsStage fits s x) same fit) k.holds;
        },
        (x, refl, refl),
      )

  pub takes : (id : ℕ) (v : PassView D) → v.live ≡ 1 → IsOpen v.stage → Pops (Kept entry fits) id v (Takes entry fits v)
  takes id v alive o c cargo views k at =
      let mine = k.each id v at in
      let same : v.stage ≡ k.stage = (mine.same alive).0 in
      let o' : IsOpen k.stage = subst IsOpen same o in
      let held = holds_items k.stage k.out (c ∷ cargo) o' k.holds in
      let front = first_of c cargo held.0 held.1 in
      let x : T = front.0 in
      let rest : List T = front.1 in
      let all : All (FitsStage fits k.stage) (x ∷ rest) = subst (All (FitsStage fits k.stage)) front.2 held.2 in
      let is : c ∷ cargo ≡ map Item (x ∷ rest) = held.1 ∙ ap (map Item) front.2 in
      let w = with_taken (entry x) v in
      let count = k.count in
      let s = sum_by-set_at (λ (u : PassView D). u.live) views id v w at in (
        w,
        record {
          stage = k.stage;
          home = k.home;
          out = k.out;
          count = omega arith;
          balance = λ h.
              let a = sum_by-set_at (λ (u : PassView D). sum_by h u.put) views id v w at in
              let b = sum_by-set_at (λ (u : PassView D). sum_by h u.taken) views id v w at in
              let p = k.balance h in
              let q : sum_by h (entries entry fits (c ∷ cargo)) ≡ sum_by h (entry x ∷ entries entry fits cargo) =
              ap (λ y. sum_by h (entries entry fits (y ∷ cargo))) front.3 in
              omega (arith, sum_by_push h v.taken (entry x), sum_by-cons h (entry x) (entries entry fits cargo));
          each = each-set (FitsView k.stage k.home k.out) views id w
              (record { once = mine.once; same = mine.same; spent = λ z. absurd (omega arith); first = mine.first })
              (λ j u apart e. k.each j u e);
          holds = subst (Holds fits k.stage k.out) (sym front.4) (holds_from k.stage k.out rest o' (All-tail (FitsStage fits k.stage) x rest all));
        },
        (
          x,
          front.3,
          refl,
          record {
            rest = rest;
            knows = knows id v (x ∷ rest) views alive (subst (λ s. All (FitsStage fits s) (x ∷ rest)) (sym same) all)
                (subst (λ l. Kept entry fits l views) is k) at;
          },
        ),
      )

  pub learns : (id : ℕ) (v : PassView D) → v.live ≡ 1 → IsOpen v.stage → Teaches (Kept entry fits) id v (Learns entry fits v)
  learns id v alive o cargo views k at =
      let same : v.stage ≡ k.stage = ((k.each id v at).same alive).0 in
      let held = holds_items k.stage k.out cargo (subst IsOpen same o) k.holds in (
        held.0,
        held.1,
        knows id v held.0 views alive (subst (λ s. All (FitsStage fits s) held.0) (sym same) held.2)
            (subst (λ l. Kept entry fits l views) held.1 k) at,
      )

  -- where the one pass that is not spent is this one, no other shows a stage
  alone : (stage other : Stage D) (home out id : ℕ) (v : PassView D) (views : List (PassView D)) → get_elem? views id ≡ some v
      → sum_by (λ (u : PassView D). u.live) views ≡ v.live
      → (j : ℕ) (u : PassView D) → j ≢ id → get_elem? views j ≡ some u → FitsView stage home out j u → FitsView other home out j u
  alone stage other home out id v views at one j u apart e k =
      let z : u.live ≡ 0 = others_have_none (λ (h : PassView D). h.live) views id j v u at e apart one in
      record { once = k.once; same = λ l. absurd (omega arith); spent = k.spent; first = k.first }

  holds_none : (stage : Stage D) (out : ℕ) (cargo : List (Cargo T D)) → stage ≡ Fresh → Holds fits stage out cargo → (cargo ≡ []) × (out ≡ 0)
  holds_none stage out cargo e h = subst (λ (x : Stage D). Holds fits x out cargo) e h

  holds_data : (stage : Stage D) (d : D) (out : ℕ) (cargo : List (Cargo T D)) → stage ≡ Loaded d → Holds fits stage out cargo
      → (s : Snapshot D) × (cargo ≡ Start s ∷ []) × (s.value ≡ d) × (out ≡ 0)
  holds_data stage d out cargo e h = subst (λ (x : Stage D). Holds fits x out cargo) e h

  -- the one pass that is not spent goes on to another stage, and the queue to other cargo with the same items
  staged : (id : ℕ) (v : PassView D) (cargo rest : List (Cargo T D)) (views : List (PassView D)) (stage : Stage D)
      → v.live ≡ 1 → (k : Kept entry fits cargo views) → get_elem? views id ≡ some v → k.out ≡ 0
      → entries entry fits cargo ≡ entries entry fits rest → Holds fits stage k.out rest
      → Kept entry fits rest (set views id (at_stage stage v))
  staged id v cargo rest views stage alive k at none same held =
      let w = at_stage stage v in
      let mine = k.each id v at in
      let count = k.count in
      let one : sum_by (λ (u : PassView D). u.live) views ≡ v.live = omega arith in
      let c = sum_by-set_at (λ (u : PassView D). u.live) views id v w at in
      record {
        stage = stage;
        home = k.home;
        out = k.out;
        count = omega arith;
        balance = λ h.
            let a = sum_by-set_at (λ (u : PassView D). sum_by h u.put) views id v w at in
            let b = sum_by-set_at (λ (u : PassView D). sum_by h u.taken) views id v w at in
            let p = k.balance h in
            let q : sum_by h (entries entry fits cargo) ≡ sum_by h (entries entry fits rest) = ap (sum_by h) same in
            omega arith;
        each = each-set (FitsView stage k.home k.out) views id w
            (record { once = mine.once; same = λ _. (refl, refl); spent = mine.spent; first = mine.first })
            (λ j u apart e. alone k.stage stage k.home k.out id v views at one j u apart e (k.each j u e));
        holds = held;
      }

  pub loads : (n id : ℕ) (v : PassView D) (s : Snapshot D) → v.live ≡ 1 → v.stage ≡ Fresh
      → Pushes (Kept entry fits) n id v (Start s) (PutsData entry fits v (Start s))
  loads n id v s alive fresh cargo views room k at =
      let was = holds_none k.stage k.out cargo (sym ((k.each id v at).same alive).0 ∙ fresh) k.holds in
      let same : entries entry fits cargo ≡ entries entry fits (cargo ++ Start s ∷ []) =
      ap (entries entry fits) was.0 ∙ sym (ap (λ l. entries entry fits (l ++ Start s ∷ [])) was.0) in (
        at_stage (Loaded s.value) v,
        staged id v cargo (cargo ++ Start s ∷ []) views (Loaded s.value) alive k at was.1 same
            (s, ap (λ l. l ++ Start s ∷ []) was.0, refl, was.1),
        (s, refl, refl),
      )

  head_is : (c : Cargo T D) (cargo : List (Cargo T D)) (s : Snapshot D) → (c ∷ cargo) ≡ Start s ∷ [] → (c ≡ Start s) × (cargo ≡ [])
  head_is c cargo s e = (cc, cc)

  pub opens : (id : ℕ) (v : PassView D) (d : D) → v.live ≡ 1 → v.stage ≡ Loaded d → Pops (Kept entry fits) id v (TakesData entry fits v)
  opens id v d alive loaded c cargo views k at =
      let was = holds_data k.stage d k.out (c ∷ cargo) (sym ((k.each id v at).same alive).0 ∙ loaded) k.holds in
      let s : Snapshot D = was.0 in
      let front = head_is c cargo s was.1 in (
        at_stage (Open s.value) v,
        staged id v (c ∷ cargo) cargo views (Open s.value) alive k at was.3 (ap (λ y. entries entry fits (y ∷ cargo)) front.0)
            ([], front.1, All-nil (fits s.value)),
        (s, front.0, loaded ∙ ap Loaded (sym was.2), refl),
      )

  pub forks : (id : ℕ) (v : PassView D) → v.live ≡ 1 → v.first ≡ true → IsOpen v.stage
      → Forks (Kept entry fits) id v (with_one_more_out v) (split_off v)
  forks id v alive first o cargo views k at =
      let w = with_one_more_out v in
      let r = split_off v in
      let mine = k.each id v at in
      let same : v.stage ≡ k.stage = (mine.same alive).0 in
      let own = mine.first first in
      let F : ℕ → PassView D → Type 0 = FitsView k.stage k.home (suc k.out) in
      let old : (j : ℕ) (u : PassView D) → get_elem? (set views id w) j ≡ some u → F j u =
      each-set F views id w
      (record { once = mine.once; same = mine.same; spent = mine.spent; first = λ _. (own.0, omega (arith, own.1), own.2) })
      (λ j u apart e.
      let q = k.each j u e in
      record { once = q.once; same = q.same; spent = q.spent; first = λ f. absurd (apart ((q.first f).0 ∙ sym own.0)) }) in
      let count = k.count in
      let t = sum_by-set_at (λ (u : PassView D). u.live) views id v w at in
      record {
        stage = k.stage;
        home = k.home;
        out = suc k.out;
        count = omega (arith, sum_by_push (λ (u : PassView D). u.live) (set views id w) r);
        balance = λ h.
            let a = sum_by-set_at (λ (u : PassView D). sum_by h u.put) views id v w at in
            let b = sum_by-set_at (λ (u : PassView D). sum_by h u.taken) views id v w at in
            let p = k.balance h in
            omega (arith, sum_by_push (λ (u : PassView D). sum_by h u.put) (set views id w) r, sum_by_push (λ (u : PassView D). sum_by h u.taken) (set views id w) r);
        each = λ j u e. ⊎_elim (λ x. old j u x)
            (λ (is : r ≡ u). subst (F j) is
            (record { once = omega arith; same = λ _. (same, same); spent = λ z. absurd (omega arith); first = λ f. absurd (true≢false (sym f)) }))
            (at_snoc (set views id w) r u j e);
        holds = holds_more k.stage k.out (suc k.out) cargo (subst IsOpen same o) k.holds;
      }

  pub merges : (id : ℕ) (v : PassView D) (other : ℕ) (u : PassView D) → v.live ≡ 1 → v.first ≡ true → u.live ≡ 1
      → Merges (Kept entry fits) id v other u (joined v u) spent
  merges id v other u alive first lives cargo views k at apart at' =
      let both = joined v u in
      let gone : PassView D = spent in
      let mine = k.each id v at in
      let own = mine.first first in
      let mid : List (PassView D) = set views id both in
      let last : List (PassView D) = set mid other gone in
      let was : get_elem? views other ≡ some u = sym (set_else views id other both apart) ∙ at' in
      let theirs = k.each other u was in
      let stays : get_elem? last id ≡ some both = set_else mid other id gone (λ e. apart (sym e)) ∙ get_elem-set views id v both at in
      let a = sum_by-set_at (λ (x : PassView D). x.live) views id v both at in
      let b = sum_by-set_at (λ (x : PassView D). x.live) mid other u gone at' in
      let c = le-sum_by (λ (x : PassView D). x.live) last id both stays in
      let count = k.count in
      let G : ℕ → PassView D → Type 0 = FitsView k.stage k.home (k.out - 1) in
      let F : ℕ → PassView D → Type 0 = λ j x. j ≢ other → G j x in
      let old : (j : ℕ) (x : PassView D) → get_elem? mid j ≡ some x → F j x =
      each-set F views id both
      (λ _. record { once = mine.once; same = λ l. ((mine.same l).0, (theirs.same lives).0); spent = λ z. absurd (omega arith); first = λ _. (own.0, ap (λ n. n - 1) own.1, own.2) })
      (λ j x other' e _.
      let q = k.each j x e in
      record { once = q.once; same = q.same; spent = q.spent; first = λ f. absurd (other' ((q.first f).0 ∙ sym own.0)) }) in
      record {
        stage = k.stage;
        home = k.home;
        out = k.out - 1;
        count = omega arith;
        balance = λ h.
            let a₁ = sum_by-set_at (λ (x : PassView D). sum_by h x.put) views id v both at in
            let b₁ = sum_by-set_at (λ (x : PassView D). sum_by h x.put) mid other u gone at' in
            let a₂ = sum_by-set_at (λ (x : PassView D). sum_by h x.taken) views id v both at in
            let b₂ = sum_by-set_at (λ (x : PassView D). sum_by h x.taken) mid other u gone at' in
            let q = k.balance h in
            omega (arith, sum_by-append h v.put u.put, sum_by-append h v.taken u.taken);
        each = each-set G mid other gone
            (record { once = omega arith; same = λ z. absurd (omega arith); spent = λ _. (refl, refl); first = λ f. absurd (true≢false (sym f)) })
            (λ j x no e. old j x e no);
        holds = holds_less k.stage k.out (k.out - 1) cargo (omega arith) k.holds;
      }

  pub agrees : (id : ℕ) (v : PassView D) → v.live ≡ 1 → Teaches (Kept entry fits) id v (Agrees v)
  agrees id v alive cargo views k at = let mine = (k.each id v at).same alive in mine.1 ∙ sym mine.0

  -- where an item was put and not yet taken, put and taken differ
  pub left_differs : (v : PassView D) (x : T) → IsLeft entry fits v x → ¬ SameElements v.put v.taken
  left_differs v x l same =
      let one : ℕ × ℕ → ℕ = λ _. 1 in
      let a = l.left.balance one in
      let b = same one in
      omega (arith, sum_by-append one v.taken (map entry (x ∷ l.rest)), sum_by-cons one (entry x) (map entry l.rest))
