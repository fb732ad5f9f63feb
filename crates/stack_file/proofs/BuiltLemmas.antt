-- Which plans have an application: with a default each has one, and without a default one that answers itself, or
-- whose last lines are maps of blocks that have one.
use Rattle.std.proofs.Common.{◌≡◌, ℕ, Bool, true, false, List, [], ◌∷◌, Option, None, Some, refl, sym, ap, ◌∙◌}
use Rattle.std.specs.Prelude.{◌&&◌, ◌||◌, is_some, option_map, option_and_then}
use Rattle.builder_core.specs.Tree.{Tree, Calls, Wraps, ByPlace, Tries, Row, NoPlace, Place}
use Rattle.builder_core.specs.Plan.{Plan, Item, Done, Then, Uses, Holds, EndsAny}
use Rattle.builder_core.specs.Plan as plans
use Rattle.builder_core.specs.Build.{Block, Part, At, last_end, places, around, behind, plan_parts, build_plan}
use Rattle.stock_apps.specs.declared.app.App.{App}
use Rattle.stock_middleware.specs.declared.ware.Ware.{Ware}
use Rattle.stack_file.specs.Kept.{is_yes, and_row}

-- a `run` or a `cascade`
abbrev pub item_answers : Item App → Bool
item_answers (Uses w) = false
item_answers (plans.Ends a) = true
item_answers (Holds place block) = false
item_answers (EndsAny apps) = true

abbrev pub plan_answers : Plan App → Bool
plan_answers Done = false
plan_answers (Then i p) = item_answers i || plan_answers p

-- the notes on a row of maps
abbrev mutual
  pub plan_row : Plan App → Option Bool → Option Bool
  plan_row Done = λ o. o
  plan_row (Then i p) = λ o. plan_row p (item_row i o)

  pub item_row : Item App → Option Bool → Option Bool
  item_row (Uses w) = λ o. None
  item_row (plans.Ends a) = λ o. o
  item_row (Holds place block) = λ o. Some (and_row o (plan_answers block || is_yes (plan_row block None)))
  item_row (EndsAny apps) = λ o. o

abbrev pub plan_suffices : Plan App → Bool
plan_suffices p = plan_answers p || is_yes (plan_row p None)

-- what answers a block
pub lasting : (p : Plan App) (t : Tree App) → (u : Tree App) × (last_end (Some t) (plan_parts App p) ≡ Some u)
lasting Done t = (t, refl)
lasting (Then (Uses w) p) t = lasting p t
lasting (Then (plans.Ends a) p) t = lasting p (Calls a)
lasting (Then (Holds place block) p) t = lasting p t
lasting (Then (EndsAny apps) p) t = lasting p (Tries apps)

pub ending : (p : Plan App) → plan_answers p ≡ true → (u : Tree App) × (last_end None (plan_parts App p) ≡ Some u)
ending Done held = cc
ending (Then (Uses w) p) held = ending p held
ending (Then (plans.Ends a) p) held = lasting p (Calls a)
ending (Then (Holds place block) p) held = ending p held
ending (Then (EndsAny apps) p) held = lasting p (Tries apps)

pub unending : (p : Plan App) → plan_answers p ≡ false → last_end None (plan_parts App p) ≡ None
unending Done fails = refl
unending (Then (Uses w) p) fails = unending p fails
unending (Then (plans.Ends a) p) fails = cc
unending (Then (Holds place block) p) fails = unending p fails
unending (Then (EndsAny apps) p) fails = cc

-- with something that answers, all is built
pub record Strong (p : Plan App) : Type 0 where
  pub around_some : (t : Tree App) → (u : Tree App) × (around App (Some t) (plan_parts App p) ≡ Some u)
  pub behind_some : (t : Tree App) → (u : Tree App) × (behind App (Some t) (plan_parts App p) ≡ Some (Some u))
  pub places_some : (t : Tree App) → (row : Row App) × (places (Some t) (plan_parts App p) ≡ Some row)

pub built_some : (p : Plan App) → Strong p → (t : Tree App) → (u : Tree App) × (build_plan App p (Some t) ≡ Some u)
built_some p s t =
    let l = lasting p t in
    let a = s.around_some l.0 in
    (a.0, ap (λ r. around App r (plan_parts App p)) l.1 ∙ a.1)

joined_row : (place : List ℕ) (block : Block App) (ps : List (Part App)) (d : Option (Tree App)) (u : Tree App) (row : Row App)
    → block d ≡ Some u → places d ps ≡ Some row → places d (At place block ∷ ps) ≡ Some (Place place u row)
joined_row place block ps d u row e f = rw e (rw f refl)

joined : (place : List ℕ) (block : Block App) (ps : List (Part App)) (r d : Option (Tree App)) (u : Tree App) (row : Row App)
    → behind App r ps ≡ Some d → block d ≡ Some u → places d ps ≡ Some row → around App r (At place block ∷ ps) ≡ Some (ByPlace (Place place u row))
joined place block ps r d u row g e f = rw g (rw e (rw f refl))

mutual
  pub strong : (p : Plan App) → Strong p
  strong Done = record { around_some = λ t. (t, refl); behind_some = λ t. (t, refl); places_some = λ t. (Place [] t NoPlace, refl) }
  strong (Then i p) = item_strong i p (strong p)

  item_strong : (i : Item App) (p : Plan App) → Strong p → Strong (Then i p)
  item_strong (Uses w) p s = record {
    around_some = λ t. (Wraps w (s.around_some t).0, ap (λ o. option_map (λ u. Wraps w u) o) (s.around_some t).1);
    behind_some = λ t. (Wraps w (s.around_some t).0, ap (λ o. option_map (λ u. Some (Wraps w u)) o) (s.around_some t).1);
    places_some = λ t. (Place [] t NoPlace, refl);
  }
  item_strong (plans.Ends a) p s = record { around_some = s.around_some; behind_some = s.behind_some; places_some = s.places_some }
  item_strong (EndsAny apps) p s = record { around_some = s.around_some; behind_some = s.behind_some; places_some = s.places_some }
  item_strong (Holds place block) p s =
      let inside = built_some block (strong block) in
      record {
        around_some = λ t.
            let d = s.behind_some t in
            let u = inside d.0 in
            let row = s.places_some d.0 in
            (ByPlace (Place place u.0 row.0), joined place (build_plan App block) (plan_parts App p) (Some t) (Some d.0) u.0 row.0 d.1 u.1 row.1);
        behind_some = s.behind_some;
        places_some = λ t. (Place place (inside t).0 (s.places_some t).0, joined_row place (build_plan App block) (plan_parts App p) (Some t) (inside t).0 (s.places_some t).0 (inside t).1 (s.places_some t).1);
      }

-- what a row of maps comes to, where b is whether the blocks so far suffice and `rest` whether those behind do
abbrev pub counts : Bool → Option (Option (Tree App)) → Bool → Bool
counts b None rest = false
counts b (Some None) rest = b && rest
counts b (Some (Some t)) rest = true

-- without anything that answers
pub record Weak (p : Plan App) : Type 0 where
  pub alone : is_some (around App None (plan_parts App p)) ≡ is_yes (plan_row p None)
  pub after : (b : Bool) → is_yes (plan_row p (Some b)) ≡ counts b (behind App None (plan_parts App p)) (is_some (places None (plan_parts App p)))

and_yes : (b : Bool) → b ≡ b && true
and_yes true = refl
and_yes false = refl

and_more : (a b c : Bool) → (a && b) && c ≡ a && (b && c)
and_more true b c = refl
and_more false b c = refl

some_mapped : {A B : Type 0} (f : A → B) (o : Option A) → is_some (option_map f o) ≡ is_some o
some_mapped f None = refl
some_mapped f (Some a) = refl

some_both : {A B C : Type 0} (f : A → B → C) (o : Option A) (q : Option B) → is_some (option_and_then (λ a. option_map (λ b. f a b) q) o) ≡ is_some o && is_some q
some_both f None q = refl
some_both f (Some a) q = some_mapped (f a) q

wrapped : (w : Ware) (b y rest : Bool) (o : Option (Tree App)) → is_some o ≡ y → y ≡ counts b (option_map (λ t. Some (Wraps w t)) o) rest
wrapped w b y rest None e = sym e
wrapped w b y rest (Some t) e = sym e

answered_or : (held row : Bool) → held ≡ true → held || row ≡ true
answered_or held row e = rw e refl

-- a block without a default has an application just where it suffices
pub suffices_is : (p : Plan App) → Strong p → Weak p → is_some (build_plan App p None) ≡ plan_suffices p
suffices_is p s w = by_answers (plan_answers p) refl
  where
    by_answers : (held : Bool) → plan_answers p ≡ held → is_some (build_plan App p None) ≡ plan_suffices p
    by_answers true is =
        let l = ending p is in
        let a = s.around_some l.0 in
        ap (λ r. is_some (around App r (plan_parts App p))) l.1 ∙ ap (λ o. is_some o) a.1 ∙ sym (answered_or (plan_answers p) (is_yes (plan_row p None)) is)
    by_answers false is =
        ap (λ r. is_some (around App r (plan_parts App p))) (unending p is) ∙ w.alone ∙ ap (λ held. held || is_yes (plan_row p None)) (sym is)

-- a row of maps by what stands behind it
row_alone : (place : List ℕ) (block : Block App) (ps : List (Part App)) (enough : Bool)
    → is_some (block None) ≡ enough
    → ((t : Tree App) → (u : Tree App) × (block (Some t) ≡ Some u))
    → ((t : Tree App) → (row : Row App) × (places (Some t) ps ≡ Some row))
    → (o : Option (Option (Tree App)))
    → is_some (option_and_then (λ d. option_and_then (λ t. option_map (λ row. ByPlace (Place place t row)) (places d ps)) (block d)) o) ≡ counts enough o (is_some (places None ps))
row_alone place block ps enough e f g None = refl
row_alone place block ps enough e f g (Some None) =
    some_both (λ t row. ByPlace (Place place t row)) (block None) (places None ps) ∙ ap (λ b. b && is_some (places None ps)) e
row_alone place block ps enough e f g (Some (Some t)) =
    some_both (λ u row. ByPlace (Place place u row)) (block (Some t)) (places (Some t) ps)
    ∙ ap (λ o. is_some o && is_some (places (Some t) ps)) (f t).1 ∙ ap (λ o. is_some o) (g t).1

row_after : (place : List ℕ) (block : Block App) (ps : List (Part App)) (enough b : Bool)
    → is_some (block None) ≡ enough
    → (o : Option (Option (Tree App)))
    → counts (b && enough) o (is_some (places None ps)) ≡ counts b o (is_some (places None (At place block ∷ ps)))
row_after place block ps enough b e None = refl
row_after place block ps enough b e (Some None) =
    and_more b enough (is_some (places None ps))
    ∙ ap (λ x. b && (x && is_some (places None ps))) (sym e)
    ∙ ap (λ x. b && x) (sym (some_both (λ t row. Place place t row) (block None) (places None ps)))
row_after place block ps enough b e (Some (Some t)) = refl

mutual
  pub weak : (p : Plan App) → Weak p
  weak Done = record { alone = refl; after = λ b. and_yes b }
  weak (Then i p) = item_weak i p (weak p)

  item_weak : (i : Item App) (p : Plan App) → Weak p → Weak (Then i p)
  item_weak (Uses w) p s = record {
    alone = some_mapped (λ t. Wraps w t) (around App None (plan_parts App p)) ∙ s.alone;
    after = λ b. wrapped w b (is_yes (plan_row p None)) true (around App None (plan_parts App p)) s.alone;
  }
  item_weak (plans.Ends a) p s = record { alone = s.alone; after = s.after }
  item_weak (EndsAny apps) p s = record { alone = s.alone; after = s.after }
  item_weak (Holds place block) p s =
      let enough : is_some (build_plan App block None) ≡ plan_suffices block = suffices_is block (strong block) (weak block) in
      let o : Option (Option (Tree App)) = behind App None (plan_parts App p) in
      record {
        alone = row_alone place (build_plan App block) (plan_parts App p) (plan_suffices block) enough (built_some block (strong block)) ((strong p).places_some) (behind App None (plan_parts App p)) ∙ sym (s.after (plan_suffices block));
        after = λ b. s.after (b && plan_suffices block) ∙ row_after place (build_plan App block) (plan_parts App p) (plan_suffices block) b enough (behind App None (plan_parts App p));
      }
