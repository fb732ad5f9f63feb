-- The first `end` at which a block has no application.
use Rattle.std.proofs.Common.{◌≡◌, ℕ, Bool, true, false, List, [], ◌∷◌, ◌++◌, length, Option, None, Some, refl, sym, ap, ◌∙◌, subst, arith}
use Rattle.std.specs.Prelude.{◌&&◌, ◌||◌, is_some, unwrap_or, if◌then◌else◌, ⊤}
use Rattle.builder_core.specs.Tree.{Tree}
use Rattle.builder_core.specs.Plan.{Plan, Item, Done, Then, Uses, Holds, EndsAny}
use Rattle.builder_core.specs.Plan as plans
use Rattle.builder_core.specs.Build.{last_end, behind, places, plan_parts, build_plan}
use Rattle.stock_apps.specs.declared.app.App.{App}
use Rattle.stack_file.specs.Kept.{is_yes, and_row, earlier}
use Rattle.stack_file.specs.Unbuilt.{or_none, default_before, ends_built, item_ends_built, first_unbuilt}
use Rattle.stack_file.proofs.BuiltLemmas.{plan_answers, plan_row, item_row, plan_suffices, lasting, ending, unending, built_some, strong, weak, counts, suffices_is}

-- each answer is yes
abbrev pub AllYes : List Bool → Type 0
AllYes [] = ⊤
AllYes (b ∷ bs) = (b ≡ true) × AllYes bs

yes_append : (xs ys : List Bool) → AllYes xs → AllYes ys → AllYes (xs ++ ys)
yes_append [] ys h k = k
yes_append (x ∷ xs) ys h k = (h.0, yes_append xs ys h.1 k)

pub none_unbuilt : (bs : List Bool) (ends : List ℕ) → AllYes bs → first_unbuilt bs ends ≡ None
none_unbuilt [] ends h = refl
none_unbuilt (b ∷ bs) [] h = refl
none_unbuilt (true ∷ bs) (n ∷ ends) h = none_unbuilt bs ends h.1
none_unbuilt (false ∷ bs) (n ∷ ends) h = cc (h.0)

pub unbuilt_append : (xs ys : List Bool) (ls ms : List ℕ) → length xs ≡ length ls → first_unbuilt (xs ++ ys) (ls ++ ms) ≡ earlier (first_unbuilt xs ls) (first_unbuilt ys ms)
unbuilt_append [] ys [] ms e = refl
unbuilt_append [] ys (l ∷ ls) ms e = absurd (omega (arith, e))
unbuilt_append (x ∷ xs) ys [] ms e = absurd (omega (arith, e))
unbuilt_append (true ∷ xs) ys (l ∷ ls) ms e = unbuilt_append xs ys ls ms (omega (arith, e))
unbuilt_append (false ∷ xs) ys (l ∷ ls) ms e = refl

-- with a default each block is built
mutual
  pub built_within : (p : Plan App) (t : Tree App) → AllYes (ends_built p (Some t))
  built_within Done t = tt
  built_within (Then i p) t =
      let b = (strong p).behind_some t in
      let e : default_before (Some t) p ≡ Some b.0 = ap (λ o. or_none o) b.1 in
      yes_append (item_ends_built i (default_before (Some t) p)) (ends_built p (Some t))
      (subst (λ (d : Option (Tree App)). AllYes (item_ends_built i d)) (sym e) (item_built_within i b.0)) (built_within p t)

  item_built_within : (i : Item App) (t : Tree App) → AllYes (item_ends_built i (Some t))
  item_built_within (Uses w) t = tt
  item_built_within (plans.Ends a) t = tt
  item_built_within (EndsAny apps) t = (refl, tt)
  item_built_within (Holds place block) t =
      let l = lasting block t in
      let u = built_some block (strong block) t in
      yes_append (ends_built block (last_end (Some t) (plan_parts App block))) (is_some (build_plan App block (Some t)) ∷ [])
      (subst (λ (r : Option (Tree App)). AllYes (ends_built block r)) (sym l.1) (built_within block l.0)) (ap (λ o. is_some o) u.1, tt)

-- the answers where no default stands before any line
abbrev pub alone_ends : Plan App → List Bool
alone_ends Done = []
alone_ends (Then i p) = item_ends_built i None ++ alone_ends p

no_default : (p : Plan App) (b : Bool) → is_yes (plan_row p (Some b)) ≡ false → default_before None p ≡ None
no_default p b fails = by_behind (behind App None (plan_parts App p)) (sym ((weak p).after b) ∙ fails)
  where
    by_behind : (o : Option (Option (Tree App))) → counts b o (is_some (places None (plan_parts App p))) ≡ false → or_none o ≡ None
    by_behind None e = refl
    by_behind (Some None) e = refl
    by_behind (Some (Some t)) e = cc e

-- where a block doesn't suffice, no map in it has a default
pub unbuilt_alone : (p : Plan App) (o : Option Bool) → is_yes (plan_row p o) ≡ false → ends_built p None ≡ alone_ends p
unbuilt_alone Done o fails = refl
unbuilt_alone (Then (Uses w) p) o fails = unbuilt_alone p None fails
unbuilt_alone (Then (plans.Ends a) p) o fails = unbuilt_alone p o fails
unbuilt_alone (Then (EndsAny apps) p) o fails = ap (λ bs. true ∷ bs) (unbuilt_alone p o fails)
unbuilt_alone (Then (Holds place block) p) o fails =
    ap (λ d. item_ends_built (Holds place block) d ++ ends_built p None) (no_default p (and_row o (plan_suffices block)) fails)
    ∙ ap (λ bs. item_ends_built (Holds place block) None ++ bs) (unbuilt_alone p (Some (and_row o (plan_suffices block))) fails)

and_left : (a b : Bool) → a && b ≡ true → a ≡ true
and_left true b e = refl
and_left false b e = e

row_last : (o : Option Bool) (b : Bool) → and_row o b ≡ true → b ≡ true
row_last None b e = e
row_last (Some true) b e = e
row_last (Some false) b e = cc e

or_left : (a b : Bool) → a || b ≡ false → a ≡ false
or_left false b e = refl
or_left true b e = e

or_right : (a b : Bool) → a || b ≡ false → b ≡ false
or_right false b e = e
or_right true b e = cc e

alone_built : (block : Plan App) (place : List ℕ) → ((q : Option Bool) → is_yes (plan_row block q) ≡ true → AllYes (ends_built block None))
    → plan_suffices block ≡ true → AllYes (item_ends_built (Holds place block) None)
alone_built block place inside enough =
    yes_append (ends_built block (last_end None (plan_parts App block))) (is_some (build_plan App block None) ∷ [])
    (by_answers (plan_answers block) refl enough) (suffices_is block (strong block) (weak block) ∙ enough, tt)
  where
    by_answers : (held : Bool) → plan_answers block ≡ held → plan_answers block || is_yes (plan_row block None) ≡ true → AllYes (ends_built block (last_end None (plan_parts App block)))
    by_answers true is e =
        let l = ending block is in
        subst (λ (r : Option (Tree App)). AllYes (ends_built block r)) (sym l.1) (built_within block l.0)
    by_answers false is e =
        subst (λ (r : Option (Tree App)). AllYes (ends_built block r)) (sym (unending block is)) (inside None (ap (λ x. x || is_yes (plan_row block None)) (sym is) ∙ e))

row_built : (place : List ℕ) (block p : Plan App) (b : Bool) → (b ≡ true → plan_suffices block ≡ true) → ((q : Option Bool) → is_yes (plan_row block q) ≡ true → AllYes (ends_built block None))
    → (o : Option (Option (Tree App))) → counts b o (is_some (places None (plan_parts App p))) ≡ true → AllYes (item_ends_built (Holds place block) (or_none o))
row_built place block p b enough inside None e = cc e
row_built place block p b enough inside (Some None) e = alone_built block place inside (enough (and_left b (is_some (places None (plan_parts App p))) e))
row_built place block p b enough inside (Some (Some t)) e = item_built_within (Holds place block) t

-- where a row of maps suffices, each block in it has an application
mutual
  pub all_alone : (p : Plan App) (o : Option Bool) → is_yes (plan_row p o) ≡ true → AllYes (ends_built p None)
  all_alone Done o held = tt
  all_alone (Then i p) o held = item_all_alone i p o held (all_alone p)

  item_all_alone : (i : Item App) (p : Plan App) (o : Option Bool) → is_yes (plan_row p (item_row i o)) ≡ true → ((q : Option Bool) → is_yes (plan_row p q) ≡ true → AllYes (ends_built p None)) → AllYes (ends_built (Then i p) None)
  item_all_alone (Uses w) p o held more = more None held
  item_all_alone (plans.Ends a) p o held more = more o held
  item_all_alone (EndsAny apps) p o held more = (refl, more o held)
  item_all_alone (Holds place block) p o held more =
      yes_append (item_ends_built (Holds place block) (default_before None p)) (ends_built p None)
      (row_built place block p (and_row o (plan_suffices block)) (row_last o (plan_suffices block)) (all_alone block) (behind App None (plan_parts App p)) (sym ((weak p).after (and_row o (plan_suffices block))) ∙ held))
      (more (Some (and_row o (plan_suffices block))) held)

-- of a block that ends at a line: the first `end` at which a block has no application, its own counted
pub block_lacks : (place : List ℕ) (block : Plan App) (within : List ℕ) (n : ℕ) → length (alone_ends block) ≡ length within
    → first_unbuilt (item_ends_built (Holds place block) None) (within ++ n ∷ [])
    ≡ (if plan_suffices block then None else Some (unwrap_or (first_unbuilt (alone_ends block) within) n))
block_lacks place block within n e = by_suffices (plan_suffices block) refl
  where
    by_first : (o : Option ℕ) → earlier o (Some n) ≡ Some (unwrap_or o n)
    by_first None = refl
    by_first (Some m) = refl

    by_suffices : (enough : Bool) → plan_suffices block ≡ enough
        → first_unbuilt (item_ends_built (Holds place block) None) (within ++ n ∷ []) ≡ (if enough then None else Some (unwrap_or (first_unbuilt (alone_ends block) within) n))
    by_suffices true is = none_unbuilt (item_ends_built (Holds place block) None) (within ++ n ∷ []) (alone_built block place (all_alone block) is)
    by_suffices false is =
        let answers : plan_answers block ≡ false = or_left (plan_answers block) (is_yes (plan_row block None)) is in
        let row : is_yes (plan_row block None) ≡ false = or_right (plan_answers block) (is_yes (plan_row block None)) is in
        ap (λ r. first_unbuilt (ends_built block r ++ is_some (build_plan App block None) ∷ []) (within ++ n ∷ [])) (unending block answers)
        ∙ ap (λ bs. first_unbuilt (bs ++ is_some (build_plan App block None) ∷ []) (within ++ n ∷ [])) (unbuilt_alone block None row)
        ∙ ap (λ b. first_unbuilt (alone_ends block ++ b ∷ []) (within ++ n ∷ [])) (suffices_is block (strong block) (weak block) ∙ is)
        ∙ unbuilt_append (alone_ends block) (false ∷ []) within (n ∷ []) e
        ∙ by_first (first_unbuilt (alone_ends block) within)
