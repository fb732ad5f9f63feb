-- What is written of a plan is read again, where each of its lines is.
use Rattle.std.proofs.Common.{◌≡◌, ℕ, suc, ◌+◌, ◌≤◌, Bool, true, false, List, [], ◌∷◌, ◌++◌, length, inl, inr, None, Ok, Err, refl, sym, ap, ◌∙◌, append_assoc, append-nil, arith}
use Rattle.std.specs.Prelude.{◌&&◌, ◌==◌, nat_le, if◌then◌else◌, ⊤, codes}
use Rattle.std.specs.List.{list_all}
use Rattle.std.proofs.lemmas.Bool.{le-leb, leb-true, cases_Bool, eqb-true}
use Rattle.builder_core.specs.Plan.{Plan, Item, Done, Then, Uses, Holds, EndsAny, plan_of_items}
use Rattle.builder_core.specs.Plan as plans
use Rattle.builder_core.specs.Build.{item_size, plan_size, item_height, plan_height}
use Rattle.rack_text.specs.Escaped.{escaped}
use Rattle.stock_apps.specs.declared.app.App.{App}
use Rattle.stock_middleware.specs.declared.ware.Ware.{Ware}
use Rattle.stack_file.specs.Canon.{spaced, line, ware_words, app_words, place_text, run_lines, deeper, item_text, plan_text, canonical}
use Rattle.stack_file.specs.Lines.{before_first, lines, words, is_printable, is_clean, unindented}
use Rattle.stack_file.specs.Reads.{OpenBlock, AtPlace, InCascade, Standing, counted, stepped, whole, goes_on, reads_on, reads}
use Rattle.stack_file.specs.Unbuilt.{all_built, first_unbuilt}
use Rattle.stack_file.specs.Said.{Said, UseLine, RunLine, MapLine, CascadeLine, EndLine, Breaks, said, said_by_words, verb_line}

-- the lines that are written, without their margins and line feeds
abbrev pub use_text : Ware → List ℕ
use_text ware = codes "use" ++ spaced (ware_words ware)

abbrev pub run_text : App → List ℕ
run_text app = codes "run" ++ spaced (app_words app)

abbrev pub map_text : List ℕ → List ℕ
map_text place = codes "map" ++ spaced (escaped (place_text place) ∷ [])

-- they say what they were written for
abbrev pub AppsSaid : List App → Type 0
AppsSaid [] = ⊤
AppsSaid (a ∷ apps) = (said (run_text a) ≡ RunLine a) × AppsSaid apps

abbrev mutual
  pub ItemSaid : Item App → Type 0
  ItemSaid (Uses ware) = said (use_text ware) ≡ UseLine ware
  ItemSaid (plans.Ends app) = said (run_text app) ≡ RunLine app
  ItemSaid (Holds place block) = (said (map_text place) ≡ MapLine place) × PlanSaid block
  ItemSaid (EndsAny apps) = AppsSaid apps

  pub PlanSaid : Plan App → Type 0
  PlanSaid Done = ⊤
  PlanSaid (Then i p) = ItemSaid i × PlanSaid p

-- margins
abbrev AreSpaces : List ℕ → Type 0
AreSpaces [] = ⊤
AreSpaces (b ∷ bytes) = (b ≡ 32) × AreSpaces bytes

deeper_spaces : (m : List ℕ) → AreSpaces m → AreSpaces (deeper m)
deeper_spaces [] h = (refl, (refl, tt))
deeper_spaces (b ∷ m) h = (h.0, deeper_spaces m h.1)

said_margin : (m text : List ℕ) → AreSpaces m → said (m ++ text) ≡ said text
said_margin [] text h = refl
said_margin (b ∷ m) text h = ap (λ c. said (c ∷ (m ++ text))) h.0 ∙ said_margin m text h.1

printed_margin : (m text : List ℕ) → AreSpaces m → list_all is_printable text ≡ true → list_all is_printable (m ++ text) ≡ true
printed_margin [] text h e = e
printed_margin (b ∷ m) text h e = ap (λ c. list_all is_printable (c ∷ (m ++ text))) h.0 ∙ printed_margin m text h.1 e

both : (a b : Bool) → a && b ≡ true → (a ≡ true) × (b ≡ true)
both true b e = (refl, e)
both false b e = cc e

-- a line that says something has bytes that may stand there
not_bad : (text : List ℕ) → (said text ≡ Breaks 1 → ⊥) → list_all is_printable text ≡ true
not_bad text other = by_clean (is_clean text) refl other
  where
    by_clean : (clean : Bool) → is_clean text ≡ clean → ((if clean then said_by_words (words text) else Breaks 1) ≡ Breaks 1 → ⊥) → list_all is_printable text ≡ true
    by_clean true is f = (both (list_all is_printable text) (nat_le (length (unindented text)) 4096) is).0
    by_clean false is f = absurd (f refl)

not_feed : (b : ℕ) → is_printable b ≡ true → b == 10 ≡ false
not_feed b e =
    let low : 32 ≤ b = leb-true 32 b (both (nat_le 32 b) (nat_le b 126) e).0 in
    elim (cases_Bool (b == 10)) as (λ _. b == 10 ≡ false) [
      | inl is ↦ absurd (omega (arith, low, eqb-true b 10 is))
      | inr other ↦ other
    ]

lines_split : (text rest : List ℕ) → list_all is_printable text ≡ true → lines (text ++ (10 ∷ rest)) ≡ text ∷ lines rest
lines_split [] rest e = refl
lines_split (b ∷ text) rest e =
    let e2 = both (is_printable b) (list_all is_printable text) e in
    ap (λ feed. if feed then [] ∷ lines (text ++ (10 ∷ rest)) else before_first b (lines (text ++ (10 ∷ rest)))) (not_feed b e2.0)
    ∙ ap (λ ls. before_first b ls) (lines_split text rest e2.1)

-- one line
line_read : (m text rest : List ℕ) (what : Said) (n : ℕ) (s next : Standing) → AreSpaces m → said text ≡ what → (what ≡ Breaks 1 → ⊥) → stepped n what s ≡ Ok next
    → reads_on (lines (m ++ (text ++ (10 ∷ rest)))) n s ≡ reads_on (lines rest) (n + 1) next
line_read m text rest what n s next h e other step =
    let printed = printed_margin m text h (not_bad text (λ bad. other (sym e ∙ bad))) in
    ap (λ bytes. reads_on (lines bytes) n s) (sym (append_assoc m text (10 ∷ rest)))
    ∙ ap (λ ls. reads_on ls n s) (lines_split (m ++ text) rest printed)
    ∙ ap (λ w. goes_on n (reads_on (lines rest) (n + 1)) (stepped n w s)) (said_margin m text h ∙ e)
    ∙ ap (λ r. goes_on n (reads_on (lines rest) (n + 1)) r) step

line_more : (m verb : List ℕ) (ws : List (List ℕ)) (rest : List ℕ) → line m verb ws ++ rest ≡ m ++ ((verb ++ spaced ws) ++ (10 ∷ rest))
line_more m verb ws rest =
    append_assoc m (verb ++ (spaced ws ++ 10 ∷ [])) rest
    ∙ ap (λ t. m ++ t) (append_assoc verb (spaced ws ++ 10 ∷ []) rest
    ∙ ap (λ t. verb ++ t) (append_assoc (spaced ws) (10 ∷ []) rest)
    ∙ sym (append_assoc verb (spaced ws) (10 ∷ rest)))

counted_fits : (steps : ℕ) (block : OpenBlock) (outer : List OpenBlock) → steps + 1 ≤ 256 → length outer ≤ 32
    → counted steps block outer ≡ Ok (record { steps = steps + 1; inner = block; outer = outer })
counted_fits steps block outer h k =
    ap (λ b. if b && nat_le (length outer) 32 then Ok (record { steps = steps + 1; inner = block; outer = outer }) else Err 9) (le-leb (steps + 1) 256 h)
    ∙ ap (λ b. if b then Ok (record { steps = steps + 1; inner = block; outer = outer }) else Err 9) (le-leb (length outer) 32 k)

end_said : said (codes "end") ≡ EndLine
unfolding verb_line
end_said = refl

cascade_said : said (codes "cascade") ≡ CascadeLine
unfolding verb_line
cascade_said = refl

abbrev pub items_of : Plan App → List (Item App)
items_of Done = []
items_of (Then i p) = i ∷ items_of p

pub items_again : (p : Plan App) → plan_of_items (items_of p) ≡ p
items_again Done = refl
items_again (Then i p) = ap (λ q. Then i q) (items_again p)

-- from one standing to another, over a text before others
pub record Leads (text rest : List ℕ) (n : ℕ) (s : Standing) (steps : ℕ) (inner : List ℕ → OpenBlock) (outer : List OpenBlock) : Type 0 where
  pub line : ℕ
  pub ends : List ℕ
  pub leads : reads_on (lines (text ++ rest)) n s ≡ reads_on (lines rest) line (record { steps = steps; inner = inner ends; outer = outer })

runs_lead : (apps done : List App) (m rest : List ℕ) (n steps : ℕ) (outer : List OpenBlock) → AreSpaces m → AppsSaid apps → steps + length apps ≤ 256 → length outer ≤ 32
    → Leads (run_lines apps m) rest n (record { steps = steps; inner = InCascade done; outer = outer }) (steps + length apps) (λ ends. InCascade (done ++ apps)) outer
runs_lead [] done m rest n steps outer h says few deep =
    let zero_more : steps ≡ steps + 0 = omega arith in
    record {
      line = n;
      ends = [];
      leads = ap (λ k. reads_on (lines rest) n (record { steps = k; inner = InCascade done; outer = outer })) zero_more
          ∙ ap (λ more. reads_on (lines rest) n (record { steps = steps + 0; inner = InCascade more; outer = outer })) (sym (append-nil done));
    }
runs_lead (a ∷ apps) done m rest n steps outer h says few deep =
    let more = runs_lead apps (done ++ a ∷ []) m rest (n + 1) (steps + 1) outer h says.1 (omega (arith, few)) deep in
    let next : Standing = record { steps = steps + 1; inner = InCascade (done ++ a ∷ []); outer = outer } in
    let count : steps + 1 + length apps ≡ steps + suc (length apps) = omega arith in
    record {
      line = more.line;
      ends = more.ends;
      leads = ap (λ t. reads_on (lines t) n (record { steps = steps; inner = InCascade done; outer = outer })) (append_assoc (line m (codes "run") (app_words a)) (run_lines apps m) rest ∙ line_more m (codes "run") (app_words a) (run_lines apps m ++ rest))
          ∙ line_read m (run_text a) (run_lines apps m ++ rest) (RunLine a) n (record { steps = steps; inner = InCascade done; outer = outer }) next h says.0 (λ e. cc e) (counted_fits steps (InCascade (done ++ a ∷ [])) outer (omega (arith, few)) deep)
          ∙ more.leads
          ∙ ap (λ k. reads_on (lines rest) more.line (record { steps = k; inner = InCascade ((done ++ a ∷ []) ++ apps); outer = outer })) count
          ∙ ap (λ both. reads_on (lines rest) more.line (record { steps = steps + suc (length apps); inner = InCascade both; outer = outer })) (append_assoc done (a ∷ []) apps);
    }

abbrev ItemLeads : Item App → Type 0
ItemLeads i = (m rest : List ℕ) (n steps : ℕ) (place : List ℕ) (items : List (Item App)) (ends : List ℕ) (outer : List OpenBlock)
    → AreSpaces m → ItemSaid i → steps + item_size i ≤ 256 → item_height i + length outer ≤ 32
    → Leads (item_text i m) rest n (record { steps = steps; inner = AtPlace place items ends; outer = outer }) (steps + item_size i) (λ es. AtPlace place (items ++ i ∷ []) es) outer

abbrev PlanLeads : Plan App → Type 0
PlanLeads p = (m rest : List ℕ) (n steps : ℕ) (place : List ℕ) (items : List (Item App)) (ends : List ℕ) (outer : List OpenBlock)
    → AreSpaces m → PlanSaid p → steps + plan_size p ≤ 256 → plan_height p + length outer ≤ 32
    → Leads (plan_text p m) rest n (record { steps = steps; inner = AtPlace place items ends; outer = outer }) (steps + plan_size p) (λ es. AtPlace place (items ++ items_of p) es) outer

use_leads : (ware : Ware) → ItemLeads (Uses ware)
use_leads ware m rest n steps place items ends outer h says few deep = record {
  line = n + 1;
  ends = ends;
  leads = ap (λ t. reads_on (lines t) n (record { steps = steps; inner = AtPlace place items ends; outer = outer })) (line_more m (codes "use") (ware_words ware) rest)
      ∙ line_read m (use_text ware) rest (UseLine ware) n (record { steps = steps; inner = AtPlace place items ends; outer = outer }) (record { steps = steps + 1; inner = AtPlace place (items ++ Uses ware ∷ []) ends; outer = outer }) h says (λ e. cc e)
      (counted_fits steps (AtPlace place (items ++ Uses ware ∷ []) ends) outer few (omega (arith, deep)));
}

run_leads : (app : App) → ItemLeads (plans.Ends app)
run_leads app m rest n steps place items ends outer h says few deep = record {
  line = n + 1;
  ends = ends;
  leads = ap (λ t. reads_on (lines t) n (record { steps = steps; inner = AtPlace place items ends; outer = outer })) (line_more m (codes "run") (app_words app) rest)
      ∙ line_read m (run_text app) rest (RunLine app) n (record { steps = steps; inner = AtPlace place items ends; outer = outer }) (record { steps = steps + 1; inner = AtPlace place (items ++ plans.Ends app ∷ []) ends; outer = outer }) h says (λ e. cc e)
      (counted_fits steps (AtPlace place (items ++ plans.Ends app ∷ []) ends) outer few (omega (arith, deep)));
}

-- a block between the line that opens it and its `end`
abbrev blocked : List ℕ → List ℕ → List (List ℕ) → List ℕ → List ℕ
blocked m verb ws inside = line m verb ws ++ (inside ++ line m (codes "end") [])

block_more : (m verb : List ℕ) (ws : List (List ℕ)) (inside rest : List ℕ)
    → blocked m verb ws inside ++ rest ≡ m ++ ((verb ++ spaced ws) ++ (10 ∷ (inside ++ (m ++ (codes "end" ++ (10 ∷ rest))))))
block_more m verb ws inside rest =
    append_assoc (line m verb ws) (inside ++ line m (codes "end") []) rest
    ∙ line_more m verb ws ((inside ++ line m (codes "end") []) ++ rest)
    ∙ ap (λ t. m ++ ((verb ++ spaced ws) ++ (10 ∷ t))) (append_assoc inside (line m (codes "end") []) rest ∙ ap (λ t. inside ++ t) (line_more m (codes "end") [] rest))

cascade_leads : (apps : List App) → ItemLeads (EndsAny apps)
cascade_leads apps m rest n steps place items ends outer h says few deep =
    let around : OpenBlock = AtPlace place items ends in
    let s : Standing = record { steps = steps; inner = around; outer = outer } in
    let ending : List ℕ = m ++ (codes "end" ++ (10 ∷ rest)) in
    let opened : Standing = record { steps = steps + 1; inner = InCascade []; outer = around ∷ outer } in
    let runs = runs_lead apps [] (deeper m) ending (n + 1) (steps + 1) (around ∷ outer) (deeper_spaces m h) says (omega (arith, few)) (omega (arith, deep)) in
    let filled : Standing = record { steps = steps + 1 + length apps; inner = InCascade apps; outer = around ∷ outer } in
    let closed : Standing = record { steps = steps + 1 + length apps; inner = AtPlace place (items ++ EndsAny apps ∷ []) (ends ++ runs.line ∷ []); outer = outer } in
    let count : steps + 1 + length apps ≡ steps + (1 + length apps) = omega arith in
    record {
      line = runs.line + 1;
      ends = ends ++ runs.line ∷ [];
      leads = ap (λ t. reads_on (lines t) n s) (block_more m (codes "cascade") [] (run_lines apps (deeper m)) rest)
          ∙ line_read m (codes "cascade") (run_lines apps (deeper m) ++ ending) CascadeLine n s opened h cascade_said (λ e. cc e) (counted_fits steps (InCascade []) (around ∷ outer) (omega (arith, few)) (omega (arith, deep)))
          ∙ runs.leads
          ∙ line_read m (codes "end") rest EndLine runs.line filled closed h end_said (λ e. cc e) refl
          ∙ ap (λ k. reads_on (lines rest) (runs.line + 1) (record { steps = k; inner = AtPlace place (items ++ EndsAny apps ∷ []) (ends ++ runs.line ∷ []); outer = outer })) count;
    }

map_leads : (inside : List ℕ) (block : Plan App) → PlanLeads block → ItemLeads (Holds inside block)
map_leads inside block more m rest n steps place items ends outer h says few deep =
    let around : OpenBlock = AtPlace place items ends in
    let s : Standing = record { steps = steps; inner = around; outer = outer } in
    let ending : List ℕ = m ++ (codes "end" ++ (10 ∷ rest)) in
    let opened : Standing = record { steps = steps + 1; inner = AtPlace inside [] []; outer = around ∷ outer } in
    let lead = more (deeper m) ending (n + 1) (steps + 1) inside [] [] (around ∷ outer) (deeper_spaces m h) says.1 (omega (arith, few)) (omega (arith, deep)) in
    let filled : Standing = record { steps = steps + 1 + plan_size block; inner = AtPlace inside (items_of block) lead.ends; outer = around ∷ outer } in
    let es : List ℕ = ends ++ (lead.ends ++ lead.line ∷ []) in
    let closed : Standing = record { steps = steps + 1 + plan_size block; inner = AtPlace place (items ++ Holds inside (plan_of_items (items_of block)) ∷ []) es; outer = outer } in
    let count : steps + 1 + plan_size block ≡ steps + (1 + plan_size block) = omega arith in
    record {
      line = lead.line + 1;
      ends = es;
      leads = ap (λ t. reads_on (lines t) n s) (block_more m (codes "map") (escaped (place_text inside) ∷ []) (plan_text block (deeper m)) rest)
          ∙ line_read m (map_text inside) (plan_text block (deeper m) ++ ending) (MapLine inside) n s opened h says.0 (λ e. cc e) (counted_fits steps (AtPlace inside [] []) (around ∷ outer) (omega (arith, few)) (omega (arith, deep)))
          ∙ lead.leads
          ∙ line_read m (codes "end") rest EndLine lead.line filled closed h end_said (λ e. cc e) refl
          ∙ ap (λ k. reads_on (lines rest) (lead.line + 1) (record { steps = k; inner = AtPlace place (items ++ Holds inside (plan_of_items (items_of block)) ∷ []) es; outer = outer })) count
          ∙ ap (λ p. reads_on (lines rest) (lead.line + 1) (record { steps = steps + (1 + plan_size block); inner = AtPlace place (items ++ Holds inside p ∷ []) es; outer = outer })) (items_again block);
    }

done_leads : PlanLeads Done
done_leads m rest n steps place items ends outer h says few deep =
    let zero_more : steps ≡ steps + 0 = omega arith in
    record {
      line = n;
      ends = ends;
      leads = ap (λ k. reads_on (lines rest) n (record { steps = k; inner = AtPlace place items ends; outer = outer })) zero_more
          ∙ ap (λ is. reads_on (lines rest) n (record { steps = steps + 0; inner = AtPlace place is ends; outer = outer })) (sym (append-nil items));
    }

then_leads : (i : Item App) (p : Plan App) → ItemLeads i → PlanLeads p → PlanLeads (Then i p)
then_leads i p first more m rest n steps place items ends outer h says few deep =
    let s : Standing = record { steps = steps; inner = AtPlace place items ends; outer = outer } in
    let one = first m (plan_text p m ++ rest) n steps place items ends outer h says.0 (omega (arith, few)) (omega (arith, deep)) in
    let all = more m rest one.line (steps + item_size i) place (items ++ i ∷ []) one.ends outer h says.1 (omega (arith, few)) (omega (arith, deep)) in
    let count : steps + item_size i + plan_size p ≡ steps + (item_size i + plan_size p) = omega arith in
    record {
      line = all.line;
      ends = all.ends;
      leads = ap (λ t. reads_on (lines t) n s) (append_assoc (item_text i m) (plan_text p m) rest)
          ∙ one.leads
          ∙ all.leads
          ∙ ap (λ k. reads_on (lines rest) all.line (record { steps = k; inner = AtPlace place ((items ++ i ∷ []) ++ items_of p) all.ends; outer = outer })) count
          ∙ ap (λ is. reads_on (lines rest) all.line (record { steps = steps + (item_size i + plan_size p); inner = AtPlace place is all.ends; outer = outer })) (append_assoc items (i ∷ []) (items_of p));
    }

mutual
  item_leads : (i : Item App) → ItemLeads i
  item_leads (Uses ware) = use_leads ware
  item_leads (plans.Ends app) = run_leads app
  item_leads (Holds place block) = map_leads place block (plan_leads block)
  item_leads (EndsAny apps) = cascade_leads apps

  plan_leads : (p : Plan App) → PlanLeads p
  plan_leads Done = done_leads
  plan_leads (Then i p) = then_leads i p (item_leads i) (plan_leads p)

-- the whole form, where each block has an application
pub canonical_read : (p : Plan App) → PlanSaid p → plan_size p ≤ 256 → plan_height p ≤ 32 → ((ends : List ℕ) → first_unbuilt (all_built p) ends ≡ None) → reads (canonical p) ≡ Ok p
canonical_read p says few deep built =
    let lead = plan_leads p [] [] 1 0 [] [] [] [] tt says (omega (arith, few)) (omega (arith, deep)) in
    ap (λ t. reads t) (sym (append-nil (canonical p)))
    ∙ lead.leads
    ∙ ap (λ q. whole q (first_unbuilt (all_built q) (lead.ends ++ lead.line ∷ []))) (items_again p)
    ∙ ap (λ o. whole p o) (built (lead.ends ++ lead.line ∷ []))
