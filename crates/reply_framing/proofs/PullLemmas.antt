-- One ask of the body.
use Rattle.std.proofs.Common.{◌≡◌, ℕ, ◌<◌, Bool, true, false, List, [], ◌++◌, length, drop, refl, ap, sym, ◌∙◌, arith, Option, None, Some, inl, inr}
use Rattle.std.specs.Prelude.{if◌then◌else◌, codes}
use Rattle.std.proofs.lemmas.List.{append-nil, drop_all}
use Rattle.std.proofs.lemmas.Bool.{ltb-true}
use Rattle.circular_buffer.specs.Buffer.{keep_last}
use Rattle.rack_types.specs.declared.rules.BodyRule.{BodyRule}
use Rattle.rack_types.specs.Body.{Content, TakesPiece, Ends}
use Rattle.rack_types.specs.BodyRules.{body_rule, breaks_B1, left_behind, end_rule}
use Rattle.reply_framing.specs.declared.framed.Framed.{Framed}
use Rattle.reply_framing.specs.declared.types.Form.{Form}
use Rattle.reply_framing.specs.declared.types.Form.TheVariants.{Bare}
use Rattle.reply_framing.specs.declared.pull.Stage.{Stage}
use Rattle.reply_framing.specs.declared.pull.Stage.TheVariants.{Pulling, Broken}
use Rattle.reply_framing.specs.Body.{wire, body_bytes, rule_in}
use Rattle.reply_framing.specs.Framed.{pending, IsClear}
use Rattle.reply_framing.specs.Pull.{TakesOne, content_of, lent, rest_of, asks_left, later_by, rule_by, sure_by, steps_by, stage_of, last_by}
use Rattle.reply_framing.proofs.AppendLemmas.{keep_none}
use Rattle.reply_framing.proofs.BodyLemmas.{body_more, rule_more, body_stops, rule_stops, body_end, rule_end}

-- where nothing that was framed is left
pub clear_pending : (f : Framed) (piece : List ℕ) → IsClear f → pending f piece ≡ []
clear_pending f piece h =
    let lead : drop f.lead_at f.lead.items ≡ [] = drop_all f.lead_at f.lead.items h.lead in
    ap (λ w. w ++ (keep_last f.piece_left piece ++ keep_last f.tail_left (codes "\r\n"))) lead
    ∙ ap (λ w. w ++ keep_last f.tail_left (codes "\r\n")) (keep_none f.piece_left piece h.piece)
    ∙ keep_none f.tail_left (codes "\r\n") h.tail

-- what a watch said
pub watch_none : (over : Bool) (rule : BodyRule) → None ≡ (if over then Some rule else None) → over ≡ false
watch_none true rule e = cc
watch_none false rule e = refl

pub watch_some : (over : Bool) (rule said : BodyRule) → Some said ≡ (if over then Some rule else None) → (over ≡ true) × (said ≡ rule)
watch_some true rule said e = (refl, cc)
watch_some false rule said e = cc

pub if_false : {X : Type 0} (over : Bool) (x y z : X) → over ≡ false → z ≡ (if over then x else y) → z ≡ y
if_false over x y z fits e = e ∙ ap (λ (b : Bool). if b then x else y) fits

-- at a promise that a piece passes nothing is left
nothing_left : (left : Option ℕ) (n : ℕ) → breaks_B1 left n ≡ true → Some 0 ≡ left_behind left n
nothing_left None n over = cc
nothing_left (Some p) n over = let short : p < n = ltb-true p n over in ap Some (omega arith)

module _ {B : Type 0} (content : B → Content) (taken : B → List ℕ) where
  -- a piece that is sent
  pub takes_piece : (framed f : Framed) (form : Form) (left left' : Option ℕ) (stage : Stage) (body body' : Option B) → stage ≡ Pulling → ¬ (form ≡ Bare)
      → IsClear framed → TakesPiece (content_of content taken body) (lent content taken body') (content_of content taken body')
      → breaks_B1 left (length (lent content taken body')) ≡ false → left' ≡ left_behind left (length (lent content taken body'))
      → pending f (lent content taken body') ≡ wire form (lent content taken body')
      → TakesOne (rest_of content taken (record { framed = framed; form = form; watch = left; stage = stage; body = body }))
      (rest_of content taken (record { framed = f; form = form; watch = left'; stage = stage; body = body' }))
      × (asks_left content taken (record { framed = f; form = form; watch = left'; stage = stage; body = body' })
      < asks_left content taken (record { framed = framed; form = form; watch = left; stage = stage; body = body }))
  takes_piece framed f form left left' stage body body' pulling sent clear t fits left_is bytes_are =
      let piece = lent content taken body' in
      let old = content_of content taken body in
      let new = content_of content taken body' in
      let old_bytes : pending framed (lent content taken body) ++ body_bytes form left old.pieces old.raises ≡ wire form piece ++ body_bytes form (left_behind left (length piece)) new.pieces old.raises =
      ap (λ w. w ++ body_bytes form left old.pieces old.raises) (clear_pending framed (lent content taken body) clear)
      ∙ ap (λ w. body_bytes form left w old.raises) t.pieces ∙ body_more form left piece new.pieces old.raises sent fits in
      let new_bytes : pending f piece ++ body_bytes form left' new.pieces new.raises ≡ wire form piece ++ body_bytes form (left_behind left (length piece)) new.pieces old.raises =
      ap (λ w. w ++ body_bytes form left' new.pieces new.raises) bytes_are
      ∙ ap (λ k. wire form piece ++ body_bytes form k new.pieces new.raises) left_is
      ∙ ap (λ k. wire form piece ++ body_bytes form (left_behind left (length piece)) new.pieces k) t.raises in rw pulling (
        record {
          bytes = new_bytes ∙ sym old_bytes;
          rule = ap (λ k. rule_in form k new.pieces new.raises) left_is ∙ ap (rule_in form (left_behind left (length piece)) new.pieces) t.raises
              ∙ sym (ap (λ w. rule_in form left w old.raises) t.pieces ∙ rule_more form left piece new.pieces old.raises sent fits);
          sure = ap (sure_by form) t.sure;
          form = refl;
          raises = t.raises;
          next = inr (piece, t.pieces, left_is, ([], ap (λ w. w ++ body_bytes form left' new.pieces new.raises) (sym bytes_are)));
        },
        omega (arith, ap length t.pieces),
      )

  -- a piece that passes the promise
  pub stops_at_piece : (framed : Framed) (form : Form) (left : Option ℕ) (stage : Stage) (rule : BodyRule) (body body' : Option B) → stage ≡ Pulling → ¬ (form ≡ Bare)
      → IsClear framed → TakesPiece (content_of content taken body) (lent content taken body') (content_of content taken body')
      → breaks_B1 left (length (lent content taken body')) ≡ true → rule ≡ body_rule 1
      → TakesOne (rest_of content taken (record { framed = framed; form = form; watch = left; stage = stage; body = body }))
      (rest_of content taken (record { framed = framed; form = form; watch = Some 0; stage = Broken rule; body = body' }))
      × (asks_left content taken (record { framed = framed; form = form; watch = Some 0; stage = Broken rule; body = body' })
      < asks_left content taken (record { framed = framed; form = form; watch = left; stage = stage; body = body }))
  stops_at_piece framed form left stage rule body body' pulling sent clear t over rule_is =
      let piece = lent content taken body' in
      let old = content_of content taken body in
      let new = content_of content taken body' in
      let old_bytes : pending framed (lent content taken body) ++ body_bytes form left old.pieces old.raises ≡ [] =
      ap (λ w. w ++ body_bytes form left old.pieces old.raises) (clear_pending framed (lent content taken body) clear)
      ∙ ap (λ w. body_bytes form left w old.raises) t.pieces ∙ body_stops form left piece new.pieces old.raises sent over in
      let new_bytes : pending framed piece ++ [] ≡ [] = append-nil (pending framed piece) ∙ clear_pending framed piece clear in
      let whole : List ℕ = wire form piece ++ body_bytes form (Some 0) new.pieces new.raises in rw pulling (
        record {
          bytes = new_bytes ∙ sym old_bytes;
          rule = ap Some rule_is ∙ sym (ap (λ w. rule_in form left w old.raises) t.pieces ∙ rule_stops form left piece new.pieces old.raises sent over);
          sure = ap (sure_by form) t.sure;
          form = refl;
          raises = t.raises;
          next = inr (piece, t.pieces, nothing_left left (length piece) over, (whole, sym (ap (λ w. whole ++ w) new_bytes ∙ append-nil whole)));
        },
        omega (arith, ap length t.pieces),
      )

  -- the end
  end_later : (rule : Option BodyRule) (bytes : List ℕ) → later_by (stage_of rule) bytes ≡ []
  end_later None bytes = refl
  end_later (Some rule) bytes = refl

  end_ruled : (rule other : Option BodyRule) → rule_by (stage_of rule) other ≡ rule
  end_ruled None other = refl
  end_ruled (Some rule) other = refl

  end_steps : (rule : Option BodyRule) → steps_by (stage_of rule) ≡ 0
  end_steps None = refl
  end_steps (Some rule) = refl

  takes_end_at : (framed f : Framed) (form : Form) (left : Option ℕ) (stage stage' : Stage) (raised : Bool) (body body' : Option B) → stage ≡ Pulling → ¬ (form ≡ Bare)
      → IsClear framed → Ends raised (content_of content taken body) (content_of content taken body')
      → ((piece : List ℕ) → pending f piece ≡ last_by (end_rule left raised) form) → stage' ≡ stage_of (end_rule left raised)
      → TakesOne (rest_of content taken (record { framed = framed; form = form; watch = left; stage = stage; body = body }))
      (rest_of content taken (record { framed = f; form = form; watch = left; stage = stage'; body = body' }))
      × (asks_left content taken (record { framed = f; form = form; watch = left; stage = stage'; body = body' })
      < asks_left content taken (record { framed = framed; form = form; watch = left; stage = stage; body = body }))
  takes_end_at framed f form left stage stage' raised body body' pulling sent clear e bytes_are stage_is =
      let old = content_of content taken body in
      let new = content_of content taken body' in
      let rule = end_rule left raised in
      let old_bytes : pending framed (lent content taken body) ++ body_bytes form left old.pieces old.raises ≡ last_by rule form =
      ap (λ w. w ++ body_bytes form left old.pieces old.raises) (clear_pending framed (lent content taken body) clear)
      ∙ ap (λ w. body_bytes form left w old.raises) e.none ∙ ap (body_bytes form left []) e.raises ∙ body_end form left raised sent in
      let new_bytes : pending f (lent content taken body') ++ later_by (stage_of rule) (body_bytes form left new.pieces new.raises) ≡ last_by rule form =
      ap (λ w. pending f (lent content taken body') ++ w) (end_later rule (body_bytes form left new.pieces new.raises))
      ∙ append-nil (pending f (lent content taken body')) ∙ bytes_are (lent content taken body') in rw (pulling, stage_is) (
        record {
          bytes = new_bytes ∙ sym old_bytes;
          rule = end_ruled rule (rule_in form left new.pieces new.raises)
              ∙ sym (ap (λ w. rule_in form left w old.raises) e.none ∙ ap (rule_in form left []) e.raises ∙ rule_end form left raised sent);
          sure = ap (λ (c : Content). sure_by form c.sure) e.same;
          form = refl;
          raises = ap (λ (c : Content). c.raises) e.same;
          next = inl (ap (λ (c : Content). c.pieces) e.same, refl);
        },
        omega (arith, end_steps rule, ap (λ (c : Content). length c.pieces) e.same),
      )

  pub takes_end : (framed f : Framed) (form form' : Form) (left left' : Option ℕ) (stage stage' : Stage) (raised : Bool) (body body' body'' : Option B) → stage ≡ Pulling → ¬ (form ≡ Bare)
      → IsClear framed → Ends raised (content_of content taken body) (content_of content taken body')
      → form' ≡ form → left' ≡ left → body'' ≡ body'
      → ((piece : List ℕ) → pending f piece ≡ last_by (end_rule left raised) form) → stage' ≡ stage_of (end_rule left raised)
      → TakesOne (rest_of content taken (record { framed = framed; form = form; watch = left; stage = stage; body = body }))
      (rest_of content taken (record { framed = f; form = form'; watch = left'; stage = stage'; body = body'' }))
      × (asks_left content taken (record { framed = f; form = form'; watch = left'; stage = stage'; body = body'' })
      < asks_left content taken (record { framed = framed; form = form; watch = left; stage = stage; body = body }))
  takes_end framed f form form' left left' stage stage' raised body body' body'' pulling sent clear e form_is left_is body_is bytes_are stage_is =
      rw (form_is, left_is, body_is) (takes_end_at framed f form left stage stage' raised body body' pulling sent clear e bytes_are stage_is)
