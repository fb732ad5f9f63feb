-- A whole fill: appends and asks, one behind the other.
use Rattle.std.proofs.Common.{◌≡◌, ℕ, ◌+◌, ◌<◌, false, List, [], ◌∷◌, ◌++◌, length, refl, ap, sym, ◌∙◌, subst, arith, append_assoc, length-append, Option, None, Some, Ok, Err, inl, inr}
use Rattle.std.proofs.lemmas.List.{append-nil}
use Rattle.std.specs.List.{concat}
use Rattle.std.specs.declared.alloc.AllocError.{AllocError}
use Rattle.circular_buffer.specs.Buffer.{Buffer}
use Rattle.rack_types.specs.declared.rules.BodyRule.{BodyRule}
use Rattle.rack_types.specs.Body.{Content}
use Rattle.rack_types.specs.BodyRules.{left_behind}
use Rattle.reply_framing.specs.declared.types.Filled.TheVariants.{Full, Done, Broke}
use Rattle.reply_framing.specs.declared.types.Form.TheVariants.{Bare}
use Rattle.reply_framing.specs.declared.pull.Pull.{Pull}
use Rattle.reply_framing.specs.declared.pull.Stage.TheVariants.{Ended, Broken}
use Rattle.reply_framing.specs.Body.{wire, rule_in}
use Rattle.reply_framing.specs.Coming.{Rest, Appends}
use Rattle.reply_framing.specs.Fills.{Fills}
use Rattle.reply_framing.specs.Framed.{pending, IsAllOrFull}
use Rattle.reply_framing.specs.Pull.{TakesOne, rest_of, lent, content_of, later_by, rule_by}
use Rattle.reply_framing.specs.Pull as pull
use Rattle.reply_framing.specs.PullOrder.{Pulls, IsLate, IsRestOf, later}
use Rattle.reply_framing.proofs.AppendLemmas.{appends_none, appends_then}

-- what is left of a promise behind no piece, and behind one piece more
left_none : (left : Option ℕ) → left ≡ left_behind left 0
left_none None = refl
left_none (Some p) = ap Some (omega arith)

sum_snoc : (taken : List (List ℕ)) (piece : List ℕ) → length (concat (taken ++ piece ∷ [])) ≡ length (concat taken) + length piece
sum_snoc [] piece = omega (arith, ap length (append-nil piece))
sum_snoc (x ∷ xs) piece = omega (arith, length-append x (concat (xs ++ piece ∷ [])), length-append x (concat xs), sum_snoc xs piece)

left_snoc : (left : Option ℕ) (taken : List (List ℕ)) (piece : List ℕ) → left_behind left (length (concat (taken ++ piece ∷ []))) ≡ left_behind (left_behind left (length (concat taken))) (length piece)
left_snoc None taken piece = refl
left_snoc (Some p) taken piece = ap Some (omega (arith, sum_snoc taken piece))

-- less of the same rest
late_less : (taken : List (List ℕ)) (a n : Rest) → later n ≡ later a → n.form ≡ a.form → IsRestOf n.bytes a.bytes → IsLate taken a → IsLate taken n
late_less [] a n later_is form less h = tt
late_less (piece ∷ []) a n later_is form less h = (
  h.0 ++ less.0,
  ap (λ w. wire w piece ++ later n) form ∙ ap (λ w. wire a.form piece ++ w) later_is ∙ h.1 ∙ ap (λ w. h.0 ++ w) less.1 ∙ sym (append_assoc h.0 less.0 n.bytes),
)
late_less (piece ∷ next ∷ pieces) a n later_is form less h = late_less (next ∷ pieces) a n later_is form less h

late_snoc : (taken : List (List ℕ)) (piece : List ℕ) (n : Rest) → IsRestOf n.bytes (wire n.form piece ++ later n) → IsLate (taken ++ piece ∷ []) n
late_snoc [] piece n h = h
late_snoc (x ∷ []) piece n h = h
late_snoc (x ∷ y ∷ xs) piece n h = late_snoc (y ∷ xs) piece n h

-- no piece is taken, and some of what is to come was appended
pulls_append : (o a n : Rest) → Pulls o a → n.waiting ≡ a.waiting → n.raises ≡ a.raises → n.form ≡ a.form → n.left ≡ a.left → IsRestOf n.bytes a.bytes → Pulls o n
pulls_append o a n p waiting raises form left less = record {
  taken = p.taken;
  given = p.given ∙ ap (λ w. p.taken ++ w) (sym waiting);
  left = left ∙ p.left;
  late = late_less p.taken a n (let e : later n ≡ later a = cc in e) form less p.late;
}

-- an ask
pulls_take : (o a n : Rest) → Pulls o a → TakesOne a n → Pulls o n
pulls_take o a n p t =
    elim t.next [
      | inl same ↦ pulls_append o a n p same.0 t.raises t.form same.1 ([], sym t.bytes)
      | inr one ↦ record {
        taken = p.taken ++ one.0 ∷ [];
        given = p.given ∙ ap (λ w. p.taken ++ w) one.1 ∙ sym (append_assoc p.taken (one.0 ∷ []) n.waiting);
        left = one.2 ∙ ap (λ w. left_behind w (length one.0)) p.left ∙ sym (left_snoc o.left p.taken one.0);
        late = late_snoc p.taken one.0 n one.3;
      }
    ]

-- what a fill came to so far
pub record SoFar (old new : Rest) (before after : Buffer ℕ) : Type 0 where
  pub appends : Appends old.bytes new.bytes before after
  pub rule : new.rule ≡ old.rule
  pub sure : new.sure ≡ old.sure
  pub form : new.form ≡ old.form
  pub raises : new.raises ≡ old.raises
  pub pulls : Pulls old new
  pub bare : old.form ≡ Bare → new.waiting ≡ old.waiting

pub so_far_none : (r : Rest) (x : Buffer ℕ) → SoFar r r x x
so_far_none r x = record {
  appends = appends_none r.bytes x;
  rule = refl;
  sure = refl;
  form = refl;
  raises = refl;
  pulls = record { taken = []; given = refl; left = left_none r.left; late = tt };
  bare = λ e. refl;
}

pub so_far_taken : (o a n : Rest) (x z : Buffer ℕ) → SoFar o a x z → TakesOne a n → ¬ (o.form ≡ Bare) → SoFar o n x z
so_far_taken o a n x z s t sent = record {
  appends = subst (λ (w : List ℕ). Appends o.bytes w x z) (sym t.bytes) s.appends;
  rule = t.rule ∙ s.rule;
  sure = t.sure ∙ s.sure;
  form = t.form ∙ s.form;
  raises = t.raises ∙ s.raises;
  pulls = pulls_take o a n s.pulls t;
  bare = λ e. absurd (sent e);
}

pub fills_err : (o a n : Rest) (e : AllocError) (x z : Buffer ℕ) → SoFar o a x z → n ≡ a → a.sure ≡ false → Fills o (Err e) n x z
fills_err o a n e x z s same unsure = subst (λ (r : Rest). Fills o (Err e) r x z) (sym same) (record {
  appends = s.appends;
  answer = unsure;
  rule = s.rule;
  sure = s.sure;
  form = s.form;
  raises = s.raises;
  pulls = s.pulls;
  bare = s.bare;
})

-- bytes are left where something that was framed is
left_over : (xs ys : List ℕ) → 0 < length xs → 0 < length (xs ++ ys)
left_over xs ys h = omega (arith, length-append xs ys)

module _ {B : Type 0} (content : B → Content) (taken : B → List ℕ) where
  pub so_far_appended : (o : Rest) (p q : Pull B) (x y z : Buffer ℕ) → SoFar o (rest_of content taken p) x y
      → q.form ≡ p.form → q.watch ≡ p.watch → q.stage ≡ p.stage → q.body ≡ p.body
      → Appends (rest_of content taken p).bytes (rest_of content taken q).bytes y z
      → SoFar o (rest_of content taken q) x z
  so_far_appended o p q x y z s form watch stage body more =
      record {
        appends = appends_then _ _ _ x y z s.appends more;
        rule = (let e : (rest_of content taken q).rule ≡ (rest_of content taken p).rule = cc in e) ∙ s.rule;
        sure = (let e : (rest_of content taken q).sure ≡ (rest_of content taken p).sure = cc in e) ∙ s.sure;
        form = form ∙ s.form;
        raises = ap (λ b. (content_of content taken b).raises) body ∙ s.raises;
        pulls = pulls_append o (rest_of content taken p) (rest_of content taken q) s.pulls
            (ap (λ b. (content_of content taken b).pieces) body) (ap (λ b. (content_of content taken b).raises) body) form watch (more.sent, more.bytes);
        bare = λ e. ap (λ b. (content_of content taken b).pieces) body ∙ s.bare e;
      }

  pub fills_full : (o : Rest) (q : Pull B) (x z : Buffer ℕ) → SoFar o (rest_of content taken q) x z
      → IsAllOrFull false (pending q.framed (lent content taken q.body)) z → Fills o (Ok Full) (rest_of content taken q) x z
  fills_full o q x z s full = record {
    appends = s.appends;
    answer = (left_over (pending q.framed (lent content taken q.body)) (later_by q.stage (pull.later content taken q)) full.0, full.1);
    rule = s.rule;
    sure = s.sure;
    form = s.form;
    raises = s.raises;
    pulls = s.pulls;
    bare = s.bare;
  }

  pub fills_done : (o : Rest) (q : Pull B) (x z : Buffer ℕ) → SoFar o (rest_of content taken q) x z
      → pending q.framed (lent content taken q.body) ≡ [] → q.stage ≡ Ended → Fills o (Ok Done) (rest_of content taken q) x z
  fills_done o q x z s none ended = record {
    appends = s.appends;
    answer = (
      ap (λ w. w ++ later_by q.stage (pull.later content taken q)) none ∙ ap (λ t. later_by t (pull.later content taken q)) ended,
      ap (λ t. rule_by t (rule_in q.form q.watch (content_of content taken q.body).pieces (content_of content taken q.body).raises)) ended,
    );
    rule = s.rule;
    sure = s.sure;
    form = s.form;
    raises = s.raises;
    pulls = s.pulls;
    bare = s.bare;
  }

  pub fills_broke : (o : Rest) (q : Pull B) (r : BodyRule) (x z : Buffer ℕ) → SoFar o (rest_of content taken q) x z
      → pending q.framed (lent content taken q.body) ≡ [] → q.stage ≡ Broken r → Fills o (Ok (Broke r)) (rest_of content taken q) x z
  fills_broke o q r x z s none ended = record {
    appends = s.appends;
    answer = (
      ap (λ w. w ++ later_by q.stage (pull.later content taken q)) none ∙ ap (λ t. later_by t (pull.later content taken q)) ended,
      ap (λ t. rule_by t (rule_in q.form q.watch (content_of content taken q.body).pieces (content_of content taken q.body).raises)) ended,
    );
    rule = s.rule;
    sure = s.sure;
    form = s.form;
    raises = s.raises;
    pulls = s.pulls;
    bare = s.bare;
  }
