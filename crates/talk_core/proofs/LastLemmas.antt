-- The reply to the last request does not keep the connection.
use Rattle.std.proofs.Common.{◌≡◌, ◌≢◌, ℕ, ◌<◌, Bool, true, false, not, ◌||◌, ◌==◌, if◌then◌else◌, List, Option, None, Some, refl, subst, arith}
use Rattle.std.proofs.lemmas.Bool.Decides.{nat_tests}
use Rattle.rack_types.specs.declared.answer.Answer.{Answer}
use Rattle.rack_types.specs.declared.answer.Answer.TheVariants as answer
use Rattle.rack_types.specs.declared.peer.Local.{Local}
use Rattle.rack_types.specs.declared.rules.BodyRule.{BodyRule}
use Rattle.rack_types.specs.declared.rules.Rule.{Rule}
use Rattle.rack_types.specs.declared.rules.Set.TheVariants.{Server}
use Rattle.rack_types.specs.AnswerRules.{broken_rule, rule}
use Rattle.rack_types.specs.Body.{Content}
use Rattle.rack_types.specs.Env.{Pairs}
use Rattle.rack_types.specs.Headers.{HeaderList}
use Rattle.rack_types.specs.Request.{Parts}
use Rattle.rack_env.specs.Environment.{env_pairs}
use Rattle.reply_framing.specs.declared.types.After.{After}
use Rattle.reply_framing.specs.declared.types.After.TheVariants.{Keep, Close}
use Rattle.reply_framing.specs.declared.types.Ask.{Ask}
use Rattle.reply_framing.specs.Reply.{body_after, reply, reply_by, sound_reply, body_reply, broken_headers, no_body}
use Rattle.talk_core.specs.declared.ended.Life.{Life}
use Rattle.talk_core.proofs.LawLemmas.{NeverKeeps}
use Rattle.talk_core.specs.Teller.{Stacks, ask_of, is_closing, is_last, phase_at, tell}

by_last : (p w n c : Bool) → (if not p || true || w || n || c then Close else Keep) ≡ Close
by_last true w n c = refl
by_last false w n c = refl

close_stays : (rule : Option BodyRule) (a : After) → a ≡ Close → body_after rule a ≡ Close
close_stays None a e = e
close_stays (Some rule) a e = refl

close_is_no_keep : (a : After) → a ≡ Close → a ≢ Keep
close_is_no_keep a x y = cc

body_closes : (H : Type 0) (ask : Ask) (status : ℕ) (headers : HeaderList) (body : Content) → (body_reply {H = H} ask status headers body true).after ≢ Keep
body_closes H ask status headers body =
    close_is_no_keep _ (close_stays _ _ (by_last ask.persists _ _ _))

sound_ends : {H : Type 0} (ask : Ask) (a : Answer Content H) → (sound_reply ask a true).after ≢ Keep
sound_ends {H} ask (answer.Reply status headers body None) = body_closes H ask status headers body
sound_ends {H} ask (answer.Reply status headers body (Some h)) = λ e. cc
sound_ends {H} ask (answer.Raised text) = body_closes H ask 500 (broken_headers (rule 0)) no_body
sound_ends {H} ask (answer.Taken h) = λ e. cc

ends_by : {H : Type 0} (o : Option Rule) (ask : Ask) (a : Answer Content H) → (reply_by o ask a true).after ≢ Keep
ends_by {H} None ask a = sound_ends ask a
ends_by {H} (Some broken) ask a = body_closes H ask 500 (broken_headers broken) no_body

-- a reply that keeps is not the last
pub reply_keeps : {H : Type 0} (ask : Ask) (env : Pairs) (a : Answer Content H) (last : Bool) → (reply ask env a last).after ≡ Keep → last ≡ false
reply_keeps ask env a true keeps = absurd (ends_by (broken_rule Server env a) ask a keeps)
reply_keeps ask env a false keeps = refl

module _ {H : Type 0} (S : Stacks H) (lives : List Life) (local : Local) (peer : List ℕ) (closing : Option ℕ) where
  -- behind a request that is the last the connection does not go on
  pub tell_keeps : (k : ℕ) (r : Parts) → (tell S lives local peer closing k r).after ≡ Keep → is_last closing k ≡ false
  tell_keeps k r keeps = reply_keeps (ask_of r) (env_pairs r peer local) (S (phase_at lives k) (env_pairs r peer local) r.body) (is_last closing k) keeps

  pub tell_never_keeps : NeverKeeps (tell S lives local peer closing) closing
  tell_never_keeps k r is keeps =
      let not_last : is_last (Some k) k ≡ false = subst (λ (o : Option ℕ). is_last o k ≡ false) is (tell_keeps k r keeps) in
      absurd (same_number k not_last)
    where
      one_of : (a b : Bool) → b ≡ true → (a || b) ≡ false → ⊥
      one_of true b is e = cc
      one_of false b is e = cc

      same_number : (k : ℕ) → is_last (Some k) k ≡ false → ⊥
      same_number k e =
          let is : (k == k) ≡ true = grind (arith, nat_tests) in one_of (k == 9999) (k == k) is e

-- below the last request there is a next one
pub not_last_below : (closing : Option ℕ) (k : ℕ) → k < 10000 → is_last closing k ≡ false → k < 9999
not_last_below closing k few e = go (k == 9999) (is_closing closing k) refl e
  where
    go : (b c : Bool) → (k == 9999) ≡ b → (b || c) ≡ false → k < 9999
    go true c is e = cc
    go false c is e = grind (arith, nat_tests, is, few)

-- where no reply closes by draining, the last request is the 10,000th
pub is_last_none : (k : ℕ) → is_last None k ≡ (k == 9999)
is_last_none k = or_no (k == 9999)
  where
    or_no : (b : Bool) → (b || false) ≡ b
    or_no true = refl
    or_no false = refl
