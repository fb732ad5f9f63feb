use Rattle.std.proofs.Common.{◌≡◌, Bool, true, false, [], ◌∷◌, refl, sym, subst, ◌∙◌}
use Rattle.rack_types.specs.declared.answer.Answer.{Answer}
use Rattle.rack_types.specs.Answer.{told}
use Rattle.rack_types.specs.Body.{Content}
use Rattle.rack_types.specs.Env.{Pairs}
use Rattle.talk_core.proofs.CallerLemmas.{also_appended, appended_none}
use Rattle.conn_steps.specs.Steps.{BeginsAt}
use Rattle.conn_steps.proofs.steps.run.Goals as goal

pub returns-in-Ok-clause-runs : goal.returns-in-Ok-clause-runs
returns-in-Ok-clause-runs g c =
    let env = c.args.env.now in
    let x : Answer Content g.row.H.Denot = told g.B.Body.content c.in-Ok.answer in
    record {
      answer = x;
      steady_is = λ e. c.in-Ok.ensures.answers e;
      begins = subst (λ (ps : Pairs). BeginsAt c.args.ask ps x c.args.last c.begin.result) c.in-Ok.ensures.same.pairs c.begin.ensures;
      tells = record {
        well = true;
        answered_is = c.in-Ok.ensures.answered ∙ also_appended x (g.R.Runner.answered c.args.runner.now);
        asked_is = c.in-Ok.ensures.asked ∙ also_appended ((env.pairs, env.input.bytes), true) (g.R.Runner.asked c.args.runner.now);
        refused = λ (e : true ≡ false). cc;
      };
      refused_is = λ (e : true ≡ false). cc;
    }

pub returns-in-Err-clause-runs : goal.returns-in-Err-clause-runs
returns-in-Err-clause-runs g c =
    let env = c.args.env.now in
    record {
      answer = g.R.Runner.answer c.args.runner.now env.pairs env.input.bytes;
      steady_is = λ e. refl;
      begins = tt;
      tells = record {
        well = false;
        answered_is = c.in-Err.ensures.answered ∙ appended_none (g.R.Runner.answered c.args.runner.now);
        asked_is = c.in-Err.ensures.asked ∙ also_appended ((env.pairs, env.input.bytes), false) (g.R.Runner.asked c.args.runner.now);
        refused = λ e. refl;
      };
      refused_is = λ e. refl;
    }
