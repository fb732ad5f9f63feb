use Rattle.std.proofs.Common.{refl}
use Rattle.lint_core.proofs.OrderLemmas.{env_by_halves}
use Rattle.lint_core.proofs.env_rules.check_env.Goals as goal

pub returns-in-Some : goal.returns-in-Some
returns-in-Some c =
    rw (env_by_halves c.args.env.now.pairs, ← c.is_method_wrong.ensures, ← c.is_server_name_wrong.ensures, ← c.is_missing.ensures, ← c.is_neither.ensures, ← c.is_neither-2.ensures, ← c.first_of-first.ensures, c.in-Some.is) refl

pub returns : goal.returns
returns c =
    rw (
      env_by_halves c.args.env.now.pairs,
      ← c.is_method_wrong.ensures,
      ← c.is_server_name_wrong.ensures,
      ← c.is_missing.ensures,
      ← c.is_neither.ensures,
      ← c.is_neither-2.ensures,
      ← c.first_of-first.ensures,
      c.in_default.is,
      ← c.is_missing-2.ensures,
      ← c.is_script_name_wrong.ensures,
      ← c.is_path_wrong.ensures,
      ← c.is_content_misnamed.ensures,
      ← c.is_length_wrong.ensures,
    ) c.first_of.ensures
