use Rattle.std.proofs.Common.{◌≡◌, ap, sym, ◌∙◌, ◌&&◌, not}
use Rattle.rack_types.specs.AnswerRules.{differ, is_bare}
use Rattle.rack_types.specs.RuleWords.{first_broken}
use Rattle.lint_core.specs.Found.{number_of, length_rules, method_rules}
use Rattle.lint_core.proofs.OrderLemmas.{status_decides, names_decide, lengths_decide, hijack_decides, methods_decide}
use Rattle.lint_core.proofs.answer_rules.check_head.Goals as goal

pub returns-then-is_status_wrong : goal.returns-then-is_status_wrong
returns-then-is_status_wrong c =
    status_decides c.args.set c.args.env.now.pairs c.args.status c.args.headers.now c.args.known c.args.part (sym c.is_status_wrong.ensures ∙ c.if-is_status_wrong.true)

pub returns-in-Some : goal.returns-in-Some
returns-in-Some c =
    names_decide c.args.set c.args.env.now.pairs c.args.status c.args.headers.now c.args.known c.args.part c.look_through-found.result c.look_through-found.ensures (sym c.is_status_wrong.ensures ∙ c.if-is_status_wrong.false)
    c.in-Some.rule (sym c.broken_by_names.ensures ∙ c.in-Some.is)

pub returns-in-Some-broken_by_length : goal.returns-in-Some-broken_by_length
returns-in-Some-broken_by_length c =
    let found = c.look_through-found.result in
    let lengths : c.broken_by_length.result ≡ first_broken (length_rules found (is_bare c.args.status)) = c.broken_by_length.ensures ∙ ap (λ b. first_broken (length_rules found b)) c.has_no_body-bare.ensures in
    lengths_decide c.args.set c.args.env.now.pairs c.args.status c.args.headers.now c.args.known c.args.part c.look_through-found.result c.look_through-found.ensures (sym c.is_status_wrong.ensures ∙ c.if-is_status_wrong.false)
    c.in-Some-broken_by_length.rule (sym c.broken_by_names.ensures ∙ c.in_default.is) (sym lengths ∙ c.in-Some-broken_by_length.is)

pub returns-then-is_hijack_wrong : goal.returns-then-is_hijack_wrong
returns-then-is_hijack_wrong c =
    let found = c.look_through-found.result in
    let lengths : c.broken_by_length.result ≡ first_broken (length_rules found (is_bare c.args.status)) = c.broken_by_length.ensures ∙ ap (λ b. first_broken (length_rules found b)) c.has_no_body-bare.ensures in
    hijack_decides c.args.set c.args.env.now.pairs c.args.status c.args.headers.now c.args.known c.args.part c.look_through-found.result c.look_through-found.ensures (sym c.is_status_wrong.ensures ∙ c.if-is_status_wrong.false)
    (sym c.broken_by_names.ensures ∙ c.in_default.is) (sym lengths ∙ c.in_default-broken_by_length.is) (sym c.is_hijack_wrong.ensures ∙ c.if-is_hijack_wrong.true)

pub returns : goal.returns
returns c =
    let found = c.look_through-found.result in
    let lengths : c.broken_by_length.result ≡ first_broken (length_rules found (is_bare c.args.status)) = c.broken_by_length.ensures ∙ ap (λ b. first_broken (length_rules found b)) c.has_no_body-bare.ensures in
    let other : c.is_other.result ≡ (differ (number_of found.length) c.args.known && not (is_bare c.args.status)) = c.is_other.ensures ∙ ap (λ b. differ (number_of found.length) c.args.known && not b) c.has_no_body-bare.ensures in
    methods_decide c.args.set c.args.env.now.pairs c.args.status c.args.headers.now c.args.known c.args.part c.look_through-found.result c.look_through-found.ensures (sym c.is_status_wrong.ensures ∙ c.if-is_status_wrong.false)
    c.broken_by_method.result (sym c.broken_by_names.ensures ∙ c.in_default.is) (sym lengths ∙ c.in_default-broken_by_length.is) (sym c.is_hijack_wrong.ensures ∙ c.if-is_hijack_wrong.false)
    (c.broken_by_method.ensures ∙ ap (λ o. first_broken (method_rules c.args.set c.args.env.now.pairs o c.args.known)) other)
