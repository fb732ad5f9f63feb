use Rattle.std.proofs.Common.{◌<◌, ◌+◌, ◌*◌, rules, ◌∙◌, ap, arith}
use Rattle.builder_core.specs.Nodes.{numbered}
use Rattle.builder_core.specs.Places.{path_of, best}
use Rattle.builder_core.proofs.Calls.{at_node, means-run, means-use, means-found, means-unfound, means-cascade, found_is}
use Rattle.builder_core.proofs.Finding.{fits_within}
use Rattle.builder_core.proofs.calling.+call.Goals as goal

pub call_inside-call_node-requires : goal.call_inside-call_node-requires
call_inside-call_node-requires g t c κs within =
    let less : 2 * c.args.place.now.node < t = omega (arith, c.decreases) in
    search rules

pub call_node-call_worn-requires : goal.call_node-call_worn-requires
call_node-call_worn-requires g t c κs within =
    let is = at_node c.args.nodes.now c.args.at _ _ c.requires.there c.index-nodes-at.is c.in-Use.is in
    let low : c.in-Use.inner < c.args.at = c.requires.falls c.args.at _ is in
    let less : 2 * c.in-Use.inner + 1 < t = omega (arith, low, c.decreases) in
    search rules

pub call_node-call_inside-requires : goal.call_node-call_inside-requires
call_node-call_inside-requires g t c κs within =
    let is = at_node c.args.nodes.now c.args.at _ _ c.requires.there c.index-nodes-at.is c.in-Map.is in
    let found =
    c.in-Some.ensures
    ∙ ap (λ path. best path (numbered c.deref.result.now)) c.path_of.ensures
    ∙ ap (λ ps. best (path_of c.args.env.now.pairs) (numbered ps)) c.deref.ensures.value in
    let fit = found_is c.args.nodes.now c.requires.falls c.args.at (path_of c.args.env.now.pairs) c.in-Map.places _ is found in
    let fits = fits_within (path_of c.args.env.now.pairs) c.in-Some.place.now.path fit.0 in
    let low : c.in-Some.place.now.node < c.args.at = fit.1 in
    let less : 2 * c.in-Some.place.now.node + 1 < t = omega (arith, low, c.decreases) in
    search rules

pub call_node-returns-in-Run-clause-answers : goal.call_node-returns-in-Run-clause-answers
call_node-returns-in-Run-clause-answers g t c =
    let is = at_node c.args.nodes.now c.args.at _ _ c.requires.there c.index-nodes-at.is c.in-Run.is in
    rw (means-run g.E.Endpoint.answer c.args.nodes.now c.requires.falls c.args.at c.args.env.now.pairs c.args.env.now.input.bytes _ is) c.call_app.ensures.answers

pub call_node-returns-in-Use-clause-answers : goal.call_node-returns-in-Use-clause-answers
call_node-returns-in-Use-clause-answers g t c =
    let is = at_node c.args.nodes.now c.args.at _ _ c.requires.there c.index-nodes-at.is c.in-Use.is in
    rw (means-use g.E.Endpoint.answer c.args.nodes.now c.requires.falls c.args.at c.args.env.now.pairs c.args.env.now.input.bytes _ _ is) c.call_worn.ensures.answers

pub call_node-returns-in-None-clause-answers : goal.call_node-returns-in-None-clause-answers
call_node-returns-in-None-clause-answers g t c =
    let is = at_node c.args.nodes.now c.args.at _ _ c.requires.there c.index-nodes-at.is c.in-Map.is in
    let found =
    c.in-None.ensures
    ∙ ap (λ path. best path (numbered c.deref.result.now)) c.path_of.ensures
    ∙ ap (λ ps. best (path_of c.args.env.now.pairs) (numbered ps)) c.deref.ensures.value in
    rw (means-unfound g.E.Endpoint.answer c.args.nodes.now c.requires.falls c.args.at c.args.env.now.pairs c.args.env.now.input.bytes c.in-Map.places is found) c.say_not_found.ensures

pub call_node-returns-in-Some-clause-answers : goal.call_node-returns-in-Some-clause-answers
call_node-returns-in-Some-clause-answers g t c =
    let is = at_node c.args.nodes.now c.args.at _ _ c.requires.there c.index-nodes-at.is c.in-Map.is in
    let found =
    c.in-Some.ensures
    ∙ ap (λ path. best path (numbered c.deref.result.now)) c.path_of.ensures
    ∙ ap (λ ps. best (path_of c.args.env.now.pairs) (numbered ps)) c.deref.ensures.value in
    rw (means-found g.E.Endpoint.answer c.args.nodes.now c.requires.falls c.args.at c.args.env.now.pairs c.args.env.now.input.bytes c.in-Map.places _ is found) c.call_inside.ensures.answers

pub call_node-returns-in-Cascade-clause-answers : goal.call_node-returns-in-Cascade-clause-answers
call_node-returns-in-Cascade-clause-answers g t c =
    let is = at_node c.args.nodes.now c.args.at _ _ c.requires.there c.index-nodes-at.is c.in-Cascade.is in
    rw (means-cascade g.E.Endpoint.answer c.args.nodes.now c.requires.falls c.args.at c.args.env.now.pairs c.args.env.now.input.bytes _ is, ← c.deref-in-Cascade.ensures.value) c.call_first.ensures.answers
