use Rattle.std.proofs.Common.{◌≡◌, ◌≢◌, ℕ, ◌≤◌, List, codes, refl, ap, inl, inr}
use Rattle.conn_steps.specs.Opened.{opened}
use Rattle.conn_steps.specs.Shown.{Shown}
use Rattle.conn_core.specs.Shown.{shown, link_of}
use Rattle.conn_steps.specs.declared.state.State.TheVariants as state
use Rattle.conn_core.proofs.CallerLemmas.{ends_at, part_at}
use Rattle.puma_top.specs.Once.{once_peer, once_local, once_voice, stacks_of, most_taken}
use Rattle.puma_top.specs.OnceSteps.{site_of}
use Rattle.puma_top.proofs.ServeLemmas.{start_is, some_at, talk_ends, talk_long}
use Rattle.puma_top.proofs.once.talk.Goals as goal

pub drive-requires-clause-untold : goal.drive-requires-clause-untold
drive-requires-clause-untold g c = ap (λ (x : Shown). x.ending) c.in-Ok.ensures.opened.0

pub returns-then-is_over-clause-serves : goal.returns-then-is_over-clause-serves
returns-then-is_over-clause-serves g c =
    let k = c.in-Ok.conn in
    let m = c.drive.new.conn in
    let f = c.finish-link in
    let begins = c.in-Ok.ensures.opened in
    let peer : c.unwrap-peer.result ≡ once_peer = some_at (λ (p : List ℕ). p ≡ once_peer) _ _ c.new-2.ensures.value c.unwrap-peer.ensures in
    let name : c.unwrap.result ≡ codes "localhost" = some_at (λ (p : List ℕ). p ≡ codes "localhost") _ _ c.new.ensures.value c.unwrap.ensures in
    let start : shown k ≡ opened once_peer (once_local c.args.hijack) 0 0 = start_is c.args.hijack (shown k) c.unwrap-peer.result c.unwrap.result peer name begins.0 in
    let holds = c.drive.ensures.holds (stacks_of (site_of c.args.runner c.args.hijack)) refl (λ ps input. refl) (c.in-Ok.ensures.holds (stacks_of (site_of c.args.runner c.args.hijack))) in
    talk_ends g.L.Link.seen (site_of c.args.runner c.args.hijack) (shown k) (shown m) c.args.link (link_of k) (link_of m) f.result.link start c.drive.ensures.drives begins.2
    f.ensures.given.1 c.requires.told c.requires.front c.requires.whole c.status_of.result f.result.why c.status_of.ensures f.ensures.why
    (ends_at g.L.Link.seen once_voice (stacks_of (site_of c.args.runner c.args.hijack)) m f.result.why f.ensures.why holds)

pub returns-clause-serves : goal.returns-clause-serves
returns-clause-serves g c =
    let k = c.in-Ok.conn in
    let m = c.drive.new.conn in
    let begins = c.in-Ok.ensures.opened in
    let peer : c.unwrap-peer.result ≡ once_peer = some_at (λ (p : List ℕ). p ≡ once_peer) _ _ c.new-2.ensures.value c.unwrap-peer.ensures in
    let name : c.unwrap.result ≡ codes "localhost" = some_at (λ (p : List ℕ). p ≡ codes "localhost") _ _ c.new.ensures.value c.unwrap.ensures in
    let start : shown k ≡ opened once_peer (once_local c.args.hijack) 0 0 = start_is c.args.hijack (shown k) c.unwrap-peer.result c.unwrap.result peer name begins.0 in
    let holds = c.drive.ensures.holds (stacks_of (site_of c.args.runner c.args.hijack)) refl (λ ps input. refl) (c.in-Ok.ensures.holds (stacks_of (site_of c.args.runner c.args.hijack))) in
    let live : (shown m).state ≢ state.Over = λ e. let is = c.is_over.ensures.1 e in cc (is, c.if-is_over.false) in
    let long : most_taken ≤ (shown m).taken = elim c.drive.ensures.done [ inl x ↦ absurd (live x) | inr x ↦ x ] in
    talk_long g.L.Link.seen (site_of c.args.runner c.args.hijack) (shown k) (shown m) c.args.link (link_of k) (link_of m) c.abandon.result start c.drive.ensures.drives begins.2
    c.abandon.ensures c.requires.fresh.given_is long (part_at g.L.Link.seen once_voice (stacks_of (site_of c.args.runner c.args.hijack)) m live holds)
