use Rattle.std.proofs.Common.{◌≡◌, ℕ, ◌<◌, List, ◌++◌, length, refl, sym, ◌∙◌, ap, subst, arith}
use Rattle.puma_ctl.specs.Back.{KeepsHead, got_of}
use Rattle.puma_ctl.specs.Reply.{AwaitsReply}
use Rattle.puma_ctl.specs.declared.back.Got.TheVariants.{More}
use Rattle.puma_ctl.proofs.FoundLemmas.{answered, awaits_more, few_await, keeps_head, settled}
use Rattle.puma_ctl.proofs.back.Back.feed.Goals as goal

pub returns-in_default : goal.returns-in_default
returns-in_default c =
    let other : got_of c.self.inside.found ≡ More → ⊥ = λ is. c.in_default.not-More (c.got-got.ensures ∙ is) in record {
      feeds = (
        answered c.self.inside.found c.self.inside.bytes.items c.args.self.now c.got-got.result c.self.invariant c.self.view_is c.got-got.ensures,
        λ awaits. absurd (settled c.self.inside.found c.self.inside.bytes.items c.self.invariant other
            (subst (λ (w : List ℕ). AwaitsReply w) (sym c.self.view_is) awaits)),
        λ over. refl,
      );
      bounded = λ is. absurd (let more : c.got-got.result ≡ More = cc in c.in_default.not-More more);
    }

pub behind-found-requires : goal.behind-found-requires
behind-found-requires c =
    let more : got_of c.self.inside.found ≡ More = sym c.got-got.ensures ∙ c.in-More.is in
    subst (λ (w : List ℕ). KeepsHead c.self.inside.found w) (sym (c.deref.ensures.value ∙ c.in_ok-extend_from_slice.ensures.items))
    (keeps_head c.self.inside.found c.self.inside.bytes.items c.args.piece.now
    (awaits_more c.self.inside.found c.self.inside.bytes.items c.self.invariant more) c.self.invariant)

pub returns-clause-feeds : goal.returns-clause-feeds
returns-clause-feeds c =
    let more : got_of c.self.inside.found ≡ More = sym c.got-got.ensures ∙ c.in-More.is in (
      answered c.behind-found.result c.deref.result.now c.extend_from_slice.new.self.items c.got.result c.behind-found.ensures c.deref.ensures.value c.got.ensures,
      λ awaits. c.in_ok-extend_from_slice.ensures.items ∙ ap (λ (w : List ℕ). w ++ c.args.piece.now) c.self.view_is,
      λ over. absurd (over (subst (λ (w : List ℕ). AwaitsReply w) c.self.view_is
          (awaits_more c.self.inside.found c.self.inside.bytes.items c.self.invariant more))),
    )

pub returns-clause-bounded : goal.returns-clause-bounded
returns-clause-bounded c = λ is.
    let more : c.got.result ≡ More = cc in
    let few = few_await c.behind-found.result c.deref.result.now c.behind-found.ensures (sym c.got.ensures ∙ more) in
    omega (arith, few, ap length c.deref.ensures.value)
