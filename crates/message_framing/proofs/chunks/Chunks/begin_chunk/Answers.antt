use Rattle.std.proofs.Common.{refl, arith, ◌<◌, ◌≤◌, ◌-◌, length, List, ℕ, subst}
use Rattle.message_framing.specs.Chunks.{NamesSize, NamesNone}
use Rattle.message_framing.specs.Framing.{body_limit}
use Rattle.message_framing.proofs.SizeLineLemmas.{bad_size_line, over_size_line, last_begins, chunk_begins}
use Rattle.message_framing.proofs.chunks.Chunks.begin_chunk.Goals as goal

pub returns-in_default : goal.returns-in_default
returns-in_default c = λ b at.
    bad_size_line c.args.self.now b at (subst (λ (w : List ℕ). NamesNone w) c.deref.ensures.value c.in_default.ensures.none)

pub returns-then-size-left : goal.returns-then-size-left
returns-then-size-left c = λ b at.
    let named : NamesSize c.args.self.now.text.items c.in-Some.size = subst (λ (w : List ℕ). NamesSize w c.in-Some.size) c.deref.ensures.value c.in-Some.ensures.names in
    let over : body_limit - length c.args.self.now.bytes.items < c.in-Some.size =
    omega (arith, c.if-size-left.true, c.saturating_sub-left.ensures, c.len.ensures) in
    over_size_line c.args.self.now b c.in-Some.size at named over

pub returns-then-size-eq0 : goal.returns-then-size-eq0
returns-then-size-eq0 c = (
  refl,
  λ b at.
      let named : NamesSize c.args.self.now.text.items c.in-Some.size = subst (λ (w : List ℕ). NamesSize w c.in-Some.size) c.deref.ensures.value c.in-Some.ensures.names in
      let zero_named : NamesSize c.args.self.now.text.items 0 = subst (λ (k : ℕ). NamesSize c.args.self.now.text.items k) c.if-size-eq0.true named in
      last_begins c.args.self.now _ b at zero_named refl c.clear.ensures.items,
)

pub returns-in_ok-reserve : goal.returns-in_ok-reserve
returns-in_ok-reserve c = (
  refl,
  λ b at.
      let named : NamesSize c.args.self.now.text.items c.in-Some.size = subst (λ (w : List ℕ). NamesSize w c.in-Some.size) c.deref.ensures.value c.in-Some.ensures.names in
      let some : 0 < c.in-Some.size = omega (arith, c.if-size-eq0.false) in
      let fits : c.in-Some.size ≤ body_limit - length c.args.self.now.bytes.items = omega (arith, c.if-size-left.false, c.saturating_sub-left.ensures, c.len.ensures) in
      chunk_begins c.args.self.now _ b c.in-Some.size at named some fits c.reserve.ensures.items c.clear.ensures.items c.in_ok-reserve.ensures.ok,
)
