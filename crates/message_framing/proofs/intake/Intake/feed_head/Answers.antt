use Rattle.std.proofs.Common.{◌≡◌, ◌≢◌, ◌≤◌, ◌<◌, ◌+◌, ◌-◌, ◌++◌, List, ℕ, None, Some, length, take, refl, ap, sym, ◌∙◌, subst, arith, length-take}
use Rattle.std.proofs.lemmas.Bool.{eqb-true, eqb-false}
use Rattle.std.proofs.lemmas.List.{take_all, take-take, take-append-drop}
use Rattle.rack_types.specs.declared.fault.Fault.TheVariants.{F}
use Rattle.message_framing.specs.declared.scan.Line.TheVariants.{Skipping}
use Rattle.message_framing.specs.declared.standing.Standing.TheVariants as at
use Rattle.message_framing.specs.Request.{head_limit, Refusal}
use Rattle.message_framing.specs.Scan.{ends, behind}
use Rattle.message_framing.proofs.ScanLemmas.{ends_within, ended_behind, behind_append}
use Rattle.message_framing.proofs.FeedHeadLemmas.{open_of, completes, goes_on, passes, appended, judged, judged_closed, unended_within, ended_line}
use Rattle.message_framing.proofs.FedLemmas.{holds}
use Rattle.message_framing.proofs.intake.Intake.feed_head.Goals as goal

pub prefix-requires : goal.prefix-requires
prefix-requires c = (ends_within _ _ _ (sym c.in-Some.ensures.end)).1

pub returns-in-Some : goal.returns-in-Some
returns-in-Some c =
    let old = c.args.self.now in
    let piece = c.args.piece.now in
    let near : c.split_at.result.0.now ≡ take c.min.result piece = c.split_at.ensures.front in
    let found : ends old.line (take c.min.result piece) ≡ Some c.in-Some.n = ap (ends old.line) (sym near) ∙ sym c.in-Some.ensures.end in
    let part : c.in-Some.n ≤ length (take c.min.result piece) = (ends_within _ _ _ found).1 in
    let inside : c.in-Some.n ≤ c.min.result = omega (arith, part, length-take c.min.result piece) in (
      omega (arith, part, length-take c.min.result piece),
      judged_closed c.judge.new.self.standing _ c.judge.ensures.stands,
      λ b fed.
          (let open_now = open_of old b fed c.requires in
          let size : length old.bytes.items ≡ length b = ap length open_now.0.bytes in
          let room : c.min.result ≤ head_limit - length b = omega (arith, c.min.ensures, c.saturating_sub-room.ensures, c.len.ensures, size) in
          let ending = completes b piece old.line c.min.result c.in-Some.n open_now.1 room found in
          let kept : c.prefix.result.now ≡ take c.in-Some.n piece =
          c.prefix.ensures ∙ ap (take c.in-Some.n) near ∙ take-take c.in-Some.n c.min.result piece inside in
          let head : c.extend_from_slice.new.self.items ≡ b ++ take c.in-Some.n piece =
          appended c.extend_from_slice.result c.unwrap.result c.extend_from_slice.new.self.items old.bytes.items c.prefix.result.now
          c.extend_from_slice.ensures.items c.unwrap.ensures
          ∙ ap (λ w. w ++ c.prefix.result.now) open_now.0.bytes ∙ ap (λ w. b ++ w) kept in
          let line : c.judge.new.self.line ≡ behind Skipping (b ++ take c.in-Some.n piece) =
          c.judge.ensures.line ∙ c.in-Some.ensures.line ∙ ap (behind old.line) near
          ∙ ended_behind old.line (take c.min.result piece) c.in-Some.n found ∙ sym (ended_line _ _ ending.whole) in
          judged c.judge.new.self.standing c.judge.new.self b piece _ c.in-Some.n ending head (unended_within b old.line open_now.1) line refl
          c.judge.ensures.stands),
    )

pub returns-in-None : goal.returns-in-None
returns-in-None c = (
  c.requires,
  λ b fed.
      (let old = c.args.self.now in
      let piece = c.args.piece.now in
      let open_now = open_of old b fed c.requires in
      let size : length old.bytes.items ≡ length b = ap length open_now.0.bytes in
      let none_left : length c.split_at.result.1.now ≡ 0 = eqb-true _ _ (sym c.if-is_empty.ensures) in
      let all : length piece ≤ c.min.result = omega (arith, none_left, c.split_at.ensures.back_len) in
      let near : c.split_at.result.0.now ≡ piece = c.split_at.ensures.front ∙ take_all c.min.result piece all in
      let fits : length b + length piece ≤ head_limit =
      omega (arith, all, size, open_now.0.within, c.min.ensures, c.saturating_sub-room.ensures, c.len.ensures) in
      let none : ends old.line piece ≡ None = ap (ends old.line) (sym near) ∙ sym c.in-None.ensures.end in
      let later = goes_on b piece old.line open_now.1 fits none in
      holds _ at.Open (b ++ piece) c.requires (c.in-None.ensures.line ∙ ap (behind old.line) near ∙ later.1.line_is) (record {
        bytes = appended c.extend_from_slice-in-None.result c.unwrap-in-None.result c.extend_from_slice-in-None.new.self.items old.bytes.items
            c.split_at.result.0.now c.extend_from_slice-in-None.ensures.items c.unwrap-in-None.ensures
            ∙ ap (λ w. w ++ c.split_at.result.0.now) open_now.0.bytes ∙ ap (λ w. b ++ w) near;
        within = later.1.within;
        unended = later.1.unended;
      })),
)

pub returns-in-None-2 : goal.returns-in-None-2
returns-in-None-2 c = (
  omega arith,
  λ is. cc,
  λ b fed.
      (let old = c.args.self.now in
      let piece = c.args.piece.now in
      let open_now = open_of old b fed c.requires in
      let size : length old.bytes.items ≡ length b = ap length open_now.0.bytes in
      let near : c.split_at.result.0.now ≡ take c.min.result piece = c.split_at.ensures.front in
      let none : ends old.line (take c.min.result piece) ≡ None = ap (ends old.line) (sym near) ∙ sym c.in-None.ensures.end in
      let some_left : length c.split_at.result.1.now ≢ 0 = eqb-false _ _ (sym c.if-is_empty.ensures) in
      let long : c.min.result < length piece = omega (arith, some_left, c.split_at.ensures.back_len) in
      let room : c.min.result ≡ head_limit - length b = omega (arith, c.min.ensures, c.saturating_sub-room.ensures, c.len.ensures, size, long) in
      let stands : Refusal (b ++ piece) (F 1) = passes b piece old.line c.min.result open_now.1 room long none in
      let parts : c.split_at.result.0.now ++ c.split_at.result.1.now ≡ piece =
      ap (λ w. w ++ c.split_at.result.1.now) near ∙ ap (λ w. take c.min.result piece ++ w) c.split_at.ensures.back ∙ take-append-drop c.min.result piece in
      let line : c.scan-in-None-2.new.self ≡ behind Skipping (b ++ piece) =
      c.scan-in-None-2.ensures.line ∙ ap (λ l. behind l c.split_at.result.1.now) c.in-None.ensures.line
      ∙ sym (behind_append old.line c.split_at.result.0.now c.split_at.result.1.now) ∙ ap (behind old.line) parts
      ∙ ap (λ l. behind l piece) fed.line ∙ sym (behind_append Skipping b piece) in
      let order : length piece ≤ length piece = omega arith in
      let whole : b ++ piece ≡ b ++ take (length piece) piece = ap (λ w. b ++ w) (sym (take_all (length piece) piece order)) in
      holds _ (at.Refused (F 1)) _ refl (line ∙ ap (behind Skipping) whole) (subst (λ (w : List ℕ). Refusal w (F 1)) whole stands)),
)
