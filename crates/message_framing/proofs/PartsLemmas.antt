-- From the parser's places to the parts of a request.
use Rattle.std.proofs.Common.{◌≡◌, ℕ, ◌+◌, ◌-◌, ◌≤◌, Bool, true, false, List, [], length, map, take, MatchBool, Option, None, Some, inr, refl, ap, sym, ◌∙◌, arith, subst, codes}
use Rattle.std.specs.Option.{option_map}
use Rattle.std.specs.List.{slice_range}
use Rattle.std.specs.Str.{bytes_eq}
use Rattle.httparse.specs.declared.spans.Span.{Span}
use Rattle.httparse.specs.declared.spans.HeaderSpan.{HeaderSpan}
use Rattle.httparse.specs.declared.spans.RequestSpans.{RequestSpans}
use Rattle.httparse.specs.Grammar.{RequestHead}
use Rattle.httparse.specs.Spans.{IsRequestAt, IsWithin, header_bytes, span_bytes}
use Rattle.rack_types.specs.declared.request.Spans.{Spans}
use Rattle.rack_types.specs.declared.fault.Fault.{Fault}
use Rattle.rack_types.specs.declared.fault.Fault.TheVariants.{F}
use Rattle.rack_types.specs.declared.limits.Version.{Version}
use Rattle.rack_types.specs.Request.{IsWithinIf, Parts, parts_at, path_or_root, span_bytes_if}
use Rattle.message_framing.specs.declared.fields.Framing.{Framing}
use Rattle.message_framing.specs.declared.target.TargetSpans.{TargetSpans}
use Rattle.message_framing.specs.HeadText.{head_text}
use Rattle.message_framing.specs.Target.{Target, target_of}
use Rattle.message_framing.specs.Framing.{fields_fault, framing_of}
use Rattle.message_framing.specs.Head.{head_fault, head_framing, fields_of, is_chunked, request_with, version_of}
use Rattle.message_framing.specs.Places.{PartsAs, PartsTarget, ReadsHead, RefusedIn, RefusesHead, SpansTarget, StandsIn, StandsHead, shifted_by}
use Rattle.message_framing.specs.Request.{has_too_many_lines}
use Rattle.message_framing.proofs.SliceLemmas.{slice_slice, length-slice}

-- the refusals that come before the fields
pub fault_connect : (h : RequestHead) → bytes_eq h.method (codes "CONNECT") ≡ true → head_fault h ≡ Some (F 4)
unfolding head_fault
fault_connect h is = rw is refl

pub fault_formless : (h : RequestHead) → bytes_eq h.method (codes "CONNECT") ≡ false → target_of h.method h.target ≡ None
    → head_fault h ≡ Some (F 5)
unfolding head_fault
fault_formless h other none = rw (other, none) refl

pub fault_fields : (h : RequestHead) (t : Target) → bytes_eq h.method (codes "CONNECT") ≡ false → target_of h.method h.target ≡ Some t
    → head_fault h ≡ fields_fault (version_of h.minor) (fields_of h)
unfolding head_fault
fault_fields h t other form = rw (other, form) refl

-- no spans: no target
pub no_target : (w : List ℕ) (o : Option Target) → PartsTarget None w o → o ≡ None
no_target w None h = refl
no_target w (Some t) h = absurd h

-- spans: their target
pub some_target : (spans : TargetSpans) (w : List ℕ) (o : Option Target) → PartsTarget (Some spans) w o
    → (t : Target) × (o ≡ Some t) × SpansTarget spans w t
some_target spans w None h = absurd h
some_target spans w (Some t) h = (t, refl, h)

-- a span of the target is a span of the text
pub span_shifted : (text w : List ℕ) (s e : ℕ) (span : Span) → slice_range text s e ≡ w → s ≤ e → e ≤ length text
    → IsWithin (length w) span → span_bytes text (shifted_by s span) ≡ span_bytes w span
span_shifted text w s e span is order fits within =
    let size : length w ≡ e - s = ap length (sym is) ∙ length-slice text s e order fits in
    let inside : s + span.end ≤ e = omega (arith, within.1, size, order) in
    slice_slice text s e span.start span.end within.0 inside ∙ ap (λ v. slice_range v span.start span.end) is

pub span_shifted_if : (text w : List ℕ) (s e : ℕ) (span : Option Span) → slice_range text s e ≡ w → s ≤ e → e ≤ length text
    → IsWithinIf (length w) span → span_bytes_if text (option_map (shifted_by s) span) ≡ span_bytes_if w span
span_shifted_if text w s e None is order fits within = refl
span_shifted_if text w s e (Some span) is order fits within = ap Some (span_shifted text w s e span is order fits within)

-- a shifted span lies in the text
pub within_shifted : (text w : List ℕ) (s e : ℕ) (span : Span) → slice_range text s e ≡ w → s ≤ e → e ≤ length text
    → IsWithin (length w) span → IsWithin (length text) (shifted_by s span)
within_shifted text w s e span is order fits within =
    let size : length w ≡ e - s = ap length (sym is) ∙ length-slice text s e order fits in
    (omega (arith, within.0), omega (arith, within.1, size, order, fits))

pub within_shifted_if : (text w : List ℕ) (s e : ℕ) (span : Option Span) → slice_range text s e ≡ w → s ≤ e → e ≤ length text
    → IsWithinIf (length w) span → IsWithinIf (length text) (option_map (shifted_by s) span)
within_shifted_if text w s e None is order fits within = tt
within_shifted_if text w s e (Some span) is order fits within = within_shifted text w s e span is order fits within

-- the parts of the request
pub parts_of_head : (text : List ℕ) (places : List HeaderSpan) (head : RequestSpans) (spans : TargetSpans) (h : RequestHead) (t : Target)
    (start : ℕ) (version : Version) (body : List ℕ) → IsRequestAt text places head h → head.path.start ≤ head.path.end → head.path.end ≤ length text
    → SpansTarget spans h.target t → version ≡ version_of h.minor
    → parts_at text places (record {
      start = start;
      method = head.method;
      path = shifted_by head.path.start spans.path;
      query = shifted_by head.path.start spans.query;
      authority = option_map (shifted_by head.path.start) spans.authority;
      version = version;
      fields = head.headers;
    }) body (is_chunked (head_framing h))
    ≡ request_with h t body
unfolding request_with
parts_of_head text places head spans h t start version body at order fits cover minor =
    let path = ap path_or_root (span_shifted text h.target _ _ spans.path at.path order fits cover.path_fits) ∙ cover.path in
    let query = span_shifted text h.target _ _ spans.query at.path order fits cover.query_fits ∙ cover.query in
    let authority = span_shifted_if text h.target _ _ spans.authority at.path order fits cover.authority_fits ∙ cover.authority in
    rw (at.method, path, query, authority, minor, at.fields) refl

-- what is read of a head before its body is known: its version and fields are those of the head
pub record HasFields (h : RequestHead) (r : Parts) : Type 0 where
  pub version : r.version ≡ version_of h.minor
  pub fields : r.fields ≡ fields_of h

fields_same : (text : List ℕ) (places : List HeaderSpan) (spans : Spans) (h : RequestHead) → PartsAs text places spans h
    → HasFields h (parts_at text places spans [] false)
unfolding request_with
fields_same text places spans h p = record {
  version = ap (λ (q : Parts). q.version) (p.parts []);
  fields = ap (λ (q : Parts). q.fields) (p.parts []);
}

-- what its fields earn, the head earns
fault_same : (h : RequestHead) (t : Target) (r : Parts) → bytes_eq h.method (codes "CONNECT") ≡ false → target_of h.method h.target ≡ Some t
    → HasFields h r → head_fault h ≡ fields_fault r.version r.fields
fault_same h t r other form same =
    fault_fields h t other form ∙ ap (λ v. fields_fault v (fields_of h)) (sym same.version) ∙ ap (fields_fault r.version) (sym same.fields)

-- a head whose fields earn no refusal, and how its body is framed
pub stands_in : (text : List ℕ) (places : List HeaderSpan) (s : RequestSpans) (spans : Spans) (g : Framing)
    → ReadsHead text places s → ((h : RequestHead) → IsRequestAt text places s h → PartsAs text places spans h)
    → fields_fault spans.version (map (header_bytes text) (take spans.fields places)) ≡ None
    → g ≡ framing_of (map (header_bytes text) (take spans.fields places)) → StandsIn text (parts_at text places spans [] (is_chunked g)) g
stands_in text places s spans g reads parts none framing =
    let h = reads.head.0 in
    let p = parts h reads.head.2 in
    let same = fields_same text places spans h p in
    let fault : head_fault h ≡ None = fault_same h p.target _ p.no_connect p.form same ∙ none in
    let framing_is : g ≡ head_framing h = framing ∙ ap framing_of same.fields in
    let whole : parts_at text places spans [] (is_chunked g) ≡ request_with h p.target [] =
    ap (λ (f : Framing). parts_at text places spans [] (is_chunked f)) framing_is ∙ p.parts [] in
    (h, reads.head.1, fault, framing_is, (p.target, p.form, whole))

-- a head whose fields earn one
pub refused_fields : (text : List ℕ) (places : List HeaderSpan) (s : RequestSpans) (spans : Spans) (f : Fault)
    → ReadsHead text places s → ((h : RequestHead) → IsRequestAt text places s h → PartsAs text places spans h)
    → fields_fault spans.version (map (header_bytes text) (take spans.fields places)) ≡ Some f → RefusedIn text f
refused_fields text places s spans f reads parts some =
    let h = reads.head.0 in
    let p = parts h reads.head.2 in
    let same = fields_same text places spans h p in
    inr (h, reads.head.1, fault_same h p.target _ p.no_connect p.form same ∙ some)

-- a head that is refused before its fields
pub refused_early : (text : List ℕ) (places : List HeaderSpan) (s : RequestSpans) (f : Fault) → ReadsHead text places s
    → ((h : RequestHead) → IsRequestAt text places s h → head_fault h ≡ Some f) → RefusedIn text f
refused_early text places s f reads tells = inr (reads.head.0, reads.head.1, tells reads.head.0 reads.head.2)

-- the same of the text, whose lines are few enough
pub few_stands : (text bytes : List ℕ) (r : Parts) (g : Framing) → has_too_many_lines text ≡ false → text ≡ head_text bytes → StandsIn text r g
    → StandsHead (head_text bytes) r g
few_stands text bytes r g few is h =
    subst (λ (t : List ℕ). StandsHead t r g) is (subst (λ (b : Bool). MatchBool b ⊥ (StandsIn text r g)) (sym few) h)

pub few_refused : (text bytes : List ℕ) (f : Fault) → has_too_many_lines text ≡ false → text ≡ head_text bytes → RefusedIn text f
    → RefusesHead (head_text bytes) f
few_refused text bytes f few is h =
    subst (λ (t : List ℕ). RefusesHead t f) is (subst (λ (b : Bool). MatchBool b (f ≡ F 2) (RefusedIn text f)) (sym few) h)
