-- What the parser's places say of a head text, and of a target.
use Rattle.std.specs.Prelude.{◌≡◌, ◌+◌, ◌⊎◌, List, [], ℕ, MatchBool, false, length, Option, None, Some, bytes_eq, codes}
use Rattle.httparse.specs.declared.spans.Span.{Span}
use Rattle.httparse.specs.declared.spans.HeaderSpan.{HeaderSpan}
use Rattle.httparse.specs.declared.spans.RequestSpans.{RequestSpans}
use Rattle.httparse.specs.Grammar.{RequestHead}
use Rattle.httparse.specs.Spans.{IsRequestAt, IsRequestWithin, IsWithin, span_bytes}
use Rattle.rack_types.specs.declared.fault.Fault.{Fault}
use Rattle.rack_types.specs.declared.fault.Fault.TheVariants.{F}
use Rattle.rack_types.specs.Request.{IsWithinIf, Parts, parts_at, path_or_root, span_bytes_if}
use Rattle.rack_types.specs.declared.request.Spans.{Spans}
use Rattle.message_framing.specs.declared.target.TargetSpans.{TargetSpans}
use Rattle.message_framing.specs.declared.fields.Framing.{Framing}
use Rattle.message_framing.specs.Head.{IsHead, IsNoHead, IsRequestOf, head_fault, head_framing, is_chunked, request_with}
use Rattle.message_framing.specs.Request.{has_too_many_lines}
use Rattle.message_framing.specs.Target.{Target, target_of}

-- the places are those of the head that the text is
pub record ReadsHead (text : List ℕ) (places : List HeaderSpan) (s : RequestSpans) : Type 0 where
  pub within : IsRequestWithin text places s
  pub len : s.len ≡ length text
  pub head : (h : RequestHead) × IsHead text h × IsRequestAt text places s h

-- the spans cover the parts of that target
pub record SpansTarget (spans : TargetSpans) (bytes : List ℕ) (target : Target) : Type 0 where
  pub authority_fits : IsWithinIf (length bytes) spans.authority
  pub path_fits : IsWithin (length bytes) spans.path
  pub query_fits : IsWithin (length bytes) spans.query
  pub authority : span_bytes_if bytes spans.authority ≡ target.authority
  pub path : path_or_root (span_bytes bytes spans.path) ≡ target.path
  pub query : span_bytes bytes spans.query ≡ target.query

-- there are spans exactly where the bytes are a target, and they cover its parts
abbrev pub PartsTarget : Option TargetSpans → List ℕ → Option Target → Type 0
PartsTarget None bytes None = Unit {0}
PartsTarget (Some spans) bytes (Some target) = SpansTarget spans bytes target
PartsTarget None bytes (Some target) = ⊥
PartsTarget (Some spans) bytes None = ⊥

-- the span of the same bytes, counted from a place further in front
abbrev pub shifted_by : ℕ → Span → Span
shifted_by by span = record { start = by + span.start; end = by + span.end }

-- the spans cover the parts of the request with that head, whose target has a form, whatever its body is
pub record PartsAs (text : List ℕ) (places : List HeaderSpan) (spans : Spans) (h : RequestHead) : Type 0 where
  pub target : Target
  pub form : target_of h.method h.target ≡ Some target
  pub no_connect : bytes_eq h.method (codes "CONNECT") ≡ false
  pub parts : (body : List ℕ) → parts_at text places spans body (is_chunked (head_framing h)) ≡ request_with h target body

-- the text is a head that earns no refusal, and this is its request, without a body, and how the body is framed
abbrev pub StandsIn : List ℕ → Parts → Framing → Type 0
StandsIn text r framing =
    (h : RequestHead) × IsHead text h × (head_fault h ≡ None) × (framing ≡ head_framing h) × IsRequestOf h [] r

-- the same, with few enough lines
abbrev pub StandsHead : List ℕ → Parts → Framing → Type 0
StandsHead text r framing = MatchBool (has_too_many_lines text) ⊥ (StandsIn text r framing)

-- the refusal that the text earns as a head, whose lines are few enough
abbrev pub RefusedIn : List ℕ → Fault → Type 0
RefusedIn text f = (IsNoHead text × (f ≡ F 3)) ⊎ ((h : RequestHead) × IsHead text h × (head_fault h ≡ Some f))

-- the refusal that the text earns as a head
abbrev pub RefusesHead : List ℕ → Fault → Type 0
RefusesHead text f = MatchBool (has_too_many_lines text) (f ≡ F 2) (RefusedIn text f)
