-- What a request keeps. This serves inner contracts alone.
use Rattle.std.specs.Prelude.{◌≡◌, ℕ, ◌≤◌, Bool, List, length, drop}
use Rattle.httparse.specs.declared.spans.HeaderSpan.{HeaderSpan}
use Rattle.rack_types.specs.declared.request.Spans.{Spans}
use Rattle.rack_types.specs.Limits.{stock_limits}
use Rattle.rack_types.specs.Request.{SpansFit, parts_at}
use Rattle.rack_types.specs.Sound.{IsSound}

-- a head, which begins behind the empty lines that were skipped, with its spans, in room for any head and
-- its fields; and its parts are such as message framing takes
pub record IsKept (room : ℕ) (head : List ℕ) (fields : List HeaderSpan) (spans : Spans) (body : List ℕ) (chunked : Bool) : Type 0 where
  pub start : spans.start ≤ length head
  pub fit : SpansFit (drop spans.start head) fields spans
  pub room_is : stock_limits.head ≤ room
  pub places_are : length fields ≡ stock_limits.lines
  pub sound : IsSound (parts_at (drop spans.start head) fields spans body chunked)
