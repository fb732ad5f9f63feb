-- What a request says: the parts of its head, and its body (RFC 9112, sections 3, 5 and 6).
use Rattle.std.specs.Prelude.{ℕ, ◌≤◌, Bool, List, [], ◌∷◌, length, take, map, All, Option, None, Some, ⊤}
use Rattle.httparse.specs.declared.spans.Span.{Span}
use Rattle.httparse.specs.declared.spans.HeaderSpan.{HeaderSpan}
use Rattle.httparse.specs.Spans.{span_bytes, IsWithin, IsHeaderWithin, header_bytes}
use Rattle.rack_types.specs.declared.limits.Version.{Version}
use Rattle.rack_types.specs.declared.request.Spans.{Spans}

-- the parts of a request: a field is its name and its value, and a query that is not there is empty
pub record Parts : Type 0 where
  pub method : List ℕ
  pub path : List ℕ
  pub query : List ℕ
  pub authority : Option (List ℕ)
  pub version : Version
  pub fields : List (List ℕ × List ℕ)
  pub body : List ℕ
  pub chunked : Bool

-- the request with this body, which came in chunks or did not
abbrev pub framed : List ℕ → Bool → Parts → Parts
framed body chunked r = record {
  method = r.method;
  path = r.path;
  query = r.query;
  authority = r.authority;
  version = r.version;
  fields = r.fields;
  body = body;
  chunked = chunked;
}

-- the request with this body
abbrev pub with_body : List ℕ → Parts → Parts
with_body body r = framed body r.chunked r

-- the path of a target whose own path is empty is `/`
abbrev pub path_or_root : List ℕ → List ℕ
path_or_root [] = 47 ∷ []
path_or_root (b ∷ bytes) = b ∷ bytes

-- the bytes of a span that may not be there
abbrev pub span_bytes_if : List ℕ → Option Span → Option (List ℕ)
span_bytes_if head None = None
span_bytes_if head (Some span) = Some (span_bytes head span)

-- the parts that spans cover in a head's bytes
abbrev pub parts_at : List ℕ → List HeaderSpan → Spans → List ℕ → Bool → Parts
parts_at head fields spans body chunked = record {
  method = span_bytes head spans.method;
  path = path_or_root (span_bytes head spans.path);
  query = span_bytes head spans.query;
  authority = span_bytes_if head spans.authority;
  version = spans.version;
  fields = map (header_bytes head) (take spans.fields fields);
  body = body;
  chunked = chunked;
}

-- a span that is there lies in the first n bytes
abbrev pub IsWithinIf : ℕ → Option Span → Type 0
IsWithinIf n None = ⊤
IsWithinIf n (Some span) = IsWithin n span

-- each span lies in the head, and so many fields were read
pub record SpansFit (head : List ℕ) (fields : List HeaderSpan) (spans : Spans) : Type 0 where
  pub method : IsWithin (length head) spans.method
  pub path : IsWithin (length head) spans.path
  pub query : IsWithin (length head) spans.query
  pub authority : IsWithinIf (length head) spans.authority
  pub count : spans.fields ≤ length fields
  pub fields_fit : All (IsHeaderWithin (length head)) (take spans.fields fields)
