-- Whether a header is there, and a new one.
use Rattle.std.proofs.Common.{◌≡◌, ℕ, ◌+◌, Bool, true, false, cond, not, suc, List, [], ◌∷◌, ◌++◌, length, Option, Some, None, is_some, nat_lt, refl, ap, sym, ◌∙◌, bytes_eq, arith, codes}
use Rattle.std.specs.Prelude.{if◌then◌else◌, decimal}
use Rattle.std.specs.List.{prefix_len}
use Rattle.std.proofs.lemmas.Bool.{lt-ltb}
use Rattle.std.proofs.lemmas.Bool.Decides.{nat_tests}
use Rattle.rack_types.specs.AnswerRules.{is_bare}
use Rattle.rack_types.specs.Headers.{HeaderList, header_names, header_values, header_place, set_header}
use Rattle.stock_middleware.specs.Wares.{has_header, with_header, with_length, with_type}

-- how many names stand before this one
abbrev run : List ℕ → HeaderList → ℕ
run name headers = prefix_len (λ n. not (bytes_eq name n)) (header_names headers)

is_some-if : (t : Bool) (n : ℕ) → is_some (if t then Some n else None) ≡ t
is_some-if true n = refl
is_some-if false n = refl

one_later : (a b : ℕ) → nat_lt (1 + a) (suc b) ≡ nat_lt a b
one_later a b = grind (arith, nat_tests)

run_is_short : (name : List ℕ) (headers : HeaderList) → nat_lt (run name headers) (length (header_names headers)) ≡ has_header name headers
run_is_short name [] = refl
run_is_short name (h ∷ headers) = by (bytes_eq name h.0) (run_is_short name headers)
  where
    by : (t : Bool) → nat_lt (run name headers) (length (header_names headers)) ≡ has_header name headers
        → nat_lt (cond (not t) (1 + run name headers) 0) (suc (length (header_names headers))) ≡ is_some (cond t (Some h.1) (header_values name headers))
    by true rest = lt-ltb 0 (suc (length (header_names headers))) (omega arith)
    by false rest = one_later (run name headers) (length (header_names headers)) ∙ rest

-- a header is there where it has a place
pub is_some-header_place : (name : List ℕ) (headers : HeaderList) → is_some (header_place name headers) ≡ has_header name headers
is_some-header_place name headers =
    is_some-if (nat_lt (run name headers) (length (header_names headers))) (run name headers) ∙ run_is_short name headers

-- a new header goes last
pub set_header-new : (name value : List ℕ) (headers : HeaderList) → has_header name headers ≡ false → set_header name value headers ≡ with_header name value headers
set_header-new name value [] absent = refl
set_header-new name value (h ∷ headers) absent =
    by (bytes_eq name h.0) (set_header-new name value headers) absent
  where
    by : (t : Bool) → (has_header name headers ≡ false → set_header name value headers ≡ with_header name value headers) → is_some (cond t (Some h.1) (header_values name headers)) ≡ false
        → cond t ((h.0, value ∷ []) ∷ headers) (h ∷ set_header name value headers) ≡ h ∷ with_header name value headers
    by true rest absent = cc
    by false rest absent = ap (λ hs. h ∷ hs) (rest absent)

-- a header that is added where the status has a body and the header isn't there
pub with_type-new : (kind : List ℕ) (status : ℕ) (headers : HeaderList) → is_bare status ≡ false → has_header (codes "content-type") headers ≡ false
    → set_header (codes "content-type") kind headers ≡ with_type kind status headers
with_type-new kind status headers body absent =
    rw (body, absent) (set_header-new (codes "content-type") kind headers absent)

pub with_length-new : (status n : ℕ) (headers : HeaderList) → is_bare status ≡ false → has_header (codes "content-length") headers ≡ false → has_header (codes "transfer-encoding") headers ≡ false
    → set_header (codes "content-length") (decimal n) headers ≡ with_length status (Some n) headers
with_length-new status n headers body absent coded =
    rw (body, absent, coded) (set_header-new (codes "content-length") (decimal n) headers absent)
