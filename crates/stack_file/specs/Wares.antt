-- The middleware that a name and its arguments say, as a line of a stack file has them. This project's own.
use Rattle.std.specs.Prelude.{ℕ, if◌then◌else◌, List, [], ◌∷◌, Result, Ok, Err, codes, bytes_eq}
use Rattle.stock_apps.specs.declared.words.WordsFault.{WordsFault}
use Rattle.stock_apps.specs.declared.words.WordsFault.TheVariants.{Unknown, Count}
use Rattle.stock_middleware.specs.declared.ware.Ware.{Ware}
use Rattle.stock_middleware.specs.declared.ware.Ware.TheVariants.{Head, ContentLength, ContentType, MethodOverride, SetHeader, Lint}

-- a middleware that takes no arguments
abbrev pub without_arguments : Ware → List (List ℕ) → Result Ware WordsFault
without_arguments ware [] = Ok ware
without_arguments ware (text ∷ texts) = Err Count

-- a type, or `text/html`
abbrev pub type_of : List (List ℕ) → Result Ware WordsFault
type_of [] = Ok (ContentType (codes "text/html"))
type_of (kind ∷ []) = Ok (ContentType kind)
type_of (kind ∷ text ∷ texts) = Err Count

-- a name and a value
abbrev pub header_of : List (List ℕ) → Result Ware WordsFault
header_of [] = Err Count
header_of (name ∷ []) = Err Count
header_of (name ∷ value ∷ []) = Ok (SetHeader name value)
header_of (name ∷ value ∷ text ∷ texts) = Err Count

-- the middleware, or the first of two things that is wrong: no middleware has the name, or its arguments are too
-- many or too few
unfoldable pub ware_of : List ℕ → List (List ℕ) → Result Ware WordsFault
ware_of name texts =
    if bytes_eq name (codes "head") then without_arguments Head texts
    else if bytes_eq name (codes "content_length") then without_arguments ContentLength texts
    else if bytes_eq name (codes "method_override") then without_arguments MethodOverride texts
    else if bytes_eq name (codes "lint") then without_arguments Lint texts
    else if bytes_eq name (codes "content_type") then type_of texts
    else if bytes_eq name (codes "set_header") then header_of texts
    else Err Unknown
