-- What a contract sees of a body that comes through a middleware: the application's, or one in its place.
use Rattle.std.specs.Prelude.{ℕ, List, true, false, [], Some}
use Rattle.rack_types.specs.Body.{Content}
use Rattle.rack_types.specs.declared.body.Kind.TheVariants.{Enumerable}
use Rattle.stock_middleware.specs.declared.body.WareBody.{WareBody}
use Rattle.stock_middleware.specs.declared.body.WareBody.TheVariants.{App, Own}

-- its content, where `content` tells that of the application's body
abbrev pub ware_content : {B : Type 0} → (B → Content) → WareBody B → Content
ware_content content (App body) = content body
ware_content content (Own body) = body.content

-- the piece of it that was taken last, by the same
abbrev pub ware_taken : {B : Type 0} → (B → List ℕ) → WareBody B → List ℕ
ware_taken taken (App body) = taken body
ware_taken taken (Own body) = body.taken

-- an empty body of known length
abbrev pub no_body : Content
no_body = record { pieces = []; raises = false; known = Some 0; kind = Enumerable; sure = true }
