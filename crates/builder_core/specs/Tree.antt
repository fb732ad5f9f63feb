-- A built stack as data (after Rack's Builder, URLMap and Cascade).
use Rattle.std.specs.Prelude.{ℕ, List}
use Rattle.stock_middleware.specs.declared.ware.Ware.{Ware}

mutual
  -- a built application: an endpoint, a middleware around another one, one of several by their places, or
  -- the first of several endpoints whose answer counts
  pub data Tree (E : Type 0) : Type 0 where
    Calls : E → Tree E
    Wraps : Ware → Tree E → Tree E
    ByPlace : Row E → Tree E
    Tries : List E → Tree E

  -- places with what answers there, in the order of their lines
  pub data Row (E : Type 0) : Type 0 where
    NoPlace : Row E
    Place : List ℕ → Tree E → Row E → Row E
