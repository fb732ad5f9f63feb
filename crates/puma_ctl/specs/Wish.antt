-- The request that says an order (RFC 9112, section 3). That it is written so is this project's own.
use Rattle.std.specs.Prelude.{ℕ, Bool, false, ◌&&◌, nat_lt, nat_le, List, [], ◌∷◌, ◌++◌, length, None, codes}
use Rattle.rack_types.specs.Request.{Parts}
use Rattle.rack_types.specs.declared.limits.Version.TheVariants.{Http11}
use Rattle.std.specs.Char.{is_ascii_alphanumeric}
use Rattle.std.specs.List.{list_all}
use Rattle.puma_ctl.specs.declared.wish.Wish.{Wish}
use Rattle.puma_ctl.specs.declared.wish.Wish.TheVariants.{Stats, Phased, Stop, Halt}

-- 1 to 64 letters and digits
abbrev pub is_control_token : List ℕ → Bool
is_control_token token = nat_lt 0 (length token) && nat_le (length token) 64 && list_all is_ascii_alphanumeric token

-- the path that asks for it
abbrev pub order_path : Wish → List ℕ
order_path Stats = codes "/stats"
order_path Phased = codes "/phased-restart"
order_path Stop = codes "/stop"
order_path Halt = codes "/halt"

-- the query that has this token
abbrev pub order_query : List ℕ → List ℕ
order_query token = codes "token=" ++ token

-- the request, whole
abbrev pub wish_bytes : List ℕ → Wish → List ℕ
wish_bytes token wish =
    codes "GET " ++ order_path wish ++ codes "?token=" ++ token
    ++ codes " HTTP/1.1\r\nHost: localhost\r\nConnection: close\r\n\r\n"

-- what the request says
abbrev pub wish_parts : List ℕ → Wish → Parts
wish_parts token wish = record {
  method = codes "GET";
  path = order_path wish;
  query = order_query token;
  authority = None;
  version = Http11;
  fields = (codes "Host", codes "localhost") ∷ (codes "Connection", codes "close") ∷ [];
  body = [];
  chunked = false;
}
