-- What a request to the control server asks for: the rows that are looked at before anything is done, in their
-- order. The query is read by the URL Standard, section 5.1; the paths are those of Puma's control server, and
-- the order of the rows is this project's own.
use Rattle.std.specs.Prelude.{ℕ, Bool, List, Option, Some, None, codes, bytes_eq, if◌then◌else◌}
use Rattle.form_urlencoded.specs.Form.{parse}
use Rattle.rack_types.specs.Env.{Pairs, get_pair}
use Rattle.rack_types.specs.RuleWords.{has_value, if_there, value_or_empty}
use Rattle.control_http.specs.declared.wish.Wish.{Wish}
use Rattle.control_http.specs.declared.wish.Wish.TheVariants as wish

-- the first pair `token` of a query has this value, both as decoded bytes
abbrev pub is_allowed : List ℕ → List ℕ → Bool
is_allowed token query = if_there (λ value. bytes_eq value token) (get_pair (codes "token") (parse query))

-- what is at a path, none where nothing is
abbrev pub path_wish : List ℕ → Option Wish
path_wish path =
    if bytes_eq path (codes "/stats") then Some wish.Stats
    else (if bytes_eq path (codes "/stop") then Some wish.Stop
    else (if bytes_eq path (codes "/halt") then Some wish.Halt
    else (if bytes_eq path (codes "/phased-restart") then Some wish.PhasedRestart
    else None)))

-- what is asked for: the token is looked at first, then the path, then the method. What is not there is empty
abbrev pub wish_of : List ℕ → Pairs → Wish
wish_of token ps =
    if is_allowed token (value_or_empty (codes "QUERY_STRING") ps) then at_path (path_wish (value_or_empty (codes "PATH_INFO") ps))
    else wish.Forbidden
  where
    at_path : Option Wish → Wish
    at_path None = wish.NotFound
    at_path (Some found) = if has_value (codes "REQUEST_METHOD") (codes "GET") ps then found else wish.OtherMethod
