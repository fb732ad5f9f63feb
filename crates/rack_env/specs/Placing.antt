-- Values and fields placed one by one, with the target's authority for Host at once.
use Rattle.std.specs.Prelude.{ℕ, List, Option, None, Some, is_some, codes, bytes_eq, if◌then◌else◌}
use Rattle.std.specs.List.{fold}
use Rattle.rack_types.specs.Env.{Pairs, get_pair, set_pair}
use Rattle.rack_env.specs.Fields.{http_name, is_left_out, join_pair}

-- the name has these values more
abbrev pub join_values : List ℕ → Pairs → List (List ℕ) → Pairs
join_values name ps values = fold (λ ps value. join_pair name value ps) ps values

-- the pair of a name that is not left out
abbrev pub place_name : Option (List ℕ) → List ℕ → List ℕ → Pairs → Pairs
place_name None name value ps = join_pair name value ps
place_name (Some authority) name value ps =
    if bytes_eq name (codes "HTTP_HOST") then set_pair name authority ps else join_pair name value ps

-- the pairs with one field more
abbrev pub place_field : Option (List ℕ) → Pairs → List ℕ × List ℕ → Pairs
place_field authority ps f = if is_left_out f.0 then ps else place_name authority (http_name f.0) f.1 ps

-- the authority goes last where no Host was placed
abbrev pub host_last : Option (List ℕ) → Pairs → Pairs
host_last None ps = ps
host_last (Some authority) ps = if is_some (get_pair (codes "HTTP_HOST") ps) then ps else set_pair (codes "HTTP_HOST") authority ps
