-- Rows of building and of places, worked by computation.
use Rattle.std.proofs.Common.{◌≡◌, ℕ, true, false, List, [], ◌∷◌, Some, None, codes, refl}
use Rattle.rack_types.specs.declared.answer.Answer.TheVariants.{Reply}
use Rattle.rack_types.specs.Env.{Pairs}
use Rattle.stock_middleware.specs.declared.ware.Ware.TheVariants.{Head, Lint}
use Rattle.stock_middleware.specs.WareBody.{no_body}
use Rattle.builder_core.specs.Build.{build_plan, plan_size, plan_height}
use Rattle.builder_core.specs.Meaning.{Answering, meaning, nothing, not_found}
use Rattle.builder_core.specs.Places.{fits}
use Rattle.builder_core.specs.Plan.{Plan, Done, Then, Uses, Ends, Holds, EndsAny}
use Rattle.builder_core.specs.Tree.{Tree, Calls, Wraps, ByPlace, Tries, NoPlace, Place}

-- a place ends where a segment does
places_fit : (fits (codes "/foo") (codes "/foo") ≡ true) × (fits (codes "/foo/") (codes "/foo") ≡ true) × (fits (codes "/foobar") (codes "/foo") ≡ false) × (fits (codes "/fo") (codes "/foo") ≡ false)
    × (fits (codes "/x") [] ≡ true) × (fits [] [] ≡ true) × (fits (codes "*") [] ≡ false) × (fits (codes "/a/") (codes "/a/") ≡ true) × (fits (codes "/a/x") (codes "/a/") ≡ false) × (fits (codes "//x") (codes "/") ≡ true)
places_fit = (refl, refl, refl, refl, refl, refl, refl, refl, refl, refl)

-- one endpoint alone, and the last one of a block
abbrev alone : Plan ℕ
alone = Then (Ends 1) Done

ends : (build_plan ℕ Done None ≡ None) × (build_plan ℕ alone None ≡ Some (Calls 1)) × (build_plan ℕ (Then (EndsAny []) alone) None ≡ Some (Calls 1)) × (build_plan ℕ (Then (Ends 2) (Then (EndsAny []) Done)) None ≡ Some (Tries []))
ends = (refl, refl, refl, refl)

-- the first middleware is outermost, and one behind a map wraps only what follows it, the map's default
worn_rows : (build_plan ℕ (Then (Uses Lint) (Then (Uses Head) alone)) None ≡ Some (Wraps Lint (Wraps Head (Calls 1))))
    × (build_plan ℕ (Then (Uses Head) Done) None ≡ None)
    × (build_plan ℕ (Then (Holds (codes "/a") Done) (Then (Uses Head) alone)) None ≡ Some (ByPlace (Place (codes "/a") (Wraps Head (Calls 1)) (Place [] (Wraps Head (Calls 1)) NoPlace))))
    × (build_plan ℕ (Then (Holds (codes "/a") alone) (Then (Uses Head) (Then (Holds (codes "/b") Done) Done))) None ≡ None)
worn_rows = (refl, refl, refl, refl)

-- a block in a block, with the default of the whole
abbrev nested : Plan ℕ
nested = Then (Holds (codes "/a") (Then (Holds (codes "/b") alone) Done)) (Then (Ends 2) Done)

abbrev nested_tree : Tree ℕ
nested_tree = ByPlace (Place (codes "/a") (ByPlace (Place (codes "/b") (Calls 1) (Place [] (Calls 2) NoPlace))) (Place [] (Calls 2) NoPlace))

-- an empty cascade
abbrev empty_cascade : Plan ℕ
empty_cascade = Then (EndsAny []) Done

nests : (build_plan ℕ nested None ≡ Some nested_tree) × (plan_size nested ≡ 4) × (plan_height nested ≡ 2) × (plan_size (Then (EndsAny (1 ∷ 2 ∷ [])) alone) ≡ 4) × (plan_height empty_cascade ≡ 1)
nests = (refl, refl, refl, refl, refl)

-- each endpoint answers its number as the status
abbrev numbered_answer : ℕ → Answering ℕ
numbered_answer n = λ ps input. Reply n [] no_body None

abbrev at_path : List ℕ → Pairs
at_path path = (codes "PATH_INFO", path) ∷ []

answers : (meaning numbered_answer nested_tree (at_path (codes "/a/b/x")) [] ≡ Reply 1 [] no_body None) × (meaning numbered_answer nested_tree (at_path (codes "/a/c")) [] ≡ Reply 2 [] no_body None)
    × (meaning numbered_answer nested_tree (at_path (codes "*")) [] ≡ not_found (at_path (codes "*")))
    × (meaning numbered_answer (Tries []) [] [] ≡ nothing) × (meaning numbered_answer (Tries (404 ∷ 405 ∷ [])) [] [] ≡ Reply 405 [] no_body None) × (meaning numbered_answer (Tries (404 ∷ 200 ∷ 201 ∷ [])) [] [] ≡ Reply 200 [] no_body None)
answers = (refl, refl, refl, refl, refl, refl)
