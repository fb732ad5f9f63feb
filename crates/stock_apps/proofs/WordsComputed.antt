-- The endpoints that some words say.
use Rattle.std.proofs.Common.{◌≡◌, ℕ, true, false, List, [], ◌∷◌, codes, refl}
use Rattle.std.specs.Prelude.{Result, Ok, Err}
use Rattle.stock_apps.specs.declared.app.App.{App}
use Rattle.stock_apps.specs.declared.app.App.TheVariants.{Text, Echo, Env, Pieces, Stream, Cookies, Bad, Raise, Late, Take, Part}
use Rattle.stock_apps.specs.declared.words.WordsFault.{WordsFault}
use Rattle.stock_apps.specs.declared.words.WordsFault.TheVariants.{Unknown, Count, Form}
use Rattle.stock_apps.specs.Words.{app_of, name_of}

abbrev text : List (List ℕ) → Result App WordsFault
text arguments = app_of (codes "text") arguments

abbrev statuses : List ℕ → Result App WordsFault
statuses status = app_of (codes "pieces") (status ∷ codes "a" ∷ [] ∷ [])

abbrev bad : List (List ℕ) → Result App WordsFault
bad numbers = app_of (codes "bad") numbers

abbrev late : List (List ℕ) → Result App WordsFault
late arguments = app_of (codes "late") arguments

abbrev part : List (List ℕ) → Result App WordsFault
part arguments = app_of (codes "part") arguments

abbrev take : List (List ℕ) → Result App WordsFault
take arguments = app_of (codes "take") arguments

abbrev bang : List ℕ
bang = codes "!"

names : (app_of [] [] ≡ Err Unknown) × (app_of (codes "Text") [] ≡ Err Unknown) × (app_of (codes "Take") (codes "echo" ∷ []) ≡ Err Unknown) × (app_of (codes "parts") [] ≡ Err Unknown)
    × (app_of (codes "texts") [] ≡ Err Unknown) × (app_of (codes "echo") [] ≡ Ok Echo) × (app_of (codes "echo") ([] ∷ []) ≡ Err Count) × (app_of (codes "env") [] ≡ Ok Env) × (app_of (codes "env") (codes "x" ∷ []) ≡ Err Count)
    × (app_of (codes "raise") (codes "oops" ∷ []) ≡ Ok (Raise (codes "oops"))) × (app_of (codes "raise") [] ≡ Err Count) × (app_of (codes "raise") ([] ∷ [] ∷ []) ≡ Err Count)
    × (app_of (codes "cookies") [] ≡ Err Count) × (app_of (codes "cookies") ([] ∷ []) ≡ Ok (Cookies ([] ∷ []))) × (app_of (codes "stream") [] ≡ Ok (Stream []))
    × (app_of (codes "stream") (codes "ab" ∷ [] ∷ []) ≡ Ok (Stream (codes "ab" ∷ [] ∷ [])))
unfolding name_of
names = (refl, refl, refl, refl, refl, refl, refl, refl, refl, refl, refl, refl, refl, refl, refl, refl)

texts : (text (codes "200" ∷ codes "text/plain" ∷ codes "hello" ∷ []) ≡ Ok (Text 200 (codes "text/plain") (codes "hello"))) × (text (codes "0204" ∷ [] ∷ [] ∷ []) ≡ Ok (Text 204 [] []))
    × (text (codes "99" ∷ [] ∷ [] ∷ []) ≡ Err Form) × (text (codes "99" ∷ [] ∷ []) ≡ Err Count) × (text (codes "200" ∷ [] ∷ [] ∷ [] ∷ []) ≡ Err Count) × (text [] ≡ Err Count)
unfolding name_of
texts = (refl, refl, refl, refl, refl, refl)

-- a status is a decimal number from 100 to 999
statuses_read : (statuses (codes "100") ≡ Ok (Pieces 100 (codes "a" ∷ [] ∷ []))) × (statuses (codes "999") ≡ Ok (Pieces 999 (codes "a" ∷ [] ∷ []))) × (statuses (codes "1000") ≡ Err Form) × (statuses (codes "99") ≡ Err Form)
    × (statuses (codes "099") ≡ Err Form) × (statuses [] ≡ Err Form) × (statuses (codes "+200") ≡ Err Form) × (statuses (codes "2e2") ≡ Err Form) × (statuses (codes "340282366920938463463374607431768211656") ≡ Err Form)
    × (app_of (codes "pieces") [] ≡ Err Count) × (app_of (codes "pieces") (codes "200" ∷ []) ≡ Ok (Pieces 200 []))
unfolding name_of
statuses_read = (refl, refl, refl, refl, refl, refl, refl, refl, refl, refl, refl)

-- 1 to 8 numbers of 1 to 8 and 10
numbers : (bad (codes "1" ∷ codes "8" ∷ codes "10" ∷ codes "007" ∷ []) ≡ Ok (Bad (1 ∷ 8 ∷ 10 ∷ 7 ∷ []))) × (bad [] ≡ Err Count) × (bad (codes "0" ∷ []) ≡ Err Form) × (bad (codes "9" ∷ []) ≡ Err Form) × (bad (codes "11" ∷ []) ≡ Err Form)
    × (bad (codes "266" ∷ []) ≡ Err Form) × (bad (codes "1" ∷ codes "x" ∷ []) ≡ Err Form)
    × (bad (codes "1" ∷ codes "2" ∷ codes "3" ∷ codes "4" ∷ codes "5" ∷ codes "6" ∷ codes "7" ∷ codes "8" ∷ []) ≡ Ok (Bad (1 ∷ 2 ∷ 3 ∷ 4 ∷ 5 ∷ 6 ∷ 7 ∷ 8 ∷ [])))
    × (bad (codes "x" ∷ [] ∷ [] ∷ [] ∷ [] ∷ [] ∷ [] ∷ [] ∷ [] ∷ []) ≡ Err Count)
unfolding name_of
numbers = (refl, refl, refl, refl, refl, refl, refl, refl, refl)

-- a length up to 1,000,000, and a `!` that counts at the end alone
marks : (late (codes "5" ∷ codes "abc" ∷ codes "defg" ∷ []) ≡ Ok (Late 5 (codes "abc" ∷ codes "defg" ∷ []) false)) × (late (codes "3" ∷ codes "ab" ∷ bang ∷ []) ≡ Ok (Late 3 (codes "ab" ∷ []) true))
    × (late (codes "0" ∷ bang ∷ []) ≡ Ok (Late 0 [] true)) × (late (codes "1000000" ∷ []) ≡ Ok (Late 1000000 [] false)) × (late (codes "1000001" ∷ []) ≡ Err Form) × (late [] ≡ Err Count) × (late (bang ∷ []) ≡ Err Form)
    × (late (codes "0" ∷ bang ∷ bang ∷ []) ≡ Ok (Late 0 (bang ∷ []) true)) × (late (codes "0" ∷ bang ∷ [] ∷ []) ≡ Ok (Late 0 (bang ∷ [] ∷ []) false)) × (late (codes "0" ∷ codes "!!" ∷ []) ≡ Ok (Late 0 (codes "!!" ∷ []) false))
unfolding name_of
marks = (refl, refl, refl, refl, refl, refl, refl, refl, refl, refl)

-- a hijacker is named `echo` or `upper`
hijackers : (take (codes "echo" ∷ []) ≡ Ok (Take false)) × (take (codes "upper" ∷ []) ≡ Ok (Take true)) × (take (codes "Echo" ∷ []) ≡ Err Form) × (take (codes "uppe" ∷ []) ≡ Err Form) × (take ([] ∷ []) ≡ Err Form)
    × (take [] ≡ Err Count) × (take (codes "echo" ∷ codes "upper" ∷ []) ≡ Err Count) × (part (codes "200" ∷ codes "upper" ∷ []) ≡ Ok (Part 200 true)) × (part (codes "0999" ∷ codes "echo" ∷ []) ≡ Ok (Part 999 false))
    × (part (codes "100" ∷ codes "echo" ∷ []) ≡ Ok (Part 100 false)) × (part (codes "99" ∷ codes "echo" ∷ []) ≡ Err Form) × (part (codes "1000" ∷ codes "echo" ∷ []) ≡ Err Form) × (part (codes "200" ∷ codes "take" ∷ []) ≡ Err Form)
    × (part (codes "echo" ∷ codes "200" ∷ []) ≡ Err Form) × (part [] ≡ Err Count) × (part (codes "99" ∷ []) ≡ Err Count) × (part (codes "200" ∷ codes "echo" ∷ [] ∷ []) ≡ Err Count)
unfolding name_of
hijackers = (refl, refl, refl, refl, refl, refl, refl, refl, refl, refl, refl, refl, refl, refl, refl, refl, refl)
