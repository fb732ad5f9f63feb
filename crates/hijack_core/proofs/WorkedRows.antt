-- What the stock hijackers say, worked by hand and computed from the definitions.
use Rattle.std.proofs.Common.{◌≡◌, true, false, [], ◌∷◌, codes, refl}
use Rattle.hijack_core.specs.declared.stock.Stock.TheVariants.{Echo, Upper}
use Rattle.hijack_core.specs.Stock.{stock_says, stock_ends}

-- echo: each byte, the byte 4 too, and on
echo-none : stock_says Echo [] ≡ record { bytes = []; go_on = true }
echo-none = refl

echo-end : stock_says Echo (97 ∷ 4 ∷ 98 ∷ []) ≡ record { bytes = 97 ∷ 4 ∷ 98 ∷ []; go_on = true }
echo-end = refl

-- upper: a to z alone are changed
upper-none : stock_says Upper [] ≡ record { bytes = []; go_on = true }
upper-none = refl

upper-letters : stock_says Upper (codes "abyz") ≡ record { bytes = codes "ABYZ"; go_on = true }
upper-letters = refl

upper-others : stock_says Upper (0 ∷ 3 ∷ 5 ∷ 64 ∷ 65 ∷ 90 ∷ 91 ∷ 96 ∷ 97 ∷ 122 ∷ 123 ∷ 225 ∷ 255 ∷ []) ≡ record { bytes = 0 ∷ 3 ∷ 5 ∷ 64 ∷ 65 ∷ 90 ∷ 91 ∷ 96 ∷ 65 ∷ 90 ∷ 123 ∷ 225 ∷ 255 ∷ []; go_on = true }
upper-others = refl

-- it ends before the first byte 4, wherever that is, and says nothing to what is behind
upper-end : stock_says Upper (97 ∷ 4 ∷ 98 ∷ []) ≡ record { bytes = 65 ∷ []; go_on = false }
upper-end = refl

upper-end_first : stock_says Upper (4 ∷ 97 ∷ []) ≡ record { bytes = []; go_on = false }
upper-end_first = refl

upper-end_last : stock_says Upper (97 ∷ 98 ∷ 4 ∷ []) ≡ record { bytes = 65 ∷ 66 ∷ []; go_on = false }
upper-end_last = refl

upper-end_twice : stock_says Upper (97 ∷ 4 ∷ 98 ∷ 4 ∷ []) ≡ record { bytes = 65 ∷ []; go_on = false }
upper-end_twice = refl

-- neither says anything at the end
echo-ends : stock_ends Echo (codes "ab") ≡ []
echo-ends = refl

upper-ends : stock_ends Upper (codes "ab") ≡ []
upper-ends = refl
