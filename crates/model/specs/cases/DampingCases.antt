-- Damping as measured, where the roundings tell (docs/METHOD.md, 2.4).
use Rattle.std.specs.Prelude.{ℕ, ◌≡◌, false, [], ◌∷◌, map, ℤ, pos, negsuc}
use Rattle.std.specs.Float.{fin}
use Rattle.model.specs.declared.Damping.TheVariants.{Ratio, Peaks}
use Rattle.model.specs.declared.Weight.{Weight}
use Rattle.model.specs.declared.Weight.TheVariants.{Measured}
use Rattle.model.specs.planning.Damping.{weight_of}

-- peaks, whole numbers, and a ratio, m × 2ᵉ
abbrev pub peaks : ℕ → ℕ → Weight
peaks m n = Measured (Peaks (fin false m (pos 0)) (fin false n (pos 0)))

abbrev pub ratio : ℕ → ℤ → Weight
ratio m e = Measured (Ratio (fin false m e))

-- 97 and 31, 155 and 101, of which the quotient not rounded gives 62 and 101, and the float nearest
-- to 2/254, of which the product not rounded gives 1
abbrev pub WeightsRounded : Type 0
WeightsRounded = map weight_of (peaks 97 31 ∷ peaks 155 101 ∷ ratio 2113665 (negsuc 27) ∷ []) ≡ 61 ∷ 100 ∷ 2 ∷ []
