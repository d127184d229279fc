-- The second weight of damping as measured (docs/METHOD.md, 2.4). A float is a value of IEEE
-- 754's single precision; each operation rounds once, to the nearest, and every comparison with
-- what is not a number is false.
use Rattle.std.specs.Prelude.{ℕ, zero, suc, ◌-◌, ◌≤◌, ◌<◌, ◌≡◌, Bool, true, false, ◌&&◌, ◌⊎◌, T, pos, Float}
use Rattle.std.specs.Float.{fin, binary32}
use Rattle.std.specs.Float.Ieee.{mul, div, lt, le, of_int}
use Rattle.model.specs.declared.Damping.{Damping}
use Rattle.model.specs.declared.Damping.TheVariants.{Ratio, Peaks}
use Rattle.model.specs.declared.Weight.{Weight}
use Rattle.model.specs.declared.Weight.TheVariants.{Given, Measured}

-- ---- the ratio

-- of two peaks: the second divided by the first, rounded once
abbrev pub ratio_of : Damping → Float
ratio_of (Ratio r) = r
ratio_of (Peaks first second) = div binary32 second first

-- ---- the weight of a ratio

-- a whole number as a float: exact, for those that occur
abbrev pub float : ℕ → Float
float n = of_int binary32 (pos n)

-- B is at most the once-rounded product of the ratio and 256 − B
unfoldable pub meets : Float → ℕ → Bool
meets r b = le (float b) (mul binary32 r (float (256 - b)))

-- the largest from 1 to n that does, or 1 if there is none
unfoldable pub largest_to : Float → ℕ → ℕ
largest_to r zero = 1
largest_to r (suc n) = elim (meets r (suc n)) [ true ↦ suc n | false ↦ largest_to r n ]

-- as the method says it: the largest from 1 to n, or 1 if there is none
pub record IsLargest (r : Float) (n b : ℕ) : Type 0 where
  pub first : 1 ≤ b
  pub last : b ≤ n
  pub met : T (meets r b) ⊎ ((b ≡ 1) × (T (meets r 1) → ⊥))
  pub larger : (c : ℕ) → b < c → c ≤ n → T (meets r c) → ⊥

abbrev pub ratio_weight : Float → ℕ
ratio_weight r = largest_to r 128

-- B of an axis
abbrev pub weight_of : Weight → ℕ
weight_of (Given b) = b
weight_of (Measured d) = ratio_weight (ratio_of d)

-- ---- which damping is allowed

abbrev pub above_zero : Float → Bool
above_zero x = lt (fin false 0 (pos 0)) x

-- a number above 0 and at most 1
abbrev pub ratio_allowed : Float → Bool
ratio_allowed r = above_zero r && le r (fin false 1 (pos 0))

abbrev pub damping_allowed : Damping → Bool
damping_allowed (Ratio r) = ratio_allowed r
damping_allowed (Peaks first second) = above_zero first && ratio_allowed (ratio_of (Peaks first second))

abbrev pub weight_allowed : Weight → Bool
weight_allowed (Given b) = true
weight_allowed (Measured d) = damping_allowed d
