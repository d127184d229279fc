-- Whole numbers: the lesser and the greater of two, a number brought between two, the sum of a
-- range, and division rounded to the nearest. The size of z is the library's `nat_abs z`.
use Rattle.std.specs.Prelude.{ℕ, zero, suc, ◌+◌, ◌*◌, ◌/◌, cond, ℤ, pos, negsuc, neg_ℤ, ◌+ℤ◌}
use Rattle.std.specs.Int.Signed.{le_z}

abbrev pub least : ℤ → ℤ → ℤ
least a b = cond (le_z a b) a b

abbrev pub greatest : ℤ → ℤ → ℤ
greatest a b = cond (le_z a b) b a

-- x brought between low and high; where the two cross, it is low
abbrev pub clamp : ℤ → ℤ → ℤ → ℤ
clamp low high x = greatest low (least high x)

-- f 1 + .. + f n
abbrev pub sum_to : (ℕ → ℤ) → ℕ → ℤ
sum_to f zero = pos 0
sum_to f (suc n) = sum_to f n +ℤ f (suc n)

-- n / m rounded to the nearest natural number, halves upward: (2n + m) / 2m rounded down
abbrev pub nearest_size : ℕ → ℕ → ℕ
nearest_size n m = (2 * n + m) / (2 * m)

-- x / m rounded to the nearest whole number, halves away from zero: the size is rounded,
-- halves upward, and keeps its sign
abbrev pub nearest_quotient : ℤ → ℕ → ℤ
nearest_quotient (pos n) m = pos (nearest_size n m)
nearest_quotient (negsuc n) m = neg_ℤ (pos (nearest_size (suc n) m))
