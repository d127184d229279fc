-- A checksum of signed numbers, modulo the prime 2^31 - 1.
use Rattle.std.specs.Prelude.{ℕ, ◌+◌, ◌*◌, ◌%◌, cond, ℤ, pos, nat_abs}
use Rattle.std.specs.Int.Signed.{lt_z}

-- a number's weight: twice its size, and one more below zero
abbrev pub weight : ℤ → ℕ
weight x = 2 * (nat_abs x % 2147483647) + cond (lt_z x (pos 0)) 1 0

abbrev pub added : ℕ → ℤ → ℕ
added sum x = (31 * sum + weight x) % 2147483647
