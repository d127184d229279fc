-- The words in which contracts state the range of a signed number.
use Rattle.std.specs.Prelude.{◌≡◌, ℕ, ◌≤◌, ℤ, nat_abs}

-- −n ≤ z ≤ n
pub record Within (n : ℕ) (z : ℤ) : Type 0 where
  pub within : nat_abs z ≤ n

-- z is the number e, and e is within n: a result with its range
pub record Is (n : ℕ) (z e : ℤ) : Type 0 where
  pub is : z ≡ e
  pub within : nat_abs e ≤ n
