-- What the functions promise that find the last arrival at which a target is slow
-- enough (docs/METHOD.md, 3.10).
use Rattle.std.specs.Prelude.{ℕ, ◌≤◌, ◌≡◌, Bool, true, false, cond, ℤ, pos, nat_abs, ◌+ℤ◌, ◌-ℤ◌, ◌*ℤ◌}
use Rattle.std.specs.Int.Signed.{lt_z}

-- ---- a velocity that changes by the same number each tick

-- how much may come to it until it is past the limit
abbrev pub room_toward : ℕ → ℤ → ℤ → ℤ
room_toward limit velocity change = cond (lt_z change (pos 0)) (pos limit +ℤ velocity) (pos limit -ℤ velocity)

-- the last of the ticks 0 to `most` at which it can be within the limit: where it is at one of them
-- it is at r too, which is none before that
pub record TicksWithin (limit : ℕ) (velocity change : ℤ) (most r : ℕ) : Type 0 where
  pub high : r ≤ most
  pub later : (k : ℕ) → k ≤ most → nat_abs (velocity +ℤ pos k *ℤ change) ≤ limit
      → (k ≤ r) × (nat_abs (velocity +ℤ pos r *ℤ change) ≤ limit)

-- ---- a test of candidates

-- where one from first to last passes, r does
pub record LastPassing (test : ℕ → Bool) (first last r : ℕ) : Type 0 where
  pub low : first ≤ r
  pub high : r ≤ last
  pub later : (k : ℕ) → first ≤ k → k ≤ last → test k ≡ true → test r ≡ true

-- whether one from 1 to the last passes
pub record ReachesSome (test : ℕ → Bool) (last : ℕ) (r : Bool) : Type 0 where
  pub none : r ≡ false → (k : ℕ) → k ≤ last → test k ≡ false
  pub some : r ≡ true → (k : ℕ) × ((1 ≤ k) × ((k ≤ last) × (test k ≡ true)))

-- whether n does not pass, where one up to it does
pub record Loses (test : ℕ → Bool) (n : ℕ) (r : Bool) : Type 0 where
  pub lost : r ≡ true → test n ≡ false
  pub kept : r ≡ false → (i : ℕ) → i ≤ n → test i ≡ true → test n ≡ true
