-- The candidate that a search is led on to. Assumes nothing.
use Rattle.std.specs.Prelude.{ℕ, suc, ◌≤◌, ◌<◌, ◌≡◌, Bool, true, false}

-- of the candidates from first to last the least that passes a test, or one past the last
pub record Next (test : ℕ → Bool) (first last r : ℕ) : Type 0 where
  pub low : first ≤ r
  pub high : r ≤ suc last
  pub missed : (k : ℕ) → first ≤ k → k < r → test k ≡ false
  pub passed : r ≤ last → test r ≡ true

-- where the test holds it holds from there on
abbrev pub Lasting : (ℕ → Bool) → ℕ → Type 0
Lasting test first = (j k : ℕ) → first ≤ j → j ≤ k → test j ≡ true → test k ≡ true

-- the same up to a last one
abbrev pub LastingTo : (ℕ → Bool) → ℕ → ℕ → Type 0
LastingTo test first last = (j k : ℕ) → first ≤ j → j ≤ k → k ≤ last → test j ≡ true → test k ≡ true

-- what a closure gives back is the test of the candidate, after `low` to the last
abbrev pub Tells : (ℕ → Bool → Type 0) → (ℕ → Bool) → ℕ → ℕ → Type 0
Tells post test low last = (k : ℕ) (b : Bool) → low < k → k ≤ last → post k b → b ≡ test k
