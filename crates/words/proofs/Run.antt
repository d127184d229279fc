-- A run of words of kinds first, first + 1, ..: what the loop that looks for the first wrong one
-- passes.
use Prim.Native.Nat.{ℕ, suc, ◌+◌, ◌-◌, ◌<◌, ◌≤◌}
use Rattle.whole.proofs.Counting.{one_less, none_left}
use native.Mathlib.Omega.{arith}
use mathlib.Core.Path.{◌≡◌, ap, ◌∙◌}
use mathlib.Core.Bool.{Bool, true, false, cond}
use mathlib.Core.List.{List}
use Rattle.std.specs.Prelude.{Option, None, Some}
use Rattle.words.specs.ByIndex.{is_kind, first_wrong}

module _ (ws : List ℕ) (at first n : ℕ) where
  -- from the word j on
  pub from : ℕ → Option ℕ
  from j = first_wrong ws (at + j) (first + j) (n - j)

  by : ℕ → Bool → Option ℕ
  by j b = cond b (first_wrong ws (suc (at + j)) (suc (first + j)) (n - (j + 1))) (Some (at + j))

  opened : (j : ℕ) → j < n → from j ≡ by j (is_kind ws (at + j) (first + j))
  unfolding from by first_wrong
  opened j h = ap (first_wrong ws (at + j) (first + j)) (one_less n j h)

  pub go_on : (j : ℕ) → j < n → is_kind ws (at + j) (first + j) ≡ true → from j ≡ from (j + 1)
  unfolding from by
  go_on j h e = opened j h ∙ ap (by j) e ∙ moved
    where
      moved : first_wrong ws (suc (at + j)) (suc (first + j)) (n - (j + 1))
          ≡ first_wrong ws (at + (j + 1)) (first + (j + 1)) (n - (j + 1))
      moved =
          let p : suc (at + j) ≡ at + (j + 1) = omega arith in
          let q : suc (first + j) ≡ first + (j + 1) = omega arith in
          λ i. first_wrong ws (p i) (q i) (n - (j + 1))

  pub stop : (j : ℕ) → j < n → is_kind ws (at + j) (first + j) ≡ false → from j ≡ Some (at + j)
  unfolding by
  stop j h e = opened j h ∙ ap (by j) e

  pub ended : (j : ℕ) → n ≤ j → from j ≡ None
  unfolding from first_wrong
  ended j h = ap (first_wrong ws (at + j) (first + j)) (none_left n j h)

  pub begun : from 0 ≡ first_wrong ws at first n
  unfolding from
  begun =
      let p : at + 0 ≡ at = omega arith in
      let q : first + 0 ≡ first = omega arith in
      let r : n - 0 ≡ n = omega arith in
      λ i. first_wrong ws (p i) (q i) (r i)
