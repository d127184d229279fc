-- The least of some candidates that passes a test.
use Prim.Native.Nat.{ℕ, zero, suc, ◌+◌, ◌-◌, ◌<◌, ◌≤◌}
use Rattle.whole.proofs.Counting.{one_less, none_left, next_one}
use native.Mathlib.Omega.{arith}
use mathlib.Core.Path.{◌≡◌, refl, sym, ap, ◌∙◌}
use mathlib.Core.Bool.{Bool, true, false}
use lib.Dec.{ltb}
use borrow.Author.Tests.{ltb-true, ltb-false}
use Rattle.std.specs.Bool.{then_some}
use Rattle.std.specs.Prelude.{Option, None, Some}
use Rattle.model.specs.planning.Outcome.{least_from}

-- ---- what a loop over the ticks before `after` has before it

module _ (test : ℕ → Bool) (after : ℕ) where
  -- from tick n on
  pub rest : ℕ → Option ℕ
  rest n = least_from test n (after - n)

  by : ℕ → Bool → Option ℕ
  by n b = elim b [ true ↦ Some n | false ↦ least_from test (suc n) (after - (n + 1)) ]

  opened : (n : ℕ) → n < after → rest n ≡ by n (test n)
  unfolding rest by
  opened n h = ap (least_from test n) (one_less after n h)

  pub here : (n : ℕ) → n < after → test n ≡ true → rest n ≡ Some n
  unfolding by
  here n h e = opened n h ∙ ap (by n) e

  pub later : (n : ℕ) → n < after → test n ≡ false → rest n ≡ rest (n + 1)
  unfolding rest by
  later n h e = opened n h ∙ ap (by n) e ∙ ap (λ (k : ℕ). least_from test k (after - (n + 1))) (next_one n)

  -- past d candidates that fail
  pub skip : (d n : ℕ) → n + d ≤ after → ((k : ℕ) → n ≤ k → k < n + d → test k ≡ false) → rest n ≡ rest (n + d)
  unfolding rest
  skip zero n h e = ap (λ (k : ℕ). least_from test k (after - k)) {x = n} {y = n + zero} (omega arith)
  skip (suc d) n h e =
      later n (omega arith) (e n (omega arith) (omega arith))
      ∙ skip d (n + 1) (omega arith) (λ k p q. e k (omega arith) (omega arith))
      ∙ ap (λ (k : ℕ). least_from test k (after - k)) {x = n + 1 + d} {y = n + suc d} (omega arith)

  pub nowhere : (n : ℕ) → after ≤ n → rest n ≡ None
  unfolding rest
  nowhere n h = ap (least_from test n) (none_left after n h)

  pub begun : (n : ℕ) → rest n ≡ least_from test n (after - n)
  unfolding rest
  begun n = refl

-- ---- what a search from a first candidate on gives back, none before n passing

module _ (test : ℕ → Bool) (first after : ℕ) where
  past : (n : ℕ) → first ≤ n → n ≤ after → ((k : ℕ) → first ≤ k → k < n → test k ≡ false)
      → least_from test first (after - first) ≡ rest test after n
  past n h l e =
      let there : first + (n - first) ≡ n = omega arith in
      sym (begun test after first)
      ∙ skip test after (n - first) first (omega arith) (λ k p q. e k p (omega arith))
      ∙ ap (rest test after) there

  -- the same from a later candidate on
  pub from-later : (n : ℕ) → first ≤ n → n ≤ after → ((k : ℕ) → first ≤ k → k < n → test k ≡ false)
      → least_from test n (after - n) ≡ least_from test first (after - first)
  from-later n h l e = sym (past n h l e ∙ begun test after n)

  pub none_passes : ((k : ℕ) → first ≤ k → k < after → test k ≡ false) → first ≤ after
      → None ≡ least_from test first (after - first)
  none_passes e h = sym (past after h (omega arith) e ∙ nowhere test after after (omega arith))

  pub none-to-try : after ≤ first → None ≡ least_from test first (after - first)
  none-to-try h = sym (sym (begun test after first) ∙ nowhere test after first h)

  pub first_passes : (n : ℕ) → first ≤ n → n < after → ((k : ℕ) → first ≤ k → k < n → test k ≡ false) → test n ≡ true
      → Some n ≡ least_from test first (after - first)
  first_passes n h l e t = sym (past n h (omega arith) e ∙ here test after n l t)

  -- n, which passes, where it is a candidate
  pub led_passes : (n : ℕ) → first ≤ n → n ≤ after → ((k : ℕ) → first ≤ k → k < n → test k ≡ false)
      → (n < after → test n ≡ true) → then_some (ltb n after) n ≡ least_from test first (after - first)
  led_passes n h l e t = go (ltb n after) (ltb-true n after) (ltb-false n after)
    where
      go : (b : Bool) → (b ≡ true → n < after) → (b ≡ false → after ≤ n)
          → then_some b n ≡ least_from test first (after - first)
      go true f g = first_passes n h (f refl) e (t (f refl))
      go false f g = none_passes (λ k p q. e k p (omega (arith, q, g refl))) (omega (arith, h, l))
