-- The climb to the cruise as the code makes it: a step at a time, one for each bit from the highest
-- down, each half of the one before.
use Prim.Native.Nat.{ℕ, suc, ◌+◌, ◌/◌, ◌^◌, ◌<◌, ◌≤◌}
use mathlib.Core.Path.{◌≡◌, refl, sym, ap, ◌∙◌}
use mathlib.Core.Bool.{Bool, true, false, ◌&&◌}
use native.Mathlib.Omega.{arith}
use native.Mathlib.Nat.{two-pow-succ, pow-le-pow_right}
use lib.IntN.{ℤ, pos, neg_ℤ, ◌+ℤ◌}
use lib.Signed.{le_z, le_z_yes, ◌≤ℤ◌}
use Rattle.whole.proofs.Differences.{all₁, whole}
use Rattle.whole.specs.Ranges.{Within}
use Rattle.whole.proofs.Tests.{and_no, and_yes, by_bool, left}
use Rattle.model.specs.planning.Leg.{Leg, fits_at, climb_by_bits, climb_steps, cruise}
use Rattle.cruise.specs.Cruise.{climb_step}

-- the climb from c with n steps to go: shut, so that a goal at 39 steps does not compute
unfoldable pub climb_from : Leg → ℤ → ℕ → ℤ → ℤ
climb_from g s n c = climb_by_bits g s n c

step-taken : (g : Leg) (s : ℤ) (n : ℕ) (c : ℤ) → climb_from g s (suc n) c ≡ climb_from g s n (climb_step g s c (2 ^ n))
unfolding climb_from
step-taken g s n c = go (le_z d (pos g.speed_limit)) (fits_at g s d)
  where
    d : ℤ
    d = c +ℤ pos (2 ^ n)

    go : (a b : Bool)
        → elim a [
          | true ↦ elim b [ true ↦ climb_by_bits g s n d | false ↦ climb_by_bits g s n c ]
          | false ↦ climb_by_bits g s n c
        ]
        ≡ climb_by_bits g s n (elim (a && b) [ true ↦ d | false ↦ c ])
    go true true = refl
    go true false = refl
    go false b = refl

-- a bit's step
pub bit-bound : {n step : ℕ} → n < climb_steps → step ≡ 2 ^ n → step ≤ 2 ^ 38
bit-bound {n} h e = omega (arith, e, pow-le-pow_right {n = 2} (omega arith) {i = n} {j = 38} (omega arith))

-- that of the next bit is half of it
pub halved : {n m step : ℕ} → n ≡ suc m → step ≡ 2 ^ n → step / 2 ≡ 2 ^ m
halved {n} {m} {step} e f = half step (2 ^ m) (f ∙ ap (λ (k : ℕ). 2 ^ k) e ∙ two-pow-succ m)
  where
    half : (a b : ℕ) → a ≡ b + b → a / 2 ≡ b
    half a b e = omega arith

module _ (g : Leg) (s : ℤ) where
  pub climb-start : climb_from g s climb_steps (neg_ℤ (pos g.speed_limit)) ≡ cruise g s
  unfolding climb_from cruise
  climb-start = refl

  pub climb-next : {n m step : ℕ} (c : ℤ) → n ≡ suc m → step ≡ 2 ^ m
      → climb_from g s m (climb_step g s c step) ≡ climb_from g s n c
  climb-next {n} {m} c e f =
      ap (λ (k : ℕ). climb_from g s m (climb_step g s c k)) f ∙ sym (step-taken g s m c)
      ∙ ap (λ (k : ℕ). climb_from g s k c) (sym e)

  pub climb-end : {n : ℕ} (c : ℤ) → n ≡ 0 → climb_from g s n c ≡ c
  unfolding climb_from
  climb-end c e = ap (λ (k : ℕ). climb_from g s k c) e

-- ---- one step, by its two tests

module _ (g : Leg) (s c : ℤ) (step : ℕ) where
  abbrev next : ℤ
  next = c +ℤ pos step

  abbrev slow : Bool
  slow = le_z next (pos g.speed_limit)

  abbrev at : Bool → ℤ
  at b = elim b [ true ↦ next | false ↦ c ]

  pub step-up : slow ≡ true → fits_at g s next ≡ true → next ≡ climb_step g s c step
  step-up e f = ap at (and_yes slow (fits_at g s next) e (sym f))

  pub step-unfit : slow ≡ true → fits_at g s next ≡ false → c ≡ climb_step g s c step
  step-unfit e f = ap at (and_yes slow (fits_at g s next) e (sym f))

  pub step-fast : slow ≡ false → c ≡ climb_step g s c step
  step-fast e = ap at (and_no slow (fits_at g s next) e)

-- a step that keeps to the speed limit
pub step-inside : (step l : ℕ) (c : ℤ) → Within l c → (c +ℤ pos step) ≤ℤ pos l → Within l (c +ℤ pos step)
step-inside step l = all₁ _ (λ a b. simp whole (omega arith))

-- no step leads past it
pub climb-inside : (g : Leg) (s c : ℤ) (step : ℕ) → Within g.speed_limit c
    → Within g.speed_limit (climb_step g s c step)
climb-inside g s c step w =
    by_bool (Within g.speed_limit) (le_z (c +ℤ pos step) (pos g.speed_limit) && fits_at g s (c +ℤ pos step)) _ _
    (λ t. step-inside step g.speed_limit c w (le_z_yes (left (le_z (c +ℤ pos step) (pos g.speed_limit)) _ t)))
    (λ t. w)
