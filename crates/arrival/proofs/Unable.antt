-- The mask of the axes that cannot arrive.
use Prim.Native.Nat.{ℕ, zero, suc, ◌+◌, ◌/◌, ◌%◌, ◌^◌, ◌<◌, ◌≤◌}
use native.Mathlib.Omega.{arith}
use mathlib.Core.Path.{◌≡◌, refl, sym, ap, ◌∙◌}
use mathlib.Core.Bool.{Bool, true, false, cond, not, false≢true}
use Rattle.std.specs.Prelude.{Option, None, Some}
use mathlib.Core.List.{List, [], ◌∷◌}
use lib.ListN.{length}
use lib.Dec.{eqb}
use borrow.Author.Tests.{eq-eqb, ne_eqb}
use Rattle.reach.specs.Halving.{ReachesSome}
use Rattle.model.specs.declared.Axis.{Axis}
use Rattle.model.specs.planning.Motion.{reachable}
use Rattle.model.specs.planning.Job.{JobAxis, set_axes, mask_where}
use Rattle.model.specs.planning.Outcome.{all_reach, least_arrival}
use Rattle.arrival.specs.Arrivals.{cannot_arrive}
use Rattle.model.proofs.SetAxes.{pick, from, axis_at, from_more, from-none}
use Rattle.theorems.proofs.jobs.LeastTick.{Result, result}

-- ---- one axis

module _ (x : Axis) where
  abbrev alone : List JobAxis
  alone = record { number = 0; axis = x } ∷ []

  alone-is : (k : ℕ) → all_reach alone k ≡ reachable x k
  alone-is k = go (reachable x k)
    where
      go : (b : Bool) → (elim b as (λ _. Bool) [ true ↦ true | false ↦ false ]) ≡ b
      go true = refl
      go false = refl

  none-reached : (r : Bool) (o : Option ℕ) → ReachesSome (reachable x) 4096 r → Result (all_reach alone) 1 4096 o
      → not r ≡ elim o as (λ _. Bool) [ Some n ↦ false | None ↦ true ]
  none-reached true None w h =
      let k = w.some refl in
      absurd (h k.0 k.1.0 (omega (arith, k.1.1.0)) (alone-is k.0 ∙ k.1.1.1))
  none-reached false None w h = refl
  none-reached true (Some m) w h = refl
  none-reached false (Some m) w h =
      absurd (false≢true (sym (w.none refl m (omega (arith, h.last))) ∙ sym (alone-is m) ∙ h.passes))

  pub misses_all : (r : Bool) (asked : ℕ) → asked ≡ 0 → ReachesSome (reachable x) 4096 r
      → not r ≡ cannot_arrive asked x
  unfolding cannot_arrive
  misses_all r asked z w =
      none-reached r (least_arrival alone) w (result (all_reach alone) 1 4096)
      ∙ sym (ap (λ (k : ℕ). cannot_arrive k x) z)

pub misses_asked : (asked : ℕ) (x : Axis) → (asked ≡ 0 → ⊥) → not (reachable x asked) ≡ cannot_arrive asked x
unfolding cannot_arrive
misses_asked zero x h = absurd (h refl)
misses_asked (suc n) x h = refl

-- ---- the axes of a mask

-- the bit of an axis that the lowest bit of m names and that cannot arrive, or 0
pub bit_of : ℕ → Axis → ℕ → ℕ → ℕ
bit_of m x asked bit = cond (cond (eqb (m % 2) 1) (cannot_arrive asked x) false) bit 0

pub bit-named : (m : ℕ) (x : Axis) (asked bit : ℕ) (b : Bool) → m % 2 ≡ 1 → cannot_arrive asked x ≡ b
    → bit_of m x asked bit ≡ cond b bit 0
unfolding bit_of
bit-named m x asked bit b e f =
    ap (λ (t : Bool). cond (cond t (cannot_arrive asked x) false) bit 0) (eq-eqb (m % 2) 1 e)
    ∙ ap (λ (t : Bool). cond t bit 0) f

pub bit-unnamed : (m : ℕ) (x : Axis) (asked bit : ℕ) → (m % 2 ≡ 1 → ⊥) → bit_of m x asked bit ≡ 0
unfolding bit_of
bit-unnamed m x asked bit e =
    ap (λ (t : Bool). cond (cond t (cannot_arrive asked x) false) bit 0) (ne_eqb (m % 2) 1 e)

weighed : (f : Axis → Bool) (b : Bool) (i : ℕ) (x : Axis) (xs : List JobAxis)
    → mask_where f (pick b i x xs) ≡ cond (cond b (f x) false) (2 ^ i) 0 + mask_where f xs
weighed f true i x xs = go (f x)
  where
    go : (t : Bool) → elim t as (λ _. ℕ) [ true ↦ 2 ^ i + mask_where f xs | false ↦ mask_where f xs ]
        ≡ cond t (2 ^ i) 0 + mask_where f xs
    go true = refl
    go false = omega arith
weighed f false i x xs = omega arith

module _ (asked i m : ℕ) (six : List Axis) where
  -- the mask from axis i on
  pub rest : ℕ
  rest = mask_where (cannot_arrive asked) (from i m six)

  pub none_more : length six ≤ i → rest ≡ 0
  unfolding rest
  none_more h = ap (mask_where (cannot_arrive asked)) (from-none i m six h)

pub one_more : (asked i m : ℕ) (six : List Axis) → i < length six
    → rest asked i m six ≡ bit_of m (axis_at six i) asked (2 ^ i) + rest asked (i + 1) (m / 2) six
unfolding rest bit_of
one_more asked i m six h =
    ap (mask_where (cannot_arrive asked)) (from_more i m six h)
    ∙ weighed (cannot_arrive asked) (eqb (m % 2) 1) i (axis_at six i) (from (i + 1) (m / 2) six)

pub all : (asked m : ℕ) (six : List Axis) → rest asked 0 m six ≡ mask_where (cannot_arrive asked) (set_axes 0 m six)
unfolding rest
all asked m six = refl

pub bit-at-most : (m : ℕ) (x : Axis) (asked bit : ℕ) → bit_of m x asked bit ≤ bit
unfolding bit_of
bit-at-most m x asked bit = go (cond (eqb (m % 2) 1) (cannot_arrive asked x) false)
  where
    go : (b : Bool) → cond b bit 0 ≤ bit
    go true = omega arith
    go false = omega arith

pub bit-of-six : (i : ℕ) → i ≤ 6 → 2 ^ i ≤ 64
bit-of-six zero h = omega arith
bit-of-six (suc zero) h = omega arith
bit-of-six (suc (suc zero)) h = omega arith
bit-of-six (suc (suc (suc zero))) h = omega arith
bit-of-six (suc (suc (suc (suc zero)))) h = omega arith
bit-of-six (suc (suc (suc (suc (suc zero))))) h = omega arith
bit-of-six (suc (suc (suc (suc (suc (suc zero)))))) h = omega arith
bit-of-six (suc (suc (suc (suc (suc (suc (suc i))))))) h = absurd (omega arith)
