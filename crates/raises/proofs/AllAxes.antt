-- The raises of the axes of a mask, one axis after the other.
use Prim.Native.Nat.{ℕ, ◌+◌, ◌/◌, ◌%◌, ◌<◌}
use mathlib.Core.Path.{◌≡◌, refl, ap, ◌∙◌}
use mathlib.Core.Bool.{Bool, true, false, cond, not, false≢true}
use mathlib.Core.List.{List}
use lib.ListN.{length, set}
use lib.Dec.{eqb, eqb→eq}
use borrow.Author.Tests.{not-true, not-false}
use Rattle.whole.proofs.Tests.{true-T}
use Rattle.model.specs.declared.Axis.{Axis}
use Rattle.model.specs.declared.AxisRaises.{AxisRaises}
use Rattle.model.specs.planning.Motion.{reachable}
use Rattle.model.specs.planning.Job.{JobAxis}
use Rattle.model.specs.calls.Raises.{raises_of, raises_from}
use Rattle.arrival.specs.Arrivals.{missed_by}
use Rattle.model.proofs.SetAxes.{pick, from, axis_at, from_more}

-- an axis that is missed by is named and does not reach n
pub missed-is : (m : ℕ) (x : Axis) (n : ℕ) → missed_by m x n ≡ true → (m % 2 ≡ 1) × (reachable x n ≡ false)
unfolding missed_by
missed-is m x n e = go (eqb (m % 2) 1) refl e
  where
    go : (b : Bool) → eqb (m % 2) 1 ≡ b → cond b (not (reachable x n)) false ≡ true
        → (m % 2 ≡ 1) × (reachable x n ≡ false)
    go true f e = (eqb→eq (m % 2) 1 (true-T f), not-true (reachable x n) e)
    go false f e = absurd (false≢true e)

module _ (n : ℕ) where
  by : ℕ → Axis → List JobAxis → List AxisRaises → Bool → List AxisRaises
  by i x xs l b = elim b [ true ↦ raises_from n xs l | false ↦ raises_from n xs (set l i (raises_of x n)) ]

  one-misses : (b : Bool) (i : ℕ) (x : Axis) (xs : List JobAxis) (l : List AxisRaises)
      → cond b (not (reachable x n)) false ≡ true
      → raises_from n (pick b i x xs) l ≡ raises_from n xs (set l i (raises_of x n))
  unfolding by
  one-misses true i x xs l e = ap (by i x xs l) (not-true (reachable x n) e)
  one-misses false i x xs l e = absurd (false≢true e)

  one-does-not : (b : Bool) (i : ℕ) (x : Axis) (xs : List JobAxis) (l : List AxisRaises)
      → cond b (not (reachable x n)) false ≡ false
      → raises_from n (pick b i x xs) l ≡ raises_from n xs l
  unfolding by
  one-does-not true i x xs l e = ap (by i x xs l) (not-false (reachable x n) e)
  one-does-not false i x xs l e = refl

  module _ (i m : ℕ) (six : List Axis) (l : List AxisRaises) where
    pub missed : i < length six → missed_by m (axis_at six i) n ≡ true
        → raises_from n (from i m six) l
        ≡ raises_from n (from (i + 1) (m / 2) six) (set l i (raises_of (axis_at six i) n))
    unfolding missed_by
    missed h e =
        ap (λ (xs : List JobAxis). raises_from n xs l) (from_more i m six h)
        ∙ one-misses (eqb (m % 2) 1) i (axis_at six i) (from (i + 1) (m / 2) six) l e

    pub not-missed : i < length six → missed_by m (axis_at six i) n ≡ false
        → raises_from n (from i m six) l ≡ raises_from n (from (i + 1) (m / 2) six) l
    unfolding missed_by
    not-missed h e =
        ap (λ (xs : List JobAxis). raises_from n xs l) (from_more i m six h)
        ∙ one-does-not (eqb (m % 2) 1) i (axis_at six i) (from (i + 1) (m / 2) six) l e
