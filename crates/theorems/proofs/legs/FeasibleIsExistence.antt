-- The decision `feasible` is the existence of a list that meets rule 4.
use Prim.Native.Nat.{ℕ, suc, ◌-◌, ◌*◌, ◌%◌, ◌^◌, ◌≤◌, ◌<◌}
use mathlib.Core.Path.{◌≡◌, sym, ap, ap₂, ◌∙◌, subst, subst₂}
use mathlib.Core.List.{[], ◌∷◌}
use mathlib.Core.Logic.{◌↔◌}
use native.Mathlib.Omega.{arith}
use lib.Dec.{T, le→leb, eqb}
use lib.ListN.{get_or}
use lib.IntN.{ℤ, pos, nat_abs, ◌+ℤ◌, ◌-ℤ◌, ◌*ℤ◌}
use lib.Signed.{le_z, shr_z, ◌≤ℤ◌}
use Rattle.whole.specs.Integers.{sum_to}
use Rattle.whole.proofs.Ring.{pol, same}
use Rattle.whole.proofs.Rounding.{twice-even, half_twice}
use Rattle.whole.proofs.Sums.{sum_mono}
use Rattle.model.specs.planning.Leg.{Leg, Meets, Feasible, travelled, upper, lower, twice_required, required}
use Rattle.model.specs.planning.Leg.{chosen, sum_is_whole, tests, feasible}
use Rattle.theorems.proofs.legs.Envelopes.{Joined, above_lower, below-upper, meets-joined}
use Rattle.theorems.proofs.legs.ChosenMeets.{chosen-meets}
use Rattle.theorems.proofs.legs.FeasibleTests.{every}
use Rattle.theorems.proofs.motions.Travel.{travelled-is}

-- ---- where some list meets rule 4, the tests pass

module _ (g : Leg) (n : ℕ) (hT : g.ticks ≡ suc n) (δ : ℤ) (w : ℕ → ℤ) (m : Meets g δ w) where
  twice-is : twice_required g δ ≡ pos 2 *ℤ sum_to w n
  twice-is =
      ap (λ (z : ℤ). z -ℤ g.start -ℤ g.end) (sym m.travels ∙ ap (travelled w) hT ∙ travelled-is w n)
      ∙ ap₂ (λ (a b : ℤ). a +ℤ pos 2 *ℤ sum_to w n +ℤ b -ℤ g.start -ℤ g.end) m.starts (sym (ap w hT) ∙ m.ends)
      ∙ same (g.start ∷ g.end ∷ sum_to w n ∷ []) (search pol depth 20 fits 9000) tt

  required-is : required g δ ≡ sum_to w n
  required-is = ap (λ (z : ℤ). shr_z z 2) twice-is ∙ half_twice (sum_to w n)

  whole-test : T (sum_is_whole g δ)
  whole-test = subst (λ (k : ℕ). T (eqb k 0)) (sym (ap (λ (z : ℤ). nat_abs z % 2) twice-is
      ∙ twice-even (sum_to w n))) tt

  last : g.ticks - 1 ≡ n
  last = omega arith

  low-test : T (le_z (sum_to (lower g) (g.ticks - 1)) (required g δ))
  low-test = subst₂ (λ (k : ℕ) (z : ℤ). T (le_z (sum_to (lower g) k) z)) (sym last) (sym required-is) low.le
    where
      low : sum_to (lower g) n ≤ℤ sum_to w n
      low = sum_mono (lower g) w n (λ k h. above_lower g δ w m k (omega arith))

  high-test : T (le_z (required g δ) (sum_to (upper g) (g.ticks - 1)))
  high-test = subst₂ (λ (k : ℕ) (z : ℤ). T (le_z z (sum_to (upper g) k))) (sym last) (sym required-is) high.le
    where
      high : sum_to w n ≤ℤ sum_to (upper g) n
      high = sum_mono w (upper g) n (λ k h. below-upper g δ w m k (omega arith))

  pub meets-feasible : T (feasible g δ)
  meets-feasible =
      let j : Joined g = meets-joined g δ w m in
      every (tests g δ) (
        le→leb (nat_abs g.start) g.speed_limit j.start,
        (
          le→leb (nat_abs g.end) g.speed_limit j.end,
          (
            le→leb (nat_abs (g.end -ℤ g.start)) (g.acceleration_limit * g.ticks) j.apart,
            (whole-test, (low-test, (high-test, tt))),
          ),
        ),
      )

-- ---- rule 4 is decided by the tests

pub feasible-is : (g : Leg) (δ : ℤ) → 0 < g.ticks → 0 < g.acceleration_limit → g.speed_limit ≤ 2 ^ 37
    → Feasible g δ ↔ T (feasible g δ)
feasible-is g δ h hA small = (
  λ p. meets-feasible g (g.ticks - 1) shape δ p.0 p.1,
  λ t. ((λ k. get_or (g.start ∷ chosen g (required g δ)) k (pos 0)), chosen-meets g δ h hA small t),
)
  where
    shape : g.ticks ≡ suc (g.ticks - 1)
    shape = omega arith
