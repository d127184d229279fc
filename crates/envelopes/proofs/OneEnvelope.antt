-- Rule 4 decided by the upper envelope alone: of a leg that goes at least as far as the straight
-- line between its ends, else of the leg mirrored.
use Prim.Native.Nat.{ℕ, ◌-◌, ◌*◌, ◌%◌, ◌^◌, ◌≤◌, ◌<◌}
use mathlib.Core.Path.{◌≡◌, sym, ap, subst, ◌∙◌}
use mathlib.Core.Bool.{Bool, true}
use mathlib.Core.List.{[], ◌∷◌}
use native.Mathlib.Omega.{arith}
use lib.Dec.{T, le→leb, eqb}
use lib.IntN.{ℤ, pos, neg_ℤ, nat_abs, ◌+ℤ◌, ◌-ℤ◌, ◌*ℤ◌}
use lib.Signed.{le_z, ◌≤ℤ◌, ◌<ℤ◌}
use Rattle.whole.specs.Integers.{sum_to}
use Rattle.whole.proofs.Differences.{whole, all₂}
use Rattle.whole.proofs.Laws.{nat_abs-neg}
use Rattle.whole.proofs.Ring.{pol, same}
use Rattle.whole.proofs.Tests.{true-T}
use Rattle.model.specs.planning.Leg.{Leg, upper, required, twice_required, sum_is_whole, tests, feasible}
use Rattle.theorems.proofs.legs.Envelopes.{Joined}
use Rattle.theorems.proofs.legs.FeasibleTests.{every, feasible-below}
use Rattle.envelopes.proofs.EnvelopeSums.{mirrored}
use Rattle.envelopes.proofs.Mirrors.{same_truth, feasible-mirrored, apart-neg}
use Rattle.envelopes.proofs.StraightLine.{above_lower}

-- the upper envelope's sum comes up to the required one
abbrev pub comes_up : Leg → ℤ → Bool
comes_up g d = le_z (required g d) (sum_to (upper g) (g.ticks - 1))

pub ahead : (g : Leg) (d : ℤ) → 0 < g.ticks → Joined g → (pos g.ticks *ℤ (g.start +ℤ g.end)) ≤ℤ d
    → sum_is_whole g d ≡ true → comes_up g d ≡ feasible g d
ahead g d some j far even = same_truth _ _ there (λ t. (feasible-below g d t).le)
  where
    there : T (comes_up g d) → T (feasible g d)
    there t =
        every (tests g d) (
          le→leb (nat_abs g.start) g.speed_limit j.start,
          (
            le→leb (nat_abs g.end) g.speed_limit j.end,
            (
              le→leb (nat_abs (g.end -ℤ g.start)) (g.acceleration_limit * g.ticks) j.apart,
              (true-T even, ((above_lower g j some d far).le, (t, tt))),
            ),
          ),
        )

pub mirrored-joined : (g : Leg) → Joined g → Joined (mirrored g)
mirrored-joined g j =
    record {
      start = subst (λ (n : ℕ). n ≤ g.speed_limit) (sym (nat_abs-neg g.start)) j.start;
      end = subst (λ (n : ℕ). n ≤ g.speed_limit) (sym (nat_abs-neg g.end)) j.end;
      apart = subst (λ (n : ℕ). n ≤ g.acceleration_limit * g.ticks) (sym (apart-neg g.start g.end)) j.apart;
    }

-- behind the line the mirrored leg is ahead of it
pub behind : (g : Leg) (d : ℤ) → 0 < g.ticks → 0 < g.acceleration_limit → g.speed_limit ≤ 2 ^ 37 → Joined g
    → d <ℤ (pos g.ticks *ℤ (g.start +ℤ g.end)) → sum_is_whole g d ≡ true
    → comes_up (mirrored g) (neg_ℤ d) ≡ feasible g d
behind g d some strong slow j far even =
    ahead (mirrored g) (neg_ℤ d) some (mirrored-joined g j) over even-too ∙ sym (feasible-mirrored g d some strong slow)
  where
    turned : (t s e : ℤ) → t *ℤ (neg_ℤ s +ℤ neg_ℤ e) ≡ neg_ℤ (t *ℤ (s +ℤ e))
    turned t s e = same (t ∷ s ∷ e ∷ []) (search pol depth 20 fits 9000) tt

    flip : (x y : ℤ) → x <ℤ y → neg_ℤ y ≤ℤ neg_ℤ x
    flip = all₂ _ (λ a b c d. simp whole (omega arith))

    over : (pos g.ticks *ℤ (neg_ℤ g.start +ℤ neg_ℤ g.end)) ≤ℤ neg_ℤ d
    over = subst (λ (z : ℤ). z ≤ℤ neg_ℤ d) (sym (turned (pos g.ticks) g.start g.end)) (flip d _ far)

    twice : (d s e : ℤ) → neg_ℤ d -ℤ neg_ℤ s -ℤ neg_ℤ e ≡ neg_ℤ (d -ℤ s -ℤ e)
    twice d s e = same (d ∷ s ∷ e ∷ []) (search pol depth 20 fits 9000) tt

    even-too : sum_is_whole (mirrored g) (neg_ℤ d) ≡ true
    even-too =
        ap (λ (z : ℤ). eqb (nat_abs z % 2) 0) (twice d g.start g.end)
        ∙ ap (λ (n : ℕ). eqb (n % 2) 0) (nat_abs-neg (twice_required g d))
        ∙ even
