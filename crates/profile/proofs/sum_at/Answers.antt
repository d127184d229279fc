use Prim.Native.Nat.{◌+◌, ◌-◌, ◌*◌, ◌^◌, ◌≤◌}
use mathlib.Core.Path.{subst, ◌∙◌}
use native.Mathlib.Omega.{arith}
use lib.IntN.{ℤ, nat_abs, ◌+ℤ◌}
use mir.Syntax.{w64}
use mir.Val.{to_z, of_z}
use Rattle.whole.proofs.Laws.{nat_abs-+}
use Rattle.whole.specs.Ranges.{Is}
use Rattle.whole.proofs.Bounds.{exactly, exact}
use Rattle.whole.proofs.Sums.{sum-through}
use Rattle.whole.specs.Integers.{sum_to}
use Rattle.model.specs.planning.Leg.{clamped}
use Rattle.profile.proofs.sum_at.Goals as goal

pub loop-k-preserved : goal.loop-k-preserved
loop-k-preserved c =
    let l = c.loop-k in
    let f = clamped c.args.p (to_z w64 (of_z w64 c.args.c)) in
    let more : nat_abs (sum_to f (l.k - 1) +ℤ f l.k) ≤ (l.k + 1) * 2 ^ 47 =
    omega (arith, nat_abs-+ (sum_to f (l.k - 1)) (f l.k), c.velocity-sum.ensures.within, l.invariant.small) in
    let so_far : Is (2 ^ 59) (to_z w64 l.sum-bits) (sum_to f (l.k - 1)) =
    record { is = l.invariant.sums; within = omega arith } in
    record {
      low = omega arith;
      high = omega arith;
      sums = exactly (search exact depth 20) tt ∙ sum-through f l.k l.invariant.low;
      small = subst (λ (z : ℤ). nat_abs z ≤ (l.k + 1) * 2 ^ 47) (sum-through f l.k l.invariant.low) more;
    }
