use Prim.Native.Nat.{◌^◌}
use mathlib.Core.Path.{refl, sym, ap, subst}
use native.Mathlib.Omega.{arith}
use Rattle.whole.specs.Ranges.{Within}
use Rattle.whole.proofs.Bounds.{sfits, computed, is-of, then_is}
use Rattle.model.specs.declared.Target.{Target}
use Rattle.reach.specs.Drift.{speed_of, drift_of}
use Rattle.reach.proofs.drift_of.Goals as goal

pub overflow_mul-result : goal.overflow_mul-result
overflow_mul-result c =
    let w = subst (λ (t : Target). Within (2 ^ 20) (speed_of t)) c.in-Moving.is c.requires in
    sfits (search computed depth 9) tt

pub returns-in-Fixed : goal.returns-in-Fixed
returns-in-Fixed c = then_is (record { is = refl; within = omega arith }) (sym (ap drift_of c.in-Fixed.is))

pub returns-in-Moving : goal.returns-in-Moving
returns-in-Moving c =
    let w = subst (λ (t : Target). Within (2 ^ 20) (speed_of t)) c.in-Moving.is c.requires in
    then_is (is-of (search computed depth 9) tt) (sym (ap drift_of c.in-Moving.is))
