use Prim.Native.Nat.{ℕ, ◌^◌}
use mathlib.Core.Path.{subst}
use native.Mathlib.Omega.{arith}
use native.Mathlib.Numerals.{add-one}
use Rattle.whole.specs.Ranges.{Is}
use Rattle.whole.proofs.Bounds.{exact, sfits, exactly}
use Rattle.blended.specs.BlendedStates.{blended_velocity}
use Rattle.blended.proofs.BlendedSteps.{state-next}
use Rattle.blended.proofs.BlendedRanges.{position-is, velocity-is}
use Rattle.blended.proofs.next_state.Goals as goal

pub overflow_add-result : goal.overflow_add-result
overflow_add-result c =
    let q = position-is c.args.p c.requires.plan_ranges c.args.k c.args.t (omega arith) c.requires.t_value in
    let v = velocity-is c.args.p c.requires.plan_ranges c.args.k c.args.t (omega arith) c.requires.t_value in
    sfits (search exact depth 20) tt

pub overflow_add-result-2 : goal.overflow_add-result-2
overflow_add-result-2 c =
    let q = position-is c.args.p c.requires.plan_ranges c.args.k c.args.t (omega arith) c.requires.t_value in
    let v = velocity-is c.args.p c.requires.plan_ranges c.args.k c.args.t (omega arith) c.requires.t_value in
    sfits (search exact depth 20) tt

pub returns : goal.returns
returns c =
    let q = position-is c.args.p c.requires.plan_ranges c.args.k c.args.t (omega arith) c.requires.t_value in
    let v = velocity-is c.args.p c.requires.plan_ranges c.args.k c.args.t (omega arith) c.requires.t_value in
    let w = subst (λ (k : ℕ). Is (2 ^ 46) c.blended_velocity-velocity.result (blended_velocity c.args.p k))
    (add-one c.args.k) c.blended_velocity-velocity.ensures in
    state-next c.args.p c.args.k _ _ (exactly (search exact depth 20) tt) (exactly (search exact depth 20) tt)
