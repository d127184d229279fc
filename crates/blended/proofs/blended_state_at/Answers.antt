use native.Mathlib.Omega.{arith}
use Rattle.whole.proofs.Bounds.{exact, sfits, exactly}
use Rattle.blended.proofs.BlendedRanges.{position-is, velocity-is}
use Rattle.blended.proofs.BlendedSums.{state-by-sum}
use Rattle.blended.proofs.blended_state_at.Goals as goal

pub overflow_add-result : goal.overflow_add-result
overflow_add-result c =
    let q = position-is c.args.p c.requires.plan_ranges 0 c.started-first.result
    (omega arith) c.started-first.ensures in
    let v = velocity-is c.args.p c.requires.plan_ranges 0 c.started-first.result
    (omega arith) c.started-first.ensures in
    sfits (search exact depth 20) tt

pub overflow_add-result-2 : goal.overflow_add-result-2
overflow_add-result-2 c =
    let q = position-is c.args.p c.requires.plan_ranges 0 c.started-first.result
    (omega arith) c.started-first.ensures in
    let v = velocity-is c.args.p c.requires.plan_ranges 0 c.started-first.result
    (omega arith) c.started-first.ensures in
    sfits (search exact depth 20) tt

pub overflow_sub-result : goal.overflow_sub-result
overflow_sub-result c =
    let q = position-is c.args.p c.requires.plan_ranges 0 c.started-first.result
    (omega arith) c.started-first.ensures in
    let v = velocity-is c.args.p c.requires.plan_ranges 0 c.started-first.result
    (omega arith) c.started-first.ensures in
    sfits (search exact depth 20) tt

pub returns : goal.returns
returns c =
    let q = position-is c.args.p c.requires.plan_ranges 0 c.started-first.result
    (omega arith) c.started-first.ensures in
    let v = velocity-is c.args.p c.requires.plan_ranges 0 c.started-first.result
    (omega arith) c.started-first.ensures in
    state-by-sum c.args.p c.args.k _ _ (exactly (search exact depth 20) tt) (exactly (search exact depth 9) tt)
