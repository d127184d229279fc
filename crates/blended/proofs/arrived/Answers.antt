use native.Mathlib.Omega.{arith}
use Rattle.whole.proofs.Bounds.{exact, sfits, exactly}
use Rattle.blended.proofs.BlendedRanges.{landed-within}
use Rattle.blended.proofs.BlendedSteps.{state-landed}
use Rattle.blended.proofs.arrived.Goals as goal

-- the destination's range is that of the blended position
pub overflow_mul-result : goal.overflow_mul-result
overflow_mul-result c =
    let w = landed-within c.args.p c.requires.plan_ranges c.args.n (omega arith) c.requires.lands_at in
    sfits (search exact depth 9) tt

pub returns : goal.returns
returns c =
    let w = landed-within c.args.p c.requires.plan_ranges c.args.n (omega arith) c.requires.lands_at in
    state-landed c.args.p c.args.n _ _ c.requires.lands_at (exactly (search exact depth 9) tt)
    (exactly (search exact depth 9) tt)
