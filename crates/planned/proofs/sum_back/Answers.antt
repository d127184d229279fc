use mathlib.Core.Path.{◌∙◌}
use native.Mathlib.Omega.{arith}
use Rattle.whole.proofs.Bounds.{exact, sfits, exactly}
use Rattle.motion.proofs.Converted.{from-small}
use Rattle.planned.proofs.PlannedSums.{back-sum-is, back-sum-early, back-sum-late}
use Rattle.planned.proofs.sum_back.Goals as goal

pub returns-then-k-d : goal.returns-then-k-d
returns-then-k-d c =
    let a = c.args in
    let r = c.requires.plan_ranges in
    let k = from-small 4097 a.k c.from.result c.from.ensures (omega arith) in
    back-sum-is a.p r a.k c.requires.k_bound a.d _
    (exactly (search exact depth 20) tt ∙ back-sum-early a.p a.d a.k r.some (omega arith))

pub overflow_mul-result-2 : goal.overflow_mul-result-2
overflow_mul-result-2 c =
    let d = from-small 512 c.args.d c.from-2.result c.from-2.ensures c.requires.d_bound in
    sfits (search exact depth 20) tt

pub overflow_add-result : goal.overflow_add-result
overflow_add-result c =
    let d = from-small 512 c.args.d c.from-2.result c.from-2.ensures c.requires.d_bound in
    sfits (search exact depth 20) tt

pub returns : goal.returns
returns c =
    let a = c.args in
    let r = c.requires.plan_ranges in
    let d = from-small 512 a.d c.from-2.result c.from-2.ensures c.requires.d_bound in
    back-sum-is a.p r a.k c.requires.k_bound a.d _
    (exactly (search exact depth 20) tt ∙ back-sum-late a.p a.d a.k r.some c.if-k-d.false)
