use Rattle.whole.proofs.Bounds.{sfits, exact, is-of}
use Rattle.motion.proofs.Converted.{from-small}
use Rattle.motion.proofs.correction.Goals as goal

pub overflow_mul-result-3 : goal.overflow_mul-result-3
overflow_mul-result-3 c =
    let h = from-small 256 c.args.x.half_period c.from-h.result c.from-h.ensures c.requires.ranges.half_period in
    sfits (search exact depth 20 fits 9000) tt

pub overflow_mul-result-4 : goal.overflow_mul-result-4
overflow_mul-result-4 c =
    let h = from-small 256 c.args.x.half_period c.from-h.result c.from-h.ensures c.requires.ranges.half_period in
    sfits (search exact depth 20 fits 9000) tt

pub overflow_mul-result-5 : goal.overflow_mul-result-5
overflow_mul-result-5 c =
    let h = from-small 256 c.args.x.half_period c.from-h.result c.from-h.ensures c.requires.ranges.half_period in
    sfits (search exact depth 20 fits 9000) tt

pub returns : goal.returns
returns c =
    let h = from-small 256 c.args.x.half_period c.from-h.result c.from-h.ensures c.requires.ranges.half_period in
    is-of (search exact depth 30 fits 9000) tt
