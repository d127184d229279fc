use Rattle.whole.proofs.Bounds.{sfits, computed, is-of, cast-small}
use Rattle.reach.proofs.approach.Approach.arrived_later.Goals as goal

pub overflow_mul-result : goal.overflow_mul-result
overflow_mul-result c =
    let d = cast-small 512 c.args.self.delay c.requires.approach_ranged.delay tt in
    let r = c.requires.approach_ranged in
    sfits (search computed depth 9) tt

pub overflow_add-result : goal.overflow_add-result
overflow_add-result c =
    let d = cast-small 512 c.args.self.delay c.requires.approach_ranged.delay tt in
    let r = c.requires.approach_ranged in
    sfits (search computed depth 20) tt

pub returns : goal.returns
returns c =
    let d = cast-small 512 c.args.self.delay c.requires.approach_ranged.delay tt in
    let r = c.requires.approach_ranged in
    is-of (search computed depth 20) tt
