use Rattle.whole.proofs.Bounds.{sfits, computed, is-of, cast-small}
use Rattle.reach.proofs.approach.Approach.travel_later.Goals as goal

pub overflow_mul-result : goal.overflow_mul-result
overflow_mul-result c =
    let i = cast-small 4096 c.args.i c.requires.i_bound tt in
    let r = c.requires.approach_ranged in
    sfits (search computed depth 9) tt

pub overflow_mul-result-2 : goal.overflow_mul-result-2
overflow_mul-result-2 c =
    let i = cast-small 4096 c.args.i c.requires.i_bound tt in
    let r = c.requires.approach_ranged in
    sfits (search computed depth 9) tt

pub overflow_add-result : goal.overflow_add-result
overflow_add-result c =
    let i = cast-small 4096 c.args.i c.requires.i_bound tt in
    let r = c.requires.approach_ranged in
    sfits (search computed depth 20) tt

pub overflow_mul-result-3 : goal.overflow_mul-result-3
overflow_mul-result-3 c =
    let i = cast-small 4096 c.args.i c.requires.i_bound tt in
    let r = c.requires.approach_ranged in
    sfits (search computed depth 20) tt

pub overflow_add-result-2 : goal.overflow_add-result-2
overflow_add-result-2 c =
    let i = cast-small 4096 c.args.i c.requires.i_bound tt in
    let r = c.requires.approach_ranged in
    sfits (search computed depth 20) tt

pub returns : goal.returns
returns c =
    let i = cast-small 4096 c.args.i c.requires.i_bound tt in
    let r = c.requires.approach_ranged in
    is-of (search computed depth 30) tt
