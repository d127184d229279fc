use Prim.Native.Nat.{◌^◌}
use Rattle.whole.proofs.Bounds.{exact, sfits, is-of}
use Rattle.motion.proofs.Converted.{from-small}
use Rattle.blended.proofs.mix.Goals as goal

pub overflow_add-result : goal.overflow_add-result
overflow_add-result c =
    let a = from-small (2 ^ 16) c.args.first_weight c.from.result c.from.ensures c.requires.first_weight_bound in
    let b = from-small (2 ^ 16) c.args.second_weight c.from-2.result c.from-2.ensures c.requires.second_weight_bound in
    sfits (search exact depth 20) tt

pub returns : goal.returns
returns c =
    let a = from-small (2 ^ 16) c.args.first_weight c.from.result c.from.ensures c.requires.first_weight_bound in
    let b = from-small (2 ^ 16) c.args.second_weight c.from-2.result c.from-2.ensures c.requires.second_weight_bound in
    is-of (search exact depth 20) tt
