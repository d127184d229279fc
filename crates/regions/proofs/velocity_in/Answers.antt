use Prim.Native.Nat.{◌-◌}
use mathlib.Core.Path.{sym}
use native.Mathlib.Omega.{arith}
use Rattle.whole.proofs.Bounds.{sfits, is-of, exact, then_is, cast-small}
use Rattle.regions.proofs.ChosenRegions.{in_start, in_end, in-raised, in-level}
use Rattle.regions.proofs.velocity_in.Goals as goal

pub overflow_add-result : goal.overflow_add-result
overflow_add-result c =
    let k = cast-small 4096 c.args.k (omega arith) tt in
    sfits (search exact depth 20) tt

pub returns-then-k-r : goal.returns-then-k-r
returns-then-k-r c =
    let k = cast-small 4096 c.args.k (omega arith) tt in
    then_is (is-of (search exact depth 20) tt) (sym (in_start c.args.r c.args.k c.if-k-r.true))

pub overflow_mul-result-then-r-k : goal.overflow_mul-result-then-r-k
overflow_mul-result-then-r-k c =
    let k = cast-small 4096 (c.args.r.ticks - c.args.k) (omega arith) tt in
    sfits (search exact depth 9) tt

pub overflow_add-result-then-r-k : goal.overflow_add-result-then-r-k
overflow_add-result-then-r-k c =
    let k = cast-small 4096 (c.args.r.ticks - c.args.k) (omega arith) tt in
    sfits (search exact depth 20) tt

pub returns-then-r-k : goal.returns-then-r-k
returns-then-r-k c =
    let k = cast-small 4096 (c.args.r.ticks - c.args.k) (omega arith) tt in
    then_is (is-of (search exact depth 20) tt)
    (sym (in_end c.args.r c.args.k c.if-k-r.false c.if-r-k.true))

pub returns-then-k-r-2 : goal.returns-then-k-r-2
returns-then-k-r-2 c =
    then_is (is-of (search exact depth 9) tt)
    (sym (in-raised c.args.r c.args.k c.if-k-r.false c.if-r-k.false c.if-k-r-2.true))

pub returns-else-k-r-2 : goal.returns-else-k-r-2
returns-else-k-r-2 c =
    then_is (is-of (search exact depth 9) tt)
    (sym (in-level c.args.r c.args.k c.if-k-r.false c.if-r-k.false c.if-k-r-2.false))
