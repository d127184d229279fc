use Prim.Native.Nat.{ℕ, ◌≤◌}
use mathlib.Core.Path.{◌≡◌, sym, ap, subst, ◌∙◌}
use mathlib.Core.List.{[], ◌∷◌}
use Rattle.std.specs.Prelude.{None}
use native.Mathlib.Omega.{arith}
use Rattle.model.specs.declared.Axis.{Axis}
use Rattle.model.specs.declared.Limit.{Limit}
use Rattle.model.specs.declared.Limit.TheVariants.{Acceleration, Speed}
use Rattle.model.specs.planning.Quantities.{delay, finer}
use Rattle.theorems.specs.GivenWeights.{with_weight}
use Rattle.model.specs.planning.Refusals.{Passed}
use Rattle.model.specs.calls.Raises.{raise_of, in_order}
use Rattle.theorems.proofs.jobs.GivenWeights.{passed-with-weight}
use Rattle.theorems.proofs.calls.LeastRaise.{raise-with-weight}
use Rattle.motion.proofs.PassedRanges.{ranges-of}
use Rattle.raises.proofs.LeastRaises.{too-early, of-task}
use Rattle.raises.proofs.raises_of.Goals as goal

-- the axis with the number B given passes too
given-passed : (x g : Axis) → g ≡ with_weight x → Passed x → Passed g
unfolding finer
given-passed x g e p = subst Passed (sym e) (passed-with-weight (record { number = 0; axis = x } ∷ []) (p, tt)).0

-- its raises are those of the axis
given-raise : (x g : Axis) (n : ℕ) → g ≡ with_weight x → (q : Limit) → raise_of q g n ≡ raise_of q x n
given-raise x g n e q = ap (λ (g : Axis). raise_of q g n) e ∙ raise-with-weight q x n

pub delay_of-requires : goal.delay_of-requires
delay_of-requires c =
    ranges-of (given-passed c.args.x c.with_weight-given.result c.with_weight-given.ensures c.requires.passed)

pub returns-then-n-delay_of : goal.returns-then-n-delay_of
returns-then-n-delay_of c =
    let x = c.args.x in
    let n = c.args.n in
    let g = c.with_weight-given.result in
    let e = c.with_weight-given.ensures in
    let early : n ≤ delay g = omega (arith, c.delay_of.ensures, c.if-n-delay_of.true) in
    let missing : (q : Limit) → None ≡ raise_of q x n =
    λ q. sym (too-early q g n (given-passed x g e c.requires.passed) early) ∙ given-raise x g n e q in
    c.pair.ensures ∙ (λ i. in_order (missing Acceleration i) (missing Speed i))

pub returns : goal.returns
returns c =
    let x = c.args.x in
    let n = c.args.n in
    let g = c.with_weight-given.result in
    let e = c.with_weight-given.ensures in
    let raise : (q : Limit) → _ ≡ raise_of q x n =
    λ q. of-task q g n (given-passed x g e c.requires.passed) c.task_of-task.result c.task_of-task.ensures
    ∙ given-raise x g n e q in
    let m = c.least_raise-m.ensures ∙ raise Acceleration in
    let l = c.least_raise-l.ensures ∙ raise Speed in
    c.in_order.ensures ∙ (λ i. in_order (m i) (l i))
