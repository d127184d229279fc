use native.Mathlib.Omega.{arith}
use Rattle.model.specs.planning.Motion.{reachable}
use Rattle.motion.proofs.PassedRanges.{ranges-of}
use Rattle.reach.proofs.Steady.{reach-after}
use Rattle.reach.proofs.Halves.{some-passes, none_passes}
use mathlib.Core.Path.{sym, subst}
use Rattle.whole.proofs.Tests.{ltb_no}
use Rattle.reach.specs.Halving.{ReachesSome}
use Rattle.reach.proofs.reaches_while_slow.Goals as goal

pub delay_of-delay-requires : goal.delay_of-delay-requires
delay_of-delay-requires c = ranges-of c.requires.passed

pub returns-then-delay-last : goal.returns-then-delay-last
returns-then-delay-last c =
    some-passes (reachable c.args.x) _ c.args.last c.last_slow.result _ (omega arith)
    (λ k h. reach-after c.args.x k (omega (arith, c.delay_of-delay.ensures)))
    c.last_slow.ensures c.reaches.ensures

pub returns-else-delay-last : goal.returns-else-delay-last
returns-else-delay-last c =
    subst (ReachesSome (reachable c.args.x) c.args.last) (sym (ltb_no c.if-delay-last.false))
    (none_passes (reachable c.args.x) c.args.last
    (λ k h. reach-after c.args.x k (omega (arith, c.if-delay-last.false, c.delay_of-delay.ensures))))
