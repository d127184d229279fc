use mathlib.Core.Bool.{false≢true}
use mathlib.Core.Path.{sym, subst, ◌∙◌}
use native.Mathlib.Omega.{arith}
use borrow.Author.Tests.{not-true, not-false}
use Rattle.theorems.proofs.motions.Threshold.{reached-later}
use Rattle.reach.proofs.Steady.{always-slow}
use Rattle.model.specs.planning.Motion.{reachable}
use Rattle.reach.specs.Halving.{Loses}
use Rattle.reach.proofs.loses.Goals as goal

pub returns-then-accelerates : goal.returns-then-accelerates
returns-then-accelerates c =
    record {
      lost = λ e. sym c.reaches.ensures ∙ not-true c.reaches.result e;
      kept = λ e i h r. sym c.reaches.ensures ∙ not-false c.reaches.result e;
    }

-- what a target that does not accelerate lets the axis reach stays reached
pub returns-else-accelerates : goal.returns-else-accelerates
returns-else-accelerates c =
    let x = c.args.x in
    let n = c.args.n in
    subst (Loses (reachable x) n) (sym c.if-accelerates.false)
    (record {
      lost = λ e. absurd (false≢true e);
      kept =
          λ e i h r.
          reached-later x c.requires.passed i n n h (omega arith)
          (always-slow x c.requires.passed (sym c.accelerates.ensures ∙ c.if-accelerates.false) n) r;
    })
