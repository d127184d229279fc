use native.Mathlib.Omega.{arith}
use mathlib.Core.Path.{sym, ◌∙◌}
use Rattle.arrival.proofs.Reaching.{not_missed}
use Rattle.model.proofs.SetAxes.{passed-from}
use Rattle.arrival.proofs.reached.all_reach.Goals as goal

pub loop-axis-preserved : goal.loop-axis-preserved
loop-axis-preserved c =
    let l = c.loop-axis in
    let a = c.args in
    let hit = sym c.misses.ensures ∙ c.if-misses.false in
    record {
      passed = (passed-from l.axis-index l.bits a.axes (omega arith) l.invariant.passed).later;
      reach = sym (not_missed a.tick l.axis-index l.bits a.axes (omega arith) hit) ∙ l.invariant.reach;
    }
