use native.Mathlib.Omega.{arith}
use Rattle.theorems.proofs.motions.Grid.{finer-range}
use Rattle.planned.proofs.weight_scale.Goals as goal

pub nonzero_div-result-2 : goal.nonzero_div-result-2
nonzero_div-result-2 c = omega (arith, c.finer.ensures, (finer-range c.args.x).0)
