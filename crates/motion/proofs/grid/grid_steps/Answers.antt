use mathlib.Core.Path.{ap, ◌∙◌}
use lib.IntN.{pos}
use Rattle.whole.proofs.Bounds.{exact, is-of}
use Rattle.model.specs.planning.Quantities.{finer}
use Rattle.theorems.proofs.motions.Grid.{finer-range}
use Rattle.motion.proofs.Converted.{from-small}
use Rattle.motion.proofs.grid.grid_steps.Goals as goal

pub returns : goal.returns
returns c =
    let h = from-small 256 (finer c.args.x) c.from.result (c.from.ensures ∙ ap pos c.finer.ensures)
    (finer-range c.args.x).1 in
    is-of (search exact depth 9) tt
