use mathlib.Core.Path.{◌∙◌}
use Rattle.whole.proofs.Bounds.{exactly, exact, loose, lt-taken, lt-left}
use Rattle.whole.proofs.Rounding.{quot-nearest, quot-nearest-below}
use Rattle.whole.proofs.nearest.Goals as goal

pub returns-then-x-lt0 : goal.returns-then-x-lt0
returns-then-x-lt0 g c =
    exactly (search exact depth 20) tt
    ∙ quot-nearest-below c.args.x g.row.D c.requires.divisor_nonzero
    (lt-taken c.if-x-lt0.true (search loose depth 9) tt)

pub returns-else-x-lt0 : goal.returns-else-x-lt0
returns-else-x-lt0 g c =
    exactly (search exact depth 20) tt
    ∙ quot-nearest c.args.x g.row.D c.requires.divisor_nonzero (lt-left c.if-x-lt0.false (search loose depth 9) tt)
