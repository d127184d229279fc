use mathlib.Core.Path.{sym, subst}
use Rattle.whole.specs.Ranges.{Within}
use Rattle.whole.proofs.Bounds.{within, computed}
use Rattle.engines.specs.Legs.{Drawn}
use Rattle.engines.proofs.displacement.Goals as goal

pub returns-then-leg-eq0 : goal.returns-then-leg-eq0
returns-then-leg-eq0 c =
    let drawn = subst Drawn (sym c.p.view_is) c.requires.drawn in
    let s : Within 8388608 c.p.inside.start = drawn.start in
    let e : Within 8388608 c.p.inside.end = drawn.end in
    within (search computed depth 20) tt

pub returns-else-leg-eq0 : goal.returns-else-leg-eq0
returns-else-leg-eq0 c =
    let drawn = subst Drawn (sym c.p.view_is) c.requires.drawn in
    let s : Within 8388608 c.p.inside.start = drawn.start in
    let e : Within 8388608 c.p.inside.end = drawn.end in
    within (search computed depth 20) tt
