use Prim.Native.Nat.{◌-◌}
use mathlib.Core.Path.{subst}
use native.Mathlib.Omega.{arith}
use Rattle.whole.proofs.Bounds.{sfits, exact, cast-small}
use Rattle.model.specs.planning.Leg.{Leg}
use Rattle.envelopes.specs.Skips.{ShortTo}
use Rattle.envelopes.specs.Sums.{between}
use Rattle.envelopes.proofs.Skipping.{short-missed, mirrored-missed, skips-to}
use Rattle.envelopes.proofs.skips.skip_missed.Goals as goal

pub overflow_mul-inner : goal.overflow_mul-inner
overflow_mul-inner c =
    let n = cast-small 4096 (c.p.inside.ticks - 1) (omega (arith, c.p.invariant.ticks)) tt in
    sfits (search exact depth 20) tt

pub returns-then-inner-p : goal.returns-then-inner-p
returns-then-inner-p c =
    let g = c.args.p in
    let r = c.skip_short.result in
    let w = c.skip_short.ensures in
    skips-to (between c.args.sought g) g.ticks c.args.last r c.requires.lasting w.low w.high
    (λ l. short-missed c.args.sought g (r - 1) (w.short l))

pub returns : goal.returns
returns c =
    let g = c.args.p in
    let r = c.skip_short-2.result in
    let w =
    subst (λ (p : Leg). ShortTo p c.mirrored-2.result c.args.last r) c.mirrored.ensures c.skip_short-2.ensures in
    skips-to (between c.args.sought g) g.ticks c.args.last r c.requires.lasting w.low w.high
    (λ l. mirrored-missed c.args.sought g (r - 1) c.mirrored-2.result c.mirrored-2.ensures (w.short l))
