use Prim.Native.Nat.{◌-◌}
use mathlib.Core.Path.{ap}
use native.Mathlib.Omega.{arith}
use lib.IntN.{ℤ}
use lib.Signed.{◌≤ℤ◌, ◌<ℤ◌}
use Rattle.whole.specs.Integers.{sum_to}
use Rattle.whole.proofs.Bounds.{computed, lt-taken}
use Rattle.whole.proofs.Differences.{whole, all₃}
use Rattle.model.specs.planning.Leg.{Leg, upper}
use Rattle.areas.specs.Areas.{split_area}
use Rattle.areas.proofs.UpperSplits.{split-above}
use Rattle.envelopes.specs.Skips.{split_at}
use Rattle.envelopes.proofs.skips.falls_short.Goals as goal

below : (x y z : ℤ) → x ≤ℤ y → y <ℤ z → x <ℤ z
below = all₃ _ (λ a b c d e f. simp whole (omega arith))

pub returns : goal.returns
returns c t =
    let p = c.args.p in
    let w = c.requires.within in
    let ticks = ap (λ (l : Leg). l.ticks) c.p.view_is in
    let rising = c.min-rising.ensures in
    let falling = c.min-falling.ensures in
    below (sum_to (upper p) (p.ticks - 1))
    (split_area p (split_at p c.min-rising.result c.min-falling.result)) c.args.sum
    (split-above p (split_at p c.min-rising.result c.min-falling.result)
    (omega (arith, rising, falling, ticks)))
    (lt-taken t (search computed depth 20) tt)
