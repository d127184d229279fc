use Prim.Native.Nat.{ℕ, ◌+◌, ◌-◌, ◌/◌}
use mathlib.Core.Path.{◌≡◌, ap, ◌∙◌}
use native.Mathlib.Omega.{arith}
use lib.IntN.{nat_abs, ◌-ℤ◌}
use mir.Syntax.{w64}
use mir.Val.{to_z, of_z}
use Rattle.whole.proofs.Bounds.{exactly, computed}
use Rattle.profile.proofs.FeasibleParts.{steep-by}
use Rattle.envelopes.proofs.RoundedUp.{enough, too_few}
use Rattle.envelopes.proofs.near_tick.Goals as goal

pub returns : goal.returns
returns c =
    let p = c.p.inside in
    let steep = steep-by c.p.view_is c.requires.acceleration_limit_nonzero in
    let d : to_z w64 (of_z w64 (to_z w64 (of_z w64 p.end) -ℤ to_z w64 (of_z w64 p.start))) ≡ p.end -ℤ p.start =
    exactly (search computed depth 20) tt in
    let w : (c.unsigned_abs-way.result + (p.acceleration_limit - 1)) / p.acceleration_limit
    ≡ (nat_abs (p.end -ℤ p.start) + (p.acceleration_limit - 1)) / p.acceleration_limit =
    ap (λ (n : ℕ). (n + (p.acceleration_limit - 1)) / p.acceleration_limit)
    (c.unsigned_abs-way.ensures.value ∙ ap nat_abs d) in
    rw (← c.p.view_is) (record {
      low = omega (arith, c.max.ensures);
      near = enough (nat_abs (p.end -ℤ p.start)) _ _ steep (omega (arith, w, c.max.ensures));
      far =
          λ k h l.
          too_few (nat_abs (p.end -ℤ p.start)) _ k steep (omega (arith, w, l, h, c.max.ensures));
    })
