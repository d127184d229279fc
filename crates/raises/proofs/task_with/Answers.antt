use Prim.Native.Nat.{◌*◌}
use mathlib.Core.Path.{◌≡◌}
use lib.IntN.{◌-ℤ◌}
use lib.Signed.{shr_z}
use mir.Syntax.{w64}
use mir.Val.{to_z, of_z}
use Rattle.whole.proofs.Bounds.{exactly, computed}
use Rattle.raises.proofs.task_with.Goals as goal

pub returns : goal.returns
returns c =
    let a = c.args in
    let s : to_z w64 (of_z w64 a.start) ≡ a.start = exactly (search computed depth 9) tt in
    let e : to_z w64 (of_z w64 a.end) ≡ a.end = exactly (search computed depth 9) tt in
    let sum : to_z w64
    (of_z w64 (shr_z (to_z w64
    (of_z w64 (to_z w64 (of_z w64 (to_z w64 (of_z w64 a.travel) -ℤ to_z w64 (of_z w64 a.start)))
    -ℤ to_z w64 (of_z w64 a.end)))) 2)) ≡ shr_z (a.travel -ℤ a.start -ℤ a.end) 2 =
    exactly (search computed depth 30) tt in
    λ i.
    record {
      start = s i;
      end = e i;
      ticks = a.ticks;
      fastest = a.fastest;
      sum = sum i;
      steps = c.finer.ensures i * 256;
      speed = a.x.speed_limit;
      acceleration = a.x.acceleration_limit;
    }
