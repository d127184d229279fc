use Prim.Native.Nat.{◌+◌}
use mathlib.Core.Path.{◌≡◌}
use mir.Syntax.{w64}
use mir.Val.{to_z, of_z}
use Rattle.whole.proofs.Bounds.{exactly, computed}
use Rattle.reach.specs.Approaches.{end_later}
use Rattle.reach.proofs.approach.Approach.profile_later.Goals as goal

pub returns : goal.returns
returns c =
    let r = c.requires.approach_ranged in
    let s : to_z w64 (of_z w64 c.args.self.start) ≡ c.args.self.start = exactly (search computed depth 9) tt in
    let e : to_z w64 (of_z w64 c.end_later.result) ≡ end_later c.args.self c.args.i =
    exactly (search computed depth 9) tt in
    λ j. record {
      speed_limit = c.args.self.speed_limit;
      acceleration_limit = c.args.self.acceleration_limit;
      start = s j;
      end = e j;
      ticks = c.args.self.ticks + c.args.i;
    }
