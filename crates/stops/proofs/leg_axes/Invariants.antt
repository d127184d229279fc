-- `leg_axes`: the axes before axis i are those of the leg.
use mathlib.Core.Path.{◌≡◌}
use lib.ListN.{length, take}
use Rattle.model.specs.calls.Tour.{leg_axes}
use Rattle.stops.proofs.leg_axes.Given as goal

abbrev pub invariant-loop-i : goal.invariant-loop-i
invariant-loop-i l =
    record {
      limits : length l.limits ≡ 6;
      starts : length l.here ≡ 6;
      ends : length l.there ≡ 6;
      long : length l.axes ≡ 6;
      front : take l.i l.axes ≡ take l.i (leg_axes l.limits l.here l.there);
    }
