-- `legs_of`: the legs to the stops that are left, after the arrivals so far, are those of all
-- stops.
use Rattle.std.proofs.Common.{◌≡◌, ◌*◌, ◌≤◌, [], length, take, drop}
use Rattle.std.specs.Prelude.{None}
use Rattle.model.specs.calls.Tour.{legs_from, first_long_dwell}
use Rattle.tour.proofs.legs_of.Given as goal

abbrev pub invariant-loop-i : goal.invariant-loop-i
invariant-loop-i l =
    record {
      legs : legs_from l.fn.settings (drop l.i l.stops) l.tick l.here (take l.i l.arrivals)
          ≡ legs_from l.fn.settings l.stops 0 l.fn.settings.start [];
      dwells : first_long_dwell l.i (drop l.i l.stops) ≡ None;
      ticks : l.tick ≤ l.i * 8192;
      long : length l.arrivals ≡ 64;
    }
