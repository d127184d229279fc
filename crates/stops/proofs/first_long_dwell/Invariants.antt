-- `first_long_dwell`: no stop before index i is too long.
use Rattle.std.proofs.Common.{◌≡◌, drop}
use Rattle.model.specs.calls.Tour.{first_long_dwell}
use Rattle.stops.proofs.first_long_dwell.Given as goal

abbrev pub invariant-loop-i : goal.invariant-loop-i
invariant-loop-i l = first_long_dwell l.i (drop l.i l.stops) ≡ first_long_dwell 0 l.stops
