use Rattle.std.proofs.Common.{◌≡◌, take, drop}
use Rattle.stops.proofs.write_front.Given as goal

abbrev pub invariant-loop-i : goal.invariant-loop-i
invariant-loop-i g l =
    record {
      done : take l.i l.list ≡ take l.i l.items;
      left : drop l.i l.list ≡ drop l.i l.fn.list;
    }
