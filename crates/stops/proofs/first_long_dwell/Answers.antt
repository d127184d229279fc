use Rattle.std.proofs.Common.{sym, ◌∙◌, arith}
use Rattle.stops.proofs.LegLists.{empty_stop, long-later}
use Rattle.stops.proofs.first_long_dwell.Goals as goal

pub loop-i-preserved : goal.loop-i-preserved
loop-i-preserved c =
    let l = c.loop-i in
    sym (long-later c.args.stops.now l.i empty_stop (omega arith) (omega arith)) ∙ l.invariant
