use mathlib.Core.Path.{sym, ◌∙◌}
use native.Mathlib.Omega.{arith}
use Rattle.reach.proofs.Halves.{last-decides}
use Rattle.reach.proofs.reaches_some.Goals as goal

pub next_reached-requires : goal.next_reached-requires
next_reached-requires c =
    record {
      passed = c.requires.passed;
      n_bound = omega arith;
      last_le_last_tick = c.requires.last_le_last_tick;
    }

pub returns : goal.returns
returns c =
    last-decides c.args.x c.requires.passed (sym c.accelerates.ensures ∙ c.if-accelerates.false) c.args.last
    c.next_reached.result c.requires.le_last c.next_reached.ensures
