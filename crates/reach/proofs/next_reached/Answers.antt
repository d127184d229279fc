use mathlib.Core.Path.{sym, ◌∙◌}
use Rattle.reach.proofs.next_reached.Goals as goal

pub next_by_halving-requires : goal.next_by_halving-requires
next_by_halving-requires c =
    record {
      passed = c.requires.passed;
      target_value = sym c.accelerates.ensures ∙ c.if-accelerates.true;
      n_bound = c.requires.n_bound;
      last_le_last_tick = c.requires.last_le_last_tick;
    }

pub next_steady-requires : goal.next_steady-requires
next_steady-requires c =
    record {
      passed = c.requires.passed;
      target_value = sym c.accelerates.ensures ∙ c.if-accelerates.false;
      n_bound = c.requires.n_bound;
      last_le_last_tick = c.requires.last_le_last_tick;
    }
