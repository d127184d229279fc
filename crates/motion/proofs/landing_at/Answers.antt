use mathlib.Core.Path.{ap}
use lib.IntN.{pos, ◌+ℤ◌, ◌*ℤ◌}
use Rattle.whole.proofs.Bounds.{sfits, computed, is-of, then_is}
use Rattle.model.specs.declared.State.{State}
use Rattle.model.specs.planning.Quantities.{fine_steps, on_grid}
use Rattle.motion.specs.Motions.{planned_position, planned_velocity, gain}
use Rattle.motion.proofs.PassedRanges.{ranges-of, moving-ranges}
use Rattle.motion.proofs.landing_at.Goals as goal

pub planned_position-requires-clause-ranges : goal.planned_position-requires-clause-ranges
planned_position-requires-clause-ranges c = ranges-of c.requires.passed

pub planned_position-requires-clause-state_ranges : goal.planned_position-requires-clause-state_ranges
planned_position-requires-clause-state_ranges c =
    moving-ranges c.requires.passed c.requires.n_le_last_tick c.as_moving-m.ensures

pub planned_velocity-requires-clause-ranges : goal.planned_velocity-requires-clause-ranges
planned_velocity-requires-clause-ranges c = ranges-of c.requires.passed

pub planned_velocity-requires-clause-state_ranges : goal.planned_velocity-requires-clause-state_ranges
planned_velocity-requires-clause-state_ranges c =
    moving-ranges c.requires.passed c.requires.n_le_last_tick c.as_moving-m.ensures

pub correction-gain-requires-clause-ranges : goal.correction-gain-requires-clause-ranges
correction-gain-requires-clause-ranges c = ranges-of c.requires.passed

pub correction-gain-requires-clause-state_ranges : goal.correction-gain-requires-clause-state_ranges
correction-gain-requires-clause-state_ranges c =
    moving-ranges c.requires.passed c.requires.n_le_last_tick c.as_moving-m.ensures

pub overflow_add-result : goal.overflow_add-result
overflow_add-result c = sfits (search computed depth 20) tt

pub overflow_mul-result : goal.overflow_mul-result
overflow_mul-result c =
    let h = moving-ranges c.requires.passed c.requires.n_le_last_tick c.as_moving-m.ensures in
    sfits (search computed depth 9) tt

pub overflow_mul-result-2 : goal.overflow_mul-result-2
overflow_mul-result-2 c =
    let h = moving-ranges c.requires.passed c.requires.n_le_last_tick c.as_moving-m.ensures in
    sfits (search computed depth 9) tt

pub returns : goal.returns
returns c =
    let a = c.args in
    let k = c.landing_tick-tick.ensures in
    let e = c.as_moving-m.ensures in
    let h = moving-ranges c.requires.passed c.requires.n_le_last_tick c.as_moving-m.ensures in
    record {
      position =
          then_is (is-of (search computed depth 20) tt) (λ i. planned_position a.x (e i) (k i) +ℤ gain a.x (e i));
      velocity = then_is (is-of (search computed depth 9) tt) (λ i. planned_velocity a.x (e i) (k i));
      acceleration = then_is (is-of (search computed depth 9) tt)
          (ap (λ (m : State). on_grid a.x (pos fine_steps *ℤ m.acceleration)) e);
    }
