-- A planned motion negated, as pan right is to pan left (docs/METHOD.md, 4.5). The theorem
-- `mirrored` says that every cell is then negated.
use Rattle.std.specs.Prelude.{ℕ, ◌≡◌, map, neg_ℤ}
use Rattle.model.specs.declared.Axis.{Axis}
use Rattle.model.specs.declared.RestPoint.{RestPoint}
use Rattle.model.specs.declared.Target.{Target}
use Rattle.model.specs.declared.Target.TheVariants.{Fixed, Moving}
use Rattle.model.specs.planning.Motion.{Tick}
use Rattle.model.specs.planning.Rows.{PlannedAxis, cells}

abbrev pub negated_tick : Tick → Tick
negated_tick s =
    record { position = neg_ℤ s.position; velocity = neg_ℤ s.velocity; acceleration = neg_ℤ s.acceleration }

abbrev pub negated_rest : RestPoint → RestPoint
negated_rest r = record { position = neg_ℤ r.position; velocity = neg_ℤ r.velocity }

abbrev pub negated_target : Target → Target
negated_target (Fixed r) = Fixed (negated_rest r)
negated_target (Moving m) =
    Moving (record {
      position = neg_ℤ m.position;
      velocity = neg_ℤ m.velocity;
      acceleration = neg_ℤ m.acceleration;
      tick = m.tick;
    })

-- start and target negated; the limits and the pole stay
abbrev pub negated_axis : Axis → Axis
negated_axis x =
    record {
      start = negated_rest x.start;
      speed_limit = x.speed_limit;
      acceleration_limit = x.acceleration_limit;
      half_period = x.half_period;
      second_weight = x.second_weight;
      second_sway = x.second_sway;
      target = negated_target x.target;
    }

-- every tick negated, and through the start those before tick 0
abbrev pub negated_plan : PlannedAxis → PlannedAxis
negated_plan t = record { axis = negated_axis t.axis; ticks = map negated_tick t.ticks }

-- of every axis and every list of ticks, planned or not
abbrev pub Mirrored : Type 0
Mirrored = (t : PlannedAxis) (k : ℕ) → cells k (negated_plan t) ≡ map neg_ℤ (cells k t)
