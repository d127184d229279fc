-- Both engines for an axis and its arrival (docs/METHOD.md, 3.9): reach, cruise and remainder by
-- areas are those of the definitions. That they are is the theorem `one_answer`, for every axis
-- with an acceleration limit of at least 1 and every arrival.
use Rattle.std.specs.Prelude.{ℕ, ◌<◌, ◌≡◌, Bool, true, ◌&&◌, leb, ltb, nat_abs}
use Rattle.model.specs.declared.Axis.{Axis}
use Rattle.model.specs.planning.Quantities.{acceleration_limit, delay, speed_steps}
use Rattle.model.specs.planning.Leg.{cruise, remainder}
use Rattle.model.specs.planning.Motion.{leg, displacement, landing_velocity, arrival_velocity, reachable, required_sum}
use Rattle.cruise.specs.Engines.{feasible_by_areas, cruise_by_areas, remainder_by_areas}

-- `reachable`, with the areas under the envelopes in place of their sums
abbrev pub reachable_by_areas : Axis → ℕ → Bool
reachable_by_areas x n =
    ltb (delay x) n
    && (leb (nat_abs (landing_velocity x n)) (speed_steps x)
    && (leb (nat_abs (arrival_velocity x n)) (speed_steps x) && feasible_by_areas (leg x n) (displacement x n)))

-- one answer for an axis and an arrival: reach; and, where it is reached, the cruise and
-- the remainder of the required sum
pub record OneAnswer (x : Axis) (n : ℕ) : Type 0 where
  pub reach : reachable_by_areas x n ≡ reachable x n
  pub cruises : reachable x n ≡ true
      → cruise_by_areas (leg x n) (required_sum x n) ≡ cruise (leg x n) (required_sum x n)
  pub remainders : reachable x n ≡ true
      → remainder_by_areas (leg x n) (required_sum x n) ≡ remainder (leg x n) (required_sum x n)

-- for every axis with an acceleration limit of at least 1, whatever else it holds, and every
-- arrival
abbrev pub OneAnswers : Type 0
OneAnswers = (x : Axis) → 0 < acceleration_limit x → (n : ℕ) → OneAnswer x n
