-- The planned motion of one axis (docs/METHOD.md, section 3, rules 1 to 5 for an
-- axis and its arrival), on the axis's own grid: `on_grid x` of what the method
-- gives in fine steps or half fine steps.
use Rattle.std.specs.Prelude.{ℕ, suc, ◌+◌, ◌-◌, ◌*◌, ◌≤◌, ◌<◌, Bool, ◌&&◌, List, [], ◌∷◌, ◌++◌, ℤ, pos, nat_abs, ◌+ℤ◌}
use Rattle.std.specs.Prelude.{◌-ℤ◌, ◌*ℤ◌, leb, ltb, replicate}
use Rattle.model.specs.declared.Axis.{Axis}
use Rattle.model.specs.declared.State.{State}
use Rattle.model.specs.planning.Quantities.{fine_steps, half_period, second_weight, second_half_period, delay}
use Rattle.model.specs.planning.Quantities.{as_moving, twice_position_at, velocity_at}
use Rattle.model.specs.planning.Quantities.{on_grid, speed_steps, acceleration_steps}
use Rattle.model.specs.planning.Leg.{Leg, Feasible, feasible, required, chosen}

-- ---- rule 1

-- position in half grid steps, velocity and acceleration in grid steps
pub record Tick : Type 0 where
  pub position : ℤ
  pub velocity : ℤ
  pub acceleration : ℤ

-- from position q and velocity v on, over a list of accelerations
abbrev pub run : ℤ → ℤ → List ℤ → List Tick
run q v [] = []
run q v (α ∷ αs) = record { position = q; velocity = v; acceleration = α } ∷ run (q +ℤ pos 2 *ℤ v +ℤ α) (v +ℤ α) αs

-- ---- rule 2

-- Bh + 128h₂: by how much start and target are shifted, times the velocity there, in 1/256 tick
abbrev pub shift : Axis → ℤ
shift x = pos (second_weight x * half_period x + 128 * second_half_period x)

-- 512p₀ + 2(Bh + 128h₂)v₀
abbrev pub start_position : Axis → ℤ
start_position x = on_grid x (pos (2 * fine_steps) *ℤ x.start.position +ℤ pos 2 *ℤ (shift x *ℤ x.start.velocity))

-- 256v₀
abbrev pub start_velocity : Axis → ℤ
start_velocity x = on_grid x (pos fine_steps *ℤ x.start.velocity)

-- j ticks before tick 0: uniform
abbrev pub earlier : Axis → ℕ → Tick
earlier x j =
    record {
      position = start_position x -ℤ pos 2 *ℤ (pos j *ℤ start_velocity x);
      velocity = start_velocity x;
      acceleration = pos 0;
    }

-- ---- rule 3, for arrival n

-- T = N − h − h₂
abbrev pub landing_tick : Axis → ℕ → ℕ
landing_tick x n = n - delay x

-- what the position gains, in half grid steps: 2Bh²(B − 128)a. It is 0 where the grid is the fine
-- one.
abbrev pub correction : Axis → ℕ → ℤ
correction x n =
    let h : ℤ = pos (half_period x) in
    let b : ℤ = pos (second_weight x) in
    pos 2 *ℤ (b *ℤ (h *ℤ h) *ℤ (b -ℤ pos 128) *ℤ (as_moving x.target n).acceleration)

-- 512y + 2(Bh + 128h₂)y'
abbrev pub landing_position : Axis → ℕ → ℤ
landing_position x n =
    let m : State = as_moving x.target n in
    let k : ℤ = pos (landing_tick x n) in
    on_grid x (pos fine_steps *ℤ twice_position_at m k +ℤ pos 2 *ℤ (shift x *ℤ velocity_at m k)) +ℤ correction x n

-- 256y' + (Bh + 128h₂)a
abbrev pub landing_velocity : Axis → ℕ → ℤ
landing_velocity x n =
    let m : State = as_moving x.target n in
    on_grid x (pos fine_steps *ℤ velocity_at m (pos (landing_tick x n)) +ℤ shift x *ℤ m.acceleration)

-- from T on: 256a
abbrev pub landing_acceleration : Axis → ℕ → ℤ
landing_acceleration x n = on_grid x (pos fine_steps *ℤ (as_moving x.target n).acceleration)

-- the planned velocity at tick N, h + h₂ ticks after T
abbrev pub arrival_velocity : Axis → ℕ → ℤ
arrival_velocity x n = landing_velocity x n +ℤ pos (delay x) *ℤ landing_acceleration x n

-- ---- rule 4

-- the leg from the start to the landing, and its displacement in half grid steps
abbrev pub leg : Axis → ℕ → Leg
leg x n =
    record {
      ticks = landing_tick x n;
      start = start_velocity x;
      end = landing_velocity x n;
      speed_limit = speed_steps x;
      acceleration_limit = acceleration_steps x;
    }

abbrev pub displacement : Axis → ℕ → ℤ
displacement x n = landing_position x n -ℤ start_position x

-- as the method says it: some list exists
pub record Reachable (x : Axis) (n : ℕ) : Type 0 where
  pub after : delay x < n
  pub landed : nat_abs (landing_velocity x n) ≤ speed_steps x
  pub arrived : nat_abs (arrival_velocity x n) ≤ speed_steps x
  pub moves : Feasible (leg x n) (displacement x n)

-- as a decision; the theorem `reachable-is` says that the two agree
abbrev pub reachable : Axis → ℕ → Bool
reachable x n =
    ltb (delay x) n
    && (leb (nat_abs (landing_velocity x n)) (speed_steps x)
    && (leb (nat_abs (arrival_velocity x n)) (speed_steps x) && feasible (leg x n) (displacement x n)))

-- ---- rule 5, and the planned motion of ticks 0 to N

abbrev pub required_sum : Axis → ℕ → ℤ
required_sum x n = required (leg x n) (displacement x n)

-- each change from an entry of a list to the next
abbrev pub changes_from : ℤ → List ℤ → List ℤ
changes_from v [] = []
changes_from v (w ∷ ws) = (w -ℤ v) ∷ changes_from w ws

-- the changes of the list chosen, then 256a at ticks T to N
abbrev pub accelerations : Axis → ℕ → List ℤ
accelerations x n =
    changes_from (start_velocity x) (chosen (leg x n) (required_sum x n))
    ++ replicate (suc (delay x)) (landing_acceleration x n)

abbrev pub planned : Axis → ℕ → List Tick
planned x n = run (start_position x) (start_velocity x) (accelerations x n)
