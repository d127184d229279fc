-- One axis after the blends, tick by tick: its velocity, its state, and the cells of a row
-- (docs/METHOD.md, section 3, rules 1, 2, 3 and 5, and section 4).
use Rattle.std.specs.Prelude.{ℕ, zero, suc, ◌+◌, ◌-◌, ◌*◌, ◌≡◌, List, [], ◌∷◌, ℤ, pos, ◌+ℤ◌, ◌-ℤ◌, ◌*ℤ◌}
use Rattle.whole.specs.Integers.{nearest_quotient}
use Rattle.model.specs.declared.Order.{Order}
use Rattle.model.specs.declared.Order.TheVariants.{Forwards, Backwards}
use Rattle.std.specs.Prelude.{Option, None, Some}
use Rattle.model.specs.planning.Quantities.{sway_delay}
use Rattle.planned.specs.declared.AxisPlan.{AxisPlan}
use Rattle.blended.specs.declared.BlendedState.{BlendedState}
use Rattle.planned.specs.Plans.{velocity_back, blends_by, total_weight}

-- ---- the blends, by the weights of the plan

abbrev pub mix : ℕ → ℕ → ℤ → ℤ → ℤ
mix a b x y = pos a *ℤ x +ℤ pos b *ℤ y

-- one blend, d ticks before tick k
unfoldable pub blended_back : AxisPlan → ℕ → ℕ → ℤ
blended_back p d k =
    mix p.first_weight p.second_weight (velocity_back p d k) (velocity_back p (d + p.half_period) k)

-- the blends added up, g d being the one of delay d: that of delay 0 and, for a second sway, that
-- of delay h₂
abbrev pub added : Option ℕ → (ℕ → ℤ) → ℤ
added None g = g 0
added (Some d) g = g 0 +ℤ g d

unfoldable pub blended_velocity : AxisPlan → ℕ → ℤ
blended_velocity p k = added p.second_sway (λ d. blended_back p d k)

-- each weight times its delay, together
abbrev pub lag_of : AxisPlan → ℕ
lag_of p =
    blends_by p.second_sway * (p.second_weight * p.half_period)
    + (p.first_weight + p.second_weight) * sway_delay p.second_sway

-- at tick 0 the planned position by all weights, less the way 2v₀ of a tick by each weight's delay;
-- each tick goes on by the velocities at its two ends
unfoldable pub blended_position : AxisPlan → ℕ → ℤ
blended_position p zero = pos (total_weight p) *ℤ p.origin -ℤ pos 2 *ℤ (pos (lag_of p) *ℤ p.regions.start)
blended_position p (suc k) = blended_position p k +ℤ blended_velocity p k +ℤ blended_velocity p (suc k)

abbrev pub blended_state_at : AxisPlan → ℕ → BlendedState
blended_state_at p k = record { position = blended_position p k; velocity = blended_velocity p k }

-- ---- the cells of a row: from the states at its tick and one tick on

abbrev pub cells_of : BlendedState → BlendedState → List ℤ
cells_of t u = nearest_quotient t.position 131072 ∷ nearest_quotient t.velocity 65536 ∷ nearest_quotient
    (u.velocity -ℤ t.velocity) 65536 ∷ []

abbrev pub axis_cells : ℕ → AxisPlan → List ℤ
axis_cells k p = cells_of (blended_state_at p k) (blended_state_at p (suc k))

-- ---- the first row and the last

-- the tick of the state that comes to the row at place j, of rows 0 to n
abbrev pub comes_to : Order → ℕ → ℕ → ℕ
comes_to Forwards n j = j
comes_to Backwards n j = suc n - j

-- half a unit, in half 1/65,536 of a fine step
abbrev pub half_unit : ℕ
half_unit = 16777216

-- the blended motion is on the destination at the arrival: there the position sums
-- taken from the landing end begin (`from_landing` in
-- `crates/model/specs/planning/Rows.antt`), and backward rows with them
pub record LandsAt (n : ℕ) (p : AxisPlan) : Type 0 where
  pub position : pos half_unit *ℤ p.destination ≡ blended_position p n
