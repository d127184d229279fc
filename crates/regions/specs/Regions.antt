-- The chosen velocities in the three regions of the method (docs/METHOD.md, section 1: the end
-- regions have the greatest acceleration): a ramp from the start, a level part, a ramp to the end.
-- That they are the velocities of rule 5 is the theorem `chosen-in-regions`.
use Rattle.std.specs.Prelude.{ℕ, ◌+◌, ◌-◌, ◌*◌, ◌/◌, ◌^◌, ◌≤◌, true, false, ℤ, pos, neg_ℤ, nat_abs, ◌+ℤ◌, ◌-ℤ◌, ◌*ℤ◌}
use Rattle.std.specs.Prelude.{leb}
use Rattle.std.specs.Int.Signed.{le_z}
use Rattle.whole.specs.Ranges.{Within}
use Rattle.model.specs.planning.Leg.{Leg, cruise, remainder}
use Rattle.regions.specs.declared.Regions.{Regions}

-- how many ticks a ramp from velocity v stays short of c, at limit a a tick
unfoldable pub ramp_ticks : ℕ → ℤ → ℤ → ℕ
ramp_ticks a v c = elim (le_z v c) [ true ↦ nat_abs (c -ℤ v) / a | false ↦ nat_abs (v -ℤ c -ℤ pos 1) / a ]

-- the change of a tick of it
unfoldable pub ramp_change : ℕ → ℤ → ℤ → ℤ
ramp_change a v c = elim (le_z v c) [ true ↦ pos a | false ↦ neg_ℤ (pos a) ]

-- how many ticks the ramp from the start has before it meets the one to the
-- end, where both stay short of c
unfoldable pub meeting_tick : Leg → ℤ → ℕ
meeting_tick g c =
    let a : ℕ = g.acceleration_limit in
    let apart : ℤ = pos (a * g.ticks) in
    elim (le_z g.start c) [
      | true ↦ nat_abs (g.end -ℤ g.start +ℤ apart) / (2 * a)
      | false ↦ nat_abs (g.start -ℤ g.end +ℤ apart) / (2 * a)
    ]

-- how many ticks both ramps have, were each alone
abbrev pub both_ramps : Leg → ℤ → ℕ
both_ramps g c = ramp_ticks g.acceleration_limit g.start c + ramp_ticks g.acceleration_limit g.end c

-- the last tick of the first ramp, and how many ticks before the end the other begins
unfoldable pub rise : Leg → ℤ → ℕ
rise g c = elim (leb g.ticks (both_ramps g c)) [
  | true ↦ meeting_tick g c
  | false ↦ ramp_ticks g.acceleration_limit g.start c
]

unfoldable pub fall : Leg → ℤ → ℕ
fall g c =
    elim (leb g.ticks (both_ramps g c)) [
      | true ↦ g.ticks - meeting_tick g c
      | false ↦ ramp_ticks g.acceleration_limit g.end c
    ]

-- the velocities at cruise c with r ticks raised, and ramps of given lengths
abbrev pub with_ramps : Leg → ℤ → ℕ → ℕ → ℕ → Regions
with_ramps g c r rising falling =
    record {
      start = g.start;
      rise = rising;
      up = ramp_change g.acceleration_limit g.start c;
      cruise = c;
      raised = r;
      end = g.end;
      fall = falling;
      down = ramp_change g.acceleration_limit g.end c;
      ticks = g.ticks;
    }

abbrev pub regions_of : Leg → ℤ → ℕ → Regions
regions_of g c r = with_ramps g c r (rise g c) (fall g c)

-- those of the list chosen for the required sum s
abbrev pub chosen_regions : Leg → ℤ → Regions
chosen_regions g s = regions_of g (cruise g s) (remainder g s)

-- the velocity of tick k below T
unfoldable pub velocity_in : Regions → ℕ → ℤ
velocity_in r k =
    elim (leb k r.rise) [
      | true ↦ r.start +ℤ pos k *ℤ r.up
      | false ↦
          elim (leb r.ticks (k + r.fall)) [
            | true ↦ r.end +ℤ pos (r.ticks - k) *ℤ r.down
            | false ↦ elim (leb (k - r.rise) r.raised) [ true ↦ r.cruise +ℤ pos 1 | false ↦ r.cruise ]
          ]
    ]

-- where the code does not overflow
pub record RegionsRanged (r : Regions) : Type 0 where
  pub start : Within (2 ^ 37) r.start
  pub up : Within (2 ^ 33) r.up
  pub cruise : Within (2 ^ 37) r.cruise
  pub end : Within (2 ^ 37) r.end
  pub fall : r.fall ≤ 4096
  pub down : Within (2 ^ 33) r.down
  pub ticks : r.ticks ≤ 4096
