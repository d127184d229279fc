-- What is left of a sway that the pole's numbers fit only nearly (docs/METHOD.md, 5.5). Demand 3 is
-- of swing lists that fit them exactly.
use Rattle.std.specs.Prelude.{ℕ, zero, suc, ◌+◌, ◌-◌, ◌*◌, ◌≤◌, ◌≡◌, List, ℤ, pos, nat_abs, ◌+ℤ◌, ◌-ℤ◌, ◌*ℤ◌}
use Rattle.std.specs.Prelude.{slice_get}
use Rattle.model.specs.declared.Axis.{Axis}
use Rattle.std.specs.Prelude.{Option, None, Some}
use Rattle.model.specs.declared.Order.{Order}
use Rattle.model.specs.planning.Quantities.{half_period, second_weight, delay}
use Rattle.model.specs.planning.Motion.{landing_tick}
use Rattle.model.specs.planning.Rows.{planned_axis, tick_at, blend, divisor}
use Rattle.model.specs.planning.Outcome.{Input, call_in, input_axes}
use Rattle.model.specs.planning.Demand.{CellTable, table_in, acceleration_cell, Swings, Bounded, acceleration_change}
use Rattle.model.specs.planning.Demand.{sway}

-- ---- the misfit of a list w at i: the blend of its entries i to i + h + h₂. It is 0
-- where the list fits either rate

abbrev pub misfit_once : Axis → (ℕ → ℤ) → ℕ → ℤ
misfit_once x w i = pos (256 - second_weight x) *ℤ w (i + half_period x) +ℤ pos (second_weight x) *ℤ w i

abbrev pub misfit_by : Option ℕ → Axis → (ℕ → ℤ) → ℕ → ℤ
misfit_by None x w i = misfit_once x w i
misfit_by (Some d) x w i = misfit_once x w (i + d) +ℤ misfit_once x w i

abbrev pub misfit : Axis → (ℕ → ℤ) → ℕ → ℤ
misfit x w i = misfit_by x.second_sway x w i

-- no misfit of the entries m − n to m exceeds E in size
abbrev pub Misfits : Axis → ℕ → ℕ → ℕ → (ℕ → ℤ) → Type 0
Misfits x n m E w = (i : ℕ) → m ≤ i + n → i + delay x ≤ m → nat_abs (misfit x w i) ≤ E

-- none of these entries exceeds G in size
abbrev pub Entries : ℕ → ℕ → ℕ → (ℕ → ℤ) → Type 0
Entries n m G w = (i : ℕ) → m ≤ i + n → i ≤ m → nat_abs (w i) ≤ G

-- ---- the misfit of a pole whose numbers were measured with an error

-- how far two numbers are apart
abbrev pub apart : ℕ → ℕ → ℕ
apart a b = a - b + (b - a)

-- no entry of w 0 to w m differs from the next by more than D
abbrev pub Gentle : ℕ → ℕ → (ℕ → ℤ) → Type 0
Gentle m D w = (i : ℕ) → suc i ≤ m → nat_abs (w (suc i) -ℤ w i) ≤ D

-- A pole as it swings in truth. Its sway is a list of `entries` entries to a tick, in which it
-- swings over within `turn` entries, and each swing is after / before of the one before: half
-- period and swing ratio are any fractions.
pub record TruePole : Type 0 where
  pub entries : ℕ
  pub turn : ℕ
  pub before : ℕ
  pub after : ℕ

-- as A + B is of the axis
abbrev pub weights : TruePole → ℕ
weights t = t.before + t.after

-- a sway of the pole, looked at up to tick m and half a period more: no entry above G in size, no
-- two neighbours more than D apart
pub record SwayOf (t : TruePole) (m G D : ℕ) (u : ℕ → ℤ) : Type 0 where
  pub fits : Swings (pos t.before) (pos t.after) t.turn (t.entries * m + t.turn) u
  pub small : Bounded (t.entries * m + t.turn) G u
  pub gentle : Gentle (t.entries * m + t.turn) D u

-- the sway by ticks
abbrev pub by_tick : TruePole → (ℕ → ℤ) → ℕ → ℤ
by_tick t u i = u (t.entries * i)

-- the same times the weights, as a bound on its misfits is a fraction of them
abbrev pub weighted : TruePole → (ℕ → ℤ) → ℕ → ℤ
weighted t u i = pos (weights t) *ℤ by_tick t u i

-- One blend with the weights A and B and the delay h. With p the pole's half period in ticks, and b
-- its second weight as a part of A + B, a sway of the pole has misfits up to 2|b − B|G + A|p − h| ×
-- entries × D. This is that times the pole's weights.
abbrev pub measured_misfit : ℕ → ℕ → ℕ → TruePole → ℕ → ℕ → ℕ
measured_misfit A B h t G D =
    2 * (apart ((A + B) * t.after) (weights t * B) * G) + weights t * (A * (apart t.turn (t.entries * h) * D))

-- a pole in place of the first rate, and twice that with a second sway
abbrev pub first_misfit_by : Option ℕ → ℕ → ℕ
first_misfit_by None e = e
first_misfit_by (Some d) e = 2 * e

abbrev pub first_misfit : Axis → TruePole → ℕ → ℕ → ℕ
first_misfit x t G D =
    first_misfit_by x.second_sway (measured_misfit (256 - second_weight x) (second_weight x) (half_period x) t G D)

-- a pole in place of the second, whose half period is d
abbrev pub second_misfit : ℕ → TruePole → ℕ → ℕ → ℕ
second_misfit d t G D = 256 * measured_misfit 1 1 d t G D

pub record MeasuredMisfits (x : Axis) : Type 0 where
  pub first : (t : TruePole) (n m G D : ℕ) (u : ℕ → ℤ) → SwayOf t m G D u
      → Misfits x n m (first_misfit x t G D) (weighted t u)
  pub second : (d : ℕ) (t : TruePole) (n m G D : ℕ) (u : ℕ → ℤ) → x.second_sway ≡ Some d → SwayOf t m G D u
      → Misfits x n m (second_misfit d t G D) (weighted t u)
  -- whatever the list fits
  pub any : (n m G : ℕ) (w : ℕ → ℤ) → Entries n m G w → Misfits x n m (first_misfit_by x.second_sway (256 * G)) w

-- ---- how much the planned accelerations change in all

-- the sum of the sizes of the changes of rows 0 to n
abbrev pub variation : (ℕ → ℤ) → ℕ → ℕ
variation a zero = nat_abs (acceleration_change a zero)
variation a (suc n) = variation a n + nat_abs (acceleration_change a (suc n))

-- up to the landing; from there on nothing changes
abbrev pub planned_variation : Axis → ℕ → ℕ
planned_variation x n = variation (λ k. (tick_at (planned_axis n x) k).acceleration) (landing_tick x n)

-- ---- the claim, of one axis whose planned accelerations change by at most `most` in all: x is
-- axis i of the table g, and N the arrival

-- what the rounding of the cells of rows 0 to n adds at most, of entries up to G
abbrev pub rounding_left : ℕ → ℕ → ℕ
rounding_left n G = n * G

-- the divisor times the sway left is at most `most` × E before rounding, and as
-- rounded at most divisor × N × G more
pub record SwayLeft (most : Axis → ℕ → ℕ) (x : Axis) (i n : ℕ) (g : CellTable) : Type 0 where
  pub exact : (m E : ℕ) (w : ℕ → ℤ) → n ≤ m → Misfits x n m E w
      → nat_abs (sway (λ k. blend (planned_axis n x) k (λ s. s.acceleration)) w m n) ≤ most x n * E
  pub rounded : (m E G : ℕ) (w : ℕ → ℤ) → n ≤ m → Misfits x n m E w → Entries n m G w
      → divisor x * nat_abs (sway (acceleration_cell g i) w m n) ≤ most x n * E + divisor x * rounding_left n G

-- ---- the claim, of poles as they swing in truth: no misfit is in it

-- the weights of the pole, times the divisor, times the sway left
pub record PoleLeft (x : Axis) (i n : ℕ) (g : CellTable) (t : TruePole) (m G most : ℕ) (u : ℕ → ℤ) : Type 0 where
  pub exact : weights t * nat_abs (sway (λ k. blend (planned_axis n x) k (λ s. s.acceleration)) (by_tick t u) m n)
      ≤ most
  pub rounded : divisor x * (weights t * nat_abs (sway (acceleration_cell g i) (by_tick t u) m n))
      ≤ most + divisor x * rounding_left n (weights t * G)

pub record MeasuredLeft (most : Axis → ℕ → ℕ) (x : Axis) (i n : ℕ) (g : CellTable) : Type 0 where
  pub first : (t : TruePole) (m G D : ℕ) (u : ℕ → ℤ) → n ≤ m → SwayOf t m G D u
      → PoleLeft x i n g t m G (most x n * first_misfit x t G D) u
  pub second : (d : ℕ) (t : TruePole) (m G D : ℕ) (u : ℕ → ℤ) → n ≤ m
      → x.second_sway ≡ Some d → SwayOf t m G D u
      → PoleLeft x i n g t m G (most x n * second_misfit d t G D) u

-- ---- both claims, of every axis of every call that returns number 0, from words or
-- from typed values, in either order

abbrev pub OfCalls : (Axis → ℕ → ℕ → CellTable → Type 0) → Type 0
OfCalls Claim =
    (o : Order) (q : Input) (lent : List ℤ) → (call_in o q lent).number ≡ 0 → (i : ℕ) (x : Axis)
    → slice_get (input_axes q) i ≡ Some x
    → Claim x i (call_in o q lent).arrival
    (table_in o (input_axes q) (call_in o q lent).arrival (call_in o q lent).cells)

abbrev pub SwayLeftHolds : (Axis → ℕ → ℕ) → Type 0
SwayLeftHolds most = OfCalls (SwayLeft most)

abbrev pub MeasuredLeftHolds : (Axis → ℕ → ℕ) → Type 0
MeasuredLeftHolds most = OfCalls (MeasuredLeft most)
