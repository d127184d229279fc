-- Cases of single definitions, of starts that move, of accelerating targets and of tables in both
-- orders. Their numbers are those of the method and of field cases C and D.
use Rattle.std.specs.Prelude.{ℕ, ◌*◌, ◌-◌, ◌^◌, ◌≡◌, List, [], ◌∷◌, map, ℤ, pos, negsuc, ◌-ℤ◌, replicate}
use Rattle.model.specs.declared.Axis.{Axis}
use Rattle.model.specs.declared.Order.{Order}
use Rattle.model.specs.declared.Order.TheVariants.{Forwards, Backwards}
use Rattle.std.specs.Prelude.{None}
use Rattle.model.specs.declared.Target.{Target}
use Rattle.model.specs.declared.Target.TheVariants.{Moving}
use Rattle.model.specs.declared.Weight.TheVariants.{Given}
use Rattle.model.specs.planning.Quantities.{finer}
use Rattle.model.specs.planning.Leg.{Leg, cruise}
use Rattle.model.specs.planning.Motion.{start_position, earlier}
use Rattle.model.specs.planning.Rows.{table}
use Rattle.model.specs.planning.Outcome.{words}
use Rattle.model.specs.planning.Demand.{CellTable, cell_at, exact_acceleration}
use Rattle.model.specs.cases.Case.{all, positions, Case, axis, fixed, rest_to, one_axis, words_c, accepted, refused}
use Rattle.model.specs.cases.Case.{case}

-- ---- single definitions

-- the greatest speed limit on the finest grid, 2³⁶, is a cruise: of the three velocities of two
-- ticks all are at it
abbrev pub TopSpeedCruised : Type 0
TopSpeedCruised = cruise fastest (pos (2 ^ 36)) ≡ pos (2 ^ 36)
  where
    fastest : Leg
    fastest = record {
      ticks = 2;
      start = pos (2 ^ 36);
      end = pos (2 ^ 36);
      speed_limit = 2 ^ 36;
      acceleration_limit = 1;
    }

-- p, v and a at tick 0
abbrev pub moving : ℤ → ℤ → ℤ → Target
moving p v a = Moving (record { position = p; velocity = v; acceleration = a; tick = pos 0 })

-- from 0 at velocity 2 after a target from 3 at velocity 1; L = 10, M = 1, h = 2, B = 128
abbrev pub underway : Axis
underway = axis (pos 0) (pos 2) 10 2 (moving (pos 3) (pos 1) (pos 0))

-- three ticks before tick 0 it was three times 2 units back, 512 half fine steps each
abbrev pub MovedBefore : Type 0
MovedBefore = start_position underway -ℤ (earlier underway 3).position ≡ pos (3 * 2 * 512)

-- at rest at 0, after a target that departs from 0 with acceleration 1; L = 10, M = 2, h = 3,
-- B = 100
abbrev pub departing_damped : Axis
departing_damped =
    record {
      start = record { position = pos 0; velocity = pos 0 };
      speed_limit = 10;
      acceleration_limit = 2;
      half_period = 3;
      second_weight = Given 100;
      second_sway = None;
      target = moving (pos 0) (pos 0) (pos 1);
    }

-- its grid is 1/65,536 unit: 256 steps in a fine step
abbrev pub FinestGrid : Type 0
FinestGrid = finer departing_damped ≡ 256

-- ---- rows

abbrev pub row_cases : List Case
row_cases =
    -- row 0 is on the start
    case (one_axis 0 underway) 18 (positions ∷ [])
    (accepted 1 5 ((pos 0 ∷ pos 496 ∷ pos 976 ∷ pos 1392 ∷ pos 1744 ∷ pos 2048 ∷ []) ∷ []))
    -- row 6 is on the target, which is 18 units away by then
    ∷ case (one_axis 0 departing_damped) 21 (positions ∷ [])
    (accepted 1 6 ((pos 0 ∷ pos 156 ∷ pos 589 ∷ pos 1190 ∷ pos 2019 ∷ pos 3181 ∷ pos 4608 ∷ []) ∷ []))
    -- L = 2, h = 1: the target is slow enough at the landing, and too fast at the arrival; with
    -- L = 7 it is not
    ∷ case (one_axis 4 (axis (pos 0) (pos 0) 2 1 (moving (pos 2) (negsuc 1) (pos 1)))) 15 [] (refused 8 0 1 0)
    ∷ case (one_axis 4 (axis (pos 0) (pos 0) 7 1 (moving (pos 2) (negsuc 1) (pos 1)))) 15 [] (accepted 1 4 [])
    -- a refusal leaves all 14 lent cells
    ∷ case (words words_c) 14 (all ∷ [])
    (record { number = 10; place = 0; mask = 0; arrival = 4; shown = replicate 14 (pos 0) ∷ [] })
    ∷ []

-- ---- tables: field case C forwards and backwards

abbrev pub table_c : Order → List ℤ
table_c Forwards =
    pos 0 ∷ pos 0 ∷ pos 86 ∷ pos 43 ∷ pos 86 ∷ negsuc 0 ∷ pos 129 ∷ pos 85 ∷ pos 0 ∷ pos 214 ∷ pos 85 ∷ negsuc 84
    ∷ pos 256 ∷ pos 0 ∷ pos 0 ∷ []
table_c Backwards =
    pos 256 ∷ pos 0 ∷ pos 0 ∷ pos 214 ∷ pos 85 ∷ negsuc 84 ∷ pos 129 ∷ pos 85 ∷ pos 0 ∷ pos 43 ∷ pos 86 ∷ negsuc 0
    ∷ pos 0 ∷ pos 0 ∷ pos 86 ∷ []

abbrev pub TableIs : Order → Type 0
TableIs o = table o (rest_to 1 ∷ []) 4 ≡ table_c o

-- ---- the cells of a table by axis, value and tick: of two axes and two rows, cell by cell

abbrev pub CellsStand : Order → List ℤ → Type 0
CellsStand o l = map (λ (k : ℕ). cell_at twelve 1 2 k) (0 ∷ 1 ∷ []) ≡ l
  where
    twelve : CellTable
    twelve = record {
      order = o;
      axes = 2;
      last = 1;
      cells = pos 0 ∷ pos 1 ∷ pos 2 ∷ pos 3 ∷ pos 4 ∷ pos 5 ∷ pos 6 ∷ pos 7 ∷ pos 8 ∷ pos 9 ∷ pos 10 ∷ pos 11 ∷ [];
    }

-- ---- field case D's accelerations before they are rounded, times their divisor 256

abbrev pub ExactD : Type 0
ExactD =
    map (exact_acceleration (axis (pos 0) (pos 0) 10 1 (fixed 1 0)) 3) (0 ∷ 1 ∷ 2 ∷ 3 ∷ [])
    ≡ pos (256 * 128) ∷ pos 0 ∷ negsuc (256 * 128 - 1) ∷ pos 0 ∷ []
