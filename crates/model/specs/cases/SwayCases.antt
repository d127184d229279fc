-- Cases of a second sway.
use Rattle.std.specs.Prelude.{ℕ, ◌+◌, List, [], ◌∷◌, ℤ, pos, negsuc}
use Rattle.model.specs.declared.Axis.{Axis}
use Rattle.std.specs.Prelude.{Option, None, Some}
use Rattle.model.specs.declared.Target.{Target}
use Rattle.model.specs.declared.Target.TheVariants.{Moving}
use Rattle.model.specs.declared.Weight.TheVariants.{Given}
use Rattle.model.specs.planning.Outcome.{words}
use Rattle.model.specs.cases.Case.{positions, velocities, accelerations, Case, Hold, fixed, one_axis, two_axes}
use Rattle.model.specs.cases.Case.{accepted, refused, case}

-- ---- a second sway (docs/METHOD.md, 2.5), on one axis from rest at 0 with L = 10, M = 1

-- half period, second weight, second sway, target
abbrev pub pole : ℕ → ℕ → Option ℕ → Target → Axis
pole h b s g =
    record {
      start = record { position = pos 0; velocity = pos 0 };
      speed_limit = 10;
      acceleration_limit = 1;
      half_period = h;
      second_weight = Given b;
      second_sway = s;
      target = g;
    }

-- from rest at 0 with acceleration a, at tick 0
abbrev pub departing : ℕ → Target
departing a = Moving (record { position = pos 0; velocity = pos 0; acceleration = pos a; tick = pos 0 })

-- h = 1, B = 100, to rest at 1, with d for the second half period
abbrev pub words_pole : ℕ → List ℕ
words_pole d =
    0x10000001
    ∷ 0x20000000
    ∷ 0x30000000
    ∷ 0x40000000
    ∷ 0x5000000A
    ∷ 0x60000001
    ∷ 0x70000001
    ∷ 0x80000064
    ∷ (0xD0000000 + d)
    ∷ 0x90000001
    ∷ 0xA0000000
    ∷ 0xF0000000
    ∷ []

abbrev pub sway_cases : List Case
sway_cases =
    -- asked 5: the grid of 1/512 unit shows in row 1, which the fine grid would have at 22
    case (one_axis 5 (pole 0 128 (Some 1) (fixed 1 0))) 18 (positions ∷ [])
    (accepted 1 5 ((pos 0 ∷ pos 21 ∷ pos 86 ∷ pos 171 ∷ pos 235 ∷ pos 256 ∷ []) ∷ []))
    -- both blends, from typed values and from words
    ∷ case (one_axis 0 (pole 1 100 (Some 2) (fixed 1 0))) 18
    (positions ∷ velocities ∷ accelerations ∷ []) (accepted 1 5 table_pole)
    ∷ case (words (words_pole 2)) 18 (positions ∷ velocities ∷ accelerations ∷ []) (accepted 1 5 table_pole)
    -- the arrival exceeds h + h₂
    ∷ case (one_axis 3 (pole 1 100 (Some 2) (fixed 0 0))) 18 [] (refused 8 0 1 0)
    ∷ case (one_axis 4 (pole 1 100 (Some 2) (fixed 0 0))) 18 [] (accepted 1 4 [])
    -- 15: 0 is outside the range, in words too; after 5 and before 6
    ∷ case (words (words_pole 0)) 18 [] (refused 15 0 0 0)
    ∷ case (one_axis 0 (pole 1 100 (Some 0) (fixed 1 11))) 18 [] (refused 15 0 0 0)
    ∷ case (one_axis 0 (pole 1 100 (Some 257) (fixed 1 0))) 18 [] (refused 15 0 0 0)
    ∷ case (two_axes 0 (pole 1 100 (Some 0) (fixed 1 0)) (pole 257 100 None (fixed 1 0))) 36 []
    (refused 5 1 0 0)
    -- 16: an accelerating target, also where h is 0; after 6
    ∷ case (one_axis 0 (pole 0 128 (Some 1) (departing 1))) 18 [] (refused 16 0 0 0)
    ∷ case (two_axes 0 (pole 1 100 (Some 1) (departing 1)) (pole 1 100 None (fixed 1 11))) 36 []
    (refused 6 1 0 0)
    ∷ []
  where
    table_pole : List (List ℤ)
    table_pole =
        (pos 0 ∷ pos 39 ∷ pos 103 ∷ pos 167 ∷ pos 231 ∷ pos 256 ∷ [])
        ∷ (pos 0 ∷ pos 78 ∷ pos 50 ∷ pos 78 ∷ pos 50 ∷ pos 0 ∷ [])
        ∷ (pos 78 ∷ negsuc 27 ∷ pos 28 ∷ negsuc 27 ∷ negsuc 49 ∷ pos 0 ∷ [])
        ∷ []

abbrev pub SwayCasesHold : Type 0
SwayCasesHold = Hold sway_cases
