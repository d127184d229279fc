-- What the search for an arrival gives back, from the definitions of `Outcome`.
use Rattle.std.specs.Prelude.{ℕ, zero, suc, ◌-◌, ◌%◌, ◌≤◌, ◌≡◌, Bool, true, false, cond, not, ◌&&◌, List, []}
use Rattle.std.specs.Prelude.{◌∷◌, eqb}
use Rattle.std.specs.Prelude.{Option, None, Some}
use Rattle.std.specs.Prelude.{Result, Ok, Err}
use Rattle.model.specs.declared.Answer.{Answer}
use Rattle.model.specs.declared.Axis.{Axis}
use Rattle.model.specs.declared.Window.{Window}
use Rattle.model.specs.declared.Windows.{Windows}
use Rattle.model.specs.declared.refusal.Refusal.{Refusal}
use Rattle.model.specs.planning.Told.{told}
use Rattle.model.specs.planning.Windows.{in_windows}
use Rattle.windows.specs.Ticks.{first_tick, after_last}
use Rattle.model.specs.planning.Motion.{reachable}
use Rattle.model.specs.planning.Job.{JobAxis, mask_where}
use Rattle.model.specs.planning.Refusals.{last_tick}
use Rattle.model.specs.planning.Outcome.{all_reach, least_from, reaches_none}

-- ---- the arrival

-- the answer of a refusal that names axes
abbrev pub refused : ℕ → ℕ → Answer
refused number mask = record { number = number; place = 0; mask = mask; arrival = 0 }

-- where none is asked: the least, or refusal 9
abbrev pub least_or : List JobAxis → Option ℕ → Result ℕ Answer
least_or xs (Some n) = Ok n
least_or xs None = Err (refused 9 (mask_where (λ x. reaches_none x) xs))

-- where n is asked: n, or refusal 8
abbrev pub asked_or : List JobAxis → ℕ → Bool → Result ℕ Answer
asked_or xs n true = Ok n
asked_or xs n false = Err (refused 8 (mask_where (λ x. not (reachable x n)) xs))

abbrev pub arrives_in : Option Windows → List JobAxis → ℕ → Bool
arrives_in w xs n = in_windows w n && all_reach xs n

abbrev pub arrival_for : Option Windows → List JobAxis → ℕ → Result ℕ Answer
arrival_for w xs zero = least_or xs (least_from (arrives_in w xs) 1 last_tick)
arrival_for w xs (suc n) = asked_or xs (suc n) (arrives_in w xs (suc n))

-- what `arrival_of` gives back for the windows w and the axes xs
pub record ArrivalIs (w : Option Windows) (xs : List JobAxis) (asked : ℕ) (r : Result ℕ Refusal) : Type 0 where
  -- the arrival or the refusal, from the definitions
  pub is : told r ≡ arrival_for w xs asked
  -- an arrival is from 1 to 4,096, and every axis reaches it
  pub first : (n : ℕ) → r ≡ Ok n → 1 ≤ n
  pub last : (n : ℕ) → r ≡ Ok n → n ≤ last_tick
  pub reached : (n : ℕ) → r ≡ Ok n → all_reach xs n ≡ true

-- ---- its parts

-- the least that passes a test, of the ticks of each window in turn, from a
-- first one on and before another
abbrev pub searched : (ℕ → Bool) → ℕ → ℕ → ℕ → List Window → Option ℕ
searched test first after dwell [] = None
searched test first after dwell (w ∷ ws) =
    elim (least_from test (first_tick first w) (after_last dwell after w - first_tick first w)) [
      | Some n ↦ Some n
      | None ↦ searched test first after dwell ws
    ]

-- an axis does not reach the asked arrival; or any, where 0 is asked
unfoldable pub cannot_arrive : ℕ → Axis → Bool
cannot_arrive zero x = reaches_none x
cannot_arrive (suc n) x = not (reachable x (suc n))

-- the lowest bit of m names the axis, and the axis does not reach n
unfoldable pub missed_by : ℕ → Axis → ℕ → Bool
missed_by m x n = cond (eqb (m % 2) 1) (not (reachable x n)) false

-- the lowest bit of m does not name the axis, or the axis reaches n
abbrev pub reached_by : ℕ → Axis → ℕ → Bool
reached_by m x n = not (missed_by m x n)
