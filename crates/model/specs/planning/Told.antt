-- How a refusal is told (docs/METHOD.md, section 7): its number, and the place, the mask and the
-- arrival that it names.
use Rattle.std.specs.Prelude.{ℕ}
use Rattle.std.specs.declared.result.Result.{Result}
use Rattle.std.specs.declared.result.Result.TheVariants.{Ok, Err}
use Rattle.model.specs.declared.Answer.{Answer}
use Rattle.model.specs.declared.refusal.AxisTest.{AxisTest}
use Rattle.model.specs.declared.refusal.AxisTest.TheVariants as tests
use Rattle.model.specs.declared.refusal.Refusal.{Refusal}
use Rattle.model.specs.declared.refusal.Refusal.TheVariants as refusals

abbrev pub test_number : AxisTest → ℕ
test_number tests.Limits = 4
test_number tests.Damping = 12
test_number tests.Blend = 5
test_number tests.SecondSway = 15
test_number tests.Values = 6
test_number tests.Acceleration = 16
test_number tests.Flying = 17

abbrev pub number_of : Refusal → ℕ
number_of refusals.Mask = 1
number_of (refusals.Word at) = 2
number_of refusals.Asked = 3
number_of (refusals.Axis test axis) = test_number test
number_of (refusals.AskedMissed axes) = 8
number_of (refusals.NoArrival axes) = 9
number_of (refusals.TableShort tick) = 10
number_of (refusals.ListShort needed) = 10
number_of (refusals.Stop stop) = 11
number_of (refusals.Window window) = 13
number_of (refusals.LongPosition at) = 14
number_of refusals.FirstCandidate = 18

-- the asked arrival is the word at place 1
abbrev pub place_of : Refusal → ℕ
place_of refusals.Mask = 0
place_of (refusals.Word at) = at
place_of refusals.Asked = 1
place_of (refusals.Axis test axis) = axis
place_of (refusals.AskedMissed axes) = 0
place_of (refusals.NoArrival axes) = 0
place_of (refusals.TableShort tick) = 0
place_of (refusals.ListShort needed) = needed
place_of (refusals.Stop stop) = stop
place_of (refusals.Window window) = window
place_of (refusals.LongPosition at) = at
place_of refusals.FirstCandidate = 0

abbrev pub mask_of : Refusal → ℕ
mask_of refusals.Mask = 0
mask_of (refusals.Word at) = 0
mask_of refusals.Asked = 0
mask_of (refusals.Axis test axis) = 0
mask_of (refusals.AskedMissed axes) = axes
mask_of (refusals.NoArrival axes) = axes
mask_of (refusals.TableShort tick) = 0
mask_of (refusals.ListShort needed) = 0
mask_of (refusals.Stop stop) = 0
mask_of (refusals.Window window) = 0
mask_of (refusals.LongPosition at) = 0
mask_of refusals.FirstCandidate = 0

abbrev pub arrival_of : Refusal → ℕ
arrival_of refusals.Mask = 0
arrival_of (refusals.Word at) = 0
arrival_of refusals.Asked = 0
arrival_of (refusals.Axis test axis) = 0
arrival_of (refusals.AskedMissed axes) = 0
arrival_of (refusals.NoArrival axes) = 0
arrival_of (refusals.TableShort tick) = tick
arrival_of (refusals.ListShort needed) = 0
arrival_of (refusals.Stop stop) = 0
arrival_of (refusals.Window window) = 0
arrival_of (refusals.LongPosition at) = 0
arrival_of refusals.FirstCandidate = 0

-- the answer that tells of a refusal
abbrev pub answer_to : Refusal → Answer
answer_to r = record { number = number_of r; place = place_of r; mask = mask_of r; arrival = arrival_of r }

-- what a function gives back, with the answer for its refusal
abbrev pub told : {A : Type 0} → Result A Refusal → Result A Answer
told (Ok x) = Ok x
told (Err r) = Err (answer_to r)

-- the answer of a refusal that names no axes and no arrival
abbrev pub refusal : ℕ → ℕ → Answer
refusal number place = record { number = number; place = place; mask = 0; arrival = 0 }
