-- What the parts of a tour's call give back to one another.
use Rattle.std.specs.Prelude.{ℕ, ◌≤◌, ◌≡◌, List, ℤ, pos, None, get_or, take}
use Rattle.std.specs.declared.result.Result.{Result}
use Rattle.std.specs.declared.result.Result.TheVariants.{Ok, Err}
use Rattle.model.specs.declared.Answer.{Answer}
use Rattle.model.specs.declared.Axis.{Axis}
use Rattle.model.specs.declared.AxisLimits.{AxisLimits}
use Rattle.model.specs.declared.Weight.TheVariants.{Given}
use Rattle.model.specs.declared.refusal.Refusal.{Refusal}
use Rattle.model.specs.declared.TourAnswer.{TourAnswer}
use Rattle.model.specs.declared.TourSettings.{TourSettings}
use Rattle.model.specs.planning.Refusals.{last_tick}
use Rattle.model.specs.planning.Told.{number_of, mask_of, arrival_of, answer_to}
use Rattle.model.specs.calls.Tour.{Legs, all_legs, refused_leg, leg_axis, leg_answer}
use Rattle.stops.specs.declared.Legs as made
use Rattle.stops.specs.declared.RefusedLeg.{RefusedLeg}

abbrev pub no_limits : AxisLimits
no_limits =
    record {
      speed_limit = 0;
      acceleration_limit = 0;
      half_period = 0;
      second_weight = Given 0;
      second_sway = None;
    }

-- axis i of a leg
abbrev pub leg_axis_at : List AxisLimits → List ℤ → List ℤ → ℕ → Axis
leg_axis_at limits here there i =
    leg_axis (get_or limits i no_limits) (get_or here i (pos 0)) (get_or there i (pos 0))

-- the answer to a leg: its arrival, or why it is refused
abbrev pub leg_told : ℕ → Result ℕ Refusal → Answer
leg_told mask (Ok n) = record { number = 0; place = 0; mask = mask; arrival = n }
leg_told mask (Err why) = answer_to why

-- what a leg gives back
pub record LegIs (t : TourSettings) (here there : List ℤ) (r : Result ℕ Refusal) : Type 0 where
  pub is : leg_told t.mask r ≡ leg_answer t here there
  pub last : (n : ℕ) → r ≡ Ok n → n ≤ last_tick

-- the legs that a row of `count` arrivals stands for, or the leg that is refused
abbrev pub legs_in : TourSettings → ℕ → Result made.Legs RefusedLeg → Legs
legs_in t count (Ok g) = all_legs t g.total (take count g.arrivals)
legs_in t count (Err leg) = refused_leg (answer_to leg.why) leg.stop

-- the answer to a tour whose leg to a stop is refused
abbrev pub refused_tour : RefusedLeg → TourAnswer
refused_tour leg =
    record {
      number = number_of leg.why;
      mask = mask_of leg.why;
      place = leg.stop;
      arrival = arrival_of leg.why;
      total = 0;
    }
