-- What the call for a tour answers, of the total or of the refusal.
use Rattle.std.specs.Prelude.{ℕ, ◌≡◌, List, take}
use Rattle.std.specs.declared.result.Result.{Result}
use Rattle.std.specs.declared.result.Result.TheVariants.{Ok, Err}
use Rattle.model.specs.declared.refusal.Refusal.{Refusal}
use Rattle.model.specs.declared.TourAnswer.{TourAnswer}
use Rattle.model.specs.declared.TourSettings.{TourSettings}
use Rattle.model.specs.planning.Told.{number_of, place_of, mask_of, arrival_of}
use Rattle.model.specs.calls.Tour.{tour_by, tour_outcome_of}
use Rattle.stops.specs.declared.StopRow.{StopRow}

-- the answer to a tour that is refused, but not for a leg
abbrev pub refused_for : Refusal → TourAnswer
refused_for why =
    record {
      number = number_of why;
      place = place_of why;
      mask = mask_of why;
      arrival = arrival_of why;
      total = 0;
    }

abbrev pub accepted_with : ℕ → ℕ → TourAnswer
accepted_with mask total = record { number = 0; place = 0; mask = mask; arrival = 0; total = total }

-- the answer, of the total or of the refusal
abbrev pub answered : TourSettings → Result ℕ TourAnswer → TourAnswer
answered t (Ok total) = accepted_with t.mask total
answered t (Err r) = r

-- The total of a row of one stop or more, with the lent list before and after the call: its answer
-- and every entry of the list are those of the definitions.
abbrev pub TotalIs : TourSettings → StopRow → List ℕ → Result ℕ TourAnswer → List ℕ → Type 0
TotalIs t row entry r exit =
    tour_outcome_of (answered t r) exit ≡ tour_by t row.lent (take row.lent row.stops) entry
