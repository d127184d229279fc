-- A tour of stops (docs/METHOD.md, 8.1): the leg to each stop is a typed job, from rest to
-- rest, that seeks its least arrival.
use Rattle.std.specs.Prelude.{ℕ, suc, ◌+◌, true, false, List, [], ◌∷◌, ◌++◌, ℤ, pos, eqb, leb, ltb, length, drop}
use Rattle.std.specs.Prelude.{Option, None, Some}
use Rattle.model.specs.declared.Answer.{Answer}
use Rattle.model.specs.declared.Axis.{Axis}
use Rattle.model.specs.declared.Target.TheVariants.{Fixed}
use Rattle.model.specs.declared.Stop.{Stop}
use Rattle.model.specs.declared.AxisLimits.{AxisLimits}
use Rattle.model.specs.declared.TourSettings.{TourSettings}
use Rattle.model.specs.declared.TourAnswer.{TourAnswer}
use Rattle.model.specs.declared.Job.{Job}
use Rattle.model.specs.planning.Windows.{no_windows, longest_dwell}
use Rattle.model.specs.planning.Outcome.{typed, answer_of}

-- ---- a leg

-- one axis, from rest at p to rest at q
abbrev pub leg_axis : AxisLimits → ℤ → ℤ → Axis
leg_axis l p q =
    record {
      start = record { position = p; velocity = pos 0 };
      speed_limit = l.speed_limit;
      acceleration_limit = l.acceleration_limit;
      half_period = l.half_period;
      second_weight = l.second_weight;
      second_sway = l.second_sway;
      target = Fixed (record { position = q; velocity = pos 0 });
    }

abbrev pub leg_axes : List AxisLimits → List ℤ → List ℤ → List Axis
leg_axes [] ps qs = []
leg_axes (l ∷ ls) [] qs = []
leg_axes (l ∷ ls) (p ∷ ps) [] = []
leg_axes (l ∷ ls) (p ∷ ps) (q ∷ qs) = leg_axis l p q ∷ leg_axes ls ps qs

-- the typed job of the leg between two positions: it asks for its least
-- arrival, and brings no windows
abbrev pub leg_job : TourSettings → List ℤ → List ℤ → Job
leg_job t here there = record { mask = t.mask; asked = 0; axes = leg_axes t.limits here there; windows = no_windows }

abbrev pub leg_answer : TourSettings → List ℤ → List ℤ → Answer
leg_answer t here there = answer_of (typed (leg_job t here there))

-- ---- all legs

-- Number 0 with the arrivals and the total; or the first refused leg's own number, mask and
-- arrival, with the stop as place.
pub record Legs : Type 0 where
  pub number : ℕ
  pub place : ℕ
  pub mask : ℕ
  pub arrival : ℕ
  pub total : ℕ
  -- counted from the tour's start
  pub arrivals : List ℕ

abbrev pub all_legs : TourSettings → ℕ → List ℕ → Legs
all_legs t total l = record { number = 0; place = 0; mask = t.mask; arrival = 0; total = total; arrivals = l }

abbrev pub refused_leg : Answer → ℕ → Legs
refused_leg a stop =
    record { number = a.number; place = stop; mask = a.mask; arrival = a.arrival; total = 0; arrivals = [] }

-- The legs to the stops that are left. The head rests at `here` and leaves at tick n; l
-- is the list of arrivals so far.
abbrev pub legs_from : TourSettings → List Stop → ℕ → List ℤ → List ℕ → Legs
legs_from t [] n here l = all_legs t n l
legs_from t (s ∷ ss) n here l =
    let a : Answer = leg_answer t here s.positions in
    elim (eqb a.number 0) [
      | true ↦ legs_from t ss (n + a.arrival + s.dwell) s.positions (l ++ ((n + a.arrival) ∷ []))
      | false ↦ refused_leg a (length l)
    ]

-- ---- the tour

pub record TourOutcome : Type 0 where
  pub number : ℕ
  pub place : ℕ
  pub mask : ℕ
  pub arrival : ℕ
  pub total : ℕ
  -- the lent list as the call leaves it
  pub arrivals : List ℕ

-- an answer, and the lent list as the call leaves it
abbrev pub tour_outcome_of : TourAnswer → List ℕ → TourOutcome
tour_outcome_of r l =
    record {
      number = r.number;
      place = r.place;
      mask = r.mask;
      arrival = r.arrival;
      total = r.total;
      arrivals = l;
    }

-- a refused tour writes nothing
abbrev pub refuse_tour : ℕ → ℕ → ℕ → ℕ → List ℕ → TourOutcome
refuse_tour number place mask arrival lent =
    record { number = number; place = place; mask = mask; arrival = arrival; total = 0; arrivals = lent }

-- 10, checked after the legs; or the arrivals in front of the lent list, whose later entries stay
abbrev pub arrivals_over : ℕ → Legs → List ℕ → TourOutcome
arrivals_over stops g lent =
    elim (ltb (length lent) stops) [
      | true ↦ refuse_tour 10 stops 0 0 lent
      | false ↦ record {
        number = 0;
        place = 0;
        mask = g.mask;
        arrival = 0;
        total = g.total;
        arrivals = g.arrivals ++ drop stops lent;
      }
    ]

abbrev pub after_legs : ℕ → Legs → List ℕ → TourOutcome
after_legs stops g lent =
    elim (eqb g.number 0) [
      | true ↦ arrivals_over stops g lent
      | false ↦ refuse_tour g.number g.place g.mask g.arrival lent
    ]

-- the most stops
abbrev pub most_stops : ℕ
most_stops = 64

-- the first stop, the next being stop i, whose dwell is too long
abbrev pub first_long_dwell : ℕ → List Stop → Option ℕ
first_long_dwell i [] = None
first_long_dwell i (s ∷ ss) = elim (leb s.dwell longest_dwell) [ true ↦ first_long_dwell (suc i) ss | false ↦ Some i ]

-- the second part of 11, and then the legs
abbrev pub dwells_checked : TourSettings → ℕ → List Stop → List ℕ → TourOutcome
dwells_checked t count stops lent =
    elim (first_long_dwell 0 stops) [
      | Some i ↦ refuse_tour 11 i 0 0 lent
      | None ↦ after_legs count (legs_from t stops 0 t.start []) lent
    ]

-- a tour of one stop or more: 11 comes before the legs, too many stops before a dwell that is too
-- long
abbrev pub stops_checked : TourSettings → ℕ → List Stop → List ℕ → TourOutcome
stops_checked t count stops lent =
    elim (leb count most_stops) [
      | true ↦ dwells_checked t count stops lent
      | false ↦ refuse_tour 11 most_stops 0 0 lent
    ]

-- no stops: total 0, and nothing else is read, so that the mask of the answer
-- is 0 and not the settings' own
abbrev pub no_stops : List ℕ → TourOutcome
no_stops lent = record { number = 0; place = 0; mask = 0; arrival = 0; total = 0; arrivals = lent }

-- a tour of so many stops; those past the 64th are not looked at
abbrev pub tour_by : TourSettings → ℕ → List Stop → List ℕ → TourOutcome
tour_by t count stops lent = elim (eqb count 0) [ true ↦ no_stops lent | false ↦ stops_checked t count stops lent ]

abbrev pub tour_outcome : TourSettings → List Stop → List ℕ → TourOutcome
tour_outcome t stops lent = tour_by t (length stops) stops lent
