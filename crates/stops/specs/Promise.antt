-- What the call for a tour promises. It asks nothing of its caller.
use Rattle.std.specs.Prelude.{ℕ, zero, suc, ◌+◌, ◌≤◌, ◌<◌, ◌≡◌, List, ℤ, length, get_or}
use Rattle.model.specs.declared.Stop.{Stop}
use Rattle.model.specs.declared.TourSettings.{TourSettings}
use Rattle.model.specs.declared.TourAnswer.{TourAnswer}
use Rattle.model.specs.planning.Outcome.{Input, typed, call, input_axes, cells_needed}
use Rattle.model.specs.declared.Order.TheVariants.{Forwards}
use Rattle.model.specs.planning.Demand.{Demand3}
use Rattle.model.specs.calls.Tour.{leg_job, tour_outcome, tour_outcome_of}
use Rattle.stops.specs.Rows.{no_stop}

-- ---- the leg to stop i: where it starts, and the tick at which it leaves; the
-- first one from `here` at tick n

abbrev pub leaves_from : List ℤ → List Stop → ℕ → List ℤ
leaves_from here stops zero = here
leaves_from here stops (suc i) = (get_or stops i no_stop).positions

abbrev pub departs_at : ℕ → List Stop → List ℕ → ℕ → ℕ
departs_at n stops arrivals zero = n
departs_at n stops arrivals (suc i) = get_or arrivals i 0 + (get_or stops i no_stop).dwell

abbrev pub leg_to : TourSettings → List ℤ → List Stop → ℕ → Input
leg_to t here stops i = typed (leg_job t (leaves_from here stops i) (get_or stops i no_stop).positions)

-- its typed job, called with any table that has room, is accepted, arrives after `ticks` and
-- gives a table that meets demand 3
pub record LegPlanned (t : TourSettings) (here : List ℤ) (n : ℕ) (stops : List Stop)
    (arrivals : List ℕ) (i : ℕ) : Type 0 where
  pub ticks : ℕ
  pub arrival : get_or arrivals i 0 ≡ departs_at n stops arrivals i + ticks
  pub job : (lent : List ℤ) → cells_needed (length (input_axes (leg_to t here stops i))) ticks ≤ length lent
      → ((call (leg_to t here stops i) lent).number ≡ 0)
      × (((call (leg_to t here stops i) lent).arrival ≡ ticks)
      × Demand3 Forwards (input_axes (leg_to t here stops i)) ticks (call (leg_to t here stops i) lent).cells)

-- entry and exit are the lent list before and after the call, r is the answer
pub record TourPromise (t : TourSettings) (stops : List Stop) (entry : List ℕ) (r : TourAnswer)
    (exit : List ℕ) : Type 0 where
  -- the number, the place, the mask, the arrival, the total and every entry of the lent list,
  -- refused or not, are those of the definitions
  pub outcome : tour_outcome_of r exit ≡ tour_outcome t stops entry
  -- every leg of an accepted tour: the lent list has its arrival
  pub legs : r.number ≡ 0 → (i : ℕ) → i < length stops → LegPlanned t t.start 0 stops exit i
  -- the last arrival and its dwell
  pub total : r.number ≡ 0 → r.total ≡ departs_at 0 stops exit (length stops)
