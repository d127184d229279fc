-- The ways out of a tour's call: what the code returns at each is what the definitions say.
use Prim.Native.Nat.{ℕ, ◌≤◌, ◌<◌}
use mathlib.Core.Path.{◌≡◌, refl, sym, ap, ◌∙◌}
use mathlib.Core.Bool.{Bool, true, false}
use Rattle.std.specs.Prelude.{Option, None, Some}
use mathlib.Core.List.{List, [], ◌++◌}
use lib.ListN.{length, take, drop}
use lib.Dec.{eqb}
use borrow.Author.Tests.{le-leb, lt-leb, lt-ltb, le-ltb, eq-eqb, ne_eqb}
use Rattle.model.specs.declared.Stop.{Stop}
use Rattle.model.specs.declared.TourSettings.{TourSettings}
use Rattle.model.specs.calls.Tour.{Legs, TourOutcome, refuse_tour, arrivals_over, after_legs, legs_from, most_stops}
use Rattle.model.specs.calls.Tour.{first_long_dwell, dwells_checked, stops_checked, tour_by, tour_outcome_of}
use Rattle.std.specs.declared.result.Result.{Result}
use Rattle.std.specs.declared.result.Result.TheVariants.{Ok, Err}
use Rattle.model.specs.declared.refusal.AxisTest.{AxisTest}
use Rattle.model.specs.declared.refusal.AxisTest.TheVariants as tests
use Rattle.model.specs.declared.refusal.Refusal.{Refusal}
use Rattle.model.specs.declared.refusal.Refusal.TheVariants as refusals
use Rattle.model.specs.planning.Told.{test_number, number_of}
use Rattle.stops.specs.declared.Legs as made
use Rattle.stops.specs.declared.RefusedLeg.{RefusedLeg}
use Rattle.stops.specs.Parts.{legs_in, refused_tour}

-- no number of a refusal is 0
named-test : (test : AxisTest) → eqb (test_number test) 0 ≡ false
named-test tests.Limits = refl
named-test tests.Damping = refl
named-test tests.Blend = refl
named-test tests.SecondSway = refl
named-test tests.Values = refl
named-test tests.Acceleration = refl
named-test tests.Flying = refl

pub named : (r : Refusal) → eqb (number_of r) 0 ≡ false
named refusals.Mask = refl
named (refusals.Word at) = refl
named refusals.Asked = refl
named (refusals.Axis test axis) = named-test test
named (refusals.AskedMissed axes) = refl
named (refusals.NoArrival axes) = refl
named (refusals.TableShort tick) = refl
named (refusals.ListShort needed) = refl
named (refusals.Stop stop) = refl
named (refusals.Window window) = refl
named (refusals.LongPosition at) = refl
named refusals.FirstCandidate = refl

module _ (t : TourSettings) (count : ℕ) (stops : List Stop) (lent : List ℕ) where
  abbrev answered : TourOutcome
  answered = tour_by t count stops lent

  by_count : Bool → TourOutcome
  by_count b = elim b [ true ↦ refuse_tour 0 0 0 0 lent | false ↦ stops_checked t count stops lent ]

  by_most : Bool → TourOutcome
  by_most b = elim b [ true ↦ dwells_checked t count stops lent | false ↦ refuse_tour 11 most_stops 0 0 lent ]

  by-dwell : Option ℕ → TourOutcome
  by-dwell o =
      elim o [ Some i ↦ refuse_tour 11 i 0 0 lent | None ↦ after_legs count (legs_from t stops 0 t.start []) lent ]

  pub no-stops : count ≡ 0 → refuse_tour 0 0 0 0 lent ≡ answered
  unfolding by_count
  no-stops e = sym (ap by_count (eq-eqb count 0 e))

  some-stops : (count ≡ 0 → ⊥) → stops_checked t count stops lent ≡ answered
  unfolding by_count
  some-stops e = sym (ap by_count (ne_eqb count 0 e))

  pub many-stops : (count ≡ 0 → ⊥) → most_stops < count → refuse_tour 11 most_stops 0 0 lent ≡ answered
  unfolding by_most
  many-stops e h = sym (ap by_most (lt-leb count most_stops h)) ∙ some-stops e

  few-stops : (count ≡ 0 → ⊥) → count ≤ most_stops → dwells_checked t count stops lent ≡ answered
  unfolding by_most
  few-stops e h = sym (ap by_most (le-leb count most_stops h)) ∙ some-stops e

  module _ (e : count ≡ 0 → ⊥) (h : count ≤ most_stops) where
    pub long-dwell : (i : ℕ) → Some i ≡ first_long_dwell 0 stops → refuse_tour 11 i 0 0 lent ≡ answered
    unfolding by-dwell
    long-dwell i f = ap by-dwell f ∙ few-stops e h

    module _ (f : None ≡ first_long_dwell 0 stops) (r : Result made.Legs RefusedLeg)
        (is : legs_in t count r ≡ legs_from t stops 0 t.start []) where
      legs-are : after_legs count (legs_in t count r) lent ≡ answered
      unfolding by-dwell
      legs-are = ap (λ (l : Legs). after_legs count l lent) is ∙ ap by-dwell f ∙ few-stops e h

    module _ (f : None ≡ first_long_dwell 0 stops) where
      -- a leg is refused: no number of a refusal is 0
      pub leg-refused : (leg : RefusedLeg) → legs_in t count (Err leg) ≡ legs_from t stops 0 t.start []
          → tour_outcome_of (refused_tour leg) lent ≡ answered
      leg-refused leg is = sym (ap (λ (b : Bool). by-number b) (named leg.why)) ∙ legs-are f (Err leg) is
        where
          g : Legs
          g = legs_in t count (Err leg)

          by-number : Bool → TourOutcome
          by-number b =
              elim b [
                | true ↦ arrivals_over count g lent
                | false ↦ refuse_tour g.number g.place g.mask g.arrival lent
              ]

      module _ (g : made.Legs) (is : legs_in t count (Ok g) ≡ legs_from t stops 0 t.start []) where
        by-room : Bool → TourOutcome
        by-room b =
            elim b [
              | true ↦ refuse_tour 10 count 0 0 lent
              | false ↦ record {
                number = 0;
                place = 0;
                mask = t.mask;
                arrival = 0;
                total = g.total;
                arrivals = take count g.arrivals ++ drop count lent;
              }
            ]

        pub list-short : length lent < count → refuse_tour 10 count 0 0 lent ≡ answered
        unfolding by-room
        list-short n = sym (ap by-room (lt-ltb (length lent) count n)) ∙ legs-are f (Ok g) is

        pub list_written : count ≤ length lent
            → record {
              number = 0;
              place = 0;
              mask = t.mask;
              arrival = 0;
              total = g.total;
              arrivals = take count g.arrivals ++ drop count lent;
            } ≡ answered
        unfolding by-room
        list_written n = sym (ap by-room (le-ltb (length lent) count n)) ∙ legs-are f (Ok g) is
