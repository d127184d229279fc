-- Small tours, computed by the definitions: one axis, L = 10, M = 1, h = 0, B = 128, from rest at
-- 0, with a second sway or none.
use Rattle.std.specs.Prelude.{ℕ, ◌≡◌, List, [], ◌∷◌, map, pos}
use Rattle.model.specs.declared.Stop.{Stop}
use Rattle.std.specs.Prelude.{Option, None, Some}
use Rattle.model.specs.declared.Weight.TheVariants.{Given}
use Rattle.model.specs.declared.TourSettings.{TourSettings}
use Rattle.model.specs.calls.Tour.{TourOutcome, refuse_tour, tour_outcome}

abbrev pub settings : ℕ → Option ℕ → TourSettings
settings mask sway =
    record {
      mask = mask;
      start = pos 0 ∷ [];
      limits = record {
        speed_limit = 10;
        acceleration_limit = 1;
        half_period = 0;
        second_weight = Given 128;
        second_sway = sway;
      } ∷ [];
    }

abbrev pub stop : ℕ → ℕ → Stop
stop p dwell = record { positions = pos p ∷ []; dwell = dwell }

pub record Case : Type 0 where
  pub mask : ℕ
  pub sway : Option ℕ
  pub stops : List Stop
  pub lent : List ℕ
  pub says : TourOutcome

abbrev pub case : ℕ → Option ℕ → List Stop → List ℕ → TourOutcome → Case
case m s l lent o = record { mask = m; sway = s; stops = l; lent = lent; says = o }

abbrev pub accepted : ℕ → ℕ → List ℕ → TourOutcome
accepted m total l = record { number = 0; place = 0; mask = m; arrival = 0; total = total; arrivals = l }

abbrev pub cases : List Case
cases =
    -- the legs of B and of G's axis 1: 4 ticks, a dwell of 2, 2 ticks, a dwell of 3
    case 1 None (stop 4 2 ∷ stop 5 3 ∷ []) (7 ∷ 7 ∷ 7 ∷ []) (accepted 1 11 (4 ∷ 8 ∷ 7 ∷ []))
    -- the same on a pole with a second half period of 1: a tick more for each leg
    ∷ case 1 (Some 1) (stop 4 2 ∷ stop 5 3 ∷ []) (7 ∷ 7 ∷ 7 ∷ []) (accepted 1 13 (5 ∷ 10 ∷ 7 ∷ []))
    ∷ case 1 (Some 0) (stop 4 2 ∷ stop 5 3 ∷ []) (7 ∷ 7 ∷ 7 ∷ []) (refuse_tour 15 0 0 0 (7 ∷ 7 ∷ 7 ∷ []))
    -- a list that is too short, after the legs; a refused leg comes before it; 11 before both
    ∷ case 1 None (stop 4 2 ∷ stop 5 3 ∷ []) (7 ∷ []) (refuse_tour 10 2 0 0 (7 ∷ []))
    ∷ case 1 None (stop 4 2 ∷ stop 17179869184 3 ∷ []) (7 ∷ []) (refuse_tour 6 1 0 0 (7 ∷ []))
    ∷ case 1 None (stop 17179869184 2 ∷ stop 5 4097 ∷ []) (7 ∷ []) (refuse_tour 11 1 0 0 (7 ∷ []))
    -- no stops: nothing else is read
    ∷ case 64 None [] (7 ∷ []) (accepted 0 0 (7 ∷ []))
    ∷ case 64 None (stop 4 2 ∷ []) (7 ∷ []) (refuse_tour 1 0 0 0 (7 ∷ []))
    ∷ []

abbrev pub Small : Type 0
Small = map (λ (c : Case). tour_outcome (settings c.mask c.sway) c.stops c.lent) cases
    ≡ map (λ (c : Case). c.says) cases
