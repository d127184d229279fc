use Prim.Native.Nat.{ℕ, ◌-◌, ◌<◌, ◌≤◌}
use native.Mathlib.Omega.{arith}
use mathlib.Core.Path.{◌≡◌, sym, ◌∙◌}
use mathlib.Core.Bool.{Bool, true, false, ◌&&◌}
use Rattle.std.specs.Bool.{then_some}
use mathlib.Core.List.{List}
use Rattle.std.specs.Prelude.{Option, None, Some}
use Rattle.model.specs.declared.Windows.{Windows}
use Rattle.model.specs.planning.Job.{JobAxis}
use Rattle.model.specs.planning.Refusals.{AllPassed}
use Rattle.model.specs.planning.Outcome.{all_reach, least_from}
use Rattle.model.specs.planning.Job.{set_axes}
use Rattle.model.specs.planning.Windows.{in_windows}
use Rattle.theorems.proofs.jobs.LeastTick.{Least, least-is, none_is}
use Rattle.whole.specs.Candidates.{Next}
use Rattle.arrival.specs.Arrivals.{arrives_in}
use Rattle.arrival.proofs.WindowSearch.{with-windows}
use Rattle.theorems.proofs.motions.ArrivalRuns.{all-between}
use Rattle.arrival.proofs.Fitting.{LedTo, at_first, no-reach, nothing-fits, led-fitting, nowhere-else}
use Rattle.arrival.proofs.Search.{none_passes, first_passes}
use Rattle.arrival.proofs.least.least_fitting.Goals as goal

-- the axes lead to the least tick that fits a window
module _ (w : Option Windows) (xs : List JobAxis) (first after : ℕ) (passed : AllPassed xs) (some : 1 ≤ after)
    (low : first ≤ after) (here : first < after → all_reach xs first ≡ true) where
  -- every axis reaches the first tick, where it is a candidate
  reached-first : Next (all_reach xs) first (after - 1) first
  reached-first = at_first (all_reach xs) first after some here low

  led : (tick : ℕ) → Least (in_windows w) first (after - first) tick → LedTo (arrives_in w xs) first (after - 1) tick
  led tick l =
      led-fitting (in_windows w) (all_reach xs) first after first reached-first tick l (all-between xs passed)

  -- where all reach that one, it is the least of both
  least-fitting : (t : ℕ) (b : Bool) → Some t ≡ least_from (in_windows w) first (after - first) → b ≡ all_reach xs t
      → then_some b t ≡ least_from (arrives_in w xs) first (after - first)
  least-fitting t true is e =
      let l = least-is (in_windows w) first (after - first) t (sym is) in
      let d = led t l in
      first_passes (arrives_in w xs) first after t d.low (omega (arith, l.first, l.last)) d.missed
      (λ i. l.passes i && sym e i)
  least-fitting t false is e =
      let d = led t (least-is (in_windows w) first (after - first) t (sym is)) in
      none_passes (arrives_in w xs) first after
      (λ k p q. nowhere-else (arrives_in w xs) first (after - 1) t d
      (λ h. no-reach (in_windows w) (all_reach xs) first after first reached-first t (sym e)) k p (omega arith)) low

  none-fitting : None ≡ least_from (in_windows w) first (after - first)
      → None ≡ least_from (arrives_in w xs) first (after - first)
  none-fitting is =
      none_passes (arrives_in w xs) first after
      (nothing-fits (in_windows w) (all_reach xs) first after first reached-first
      (none_is (in_windows w) first (after - first) (sym is))) low

pub all_reach-requires-clause-tick_le_last_tick : goal.all_reach-requires-clause-tick_le_last_tick
all_reach-requires-clause-tick_le_last_tick c =
    let a = c.args in
    let is = c.in_ok-tick.ensures ∙ with-windows a.windows a.first a.after c.requires.windows_value in
    let l = least-is (in_windows (Some a.windows)) a.first (a.after - a.first) c.in_ok-tick.tick (sym is) in
    omega (arith, l.first, l.last, c.requires.after_bound)

pub returns : goal.returns
returns c =
    let a = c.args in
    let q = c.requires in
    c.then_some.ensures
    ∙ least-fitting (Some a.windows) (set_axes 0 a.mask a.axes) a.first a.after q.all_passed q.le_after
    q.first_le_after q.first_value c.in_ok-tick.tick c.all_reach.result
    (c.in_ok-tick.ensures ∙ with-windows a.windows a.first a.after q.windows_value) c.all_reach.ensures

-- none fits
pub returns-in_err-tick : goal.returns-in_err-tick
returns-in_err-tick c =
    let a = c.args in
    let q = c.requires in
    c.from_residual.ensures
    ∙ none-fitting (Some a.windows) (set_axes 0 a.mask a.axes) a.first a.after q.all_passed q.le_after
    q.first_le_after q.first_value
    (sym c.in_err-tick.was ∙ c.least_in.ensures ∙ with-windows a.windows a.first a.after q.windows_value)
