use Prim.Native.Nat.{ℕ, ◌-◌, ◌≤◌, ◌<◌}
use native.Mathlib.Omega.{arith}
use mathlib.Core.Path.{◌≡◌, sym, ap, ◌∙◌}
use mathlib.Core.Bool.{false, ◌&&◌}
use Rattle.std.specs.Prelude.{Option}
use Rattle.model.specs.declared.Windows.{Windows}
use Rattle.model.specs.planning.Outcome.{all_reach, least_from}
use Rattle.model.specs.planning.Job.{set_axes}
use Rattle.model.specs.planning.Windows.{in_windows}
use Rattle.arrival.specs.Arrivals.{arrives_in}
use Rattle.arrival.proofs.Fitting.{no-reach}
use Rattle.arrival.proofs.Search.{from-later, led_passes}
use Rattle.arrival.proofs.least.least_common.Goals as goal
use Rattle.arrival.proofs.least.least_common.Goals.{After-least_reached-n}

-- what not every axis reaches is no arrival
missed : (c : After-least_reached-n) (k : ℕ) → c.args.first ≤ k → k < c.least_reached-n.result
    → arrives_in c.args.windows
    (set_axes 0 c.args.mask c.args.axes) k ≡ false
missed c k p q =
    let a = c.args in
    let n = c.least_reached-n.ensures in
    no-reach (in_windows a.windows) (all_reach (set_axes 0 a.mask a.axes)) a.first
    a.after _ n k (n.missed k p q)

pub returns-in-Some : goal.returns-in-Some
returns-in-Some c =
    let n = c.least_reached-n in
    let a = c.args in
    c.least_fitting.ensures
    ∙ ap (λ (w : Option Windows). least_from (arrives_in w (set_axes 0 a.mask a.axes)) n.result (a.after - n.result))
    (sym c.in-Some.is)
    ∙ from-later (arrives_in a.windows (set_axes 0 a.mask a.axes)) a.first a.after n.result n.ensures.low
    (omega (arith, n.ensures.high, c.if-after-first.false)) (missed c.before.before)

pub returns-in-None : goal.returns-in-None
returns-in-None c =
    let n = c.least_reached-n in
    let a = c.args in
    let fits = ap (λ (w : Option Windows). in_windows w n.result) c.in-None.is in
    c.then_some.ensures
    ∙ led_passes (arrives_in a.windows (set_axes 0 a.mask a.axes)) a.first a.after n.result n.ensures.low
    (omega (arith, n.ensures.high, c.if-after-first.false)) (missed c.before.before)
    (λ h i. fits i && n.ensures.passed (omega (arith, h)) i)
