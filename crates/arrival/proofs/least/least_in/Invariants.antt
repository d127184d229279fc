use mathlib.Core.Path.{◌≡◌}
use mathlib.Core.Bool.{true}
use lib.ListN.{drop}
use Rattle.arrival.specs.Arrivals.{searched}
use Rattle.arrival.proofs.least.least_in.Given as goal

abbrev pub invariant-loop-window : goal.invariant-loop-window
invariant-loop-window l =
    searched (λ n. true) l.fn.first l.fn.after l.fn.dwell (drop l.window-index l.windows)
    ≡ searched (λ n. true) l.fn.first l.fn.after l.fn.dwell l.windows
