use native.Mathlib.Omega.{arith}
use mathlib.Core.Path.{refl, sym, ◌∙◌}
use mathlib.Core.Bool.{true}
use Rattle.arrival.proofs.Search.{first_passes}
use Rattle.arrival.proofs.WindowSearch.{in_window}
use Rattle.arrival.proofs.least.least_in.Goals as goal

pub returns-then-from-after_last : goal.returns-then-from-after_last
returns-then-from-after_last c =
    let l = c.loop-window in
    let a = c.args in
    let f = c.first_tick-from in
    let g = c.after_last in
    let here = first_passes (λ n. true) f.result g.result f.result (omega arith) c.if-from-after_last.true
    (λ k p q. absurd (omega arith)) refl in
    sym (in_window (λ n. true) a.first a.after a.dwell a.windows.now l.window-index (omega arith)
    f.result g.result f.ensures g.ensures f.result here) ∙ l.invariant
