use Rattle.std.proofs.Common.{rules}
use mathlib.Core.Path.{◌≡◌, sym, ◌∙◌}
use mathlib.Core.Bool.{false}
use Rattle.arrival.specs.Arrivals.{arrives_in}
use Rattle.std.specs.Prelude.{Ok, Err}
use Rattle.model.specs.planning.Job.{set_axes}
use Rattle.model.specs.declared.refusal.Refusal.TheVariants.{AskedMissed}
use Rattle.arrival.proofs.Found.{arrival-is, least-found, asked-met, asked-missed, all-able}
use Rattle.arrival.proofs.Found.{some-unable, no-window}
use Rattle.arrival.proofs.arrival_of.Goals as goal
use Rattle.arrival.proofs.arrival_of.Goals.{else-unable-eq0-via-then-unable-eq0+else-allows}
use Rattle.arrival.proofs.arrival_of.Goals.{else-unable-eq0-via-else-unable-eq0}

pub returns-then-asked-eq0 : goal.returns-then-asked-eq0
returns-then-asked-eq0 c =
    let a = c.args in
    let xs = set_axes 0 a.mask a.axes in
    arrival-is a.windows xs a.asked c.ok_or_else.result c.requires.asked_le_last_tick
    (least-found a.windows xs a.asked c.if-asked-eq0.true c.least_common-least.result c.ok_or_else.result _
    c.ok_or_else.ensures.cases c.least_common-least.ensures (λ e p. search rules))

pub returns-then-allows : goal.returns-then-allows
returns-then-allows c =
    let a = c.args in
    let xs = set_axes 0 a.mask a.axes in
    arrival-is a.windows xs a.asked (Ok a.asked) c.requires.asked_le_last_tick
    (asked-met a.windows xs a.asked c.if-asked-eq0.false
    (all-able a.windows xs a.asked c.if-asked-eq0.false (sym c.unable_axes-unable.ensures ∙ c.if-unable-eq0.true)
    (sym c.allows.ensures ∙ c.if-allows.true)))

-- an axis does not reach it, or it fits no window
pub returns : goal.returns
returns c =
    let a = c.args in
    let xs = set_axes 0 a.mask a.axes in
    let k = c.unable_axes-unable in
    let missed : arrives_in a.windows xs a.asked ≡ false = elim c.else-unable-eq0.branch [
      | else-unable-eq0-via-then-unable-eq0+else-allows w ↦
          no-window a.windows xs a.asked c.if-asked-eq0.false (sym w.allows.ensures ∙ w.if-allows.false)
      | else-unable-eq0-via-else-unable-eq0 w ↦
          some-unable a.windows xs a.asked c.if-asked-eq0.false (λ e. w.if-unable-eq0.false (k.ensures ∙ e))
    ] in
    arrival-is a.windows xs a.asked (Err (AskedMissed k.result)) c.requires.asked_le_last_tick
    (asked-missed a.windows xs a.asked c.if-asked-eq0.false missed k.result k.ensures)
