use mathlib.Core.Path.{sym, ◌∙◌}
use Rattle.model.specs.planning.Told.{told}
use Rattle.admission.proofs.Purposes.{asked-in-time}
use Rattle.admission.proofs.check.Goals as goal

pub returns : goal.returns
returns c =
    let a = c.args in
    let read = c.asked_read-read in
    asked-in-time a.purpose
    (record { mask = a.mask; asked = a.asked; axes = a.axes; windows = a.windows })
    (sym c.mask_allowed.ensures ∙ c.if-not-mask_allowed.false) read.result read.ensures
    c.if-read-gt-LAST_TICK.false c.must_rest.result c.must_rest.ensures (told c.check.result) c.check.ensures
