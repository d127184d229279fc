use Prim.Native.Nat.{◌-◌}
use mathlib.Core.Path.{ap, ◌∙◌}
use lib.Signed.{le_z}
use Rattle.whole.specs.Integers.{sum_to}
use Rattle.whole.proofs.Bounds.{le_is, computed}
use Rattle.model.specs.planning.Leg.{Leg, upper, required}
use Rattle.envelopes.proofs.one_envelope.comes_up.Goals as goal

pub returns : goal.returns
returns c =
    let a = c.args in
    le_is (search computed depth 20) tt
    ∙ ap (λ (l : Leg). le_z (required l a.displacement) (sum_to (upper a.p) (a.p.ticks - 1))) c.p.view_is
