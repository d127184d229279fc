use mathlib.Core.Path.{ap, ◌∙◌}
use lib.IntN.{ℤ, neg_ℤ, ◌+ℤ◌, +ℤ_idl}
use Rattle.whole.specs.Integers.{greatest}
use Rattle.whole.proofs.Bounds.{sfits, exactly, computed}
use Rattle.envelopes.proofs.EnvelopeSums.{sums_same}
use Rattle.envelopes.proofs.sums.step.Goals as goal

pub overflow_add-result : goal.overflow_add-result
overflow_add-result c = sfits (search computed depth 20) tt

pub overflow_add-result-2 : goal.overflow_add-result-2
overflow_add-result-2 c = sfits (search computed depth 20) tt

pub returns : goal.returns
returns c =
    let a = c.args in
    sums_same
    (exactly (search computed depth 20) tt
    ∙ ap (λ (z : ℤ). a.r.lowest +ℤ greatest z a.r.trough) (+ℤ_idl (neg_ℤ a.limit)))
    (exactly (search computed depth 20) tt) (exactly (search computed depth 9) tt)
    (exactly (search computed depth 9) tt)
    (exactly (search computed depth 9) tt) (exactly (search computed depth 9) tt)
