use mathlib.Core.Path.{◌≡◌, ◌∙◌}
use lib.IntN.{pos, neg_ℤ, ◌-ℤ◌, +ℤ_idl}
use mir.Syntax.{w64}
use mir.Val.{to_z, of_z}
use Rattle.whole.proofs.Bounds.{exactly, computed, is-of, then_is}
use Rattle.envelopes.specs.Sums.{peak_of}
use Rattle.envelopes.proofs.sums.trough_of.Goals as goal

pub returns : goal.returns
returns c =
    let a = c.args in
    let s : to_z w64 (of_z w64 (pos 0 -ℤ to_z w64 (of_z w64 a.start))) ≡ neg_ℤ a.start =
    exactly (search computed depth 9) tt ∙ +ℤ_idl (neg_ℤ a.start) in
    let e : to_z w64 (of_z w64 (pos 0 -ℤ to_z w64 (of_z w64 a.end))) ≡ neg_ℤ a.end =
    exactly (search computed depth 9) tt ∙ +ℤ_idl (neg_ℤ a.end) in
    then_is (is-of (search computed depth 9) tt)
    (+ℤ_idl _ ∙ (λ i. neg_ℤ (peak_of a.limit (s i) (e i) a.ticks)))
