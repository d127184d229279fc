use mathlib.Core.Path.{◌≡◌, sym, ap, ◌∙◌}
use mathlib.Core.List.{[], ◌∷◌}
use lib.IntN.{ℤ, ◌-ℤ◌}
use mir.Syntax.{w64}
use mir.Val.{to_z, of_z}
use native.Mathlib.Omega.{arith}
use Rattle.whole.specs.Integers.{nearest_quotient}
use Rattle.whole.specs.Lists.{over}
use Rattle.whole.proofs.Bounds.{exact, exactly, back-id}
use Rattle.whole.proofs.Lists.{over-three}
use Rattle.cells.proofs.write_cells.Goals as goal

pub returns : goal.returns
returns c =
    let t = c.args.t in
    let u = c.args.u in
    let p = c.nearest in
    let v = c.nearest-2 in
    let w = c.nearest-3 in
    let position : to_z w64 (of_z w64 t.position) ≡ t.position = exactly (search exact depth 20) tt in
    let velocity : to_z w64 (of_z w64 t.velocity) ≡ t.velocity = exactly (search exact depth 20) tt in
    let difference : ℤ = to_z w64 (of_z w64 u.velocity) -ℤ to_z w64 (of_z w64 t.velocity) in
    let acceleration : to_z w64 (of_z w64 difference) ≡ u.velocity -ℤ t.velocity = exactly (search exact depth 20) tt in
    let first : to_z w64 (of_z w64 p.result) ≡ nearest_quotient t.position 131072 =
    back-id (record { sfits = p.type_inv }) ∙ p.ensures ∙ ap (λ (z : ℤ). nearest_quotient z 131072) position in
    let second : to_z w64 (of_z w64 v.result) ≡ nearest_quotient t.velocity 65536 =
    back-id (record { sfits = v.type_inv }) ∙ v.ensures ∙ ap (λ (z : ℤ). nearest_quotient z 65536) velocity in
    let third : to_z w64 (of_z w64 w.result) ≡ nearest_quotient (u.velocity -ℤ t.velocity) 65536 =
    back-id (record { sfits = w.type_inv }) ∙ w.ensures ∙ ap (λ (z : ℤ). nearest_quotient z 65536) acceleration in
    sym (over-three c.args.table.now c.args.at _ _ _ (omega arith))
    ∙ (λ i. over c.args.table.now c.args.at (first i ∷ second i ∷ third i ∷ []))
