-- How far a list of velocities travels.
use Prim.Native.Nat.{ℕ, zero, suc}
use mathlib.Core.Path.{◌≡◌, sym, ap, ◌∙◌}
use mathlib.Core.List.{[], ◌∷◌}
use lib.IntN.{ℤ, pos, ◌+ℤ◌, ◌-ℤ◌, ◌*ℤ◌, +ℤ_assoc, +ℤ_idl, +ℤ_idr}
use Rattle.whole.specs.Integers.{sum_to}
use Rattle.whole.proofs.Ring.{pol, same}
use Rattle.model.specs.planning.Leg.{travelled}

-- from tick 0 to tick n + 1: the first velocity, twice those between, and the last
pub travelled-is : (w : ℕ → ℤ) (n : ℕ) → travelled w (suc n) ≡ w 0 +ℤ pos 2 *ℤ sum_to w n +ℤ w (suc n)
travelled-is w zero = same (w 0 ∷ w 1 ∷ []) (search pol depth 20 fits 9000) tt
travelled-is w (suc n) =
    ap (λ (z : ℤ). z +ℤ (pos 2 *ℤ w (suc n) +ℤ (w (suc (suc n)) -ℤ w (suc n)))) (travelled-is w n)
    ∙ same (w 0 ∷ w (suc n) ∷ w (suc (suc n)) ∷ sum_to w n ∷ []) (search pol depth 20 fits 9000) tt

-- the first tick, and the others after it
pub travelled-first : (w : ℕ → ℤ) (n : ℕ)
    → travelled w (suc n) ≡ pos 2 *ℤ w 0 +ℤ (w 1 -ℤ w 0) +ℤ travelled (λ k. w (suc k)) n
travelled-first w zero = +ℤ_idl (pos 2 *ℤ w 0 +ℤ (w 1 -ℤ w 0)) ∙ sym (+ℤ_idr (pos 2 *ℤ w 0 +ℤ (w 1 -ℤ w 0)))
travelled-first w (suc n) =
    ap (λ (z : ℤ). z +ℤ last) (travelled-first w n)
    ∙ +ℤ_assoc (pos 2 *ℤ w 0 +ℤ (w 1 -ℤ w 0)) (travelled (λ k. w (suc k)) n) last
  where
    last : ℤ
    last = pos 2 *ℤ w (suc n) +ℤ (w (suc (suc n)) -ℤ w (suc n))
