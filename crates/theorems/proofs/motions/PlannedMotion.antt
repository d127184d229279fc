-- Rule 1 over a list of accelerations: each tick follows from the one before, and
-- where a list of velocities ends.
use Prim.Native.Nat.{ℕ, zero, suc, ◌+◌, ◌<◌}
use mathlib.Core.Path.{◌≡◌, refl, sym, ap, ap₂, ◌∙◌}
use mathlib.Core.List.{List, [], ◌∷◌, ◌++◌}
use native.Mathlib.Omega.{arith}
use native.Mathlib.Nat.{zero-add, suc-add}
use native.Mathlib.Numerals.{add-one}
use lib.ListN.{get_or, length, replicate}
use lib.IntN.{ℤ, pos, ◌+ℤ◌, ◌-ℤ◌, ◌*ℤ◌, +ℤ_idr}
use Rattle.whole.proofs.Laws.{add-sub}
use Rattle.whole.proofs.Ring.{pol, same}
use Rattle.model.specs.planning.Leg.{travelled}
use Rattle.model.specs.planning.Motion.{Tick, run, changes_from}
use Rattle.theorems.proofs.motions.Travel.{travelled-first}

-- ---- rule 1

pub record Follows (s t : Tick) : Type 0 where
  pub position : t.position ≡ s.position +ℤ pos 2 *ℤ s.velocity +ℤ s.acceleration
  pub velocity : t.velocity ≡ s.velocity +ℤ s.acceleration

pub run-follows : (q v : ℤ) (αs : List ℤ) (d : Tick) (k : ℕ) → suc k < length αs
    → Follows (get_or (run q v αs) k d) (get_or (run q v αs) (suc k) d)
run-follows q v [] d k h = absurd (omega arith)
run-follows q v (α ∷ []) d k h = absurd (omega arith)
run-follows q v (α ∷ β ∷ αs) d zero h = record { position = refl; velocity = refl }
run-follows q v (α ∷ β ∷ αs) d (suc k) h = run-follows (q +ℤ pos 2 *ℤ v +ℤ α) (v +ℤ α) (β ∷ αs) d k (omega arith)

-- the first tick
pub run-first : (q v : ℤ) (βs : List ℤ) (α : ℤ) (αs : List ℤ) (d : Tick)
    → ((get_or (run q v (βs ++ (α ∷ αs))) 0 d).position ≡ q) × ((get_or (run q v (βs ++ (α ∷ αs))) 0 d).velocity ≡ v)
run-first q v [] α αs d = (refl, refl)
run-first q v (β ∷ βs) α αs d = (refl, refl)

-- ---- over the changes of a list of velocities

-- the last velocity, and how far the list travels
abbrev pub final : ℤ → List ℤ → ℤ
final v [] = v
final v (w ∷ ws) = final w ws

abbrev pub distance : ℤ → List ℤ → ℤ
distance v [] = pos 0
distance v (w ∷ ws) = pos 2 *ℤ v +ℤ (w -ℤ v) +ℤ distance w ws

pub run-over : (q v : ℤ) (ws αs : List ℤ) (d : Tick) (j : ℕ)
    → get_or (run q v (changes_from v ws ++ αs)) (length ws + j) d
    ≡ get_or (run (q +ℤ distance v ws) (final v ws) αs) j d
run-over q v [] αs d j = ap₂ (λ (x : ℤ) (i : ℕ). get_or (run x v αs) i d) (sym (+ℤ_idr q)) (zero-add j)
run-over q v (w ∷ ws) αs d j =
    ap (λ (i : ℕ). get_or (run q v (changes_from v (w ∷ ws) ++ αs)) i d) (suc-add (length ws) j)
    ∙ ap (λ (x : ℤ). get_or (run (q +ℤ pos 2 *ℤ v +ℤ (w -ℤ v)) x (changes_from w ws ++ αs)) (length ws + j) d)
    (add-sub v w)
    ∙ run-over (q +ℤ pos 2 *ℤ v +ℤ (w -ℤ v)) w ws αs d j
    ∙ ap (λ (x : ℤ). get_or (run x (final w ws) αs) j d) further
  where
    further : q +ℤ pos 2 *ℤ v +ℤ (w -ℤ v) +ℤ distance w ws ≡ q +ℤ (pos 2 *ℤ v +ℤ (w -ℤ v) +ℤ distance w ws)
    further = same (q ∷ v ∷ w ∷ distance w ws ∷ []) (search pol depth 20 fits 9000) tt

pub distance_is : (v : ℤ) (ws : List ℤ) → distance v ws ≡ travelled (λ k. get_or (v ∷ ws) k (pos 0)) (length ws)
distance_is v [] = refl
distance_is v (w ∷ ws) =
    ap (λ (z : ℤ). pos 2 *ℤ v +ℤ (w -ℤ v) +ℤ z) (distance_is w ws)
    ∙ sym (travelled-first (λ k. get_or (v ∷ w ∷ ws) k (pos 0)) (length ws))

pub final-is : (v : ℤ) (ws : List ℤ) → final v ws ≡ get_or (v ∷ ws) (length ws) (pos 0)
final-is v [] = refl
final-is v (w ∷ ws) = final-is w ws

-- ---- over a constant acceleration

-- j ticks after position q and velocity v
abbrev pub steady_tick : ℤ → ℤ → ℤ → ℕ → Tick
steady_tick q v α j =
    record {
      position = q +ℤ pos 2 *ℤ (pos j *ℤ v) +ℤ α *ℤ (pos j *ℤ pos j);
      velocity = v +ℤ pos j *ℤ α;
      acceleration = α;
    }

pub run-steady : (q v α : ℤ) (n j : ℕ) (d : Tick) → j < n → get_or (run q v (replicate n α)) j d ≡ steady_tick q v α j
run-steady q v α zero j d h = absurd (omega arith)
run-steady q v α (suc n) zero d h =
    ap₂ (λ (x y : ℤ). record { position = x; velocity = y; acceleration = α }) place speed
  where
    place : q ≡ q +ℤ pos 2 *ℤ (pos 0 *ℤ v) +ℤ α *ℤ (pos 0 *ℤ pos 0)
    place = same (q ∷ v ∷ α ∷ []) (search pol depth 20 fits 9000) tt

    speed : v ≡ v +ℤ pos 0 *ℤ α
    speed = same (v ∷ α ∷ []) (search pol depth 20 fits 9000) tt
run-steady q v α (suc n) (suc j) d h =
    run-steady (q +ℤ pos 2 *ℤ v +ℤ α) (v +ℤ α) α n j d (omega arith)
    ∙ ap₂ (λ (x y : ℤ). record { position = x; velocity = y; acceleration = α })
    (place (pos j) ∙ ap (λ (i : ℤ). q +ℤ pos 2 *ℤ (i *ℤ v) +ℤ α *ℤ (i *ℤ i)) next)
    (speed (pos j) ∙ ap (λ (i : ℤ). v +ℤ i *ℤ α) next)
  where
    next : pos j +ℤ pos 1 ≡ pos (suc j)
    next = ap pos (add-one j)

    place : (i : ℤ) → q +ℤ pos 2 *ℤ v +ℤ α +ℤ pos 2 *ℤ (i *ℤ (v +ℤ α)) +ℤ α *ℤ (i *ℤ i)
        ≡ q +ℤ pos 2 *ℤ ((i +ℤ pos 1) *ℤ v) +ℤ α *ℤ ((i +ℤ pos 1) *ℤ (i +ℤ pos 1))
    place i = same (q ∷ v ∷ α ∷ i ∷ []) (search pol depth 20 fits 9000) tt

    speed : (i : ℤ) → v +ℤ α +ℤ i *ℤ α ≡ v +ℤ (i +ℤ pos 1) *ℤ α
    speed i = same (v ∷ α ∷ i ∷ []) (search pol depth 20 fits 9000) tt
