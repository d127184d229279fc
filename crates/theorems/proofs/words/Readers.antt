-- Readers of words one after the other: what was read before a reading that succeeds.
use Prim.Native.Nat.{ℕ, suc}
use native.Mathlib.Omega.{arith}
use mathlib.Core.Path.{◌≡◌, refl}
use mathlib.Core.Bool.{Bool, true, false, ◌&&◌}
use mathlib.Core.List.{List, [], ◌∷◌}
use lib.Dec.{eqb}
use Rattle.model.specs.planning.Job.{Job}
use Rattle.model.specs.planning.Words.{kind, payload, Reading, Reader, got, wrong, ◌>>=◌, ending}

pub record Before {A B : Type 0} (m : Reader A) (f : A → Reader B) (i : ℕ) (ws : List ℕ) (r : Reading B) : Type 0 where
  pub value : A
  pub index : ℕ
  pub rest : List ℕ
  pub first : m i ws ≡ got value index rest
  pub then : f value index rest ≡ r

pub before : {A B : Type 0} (m : Reader A) (f : A → Reader B) (i : ℕ) (ws : List ℕ) (b : B) (k : ℕ) (vs : List ℕ)
    → ◌>>=◌ m f i ws ≡ got b k vs → Before m f i ws (got b k vs)
before {A} {B} m f i ws b k vs = go (m i ws) refl
  where
    go : (r : Reading A) → m i ws ≡ r
        → (elim r as (λ z. Reading B) [ got a j us ↦ f a j us | wrong p ↦ wrong p ]) ≡ got b k vs
        → Before m f i ws (got b k vs)
    go (got a j us) e q = record { value = a; index = j; rest = us; first = e; then = q }
    go (wrong p) e q = absurd (let z : ◌≡◌ {A = ℕ} 0 1 = cc in omega arith)

pub ending-gives : (j : Job) (i : ℕ) (ws : List ℕ) (o : Job) (k : ℕ) (vs : List ℕ) → ending j i ws ≡ got o k vs → j ≡ o
ending-gives j i [] o k vs e = absurd (let z : ◌≡◌ {A = ℕ} 0 1 = cc in omega arith)
ending-gives j i (w ∷ []) o k vs e = go (eqb (kind w) 15 && eqb (payload w) 0) e
  where
    go : (b : Bool) → (elim b as (λ z. Reading Job) [ true ↦ got j (suc i) [] | false ↦ wrong i ]) ≡ got o k vs → j ≡ o
    go true e = cc
    go false e = absurd (let z : ◌≡◌ {A = ℕ} 0 1 = cc in omega arith)
ending-gives j i (w ∷ u ∷ ws) o k vs e = go (eqb (kind w) 15 && eqb (payload w) 0) e
  where
    go : (b : Bool) → (elim b as (λ z. Reading Job) [ true ↦ wrong (suc i) | false ↦ wrong i ]) ≡ got o k vs → j ≡ o
    go true e = absurd (let z : ◌≡◌ {A = ℕ} 0 1 = cc in omega arith)
    go false e = absurd (let z : ◌≡◌ {A = ℕ} 0 1 = cc in omega arith)
