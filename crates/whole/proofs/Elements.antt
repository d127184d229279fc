-- The element of a list at an index.
use Prim.Native.Nat.{ℕ, zero, suc, ◌<◌}
use mathlib.Core.Path.{◌≡◌, refl}
use mathlib.Core.List.{List, [], ◌∷◌, map}
use Rattle.std.specs.Prelude.{None, Some}
use native.Mathlib.Omega.{arith}
use lib.ListN.{length}
use Rattle.std.specs.Prelude.{slice_get}

pub none-some : {A : Type 0} {a : A} → None ≡ Some a → ⊥
none-some p = let z : ◌≡◌ {A = ℕ} 0 1 = cc in omega arith

-- an index that has an element is below the length
pub at-below : {A : Type 0} (l : List A) (i : ℕ) (a : A) → slice_get l i ≡ Some a → i < length l
at-below [] i a e = absurd (none-some e)
at-below (x ∷ l) zero a e = omega arith
at-below (x ∷ l) (suc i) a e = omega (arith, at-below l i a e)

-- and an index below the length has an element
pub element : {A : Type 0} (l : List A) (i : ℕ) → i < length l → (a : A) × (slice_get l i ≡ Some a)
element [] i h = absurd (omega arith)
element (x ∷ l) zero h = (x, refl)
element (x ∷ l) (suc i) h = element l i (omega arith)

pub map_at : {A B : Type 0} (f : A → B) (l : List A) (i : ℕ) (a : A) → slice_get l i ≡ Some a
    → slice_get (map f l) i ≡ Some (f a)
map_at f [] i a e = absurd (none-some e)
map_at f (x ∷ l) zero a e = cc
map_at f (x ∷ l) (suc i) a e = map_at f l i a e
