-- An array whose entries are the images of another array's is the image of that array.
use Rattle.std.proofs.Common.{◌≡◌, ℕ, suc, ◌<◌, List, [], ◌∷◌, length, get_or, map, refl, arith}

pub mapped : {A B : Type 0} (f : A → B) (xs : List A) (ys : List B) → length xs ≡ length ys
    → ((i : ℕ) (d : A) (e : B) → i < length xs → get_or ys i e ≡ f (get_or xs i d)) → ys ≡ map f xs
mapped f [] [] n h = refl
mapped f [] (y ∷ ys) n h = absurd (omega arith)
mapped f (x ∷ xs) [] n h = absurd (omega arith)
mapped f (x ∷ xs) (y ∷ ys) n h =
    λ i. h 0 x y (omega arith) i ∷ mapped f xs ys (omega arith) (λ j d e k. h (suc j) d e (omega arith)) i
