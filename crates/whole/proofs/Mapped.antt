-- An array that is stored into entry by entry, each the image of another array's entry, is in the
-- end the image of that array: `stored-all`. Assumes nothing.
use Prim.Native.Nat.{ℕ, suc, ◌+◌, ◌<◌}
use native.Mathlib.Numerals.{add-one}
use mathlib.Core.Path.{◌≡◌, sym, ap, ◌∙◌}
use mathlib.Core.List.{List, [], ◌∷◌, ◌++◌, map, append_assoc, append-nil}
use lib.ListN.{length, get_or, set, take, drop}
use lib.Seq.{take-suc-set, take-length, drop-cons, drop-length}

module _ {A B : Type 0} (f : A → B) (l : List A) where
  -- the entries of m before index i are the images of those of l
  abbrev pub Stored : List B → ℕ → Type 0
  Stored m i = take i m ++ map f (drop i l) ≡ map f l

  pub stored_next : (d : A) (m : List B) (i : ℕ) (v : B) → i < length l → i < length m → v ≡ f (get_or l i d)
      → Stored m i → Stored (set m i v) (i + 1)
  stored_next d m i v h k e s =
      ap (λ (j : ℕ). take j (set m i v) ++ map f (drop j l)) (add-one i)
      ∙ ap (λ (t : List B). t ++ map f (drop (suc i) l)) (take-suc-set m i v k)
      ∙ append_assoc (take i m) (v ∷ []) (map f (drop (suc i) l))
      ∙ ap (λ (q : B). take i m ++ (q ∷ map f (drop (suc i) l))) e
      ∙ ap (λ (a : List A). take i m ++ map f a) (sym (drop-cons l i d h))
      ∙ s

  pub stored-all : (m : List B) (i : ℕ) → i ≡ length l → i ≡ length m → Stored m i → m ≡ map f l
  stored-all m i e k s =
      sym (take-length m)
      ∙ ap (λ (j : ℕ). take j m) (sym k)
      ∙ sym (append-nil (take i m))
      ∙ ap (λ (a : List A). take i m ++ map f a) (sym (ap (λ (j : ℕ). drop j l) e ∙ drop-length l))
      ∙ s
