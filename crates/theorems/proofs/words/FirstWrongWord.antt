-- Refusal 2 names the first word that is not of a kind allowed next, in the
-- method's words: `first-wrong-word`.
use Prim.Native.Nat.{ℕ, suc, ◌+◌, ◌≤◌, ◌<◌}
use native.Mathlib.Omega.{arith}
use mathlib.Core.Path.{◌≡◌, refl, sym, ap, subst}
use mathlib.Core.Bool.{Bool, true, false, ◌&&◌}
use Rattle.std.specs.Prelude.{Option, None, Some}
use mathlib.Core.List.{List, [], ◌∷◌}
use mathlib.Core.Logic.{◌⊎◌, inl, inr}
use lib.Dec.{eqb}
use lib.IntN.{ℤ}
use lib.ListN.{length, take}
use Rattle.model.specs.planning.Job.{Job, set_bits}
use Rattle.model.specs.planning.Words.{kind, payload, Reading, got, wrong, Reader, ◌>>=◌, field, signed, next}
use Rattle.model.specs.planning.Words.{position_by, position}
use Rattle.model.specs.planning.Words.{target, sway_by, second_sway, axis, axes, ending, read_job, after_mask}
use Rattle.theorems.specs.Grammar.{AfterMask, WellFormed, Begins, FirstWrong}
use Rattle.theorems.proofs.words.Walks.{Judged, Walk, after-mask-judges, after_mask_walk, axes_walk, axis_walk, done}
use Rattle.theorems.proofs.words.Walks.{either, ends, of_kind, position_walk, sway_walk}

-- ---- a reader goes as a walk: where it reads a value, the walk goes on from there,
-- and both find the same wrong word

abbrev Follow : {A : Type 0} → Reading A → Walk → Option ℕ → Type 0
Follow (got a j vs) c o = o ≡ c j vs
Follow (wrong p) c o = o ≡ Some p

abbrev Goes : {A : Type 0} → Reader A → Walk → Walk → Type 0
Goes m w c = (i : ℕ) (ws : List ℕ) → Follow (m i ws) c (w i ws)

then : {A B : Type 0} (m : Reader A) (f : A → Reader B) (w d c : Walk) → Goes m w d → ((a : A) → Goes (f a) d c)
    → Goes (λ i ws. ◌>>=◌ m f i ws) w c
then {A} {B} m f w d c g h i ws = go (m i ws) (w i ws) (g i ws)
  where
    go : (r : Reading A) (o : Option ℕ) → Follow {A = A} r d o
        → Follow {A = B} (elim r as (λ _. Reading B) [ got a j vs ↦ f a j vs | wrong p ↦ wrong p ]) c o
    go (got a j vs) o e = subst (λ (z : Option ℕ). Follow (f a j vs) c z) (sym e) (h a j vs)
    go (wrong p) o e = e

field-goes : (k : ℕ) (c : Walk) → Goes (field k) (of_kind k c) c
unfolding of_kind
field-goes k c i [] = refl
field-goes k c i (w ∷ ws) = go (eqb (kind w) k)
  where
    go : (b : Bool)
        → Follow {A = ℕ} (elim b as (λ _. Reading ℕ) [ true ↦ got (payload w) (suc i) ws | false ↦ wrong i ]) c
        (elim b as (λ _. Option ℕ) [ true ↦ c (suc i) ws | false ↦ Some i ])
    go true = refl
    go false = refl

signed-goes : (k : ℕ) (c : Walk) → Goes (signed k) (of_kind k c) c
signed-goes k c = then (field k) _ (of_kind k c) c c (field-goes k c) (λ n. λ i ws. refl)

ahead : {A : Type 0} (k : ℕ) (f : Bool → Reader A) (a b c : Walk) → Goes (f true) a c → Goes (f false) b c
    → Goes (λ i ws. ◌>>=◌ (next k) f i ws) (either k a b) c
unfolding either
ahead k f a b c g h i [] = h i []
ahead k f a b c g h i (w ∷ ws) = go (eqb (kind w) k)
  where
    go : (t : Bool)
        → Follow (f t i (w ∷ ws)) c (elim t as (λ _. Option ℕ) [ true ↦ a i (w ∷ ws) | false ↦ b i (w ∷ ws) ])
    go true = g i (w ∷ ws)
    go false = h i (w ∷ ws)

position-goes : (k : ℕ) (c : Walk) → Goes (position k) (position_walk k c) c
position-goes k c =
    ahead 14 (λ long. position_by long k) (of_kind 14 (of_kind k c)) (of_kind k c) c
    (then (field 14) _ (of_kind 14 (of_kind k c)) (of_kind k c) c (field-goes 14 (of_kind k c))
    (λ high. then (field k) _ (of_kind k c) c c (field-goes k c) (λ low. λ i ws. refl)))
    (signed-goes k c)

sway-goes : (c : Walk) → Goes second_sway (sway_walk c) c
sway-goes c = ahead 13 sway_by (of_kind 13 c) c c
    (then (field 13) _ (of_kind 13 c) c c (field-goes 13 c) (λ d. λ i ws. refl)) (λ i ws. refl)

target-goes : (p v : ℤ) (c : Walk) → Goes (target true p v) (of_kind 11 (of_kind 12 c)) c
target-goes p v c =
    then (signed 11) _ (of_kind 11 (of_kind 12 c)) (of_kind 12 c) c (signed-goes 11 (of_kind 12 c))
    (λ a. then (signed 12) _ (of_kind 12 c) c c (signed-goes 12 c) (λ t. λ i ws. refl))

axis-goes : (c : Walk) → Goes axis (axis_walk c) c
unfolding axis_walk
axis-goes c =
    then (position 3) _ _ _ c (position-goes 3 _)
    (λ p₀. then (signed 4) _ _ _ c (signed-goes 4 _)
    (λ v₀. then (field 5) _ _ _ c (field-goes 5 _)
    (λ l. then (field 6) _ _ _ c (field-goes 6 _)
    (λ m. then (field 7) _ _ _ c (field-goes 7 _)
    (λ h. then (field 8) _ _ _ c (field-goes 8 _)
    (λ b. then second_sway _ _ _ c (sway-goes _)
    (λ s. then (position 9) _ _ _ c (position-goes 9 _)
    (λ p. then (signed 10) _ _ _ c (signed-goes 10 _)
    (λ v. ahead 11 _ (of_kind 11 (of_kind 12 c)) c c
    (then (target true p v) _ (of_kind 11 (of_kind 12 c)) c c (target-goes p v c) (λ g. λ i ws. refl))
    (λ i ws. refl))))))))))

axes-go : (ns : List ℕ) (c : Walk) → Goes (axes ns) (axes_walk ns c) c
unfolding axes_walk
axes-go [] c = λ i ws. refl
axes-go (n ∷ ns) c =
    then axis _ (axis_walk (axes_walk ns c)) (axes_walk ns c) c (axis-goes (axes_walk ns c))
    (λ x. then (axes ns) _ (axes_walk ns c) c c (axes-go ns c) (λ xs. λ i ws. refl))

ending-goes : (j : Job) → Goes (ending j) ends done
unfolding ends
ending-goes j i [] = refl
ending-goes j i (w ∷ []) = go (eqb (kind w) 15 && eqb (payload w) 0)
  where
    go : (b : Bool) → Follow {A = Job} (elim b as (λ _. Reading Job) [ true ↦ got j (suc i) [] | false ↦ wrong i ]) done
        (elim b as (λ _. Option ℕ) [ true ↦ None | false ↦ Some i ])
    go true = refl
    go false = refl
ending-goes j i (w ∷ u ∷ ws) = go (eqb (kind w) 15 && eqb (payload w) 0)
  where
    go : (b : Bool) → Follow {A = Job} (elim b as (λ _. Reading Job) [ true ↦ wrong (suc i) | false ↦ wrong i ]) done
        (elim b as (λ _. Option ℕ) [ true ↦ Some (suc i) | false ↦ Some i ])
    go true = refl
    go false = refl

after-mask-goes : (m : ℕ) → Goes (after_mask m) (after_mask_walk m) done
unfolding after_mask_walk
after-mask-goes m =
    then (field 2) _ _ (axes_walk (set_bits m) ends) done (field-goes 2 (axes_walk (set_bits m) ends))
    (λ asked. then (axes (set_bits m)) _ (axes_walk (set_bits m) ends) ends done (axes-go (set_bits m) ends)
    (λ xs. ending-goes (read_job m asked xs)))

-- ---- the words of a job with its mask word

-- a mask word that refusal 1 lets pass
abbrev pub MaskWord : ℕ → Type 0
MaskWord w = (kind w ≡ 1) × ((1 ≤ payload w) × (payload w ≤ 63))

module _ (w : ℕ) (ws : List ℕ) (m : MaskWord w) where
  found : (r : Reading Job) → after_mask (payload w) 1 ws ≡ r
      → Follow {A = Job} r done (after_mask_walk (payload w) 1 ws)
  found r e = subst (λ (r : Reading Job). Follow {A = Job} r done (after_mask_walk (payload w) 1 ws)) e
      (after-mask-goes (payload w) 1 ws)

  judged-as : (o : Option ℕ) → after_mask_walk (payload w) 1 ws ≡ o → Judged (AfterMask (payload w)) 1 ws o
  judged-as o e =
      subst (λ (o : Option ℕ). Judged (AfterMask (payload w)) 1 ws o) e ((after-mask-judges (payload w)).judged 1 ws)

  -- words that are read through are well formed
  pub read_through : (j : Job) (i : ℕ) (vs : List ℕ) → after_mask (payload w) 1 ws ≡ got j i vs → WellFormed (w ∷ ws)
  read_through j i vs e = (m.0, (m.1, judged-as None (found (got j i vs) e)))

  -- where reading ends, the first wrong word is
  pub first-wrong-word : (p : ℕ) → after_mask (payload w) 1 ws ≡ wrong p → FirstWrong WellFormed (w ∷ ws) p
  first-wrong-word p e = go (judged-as (Some p) (found (wrong p) e))
    where
      by : (q : ℕ) → ((q < length ws) × (Begins (AfterMask (payload w)) (take (suc q) ws) → ⊥))
          ⊎ ((q ≡ length ws) × (AfterMask (payload w) ws → ⊥))
          → ((suc q < suc (length ws)) × (Begins WellFormed (w ∷ take (suc q) ws) → ⊥))
          ⊎ ((suc q ≡ suc (length ws)) × (WellFormed (w ∷ ws) → ⊥))
      by q (inl (l, n)) = inl (omega (arith, l), λ b. n (b.0, b.1.1.1))
      by q (inr (l, n)) = inr (ap suc l, λ b. n b.1.1)

      go : (k : ℕ) × ((p ≡ 1 + k) × FirstWrong (AfterMask (payload w)) ws k) → FirstWrong WellFormed (w ∷ ws) p
      go (k, (is, h)) =
          subst (FirstWrong WellFormed (w ∷ ws)) (let s : suc k ≡ p = omega (arith, is) in s)
          (record { before = (h.before.0, (m.0, (m.1, h.before.1))); here = by k h.here })
