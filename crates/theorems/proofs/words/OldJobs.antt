-- A job without words of kinds 13 and 14 is read as before there were any: `old-jobs-kept`.
use Prim.Native.Nat.{ℕ, suc}
use mathlib.Core.Path.{◌≡◌, refl, ap, ◌∙◌}
use mathlib.Core.Bool.{Bool, true, false, not, ◌&&◌}
use Rattle.std.specs.Prelude.{Option, Some}
use mathlib.Core.List.{List, [], ◌∷◌}
use lib.Dec.{eqb}
use lib.IntN.{ℤ}
use borrow.Author.Tests.{ne_eqb}
use Rattle.std.specs.Prelude.{None}
use Rattle.model.specs.planning.Job.{Job, set_bits}
use Rattle.model.specs.planning.Words.{kind, payload, Reading, got, wrong, Reader, ◌>>=◌, give}
use Rattle.model.specs.planning.Words.{field, signed, next, position_by, position, sway_by, second_sway, target}
use Rattle.model.specs.planning.Words.{axis_by, axes_by, ending, after_mask_by, good_mask, long_allowed, first_bad_long}
use Rattle.model.specs.planning.Words.{Decoded, no_mask, bad_word, job, spelled, decided}
use Rattle.theorems.specs.Spelling.{OldKinds, OldJobsKept}

-- what is left to read has no such word either
abbrev Left : {A : Type 0} → Reading A → Type 0
Left (got a j vs) = OldKinds vs
Left (wrong p) = Unit

-- two readers that read such words alike
abbrev Alike : {A : Type 0} → Reader A → Reader A → Type 0
Alike m n = (i : ℕ) (ws : List ℕ) → OldKinds ws → (m i ws ≡ n i ws) × Left (n i ws)

-- what f makes of a reading
on : {A B : Type 0} → (A → Reader B) → Reading A → Reading B
on f r = elim r [ got a j vs ↦ f a j vs | wrong p ↦ wrong p ]

module _ {A B : Type 0} (f g : A → Reader B) (k : (a : A) → Alike (f a) (g a)) where
  alike-on : (r : Reading A) → Left r → (on f r ≡ on g r) × Left (on g r)
  unfolding on
  alike-on (got a j vs) l = k a j vs l
  alike-on (wrong p) l = (refl, tt)

  then : (m n : Reader A) → Alike m n → Alike (λ i ws. ◌>>=◌ m f i ws) (λ i ws. ◌>>=◌ n g i ws)
  unfolding on
  then m n h i ws c = let q = alike-on (n i ws) (h i ws c).1 in (ap (on f) (h i ws c).0 ∙ q.0, q.1)

-- ---- readers that read no position

-- by a test
either : {A : Type 0} (b : Bool) (r s : Reading A) → Left r → Left s
    → (◌≡◌ {A = Reading A} (elim b as (λ _. Reading A) [ true ↦ r | false ↦ s ])
    (elim b as (λ _. Reading A) [ true ↦ r | false ↦ s ]))
    × Left {A = A} (elim b as (λ _. Reading A) [ true ↦ r | false ↦ s ])
either true r s h k = (refl, h)
either false r s h k = (refl, k)

field_alike : (k : ℕ) → Alike (field k) (field k)
field_alike k i [] c = (refl, tt)
field_alike k i (w ∷ ws) c = either (eqb (kind w) k) (got (payload w) (suc i) ws) (wrong i) c.1.1 tt

give-alike : {A : Type 0} (a : A) → Alike (give a) (give a)
give-alike a i ws c = (refl, c)

signed-alike : (k : ℕ) → Alike (signed k) (signed k)
signed-alike k = then _ _ (λ n. give-alike _) (field k) (field k) (field_alike k)

next-alike : (k : ℕ) → Alike (next k) (next k)
next-alike k i [] c = (refl, c)
next-alike k i (w ∷ ws) c = (refl, c)

target-alike : (b : Bool) (p v : ℤ) → Alike (target b p v) (target b p v)
target-alike true p v =
    then _ _ (λ a. then _ _ (λ t. give-alike _) (signed 12) (signed 12) (signed-alike 12))
    (signed 11) (signed 11) (signed-alike 11)
target-alike false p v = give-alike _

ending-alike : (j : Job) → Alike (ending j) (ending j)
ending-alike j i [] c = (refl, tt)
ending-alike j i (w ∷ []) c = either (eqb (kind w) 15 && eqb (payload w) 0) (got j (suc i) []) (wrong i) tt tt
ending-alike j i (w ∷ u ∷ ws) c = either (eqb (kind w) 15 && eqb (payload w) 0) (wrong (suc i)) (wrong i) tt tt

-- ---- positions, and what has them

position-alike : (k : ℕ) → Alike (position k) (signed k)
position-alike k i [] c = (refl, tt)
position-alike k i (w ∷ ws) c =
    (ap (λ (b : Bool). position_by b k i (w ∷ ws)) (ne_eqb (kind w) 14 c.0), (signed-alike k i (w ∷ ws) c).1)

sway-alike : Alike second_sway (give None)
sway-alike i [] c = (refl, c)
sway-alike i (w ∷ ws) c = (ap (λ (b : Bool). sway_by b i (w ∷ ws)) (ne_eqb (kind w) 13 c.1.0), c)

axis-alike : Alike (axis_by position second_sway) (axis_by signed (give None))
axis-alike =
    then _ _
    (λ p₀. then _ _
    (λ v₀. then _ _
    (λ l. then _ _ (λ m. then _ _ (λ h. then _ _ (λ b. then _ _ (λ s. then _ _ (λ p. then _ _ (λ v. then _ _ (λ moving.
    then _ _ (λ g. give-alike _)
    (target moving p v) (target moving p v) (target-alike moving p v))
    (next 11) (next 11) (next-alike 11))
    (signed 10) (signed 10) (signed-alike 10))
    (position 9) (signed 9) (position-alike 9))
    second_sway (give None) sway-alike)
    (field 8) (field 8) (field_alike 8))
    (field 7) (field 7) (field_alike 7))
    (field 6) (field 6) (field_alike 6))
    (field 5) (field 5) (field_alike 5))
    (signed 4) (signed 4) (signed-alike 4))
    (position 3) (signed 3) (position-alike 3)

axes-alike : (ns : List ℕ) → Alike (axes_by position second_sway ns) (axes_by signed (give None) ns)
axes-alike [] = give-alike []
axes-alike (n ∷ ns) =
    then _ _
    (λ x. then _ _ (λ xs. give-alike _) (axes_by position second_sway ns)
    (axes_by signed (give None) ns) (axes-alike ns))
    (axis_by position second_sway) (axis_by signed (give None)) axis-alike

job-alike : (m : ℕ) → Alike (after_mask_by position second_sway m) (after_mask_by signed (give None) m)
job-alike m =
    then _ _
    (λ a. then _ _ (λ xs. ending-alike _) (axes_by position second_sway (set_bits m))
    (axes_by signed (give None) (set_bits m)) (axes-alike (set_bits m)))
    (field 2) (field 2) (field_alike 2)

none_named : (i : ℕ) (ws : List ℕ) → OldKinds ws → first_bad_long i ws ≡ None
none_named i [] c = refl
none_named i (w ∷ []) c = refl
none_named i (w ∷ u ∷ ws) c =
    ap (λ (b : Bool).
    elim (b && not (long_allowed (payload w) (payload u))) as
    (λ _. Option ℕ) [ true ↦ Some i | false ↦ first_bad_long (suc i) (u ∷ ws) ])
    (ne_eqb (kind w) 14 c.0)
    ∙ none_named (suc i) (u ∷ ws) c.1.1

pub old-jobs-kept : OldJobsKept
old-jobs-kept [] c = refl
old-jobs-kept (w ∷ ws) c =
    ap (λ (r : Reading Job). by_mask (decided (w ∷ ws) r)) (job-alike (payload w) 1 ws c.1.1).0
    ∙ ap by_mask (unspelled (after_mask_by signed (give None) (payload w) 1 ws))
  where
    by_mask : Decoded → Decoded
    by_mask d = elim (eqb (kind w) 1 && good_mask (payload w)) as (λ _. Decoded) [ true ↦ d | false ↦ no_mask ]

    unspelled : (r : Reading Job)
        → decided (w ∷ ws) r ≡ (elim r as (λ _. Decoded) [ got j i rest ↦ job j | wrong p ↦ bad_word p ])
    unspelled (got j i rest) = ap (λ (o : Option ℕ). spelled o j) (none_named 0 (w ∷ ws) c)
    unspelled (wrong p) = refl
