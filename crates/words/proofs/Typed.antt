-- A decoded job as typed values: its axes, placed at their numbers among six, are its axes again.
use Prim.Native.Nat.{ℕ, zero, suc, ◌+◌, ◌/◌, ◌%◌, ◌<◌, ◌≤◌}
use native.Mathlib.Omega.{arith}
use mathlib.Core.Path.{◌≡◌, refl, sym, ap, ap₂, ◌∙◌}
use mathlib.Core.Bool.{Bool, true, false, ◌&&◌}
use Rattle.std.specs.Prelude.{Option, None, Some}
use mathlib.Core.List.{List, [], ◌∷◌, map}
use lib.ListN.{get_or, length, drop, set, length-set, drop_of_length-le}
use lib.Seq.{drop-cons, get_or-set_same, get_or-set_other}
use lib.Dec.{eqb}
use Rattle.model.specs.declared.Axis.{Axis}
use Rattle.std.specs.declared.result.Result.{Result}
use Rattle.std.specs.declared.result.Result.TheVariants.{Ok}
use Rattle.model.specs.declared.refusal.Refusal.{Refusal}
use Rattle.model.specs.declared.Job as Typed
use Rattle.model.specs.planning.Told.{told}
use Rattle.model.specs.declared.Windows.{Windows}
use Rattle.model.specs.planning.Windows.{no_windows}
use Rattle.model.specs.planning.Job.{Job, JobAxis, set_from, set_bits, set_axes, job_of, unset_axis}
use Rattle.model.specs.planning.Words.{Reading, got, wrong, ◌>>=◌, give, kind, payload, field, axis, axes, ending}
use Rattle.model.specs.planning.Words.{first_bad_long, read_job, after_mask, good_mask, Decoded, no_mask, bad_word}
use Rattle.model.specs.planning.Words.{bad_long}
use Rattle.model.specs.planning.Words.{job, spelled, decided, decode}
use Rattle.words.specs.Decoding.{unset_axes, placed, word_job, decoded_job, Decodes}
use Rattle.words.proofs.Reader.{on}

abbrev numbers : List JobAxis → List ℕ
numbers xs = map (λ x. x.number) xs

-- ---- axes at the numbers of set bits, of six or any other count

-- numbers from i on
abbrev From : ℕ → List JobAxis → Type 0
From i [] = Unit
From i (x ∷ xs) = (i ≤ x.number) × From i xs

earlier : (i : ℕ) (xs : List JobAxis) → From (suc i) xs → From i xs
earlier i [] f = tt
earlier i (x ∷ xs) (f, fs) = (omega arith, earlier i xs fs)

bits-from : (n i m : ℕ) (xs : List JobAxis) → numbers xs ≡ set_from n i m → From i xs
bits-from zero i m [] e = tt
bits-from zero i m (x ∷ xs) e = absurd (let z : ◌≡◌ {A = ℕ} 0 1 = cc in omega arith)
bits-from (suc n) i m xs e = go (eqb (m % 2) 1) xs (set_from n (suc i) (m / 2)) e (λ ys. bits-from n (suc i) (m / 2) ys)
  where
    go : (b : Bool) (xs : List JobAxis) (later : List ℕ)
        → ◌≡◌ {A = List ℕ} (numbers xs) (elim b [ true ↦ i ∷ later | false ↦ later ])
        → ((ys : List JobAxis) → numbers ys ≡ later → From (suc i) ys) → From i xs
    go true [] later e h = tt
    go true (x ∷ xs) later e h =
        let first : x.number ≡ i = cc in
        let others : numbers xs ≡ later = cc in
        (omega arith, earlier i xs (h xs others))
    go false xs later e h = earlier i xs (h xs e)

placed-long : (xs : List JobAxis) (six : List Axis) → length (placed xs six) ≡ length six
placed-long [] six = refl
placed-long (x ∷ xs) six = placed-long xs (set six x.number x.axis) ∙ length-set six x.number x.axis

-- what stands below the numbers stays
placed_below : (xs : List JobAxis) (six : List Axis) (i k : ℕ) → From i xs → k < i
    → get_or (placed xs six) k unset_axis ≡ get_or six k unset_axis
placed_below [] six i k f h = refl
placed_below (x ∷ xs) six i k (f, fs) h =
    placed_below xs (set six x.number x.axis) i k fs h
    ∙ get_or-set_other six x.number k x.axis unset_axis (λ e. omega arith)

module _ (n i m : ℕ) where
  abbrev later : List ℕ
  later = set_from n (suc i) (m / 2)

  abbrev rest : List Axis → List JobAxis
  rest six = set_axes (suc i) (m / 2) (drop (suc i) six)

  abbrev bits : Bool → List ℕ
  bits b = elim b [ true ↦ i ∷ later | false ↦ later ]

  abbrev picked : Bool → List Axis → List JobAxis
  picked b six = elim b [ true ↦ record { number = i; axis = get_or six i unset_axis } ∷ rest six | false ↦ rest six ]

  abbrev Later : Type 0
  Later = (ys : List JobAxis) (s : List Axis) → length s ≡ suc i + n → numbers ys ≡ later → rest (placed ys s) ≡ ys

  by_bit : (b : Bool) (xs : List JobAxis) (six : List Axis) → length six ≡ i + suc n → numbers xs ≡ bits b → Later
      → picked b (placed xs six) ≡ xs
  by_bit true [] six l e h = absurd (let z : ◌≡◌ {A = ℕ} 0 1 = cc in omega arith)
  by_bit true (x ∷ xs) six l e h =
      let first : x.number ≡ i = cc in
      let others : numbers xs ≡ later = cc in
      let with : List Axis = set six x.number x.axis in
      let long : length with ≡ suc i + n = omega (arith, length-set six x.number x.axis) in
      let kept : get_or (placed xs with) i unset_axis ≡ x.axis =
      placed_below xs with (suc i) i (bits-from n (suc i) (m / 2) xs others) (omega arith)
      ∙ ap (λ (k : ℕ). get_or with k unset_axis) (sym first)
      ∙ get_or-set_same six x.number x.axis unset_axis (omega arith) in
      λ j. record { number = sym first j; axis = kept j } ∷ h xs with long others j
  by_bit false xs six l e h = h xs six (omega arith) e

pub axes-again : (n i m : ℕ) (xs : List JobAxis) (six : List Axis) → length six ≡ i + n → numbers xs ≡ set_from n i m
    → set_axes i m (drop i (placed xs six)) ≡ xs
axes-again zero i m [] six l e = ap (set_axes i m) (drop_of_length-le six {i = i} (omega arith))
axes-again zero i m (x ∷ xs) six l e = absurd (let z : ◌≡◌ {A = ℕ} 0 1 = cc in omega arith)
axes-again (suc n) i m xs six l e =
    ap (set_axes i m) (drop-cons (placed xs six) i unset_axis (omega (arith, placed-long xs six)))
    ∙ by_bit n i m (eqb (m % 2) 1) xs six l e (λ ys s. axes-again n (suc i) (m / 2) ys s)

-- ---- the numbers of the axes that are read, and the mask

abbrev Numbered : List ℕ → Reading (List JobAxis) → Type 0
Numbered ns (got xs j vs) = numbers xs ≡ ns
Numbered ns (wrong p) = Unit

axes-numbered : (ns : List ℕ) (i : ℕ) (ws : List ℕ) → Numbered ns (axes ns i ws)
axes-numbered [] i ws = refl
axes-numbered (n ∷ ns) i ws = first (axis i ws) (axes-numbered ns)
  where
    others : (x : Axis) (r : Reading (List JobAxis)) → Numbered ns r
        → Numbered (n ∷ ns) (on (λ xs. give (record { number = n; axis = x } ∷ xs)) r)
    others x (got xs j vs) e = ap (λ (l : List ℕ). n ∷ l) e
    others x (wrong p) e = tt

    first : (r : Reading Axis) → ((j : ℕ) (vs : List ℕ) → Numbered ns (axes ns j vs))
        → Numbered (n ∷ ns) (on (λ x. ◌>>=◌ (axes ns) (λ xs. give (record { number = n; axis = x } ∷ xs))) r)
    first (got x j vs) h = others x (axes ns j vs) (h j vs)
    first (wrong p) h = tt

-- a job of mask m whose axes have the numbers of its set bits; words bring no windows
abbrev OfMask : ℕ → Job → Type 0
OfMask m j = (j.mask ≡ m) × (numbers j.axes ≡ set_bits m) × (j.windows ≡ no_windows)

abbrev JobOf : ℕ → Reading Job → Type 0
JobOf m (got j i vs) = OfMask m j
JobOf m (wrong p) = Unit

ending-job : (m : ℕ) (j : Job) (i : ℕ) (ws : List ℕ) → OfMask m j → JobOf m (ending j i ws)
ending-job m j i [] h = tt
ending-job m j i (w ∷ []) h = go (eqb (kind w) 15 && eqb (payload w) 0)
  where
    go : (b : Bool) → JobOf m (elim b [ true ↦ got j (suc i) [] | false ↦ wrong i ])
    go true = h
    go false = tt
ending-job m j i (w ∷ u ∷ ws) h = go (eqb (kind w) 15 && eqb (payload w) 0)
  where
    go : (b : Bool) → JobOf m (elim b [ true ↦ wrong (suc i) | false ↦ wrong i ])
    go true = tt
    go false = tt

after-mask-job : (m i : ℕ) (ws : List ℕ) → JobOf m (after_mask m i ws)
after-mask-job m i ws = asked (field 2 i ws)
  where
    by-axes : (a : ℕ) (r : Reading (List JobAxis)) → Numbered (set_bits m) r
        → JobOf m (on (λ xs. ending (read_job m a xs)) r)
    by-axes a (got xs j vs) e = ending-job m (read_job m a xs) j vs (refl, e, refl)
    by-axes a (wrong p) e = tt

    asked : (r : Reading ℕ) → JobOf m (on (λ a. ◌>>=◌ (axes (set_bits m)) (λ xs. ending (read_job m a xs))) r)
    asked (got a j vs) = by-axes a (axes (set_bits m) j vs) (axes-numbered (set_bits m) j vs)
    asked (wrong p) = tt

-- a decoded job has an allowed mask, and is that of its six axes
abbrev Sound : Decoded → Type 0
Sound no_mask = Unit
Sound (bad_word p) = Unit
Sound (bad_long p) = Unit
Sound (job j) = (good_mask j.mask ≡ true) × (numbers j.axes ≡ set_bits j.mask) × (j.windows ≡ no_windows)

sound : (ws : List ℕ) → Sound (decode ws)
sound [] = tt
sound (w ∷ ws) = go (eqb (kind w) 1) (good_mask (payload w)) refl
  where
    by-long : (o : Option ℕ) (j : Job) → Sound (job j) → Sound (spelled o j)
    by-long (Some p) j h = tt
    by-long None j h = h

    by-reading : good_mask (payload w) ≡ true → (r : Reading Job) → JobOf (payload w) r → Sound (decided (w ∷ ws) r)
    by-reading e (got j i rest) (p, q, r) =
        by-long (first_bad_long 0 (w ∷ ws)) j (
          ap (λ (m : ℕ). good_mask m) p ∙ e,
          q
              ∙ ap (λ (m : ℕ). set_bits m) (sym p),
          r,
        )
    by-reading e (wrong p) h = tt

    go : (a b : Bool) → good_mask (payload w) ≡ b
        → Sound (elim (a && b) [ true ↦ decided (w ∷ ws) (after_mask (payload w) 1 ws) | false ↦ no_mask ])
    go true true e = by-reading e (after_mask (payload w) 1 ws) (after-mask-job (payload w) 1 ws)
    go true false e = tt
    go false b e = tt

pub decodes : (ws : List ℕ) (r : Result Typed.Job Refusal) → told r ≡ decoded_job (decode ws) → Decodes ws r
decodes ws r e =
    record {
      decoded = e;
      typed = λ t z. typed-of (decode ws) (sound ws) t (sym (ap told z) ∙ e);
      allowed = λ t z. allowed_of (decode ws) (sound ws) t (sym (ap told z) ∙ e);
    }
  where
    typed-of : (d : Decoded) → Sound d → (t : Typed.Job) → Ok t ≡ decoded_job d → d ≡ job (job_of t)
    typed-of no_mask h t z = absurd (cc)
    typed-of (bad_word p) h t z = absurd (cc)
    typed-of (bad_long p) h t z = absurd (cc)
    typed-of (job j) (g, ns, w) t z =
        let is : t ≡ word_job j.mask j.asked (placed j.axes unset_axes) = cc in
        ap₂ (λ (xs : List JobAxis) (v : Option Windows). job
        (record { mask = j.mask; asked = j.asked; axes = xs; windows = v }))
        (sym (axes-again 6 0 j.mask j.axes unset_axes refl ns)) w
        ∙ ap (λ (s : Typed.Job). job (job_of s)) (sym is)

    allowed_of : (d : Decoded) → Sound d → (t : Typed.Job) → Ok t ≡ decoded_job d → good_mask t.mask ≡ true
    allowed_of no_mask h t z = absurd (cc)
    allowed_of (bad_word p) h t z = absurd (cc)
    allowed_of (bad_long p) h t z = absurd (cc)
    allowed_of (job j) h t z =
        let is : t ≡ word_job j.mask j.asked (placed j.axes unset_axes) = cc in
        ap (λ (s : Typed.Job). good_mask s.mask) is ∙ h.0
