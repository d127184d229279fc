-- The words of a job are read as it: `spelled-reads`.
use Prim.Native.Nat.{ℕ, suc, ◌+◌, ◌≤◌, ◌<◌, ◌^◌}
use native.Mathlib.Omega.{arith}
use mathlib.Core.Path.{◌≡◌, refl, sym, ap, subst, ◌∙◌}
use mathlib.Core.Bool.{Bool, true, false, ◌&&◌}
use mathlib.Core.Logic.{◌⊎◌, inl, inr}
use mathlib.Core.List.{List, [], ◌∷◌, ◌++◌, append_assoc}
use lib.Dec.{eqb}
use lib.IntN.{ℤ}
use lib.ListN.{length}
use borrow.Author.Tests.{eq-eqb, ne_eqb}
use Rattle.whole.proofs.Tests.{ltb_yes, leb_yes}
use Rattle.model.specs.declared.Axis.{Axis}
use Rattle.std.specs.Prelude.{Option, None, Some}
use Rattle.model.specs.declared.Target.{Target}
use Rattle.model.specs.declared.Target.TheVariants.{Fixed, Moving}
use Rattle.model.specs.declared.Weight.{Weight}
use Rattle.model.specs.declared.Windows.{Windows}
use Rattle.model.specs.planning.Quantities.{speed_limit, acceleration_limit, half_period, second_weight}
use Rattle.model.specs.planning.Job.{Job, JobAxis, set_bits}
use Rattle.theorems.specs.GivenWeights.{with_weight}
use Rattle.model.specs.planning.Words.{kind, payload, fits_word, first_bad_long, Reading, got, wrong, Reader, ◌>>=◌}
use Rattle.model.specs.planning.Words.{give}
use Rattle.model.specs.planning.Words.{field, signed, next, position, sway_by, second_sway, target, axis, axes, ending}
use Rattle.model.specs.planning.Words.{read_job, after_mask, good_mask, Decoded, no_mask, job, spelled, decided, decode}
use Rattle.model.specs.planning.Words.{word}
use Rattle.model.specs.planning.Refusals.{position_allowed}
use Rattle.theorems.specs.Spelling.{bits, position_words, sway_words, axis_words, axes_words, job_words, SwayInWords}
use Rattle.theorems.specs.Spelling.{TargetInWords, AxisInWords, AxesInWords, JobInWords, SpellsJob}
use Rattle.theorems.specs.Converter.{with_target}
use Rattle.theorems.proofs.words.PositionSpelling.{Clean, clean-none, clean-cons, kind-of, payload-of, bits-twos}
use Rattle.theorems.proofs.words.PositionSpelling.{field-yes, stands}
use Rattle.theorems.proofs.words.Spelling.{front, whole-front}

-- ---- words ws that are read as a, the words vs being left, and that refusal 14
-- lets pass where it lets those pass

record Reads {A : Type 0} (m : Reader A) (a : A) (ws vs : List ℕ) : Type 0 where
  is : (i : ℕ) → (l : ℕ) × (m i ws ≡ got a l vs)
  pass : Clean vs → Clean ws

on : {A B : Type 0} → (A → Reader B) → Reading A → Reading B
on {A} {B} f r = elim r as (λ _. Reading B) [ got a j vs ↦ f a j vs | wrong p ↦ wrong p ]

then : {A B : Type 0} (m : Reader A) (f : A → Reader B) (a : A) (b : B) (ws us vs : List ℕ)
    → Reads m a ws us → Reads (f a) b us vs
    → Reads (λ i ws. ◌>>=◌ m f i ws) b ws vs
unfolding on
then m f a b ws us vs g h =
    record {
      is = λ i. ((h.is (g.is i).0).0, ap (on f) (g.is i).1 ∙ (h.is (g.is i).0).1);
      pass = λ c. g.pass (h.pass c);
    }

gives : {A : Type 0} (a : A) (vs : List ℕ) → Reads (give a) a vs vs
gives a vs = record { is = λ i. (i, refl); pass = λ c. c }

field-reads : (k n : ℕ) (vs : List ℕ) → (k ≡ 14 → ⊥) → n < 2 ^ 28 → Reads (field k) n (word k n ∷ vs) vs
field-reads k n vs a h =
    record {
      is = λ i. (suc i, field-yes k i n vs h);
      pass = λ c. clean-cons (word k n) vs (λ z. a (sym (kind-of k n h) ∙ z)) c;
    }

signed_reads : (k : ℕ) (z : ℤ) (vs : List ℕ) → (k ≡ 14 → ⊥) → fits_word z ≡ true
    → Reads (signed k) z (word k (bits z) ∷ vs) vs
signed_reads k z vs a h =
    let b = bits-twos z h in
    subst (λ (y : ℤ). Reads (signed k) y (word k (bits z) ∷ vs) vs) b.0
    (then (field k) _ (bits z) _ (word k (bits z) ∷ vs) vs vs (field-reads k (bits z) vs a b.1) (gives _ vs))

position-reads : (k : ℕ) (p : ℤ) (vs : List ℕ) → (k ≡ 14 → ⊥) → position_allowed p ≡ true
    → Reads (position k) p (position_words k p ++ vs) vs
position-reads k p vs a h =
    record {
      is = λ i. (i + length (position_words k p), (stands k a p h).read i vs);
      pass = λ c. (stands k a p h).pass vs c;
    }

-- ---- what comes next

-- the next word, if any, is of another kind than k
abbrev Other : ℕ → List ℕ → Type 0
Other k [] = Unit
Other k (w ∷ ws) = kind w ≡ k → ⊥

next-no : (k : ℕ) (ws : List ℕ) → Other k ws → Reads (next k) false ws ws
next-no k [] o = record { is = λ i. (i, refl); pass = λ c. c }
next-no k (w ∷ ws) o =
    record { is = λ i. (i, ap (λ (b : Bool). got b i (w ∷ ws)) (ne_eqb (kind w) k o)); pass = λ c. c }

next-yes : (k n : ℕ) (ws : List ℕ) → n < 2 ^ 28 → Reads (next k) true (word k n ∷ ws) (word k n ∷ ws)
next-yes k n ws h =
    record {
      is = λ i. (i, ap (λ (b : Bool). got b i (word k n ∷ ws)) (eq-eqb (kind (word k n)) k (kind-of k n h)));
      pass = λ c. c;
    }

position-other : (l k : ℕ) (p : ℤ) (vs : List ℕ) → (k ≡ 14 → ⊥) → (l ≡ 14 → ⊥) → (l ≡ k → ⊥) → position_allowed p ≡ true
    → Other l (position_words k p ++ vs)
position-other l k p vs a b c h = go ((stands k a p h).first vs)
  where
    go : (w : ℕ) × ((ws : List ℕ) × ((position_words k p ++ vs ≡ w ∷ ws) × ((kind w ≡ 14) ⊎ (kind w ≡ k))))
        → Other l (position_words k p ++ vs)
    go (w, (ws, (e, inl q))) = subst (Other l) (sym e) (λ z. b (sym z ∙ q))
    go (w, (ws, (e, inr q))) = subst (Other l) (sym e) (λ z. c (sym z ∙ q))

-- ---- an axis

sway-reads : (s : Option ℕ) (vs : List ℕ) → SwayInWords s → Other 13 vs → Reads second_sway s (sway_words s ++ vs) vs
sway-reads None vs h o = then (next 13) sway_by false None vs vs vs (next-no 13 vs o) (gives None vs)
sway-reads (Some d) vs h o =
    then (next 13) sway_by true (Some d) (word 13 d ∷ vs) (word 13 d ∷ vs) vs (next-yes 13 d vs h)
    (then (field 13) _ d (Some d) (word 13 d ∷ vs) vs vs
    (field-reads 13 d vs (λ e. omega (arith, e)) h) (gives (Some d) vs))

-- the words of a target after its velocity
abbrev rest_words : Target → List ℕ
rest_words (Fixed r) = []
rest_words (Moving m) = word 11 (bits m.acceleration) ∷ word 12 (bits m.tick) ∷ []

abbrev position_of : Target → ℤ
position_of (Fixed r) = r.position
position_of (Moving m) = m.position

abbrev velocity_of : Target → ℤ
velocity_of (Fixed r) = r.velocity
velocity_of (Moving m) = m.velocity

target-reads : {B : Type 0} (f : Target → B) (g : Target) (vs : List ℕ) → TargetInWords g → Other 11 vs
    → Reads (λ i ws. ◌>>=◌ (next 11)
    (λ moving. ◌>>=◌ (target moving (position_of g) (velocity_of g)) (λ h. give (f h))) i
    ws) (f g) (rest_words g ++ vs) vs
target-reads f (Fixed r) vs h o =
    then (next 11) _ false (f (Fixed r)) vs vs vs (next-no 11 vs o) (gives (f (Fixed r)) vs)
target-reads f (Moving m) vs h o =
    let a : ℕ = bits m.acceleration in
    let t : ℕ = bits m.tick in
    then (next 11) _ true (f (Moving m)) (word 11 a ∷ word 12 t ∷ vs) (word 11 a ∷ word 12 t ∷ vs) vs
    (next-yes 11 a (word 12 t ∷ vs) (bits-twos m.acceleration h.acceleration).1)
    (then (target true m.position m.velocity) _ (Moving m) (f (Moving m)) (word 11 a ∷ word 12 t ∷ vs) vs vs
    (then (signed 11) _ m.acceleration (Moving m) (word 11 a ∷ word 12 t ∷ vs) (word 12 t ∷ vs) vs
    (signed_reads 11 m.acceleration (word 12 t ∷ vs) (λ e. omega (arith, e)) h.acceleration)
    (then (signed 12) _ m.tick (Moving m) (word 12 t ∷ vs) vs vs
    (signed_reads 12 m.tick vs (λ e. omega (arith, e)) h.tick)
    (gives (Moving m) vs)))
    (gives (f (Moving m)) vs))

target-position : (g : Target) → TargetInWords g → position_allowed (position_of g) ≡ true
target-position (Fixed r) h = h.position
target-position (Moving m) h = h.position

target-velocity : (g : Target) → TargetInWords g → fits_word (velocity_of g) ≡ true
target-velocity (Fixed r) h = h.velocity
target-velocity (Moving m) h = h.velocity

-- with the number B of its weight given
with-weight-is : (x : Axis) → AxisInWords x → with_weight x ≡ x
with-weight-is x h =
    ap
    (λ (w : Weight). record {
      start = x.start;
      speed_limit = x.speed_limit;
      acceleration_limit = x.acceleration_limit;
      half_period = x.half_period;
      second_weight = w;
      second_sway = x.second_sway;
      target = x.target;
    })
    (sym h.given)

module _ (x : Axis) (h : AxisInWords x) (vs : List ℕ) (o : Other 11 vs) where
  abbrev from10 : List ℕ
  from10 = word 10 (bits (velocity_of x.target)) ∷ (rest_words x.target ++ vs)

  abbrev from9 : List ℕ
  from9 = position_words 9 (position_of x.target) ++ from10

  abbrev from13 : List ℕ
  from13 = sway_words x.second_sway ++ from9

  abbrev from3 : List ℕ
  from3 = front x.start.position x.start.velocity (speed_limit x) (acceleration_limit x) (half_period x)
      (second_weight x) x.second_sway
      (position_of x.target) (velocity_of x.target) (rest_words x.target ++ vs)

  words_are : from3 ≡ axis_words x ++ vs
  words_are = go x.target
    where
      go : (g : Target)
          → front x.start.position x.start.velocity (speed_limit x) (acceleration_limit x) (half_period x)
          (second_weight x) x.second_sway
          (position_of g) (velocity_of g) (rest_words g ++ vs)
          ≡ axis_words (with_target x g) ++ vs
      go (Fixed r) = whole-front x.start.position x.start.velocity _ _ _ _ x.second_sway
          r.position r.velocity [] vs
      go (Moving m) =
          whole-front x.start.position x.start.velocity _ _ _ _ x.second_sway m.position
          m.velocity (rest_words (Moving m)) vs

  axis-reads : Reads axis x (axis_words x ++ vs) vs
  unfolding front
  axis-reads =
      subst (λ (ws : List ℕ). Reads axis x ws vs) words_are
      (subst (λ (y : Axis). Reads axis y from3 vs) (with-weight-is x h)
      (then (position 3) _ x.start.position _ _ _ vs
      (position-reads 3 x.start.position _ (λ e. omega (arith, e)) h.position)
      (then (signed 4) _ x.start.velocity _ _ _ vs
      (signed_reads 4 x.start.velocity _ (λ e. omega (arith, e)) h.velocity)
      (then (field 5) _ (speed_limit x) _ _ _ vs (field-reads 5 (speed_limit x) _ (λ e. omega (arith, e)) h.speed)
      (then (field 6) _ (acceleration_limit x) _ _ _ vs
      (field-reads 6 (acceleration_limit x) _ (λ e. omega (arith, e)) h.acceleration)
      (then (field 7) _ (half_period x) _ _ _ vs (field-reads 7 (half_period x) _ (λ e. omega (arith, e)) h.period)
      (then (field 8) _ (second_weight x) _ _ _ vs (field-reads 8 (second_weight x) _ (λ e. omega (arith, e)) h.weight)
      (then second_sway _ x.second_sway _ from13 from9 vs
      (sway-reads x.second_sway from9 h.sway
      (position-other 13 9 (position_of x.target) from10 (λ e. omega (arith, e))
      (λ e. omega (arith, e)) (λ e. omega (arith, e))
      (target-position x.target h.target)))
      (then (position 9) _ (position_of x.target) _ from9 from10 vs
      (position-reads 9 (position_of x.target) from10 (λ e. omega (arith, e))
      (target-position x.target h.target))
      (then (signed 10) _ (velocity_of x.target) _ from10 (rest_words x.target ++ vs) vs
      (signed_reads 10 (velocity_of x.target) (rest_words x.target ++ vs) (λ e. omega (arith, e))
      (target-velocity x.target h.target))
      (target-reads _ x.target vs h.target o)))))))))))

-- ---- the axes, the job

axes-reads : (ns : List ℕ) (xs : List JobAxis) (vs : List ℕ) → AxesInWords ns xs → Other 11 vs
    → Reads (axes ns) xs (axes_words xs ++ vs) vs
axes-reads [] [] vs h o = gives [] vs
axes-reads [] (x ∷ xs) vs h o = absurd h
axes-reads (n ∷ ns) [] vs h o = absurd h
axes-reads (n ∷ ns) (x ∷ xs) vs (e, (h, hs)) o =
    subst (λ (ws : List ℕ). Reads (axes (n ∷ ns)) (x ∷ xs) ws vs)
    (sym (append_assoc (axis_words x.axis) (axes_words xs) vs))
    (subst (λ (k : ℕ). Reads (axes (k ∷ ns)) (x ∷ xs) (axis_words x.axis ++ (axes_words xs ++ vs)) vs) e
    (then axis _ x.axis (x ∷ xs) _ (axes_words xs ++ vs) vs
    (axis-reads x.axis h (axes_words xs ++ vs) (after ns xs hs))
    (then (axes ns) _ xs (x ∷ xs) (axes_words xs ++ vs) vs vs (axes-reads ns xs vs hs o) (gives (x ∷ xs) vs))))
  where
    after : (ns : List ℕ) (xs : List JobAxis) → AxesInWords ns xs → Other 11 (axes_words xs ++ vs)
    after [] [] h = o
    after [] (y ∷ ys) h = absurd h
    after (k ∷ ks) [] h = absurd h
    after (k ∷ ks) (y ∷ ys) (e, (h, hs)) =
        subst (Other 11) (sym (append_assoc (axis_words y.axis) (axes_words ys) vs))
        (subst (Other 11) (sym (append_assoc (position_words 3 y.axis.start.position) _ (axes_words ys ++ vs)))
        (position-other 11 3 y.axis.start.position _ (λ e. omega (arith, e)) (λ e. omega (arith, e))
        (λ e. omega (arith, e)) h.position))

ends : (j : Job) → Reads (ending j) j (word 15 0 ∷ []) []
ends j = record { is = λ i. (suc i, refl); pass = λ c. clean-cons (word 15 0) [] (λ z. omega (arith, z)) c }

-- the words after the mask word
abbrev after_mask_word : Job → List ℕ
after_mask_word j = word 2 j.asked ∷ (axes_words j.axes ++ (word 15 0 ∷ []))

job-reads : (j : Job) → JobInWords j → Reads (after_mask j.mask) j (after_mask_word j) []
job-reads j h =
    subst (λ (o : Job). Reads (after_mask j.mask) o (after_mask_word j) []) same
    (then (field 2) _ j.asked _ _ _ [] (field-reads 2 j.asked _ (λ e. omega (arith, e)) asked)
    (then (axes (set_bits j.mask)) _ j.axes _ _ (word 15 0 ∷ []) []
    (axes-reads (set_bits j.mask) j.axes (word 15 0 ∷ []) h.axes (λ e. omega (arith, e)))
    (ends (read_job j.mask j.asked j.axes))))
  where
    asked : j.asked < 2 ^ 28
    asked = omega (arith, h.asked)

    same : read_job j.mask j.asked j.axes ≡ j
    same = ap (λ (w : Option Windows). record { mask = j.mask; asked = j.asked; axes = j.axes; windows = w })
        (sym h.windows)

pub spelled-reads : (ws : List ℕ) (j : Job) → SpellsJob ws j → decode ws ≡ job j
spelled-reads ws j s =
    let h = s.inside in
    let r = job-reads j h in
    let m : ℕ = j.mask in
    let Some : 1 ≤ m = omega (arith, h.mask.0) in
    let six : m ≤ 63 = omega (arith, h.mask.1) in
    let small : m < 2 ^ 28 = omega (arith, six) in
    let right : eqb (kind (word 1 m)) 1 && good_mask (payload (word 1 m)) ≡ true =
    (λ i. eq-eqb (kind (word 1 m)) 1 (kind-of 1 m small) i && good_mask (payload-of 1 m small i))
    ∙ (λ i. ltb_yes Some i && leb_yes six i) in
    let good : first_bad_long 0 (job_words j) ≡ None =
    clean-none 0 (job_words j)
    (clean-cons (word 1 m) (after_mask_word j) (λ z. omega (arith, z, h.mask.1)) (r.pass tt)) in
    ap decode s.words
    ∙ (λ i. elim (right i) as (λ _. Decoded) [
      | true ↦ decided (job_words j) (after_mask (payload-of 1 m small i) 1 (after_mask_word j))
      | false ↦ no_mask
    ])
    ∙ ap (decided (job_words j)) (r.is 1).1
    ∙ ap (λ (o : Option ℕ). spelled o j) good
