-- Words that are read as a job spell it: `read-spells`.
use Prim.Native.Nat.{ℕ, suc, ◌<◌, ◌≤◌, ◌^◌}
use native.Mathlib.Omega.{arith}
use mathlib.Core.Path.{◌≡◌, refl, sym, ap, subst, ◌∙◌}
use mathlib.Core.Bool.{Bool, true, false, ◌&&◌, true≢false}
use mathlib.Core.List.{List, [], ◌∷◌, ◌++◌, append_assoc}
use lib.Dec.{eqb}
use lib.IntN.{ℤ}
use borrow.Author.Tests.{eqb-true}
use Rattle.model.specs.declared.Axis.{Axis}
use Rattle.std.specs.Prelude.{Option, None, Some}
use Rattle.model.specs.declared.Target.{Target}
use Rattle.model.specs.declared.Target.TheVariants.{Fixed, Moving}
use Rattle.model.specs.declared.Weight.TheVariants.{Given}
use Rattle.model.specs.planning.Job.{Job, set_bits}
use Rattle.model.specs.planning.Words.{kind, payload, fits_word, Reading, got, wrong, Reader, ◌>>=◌, give, field}
use Rattle.model.specs.planning.Words.{signed}
use Rattle.model.specs.planning.Words.{next, position, sway_by, second_sway, target, axis, axes, ending, read_job}
use Rattle.model.specs.planning.Words.{after_mask, word}
use Rattle.model.specs.planning.Refusals.{position_allowed}
use Rattle.theorems.specs.Spelling.{bits, position_words, sway_words, axis_words, axes_words, job_words, SwayInWords}
use Rattle.theorems.specs.Spelling.{TargetInWords, AxisInWords, AxesInWords, JobInWords, SpellsJob}
use Rattle.theorems.proofs.words.Readers.{before, ending-gives}
use Rattle.theorems.proofs.words.PositionSpelling.{Clean, clean-tail, value_of, rest_of, unread, field_is}
use Rattle.theorems.proofs.words.PositionSpelling.{signed_is, position-is}

-- ---- readers whose value spells the words that they read and has room in them

clean_after : (l ws : List ℕ) → Clean (l ++ ws) → Clean ws
clean_after [] ws c = c
clean_after (w ∷ l) ws c = clean_after l ws (clean-tail w (l ++ ws) c)

abbrev Spells : {A : Type 0} → Reader A → (A → List ℕ) → (A → Type 0) → Type 0
Spells {A} m enc P = (i : ℕ) (ws : List ℕ) (a : A) (j : ℕ) (vs : List ℕ) → Clean ws
    → m i ws ≡ got a j vs → (ws ≡ enc a ++ vs) × P a

field-spells : (k : ℕ) → Spells (field k) (λ n. word k n ∷ []) (λ n. n < 2 ^ 28)
field-spells k i ws n j vs c e = field_is k i ws n j vs e

signed-spells : (k : ℕ) → Spells (signed k) (λ z. word k (bits z) ∷ []) (λ z. fits_word z ≡ true)
signed-spells k i ws z j vs c e = signed_is k i ws z j vs e

next-spells : (k : ℕ) → Spells (next k) (λ _. []) (λ _. Unit)
next-spells k i [] b j vs c e = (rest_of e, tt)
next-spells k i (w ∷ ws) b j vs c e = (rest_of e, tt)

position-spells : (k : ℕ) → Spells (position k) (position_words k) (λ p. position_allowed p ≡ true)
position-spells k i ws p j vs c e = position-is k i ws p j vs c e

-- ---- readers one after another, `pre` putting in front of the words those that were read

abbrev Ends : {B : Type 0} → (B → List ℕ) → (B → Type 0) → (List ℕ → List ℕ) → Reader B → Type 0
Ends {B} enc Q pre r = (i : ℕ) (ws : List ℕ) (b : B) (j : ℕ) (vs : List ℕ) → Clean ws → r i ws ≡ got b j vs
    → (pre ws ≡ enc b ++ vs) × Q b

module _ {A B : Type 0} (enc : B → List ℕ) (Q : B → Type 0) (pre : List ℕ → List ℕ) where
  then : (m : Reader A) (e : A → List ℕ) (P : A → Type 0) (f : A → Reader B) → Spells m e P
      → ((a : A) → P a → Ends enc Q (λ vs. pre (e a ++ vs)) (f a))
      → Ends enc Q pre (λ i ws. ◌>>=◌ m f i ws)
  then m e P f s h i ws b j vs c q =
      let r = before m f i ws b j vs q in
      let w = s i ws r.value r.index r.rest c r.first in
      let t = h r.value w.1 r.index r.rest b j vs
      (clean_after (e r.value) r.rest (subst Clean w.0 c)) r.then in
      (ap pre w.0 ∙ t.0, t.1)

last : {B : Type 0} (enc : B → List ℕ) (Q : B → Type 0) (pre : List ℕ → List ℕ) (b : B)
    → ((vs : List ℕ) → pre vs ≡ enc b ++ vs) → Q b
    → Ends enc Q pre (give b)
last enc Q pre b h k i ws o j vs c q = (h ws ∙ (λ l. enc (value_of q l) ++ rest_of q l), subst Q (value_of q) k)

-- two readings, made one value, handed on
pub assoc₂ : {A B C D : Type 0} (m : Reader A) (n : Reader B) (f : A → B → C) (g : C → D) (i : ℕ) (vs : List ℕ)
    → ◌>>=◌ (◌>>=◌ m (λ a. ◌>>=◌ n (λ b. give (f a b)))) (λ c. give (g c)) i vs
    ≡ ◌>>=◌ m (λ a. ◌>>=◌ n (λ b. give (g (f a b)))) i vs
assoc₂ {A} {B} {C} {D} m n f g i vs = outer (m i vs)
  where
    inner : (a : A) (q : Reading B) → ◌≡◌ {A = Reading D}
        (elim (elim q as (λ _. Reading C) [ got b j us ↦ got (f a b) j us | wrong p ↦ wrong p ])
        as (λ _. Reading D) [ got c j us ↦ got (g c) j us | wrong p ↦ wrong p ])
        (elim q as (λ _. Reading D) [ got b j us ↦ got (g (f a b)) j us | wrong p ↦ wrong p ])
    inner a (got b j us) = refl
    inner a (wrong p) = refl

    outer : (q : Reading A) → ◌≡◌ {A = Reading D}
        (elim (elim q as (λ _. Reading C) [ got a j us ↦ ◌>>=◌ n (λ b. give (f a b)) j us | wrong p ↦ wrong p ])
        as (λ _. Reading D) [ got c j us ↦ got (g c) j us | wrong p ↦ wrong p ])
        (elim q as (λ _. Reading D) [ got a j us ↦ ◌>>=◌ n (λ b. give (g (f a b))) j us | wrong p ↦ wrong p ])
    outer (got a j us) = inner a (n j us)
    outer (wrong p) = refl

-- ---- an axis, the axes, the job

sway-spells : Spells second_sway sway_words SwayInWords
sway-spells = then sway_words SwayInWords (λ vs. vs) (next 13) (λ _. []) (λ _. Unit) sway_by
    (next-spells 13) (λ b _. by b)
  where
    by : (b : Bool) → Ends sway_words SwayInWords (λ vs. vs) (sway_by b)
    by true =
        then sway_words SwayInWords (λ vs. vs) (field 13) (λ n. word 13 n ∷ []) _ _ (field-spells 13)
        (λ d r. last sway_words SwayInWords (λ vs. word 13 d ∷ vs) (Some d) (λ vs. refl) r)
    by false = last sway_words SwayInWords (λ vs. vs) None (λ vs. refl) tt

module _ (p₀ v₀ : ℤ) (l m h b : ℕ) (s : Option ℕ) (p v : ℤ) where
  toward : Target → Axis
  toward g =
      record {
        start = record { position = p₀; velocity = v₀ };
        speed_limit = l;
        acceleration_limit = m;
        half_period = h;
        second_weight = Given b;
        second_sway = s;
        target = g;
      }

  unfoldable pub front : List ℕ → List ℕ
  front vs =
      position_words 3 p₀
      ++ (word 4 (bits v₀) ∷ word 5 l ∷ word 6 m ∷ word 7 h ∷ word 8 b
      ∷ (sway_words s ++ (position_words 9 p ++ (word 10 (bits v) ∷ vs))))

  pub whole-front : (us vs : List ℕ)
      → front (us ++ vs)
      ≡ (position_words 3 p₀
      ++ (word 4 (bits v₀) ∷ word 5 l ∷ word 6 m ∷ word 7 h ∷ word 8 b
      ∷ (sway_words s ++ (position_words 9 p ++ (word 10 (bits v) ∷ us))))) ++ vs
  unfolding front
  whole-front us vs =
      ap (λ (ws : List ℕ). position_words 3 p₀ ++ (word 4 (bits v₀) ∷ word 5 l ∷ word 6 m ∷ word 7 h ∷ word 8 b ∷ ws))
      (ap (λ (ws : List ℕ). sway_words s ++ ws) (sym (append_assoc (position_words 9 p) (word 10 (bits v) ∷ us) vs))
      ∙ sym (append_assoc (sway_words s) _ vs))
      ∙ sym (append_assoc (position_words 3 p₀) _ vs)

  target-ends : (moving : Bool) → ((g : Target) → TargetInWords g → AxisInWords (toward g))
      → position_allowed p ≡ true → fits_word v ≡ true
      → Ends axis_words AxisInWords front (λ i ws. ◌>>=◌ (target moving p v) (λ g. give (toward g)) i ws)
  unfolding toward
  target-ends false inside pr vr =
      last axis_words AxisInWords front (toward (Fixed (record { position = p; velocity = v })))
      (λ vs. whole-front [] vs)
      (inside (Fixed (record { position = p; velocity = v }))
      (record { position = pr; velocity = vr; acceleration = refl; tick = refl }))
  target-ends true inside pr vr =
      λ i ws x j vs c e.
      then axis_words AxisInWords front (signed 11) (λ z. word 11 (bits z) ∷ []) _ _ (signed-spells 11)
      (λ a ar. then axis_words AxisInWords (λ us. front (word 11 (bits a) ∷ us)) (signed 12)
      (λ z. word 12 (bits z) ∷ []) _ _ (signed-spells 12)
      (λ t tr. last axis_words AxisInWords (λ us. front (word 11 (bits a) ∷ word 12 (bits t) ∷ us)) (toward (moved a t))
      (λ us. whole-front (word 11 (bits a) ∷ word 12 (bits t) ∷ []) us)
      (inside (moved a t) (record { position = pr; velocity = vr; acceleration = ar; tick = tr }))))
      i ws x j vs c (sym (assoc₂ (signed 11) (signed 12) moved toward i ws) ∙ e)
    where
      moved : ℤ → ℤ → Target
      moved a t = Moving (record { position = p; velocity = v; acceleration = a; tick = t })

axis-spells : Spells axis axis_words AxisInWords
unfolding front toward
axis-spells =
    then axis_words AxisInWords (λ vs. vs) (position 3) (position_words 3) _ _ (position-spells 3)
    (λ p₀ p₀r. then axis_words AxisInWords _ (signed 4) (λ z. word 4 (bits z) ∷ []) _ _ (signed-spells 4)
    (λ v₀ v₀r. then axis_words AxisInWords _ (field 5) (λ n. word 5 n ∷ []) _ _ (field-spells 5)
    (λ l lr. then axis_words AxisInWords _ (field 6) (λ n. word 6 n ∷ []) _ _ (field-spells 6)
    (λ m mr. then axis_words AxisInWords _ (field 7) (λ n. word 7 n ∷ []) _ _ (field-spells 7)
    (λ h hr. then axis_words AxisInWords _ (field 8) (λ n. word 8 n ∷ []) _ _ (field-spells 8)
    (λ b br. then axis_words AxisInWords _ second_sway sway_words _ _ sway-spells
    (λ s sr. then axis_words AxisInWords _ (position 9) (position_words 9) _ _ (position-spells 9)
    (λ p pr. then axis_words AxisInWords _ (signed 10) (λ z. word 10 (bits z) ∷ []) _ _ (signed-spells 10)
    (λ v vr. then axis_words AxisInWords _ (next 11) (λ _. []) (λ _. Unit) _ (next-spells 11)
    (λ moving _. target-ends p₀ v₀ l m h b s p v moving
    (λ g gr. record {
      position = p₀r;
      velocity = v₀r;
      speed = lr;
      acceleration = mr;
      period = hr;
      given = refl;
      weight = br;
      sway = sr;
      target = gr;
    })
    pr vr))))))))))

axes-spells : (ns : List ℕ) → Spells (axes ns) axes_words (AxesInWords ns)
axes-spells [] =
    λ i ws xs j vs c e. ((λ l. axes_words (value_of e l) ++ rest_of e l), subst (AxesInWords []) (value_of e) tt)
axes-spells (n ∷ ns) =
    then axes_words (AxesInWords (n ∷ ns)) (λ vs. vs) axis axis_words AxisInWords _ axis-spells
    (λ x xr. then axes_words (AxesInWords (n ∷ ns)) (λ vs. axis_words x ++ vs) (axes ns) axes_words
    (AxesInWords ns) _ (axes-spells ns)
    (λ xs r. last axes_words (AxesInWords (n ∷ ns)) (λ vs. axis_words x ++ (axes_words xs ++ vs))
    (record { number = n; axis = x } ∷ xs)
    (λ vs. sym (append_assoc (axis_words x) (axes_words xs) vs)) (refl, (xr, r))))

end-word : (w : ℕ) → eqb (kind w) 15 && eqb (payload w) 0 ≡ true → w ≡ word 15 0
end-word w e = go (eqb (kind w) 15) (eqb (payload w) 0) (eqb-true (kind w) 15) (eqb-true (payload w) 0) e
  where
    go : (a b : Bool) → (a ≡ true → kind w ≡ 15) → (b ≡ true → payload w ≡ 0) → a && b ≡ true → w ≡ word 15 0
    go true true f g e = omega (arith, f refl, g refl)
    go true false f g e = absurd (true≢false (sym e))
    go false b f g e = absurd (true≢false (sym e))

ending-is : (j : Job) (i : ℕ) (ws : List ℕ) (o : Job) (k : ℕ) (vs : List ℕ)
    → ending j i ws ≡ got o k vs → ws ≡ word 15 0 ∷ []
ending-is j i [] o k vs e = absurd (unread e)
ending-is j i (w ∷ []) o k vs e = go (eqb (kind w) 15 && eqb (payload w) 0) refl e
  where
    go : (b : Bool) → eqb (kind w) 15 && eqb (payload w) 0 ≡ b
        → (elim b as (λ _. Reading Job) [ true ↦ got j (suc i) [] | false ↦ wrong i ]) ≡ got o k vs
        → w ∷ [] ≡ word 15 0 ∷ []
    go true t e = ap (λ (v : ℕ). v ∷ []) (end-word w t)
    go false t e = absurd (unread e)
ending-is j i (w ∷ u ∷ ws) o k vs e = go (eqb (kind w) 15 && eqb (payload w) 0) e
  where
    go : (b : Bool) → (elim b as (λ _. Reading Job) [ true ↦ wrong (suc i) | false ↦ wrong i ]) ≡ got o k vs
        → w ∷ u ∷ ws ≡ word 15 0 ∷ []
    go true e = absurd (unread e)
    go false e = absurd (unread e)

pub read-spells : (m i : ℕ) (ws : List ℕ) (j : Job) (k : ℕ) (vs : List ℕ) → (1 ≤ m) × (m ≤ 63) → Clean ws
    → after_mask m i ws ≡ got j k vs
    → SpellsJob (word 1 m ∷ ws) j
read-spells m i ws j k vs l c e =
    let a = before (field 2) (λ asked. ◌>>=◌ (axes (set_bits m)) (λ xs. ending (read_job m asked xs))) i ws j k vs e in
    let b = before (axes (set_bits m)) (λ xs. ending (read_job m a.value xs)) a.index a.rest j k vs a.then in
    let first = field_is 2 i ws a.value a.index a.rest a.first in
    let second =
    axes-spells (set_bits m) a.index a.rest b.value b.index b.rest
    (clean-tail (word 2 a.value) a.rest (subst Clean first.0 c)) b.first in
    let read : Job = read_job m a.value b.value in
    let end = ending-is read b.index b.rest j k vs b.then in
    let same = ending-gives read b.index b.rest j k vs b.then in
    record {
      inside =
          subst JobInWords same
          (record {
            mask = (omega (arith, l), omega (arith, l));
            asked = omega (arith, first.1);
            axes = second.1;
            windows = refl;
          });
      words =
          ap (λ (us : List ℕ). word 1 m ∷ us)
          (first.0 ∙ ap (λ (us : List ℕ). word 2 a.value ∷ us)
          (second.0 ∙ ap (λ (us : List ℕ). axes_words b.value ++ us) end))
          ∙ ap job_words same;
    }
