-- The converted words are those of the converted job: `converted-words`.
use Prim.Native.Nat.{ℕ, zero, suc, ◌-◌, ◌^◌, ◌<◌, ◌≤◌}
use native.Mathlib.Omega.{arith}
use mathlib.Core.Path.{◌≡◌, refl, sym, ap, subst, ◌∙◌}
use mathlib.Core.Bool.{Bool, true, false, not, ◌&&◌, false≢true}
use Rattle.std.specs.Prelude.{Option}
use mathlib.Core.List.{List, [], ◌∷◌}
use lib.IntN.{ℤ, pos, neg_ℤ, nat_abs}
use lib.Dec.{T, eqb, ltb, nltb→le}
use borrow.Author.Tests.{eq-eqb, ne_eqb, eqb-true, lt-ltb}
use Rattle.model.specs.declared.Axis.{Axis}
use Rattle.model.specs.declared.RestPoint.{RestPoint}
use Rattle.std.specs.Prelude.{None, Some}
use Rattle.model.specs.declared.Target.{Target}
use Rattle.model.specs.declared.Target.TheVariants.{Fixed, Moving}
use Rattle.model.specs.declared.Weight.TheVariants.{Given}
use Rattle.model.specs.planning.Quantities.{as_moving}
use Rattle.model.specs.planning.Job.{Job, set_bits}
use Rattle.model.specs.planning.Words.{kind, payload, twos, long_position, long_allowed, first_bad_long, Reading, got}
use Rattle.model.specs.planning.Words.{wrong, Reader, ◌>>=◌, give, field, signed, next, position_by, position, sway_by}
use Rattle.model.specs.planning.Words.{second_sway, target, axis, axes, ending, read_job, after_mask, good_mask}
use Rattle.model.specs.planning.Words.{Decoded}
use Rattle.model.specs.planning.Words.{no_mask, job, spelled, decided, decode, word}
use Rattle.model.specs.calls.Converter.{begins, flying_word, converted}
use Rattle.theorems.specs.Converter.{converted_target, converted_axis, converted_axes, converted_job}
use Rattle.theorems.proofs.words.Readers.{before}
use Rattle.theorems.proofs.words.LongWrong.{bad}
use Rattle.theorems.proofs.words.PositionSpelling.{value_of, rest_of, unread, Clean, clean, clean-tail}

-- a velocity is 0 where its payload is
twos-zero : (m : ℕ) → m < 2 ^ 28 → eqb (nat_abs (twos m)) 0 ≡ eqb m 0
twos-zero m h = go (ltb m (2 ^ 27)) (nltb→le m (2 ^ 27))
  where
    below : (d : ℕ) → 1 ≤ d → eqb (nat_abs (neg_ℤ (pos d))) 0 ≡ false
    below zero h = absurd (omega arith)
    below (suc d) h = ne_eqb (suc d) 0 (λ e. omega arith)

    go : (b : Bool) → (T (not b) → 2 ^ 27 ≤ m)
        → eqb (nat_abs (elim b as (λ _. ℤ) [ true ↦ pos m | false ↦ neg_ℤ (pos (2 ^ 28 - m)) ])) 0 ≡ eqb m 0
    go true f = refl
    go false f = let k = f tt in below (2 ^ 28 - m) (omega arith) ∙ sym (ne_eqb m 0 (λ e. omega arith))

-- whether a word of kind k comes next is whether the words begin with one
pub next-is : (k i : ℕ) (ws : List ℕ) → next k i ws ≡ got (begins k ws) i ws
next-is k i [] = refl
next-is k i (w ∷ ws) = refl

module _ (n : ℕ) (soon : n ≤ 4096) where
  abbrev conv : List ℕ → List ℕ
  conv = converted n

  -- ---- the first word of converted words

  by-flight : ℕ → List ℕ → Bool → List ℕ
  by-flight w ws b = elim b [ true ↦ w ∷ word 11 0 ∷ word 12 n ∷ conv ws | false ↦ w ∷ conv ws ]

  conv-by : (w : ℕ) (ws : List ℕ) (b : Bool) → flying_word w ws ≡ b → conv (w ∷ ws) ≡ by-flight w ws b
  unfolding by-flight
  conv-by w ws b e = ap (by-flight w ws) e

  copied : (w : ℕ) (ws : List ℕ) → flying_word w ws ≡ false → conv (w ∷ ws) ≡ w ∷ conv ws
  unfolding by-flight
  copied w ws e = conv-by w ws false e

  flown : (w : ℕ) (ws : List ℕ) → flying_word w ws ≡ true → conv (w ∷ ws) ≡ w ∷ word 11 0 ∷ word 12 n ∷ conv ws
  unfolding by-flight
  flown w ws e = conv-by w ws true e

  and_no : (a : Bool) → a && false ≡ false
  and_no true = refl
  and_no false = refl

  and_none : (a b : Bool) → a && (b && false) ≡ false
  and_none true true = refl
  and_none true false = refl
  and_none false b = refl

  other-kind : (w : ℕ) (ws : List ℕ) → (kind w ≡ 10 → ⊥) → flying_word w ws ≡ false
  other-kind w ws h = ap (λ (b : Bool). b && (not (eqb (payload w) 0) && not (begins 11 ws))) (ne_eqb (kind w) 10 h)

  begins-kept : (k : ℕ) (ws : List ℕ) → begins k (conv ws) ≡ begins k ws
  begins-kept k [] = refl
  begins-kept k (w ∷ ws) = go (flying_word w ws)
    where
      go : (b : Bool)
          → begins k (elim b as (λ _. List ℕ) [ true ↦ w ∷ word 11 0 ∷ word 12 n ∷ conv ws | false ↦ w ∷ conv ws ])
          ≡ eqb (kind w) k
      go true = refl
      go false = refl

  -- ---- readers of the old words and of the converted ones: h turns the value of
  -- the one into that of the other

  abbrev Turns : {B : Type 0} → Reader B → Reader B → (B → B) → Type 0
  Turns {B} r s h = (i k : ℕ) (ws : List ℕ) (b : B) (j : ℕ) (vs : List ℕ) → r i ws ≡ got b j vs
      → (l : ℕ) × (s k (conv ws) ≡ got (h b) l (conv vs))

  then : {A B : Type 0} (m m' : Reader A) (g : A → A) (f f' : A → Reader B) (h : B → B) → Turns m m' g
      → ((a : A) → Turns (f a) (f' (g a)) h)
      → Turns (λ i ws. ◌>>=◌ m f i ws) (λ i ws. ◌>>=◌ m' f' i ws) h
  then {A} {B} m m' g f f' h t c i k ws b j vs e =
      let r = before m f i ws b j vs e in
      let q = t i k ws r.value r.index r.rest r.first in
      let u = c r.value r.index q.0 r.rest b j vs r.then in (
        u.0,
        ap (λ (z : Reading A). elim z as (λ _. Reading B) [ got a l us ↦ f' a l us | wrong p ↦ wrong p ]) q.1
            ∙ u.1,
      )

  last : {B : Type 0} (b : B) (h : B → B) → Turns (give b) (give (h b)) h
  last b h i k ws o j vs e = (k, (λ l. got (h (value_of e l)) k (conv (rest_of e l))))

  abbrev id : {A : Type 0} → A → A
  id a = a

  field-turns : (k : ℕ) → (k ≡ 10 → ⊥) → Turns (field k) (field k) id
  field-turns k h i l [] b j vs e = absurd (unread e)
  field-turns k h i l (w ∷ ws) b j vs e = go (eqb (kind w) k) refl e
    where
      go : (t : Bool) → eqb (kind w) k ≡ t
          → (elim t as (λ _. Reading ℕ) [ true ↦ got (payload w) (suc i) ws | false ↦ wrong i ]) ≡ got b j vs
          → (q : ℕ) × (field k l (conv (w ∷ ws)) ≡ got b q (conv vs))
      go true t e =
          let other = other-kind w ws (λ z. h (sym (eqb-true (kind w) k t) ∙ z)) in (
            suc l,
            ap (field k l) (copied w ws other)
                ∙ ap (λ (t : Bool). elim t as
                (λ _. Reading ℕ) [ true ↦ got (payload w) (suc l) (conv ws) | false ↦ wrong l ]) t
                ∙ (λ q. got (value_of e q) (suc l) (conv (rest_of e q))),
          )
      go false t e = absurd (unread e)

  signed-turns : (k : ℕ) → (k ≡ 10 → ⊥) → Turns (signed k) (signed k) id
  signed-turns k h = then (field k) (field k) id (λ a. give (twos a)) (λ a. give (twos a)) id
      (field-turns k h) (λ a. last (twos a) id)

  next-turns : (k : ℕ) → Turns (next k) (next k) id
  next-turns k i l ws b j vs e =
      let q = sym (next-is k i ws) ∙ e in (
        l,
        next-is k l (conv ws) ∙ ap (λ (t : Bool). got t l (conv ws)) (begins-kept k ws)
            ∙ (λ z. got (value_of q z) l (conv (rest_of q z))),
      )

  position-turns : (k : ℕ) → (k ≡ 10 → ⊥) → Turns (position k) (position k) id
  position-turns k h = then (next 14) (next 14) id _ _ id (next-turns 14) by-long
    where
      by-long : (b : Bool) → Turns (position_by b k) (position_by b k) id
      by-long true =
          then (field 14) (field 14) id _ _ id (field-turns 14 (λ e. omega arith))
          (λ a. then (field k) (field k) id _ _ id (field-turns k h) (λ b. last (long_position a b) id))
      by-long false = signed-turns k h

  sway-turns : Turns second_sway second_sway id
  sway-turns = then (next 13) (next 13) id _ _ id (next-turns 13) by_name
    where
      by_name : (b : Bool) → Turns (sway_by b) (sway_by b) id
      by_name true = then (field 13) (field 13) id _ _ id
          (field-turns 13 (λ e. omega arith)) (λ d. last (Some d) id)
      by_name false = last None id

  -- ---- the velocity of a target and what follows it

  -- a signed field at a word that is there
  signed_yes : (k i w : ℕ) (ws : List ℕ) → kind w ≡ k → signed k i (w ∷ ws) ≡ got (twos (payload w)) (suc i) ws
  signed_yes k i w ws e =
      ap (λ (b : Bool). on-twos (elim b as (λ _. Reading ℕ) [ true ↦ got (payload w) (suc i) ws | false ↦ wrong i ]))
      (eq-eqb (kind w) k e)
    where
      on-twos : Reading ℕ → Reading ℤ
      on-twos r = elim r [ got a j vs ↦ got (twos a) j vs | wrong p ↦ wrong p ]

  kind-read : (k i w : ℕ) (ws : List ℕ) (z : ℤ) (j : ℕ) (vs : List ℕ) → signed k i (w ∷ ws) ≡ got z j vs → kind w ≡ k
  kind-read k i w ws z j vs e =
      go (eqb (kind w) k) (eqb-true (kind w) k) (before (field k) (λ a. give (twos a)) i (w ∷ ws) z j vs e).first
    where
      go : {a l : ℕ} {us : List ℕ} (b : Bool) → (b ≡ true → kind w ≡ k)
          → (elim b as (λ _. Reading ℕ) [ true ↦ got (payload w) (suc i) ws | false ↦ wrong i ])
          ≡ got a l us → kind w ≡ k
      go true f e = f refl
      go false f e = absurd (unread e)

  target-turns : (b : Bool) (p v : ℤ) → b ≡ true → Turns (target b p v) (target b p v) (converted_target n)
  target-turns true p v t =
      then (signed 11) (signed 11) id _ _ (converted_target n) (signed-turns 11 (λ e. omega arith))
      (λ a. then (signed 12) (signed 12) id _ _ (converted_target n) (signed-turns 12 (λ e. omega arith))
      (λ d. last (Moving (record { position = p; velocity = v; acceleration = a; tick = d })) (converted_target n)))
  target-turns false p v t = absurd (let z : ◌≡◌ {A = ℕ} 0 1 = cc in omega arith)

  -- the two words that come after a velocity: an acceleration of 0 and the tick n
  moving-words : (p v : ℤ) (i : ℕ) (ws : List ℕ)
      → target true p v i (word 11 0 ∷ word 12 n ∷ ws)
      ≡ got (Moving (record { position = p; velocity = v; acceleration = pos 0; tick = pos n })) (suc (suc i)) ws
  moving-words p v i ws =
      ap (λ (r : Reading ℤ). elim r as (λ _. Reading Target) [
        | got t j vs ↦ got (Moving (record { position = p; velocity = v; acceleration = pos 0; tick = t })) j vs
        | wrong q ↦ wrong q
      ]) (signed_yes 12 (suc i) (word 12 n) ws twelve ∙ ap (λ (t : ℤ). got t (suc (suc i)) ws) tick)
    where
      twelve : kind (word 12 n) ≡ 12
      twelve = omega (arith, soon)

      same : payload (word 12 n) ≡ n
      same = omega (arith, soon)

      tick : twos (payload (word 12 n)) ≡ pos n
      tick =
          ap (λ (m : ℕ). twos m) same
          ∙ ap (λ (b : Bool). elim b as (λ _. ℤ) [ true ↦ pos n | false ↦ neg_ℤ (pos (2 ^ 28 - n)) ])
          (lt-ltb n (2 ^ 27) (omega (arith, soon)))

  module _ (X : Target → Axis) (X-is : (g : Target) → X (converted_target n g) ≡ converted_axis n (X g)) (p : ℤ) where
    -- from the velocity on
    to : ℤ → Reader Axis
    to v = λ i ws. ◌>>=◌ (next 11) (λ b. ◌>>=◌ (target b p v) (λ g. give (X g))) i ws

    by_kind : (b : Bool) (v : ℤ) → Reader Axis
    by_kind b v = λ i ws. ◌>>=◌ (target b p v) (λ g. give (X g)) i ws

    to_is : (v : ℤ) (i : ℕ) (ws : List ℕ) → to v i ws ≡ by_kind (begins 11 ws) v i ws
    unfolding to by_kind
    to_is v i ws =
        ap (λ (r : Reading Bool). elim r as
        (λ _. Reading Axis) [ got b j vs ↦ ◌>>=◌ (target b p v) (λ g. give (X g)) j vs | wrong q ↦ wrong q ])
        (next-is 11 i ws)

    give-turns : (g : Target) → Turns (give (X g)) (give (X (converted_target n g))) (converted_axis n)
    give-turns g i k ws x j vs e =
        let q = last (X g) (converted_axis n) i k ws x j vs e in
        (q.0, ap (λ (y : Axis). got y k (conv ws)) (X-is g) ∙ q.1)

    moving-turns : (v : ℤ) → Turns (by_kind true v) (by_kind true v) (converted_axis n)
    unfolding by_kind
    moving-turns v =
        then (target true p v) (target true p v) (converted_target n) (λ g. give (X g))
        (λ g. give (X g)) (converted_axis n)
        (target-turns true p v refl) give-turns

    -- the velocity of w, before the words vs
    read-on : (w : ℕ) (us vs : List ℕ) (k : ℕ) → kind w ≡ 10 → conv (w ∷ us) ≡ w ∷ vs
        → ◌>>=◌ (signed 10) to k (conv (w ∷ us)) ≡ to (twos (payload w)) (suc k) vs
    read-on w us vs k t e = ap (λ (ws : List ℕ). ◌>>=◌ (signed 10) to k ws) e ∙ ap on-to (signed_yes 10 k w vs t)
      where
        on-to : Reading ℤ → Reading Axis
        on-to r = elim r [ got v l vs ↦ to v l vs | wrong q ↦ wrong q ]

    fixed-read : (w : ℕ) (us : List ℕ) (i : ℕ)
        → got (X (Fixed (record { position = p; velocity = twos (payload w) }))) i us
        ≡ by_kind false (twos (payload w)) i us
    unfolding by_kind
    fixed-read w us i = refl

    -- a fixed target with the velocity of the word w, before the words us
    module _ (w : ℕ) (us : List ℕ) (i k : ℕ) (x : Axis) (j : ℕ) (vs : List ℕ)
        (t : kind w ≡ 10) (b : begins 11 us ≡ false)
        (q : got (X (Fixed (record { position = p; velocity = twos (payload w) }))) i us ≡ got x j vs) where
      abbrev v : ℤ
      v = twos (payload w)

      abbrev r : RestPoint
      r = record { position = p; velocity = twos (payload w) }

      by : Bool → Target
      by c = elim c [ true ↦ Moving (as_moving (Fixed r) n) | false ↦ Fixed r ]

      -- by whether the word is 0
      turned-to : (z : Bool) → eqb (payload w) 0 ≡ z → by (not z) ≡ converted_target n (Fixed r)
      unfolding by
      turned-to z e = sym (ap by (ap not (twos-zero (payload w) (omega arith)) ∙ ap not e))

      ended : (z : Bool) → eqb (payload w) 0 ≡ z → (l : ℕ)
          → got (X (by (not z))) l (conv us) ≡ got (converted_axis n x) l (conv vs)
      ended z e l =
          ap (λ (g : Target). got (X g) l (conv us)) (turned-to z e)
          ∙ ap (λ (y : Axis). got y l (conv us)) (X-is (Fixed r))
          ∙ (λ m. got (converted_axis n (value_of q m)) l (conv (rest_of q m)))

      on-target : Reading Target → Reading Axis
      on-target z = elim z [ got g l ws ↦ got (X g) l ws | wrong m ↦ wrong m ]

      fixed-turns : (z : Bool) → eqb (payload w) 0 ≡ z
          → (l : ℕ) × (◌>>=◌ (signed 10) to k (conv (w ∷ us)) ≡ got (converted_axis n x) l (conv vs))
      unfolding by_kind by on-target
      fixed-turns true e = (
        suc k,
        read-on w us (conv us) k t (copied w us still)
            ∙ to_is v (suc k) (conv us)
            ∙ ap (λ (c : Bool). by_kind c v (suc k) (conv us)) (begins-kept 11 us ∙ b)
            ∙ ended true e (suc k),
      )
        where
          still : flying_word w us ≡ false
          still = ap (λ (c : Bool). eqb (kind w) 10 && (not c && not (begins 11 us))) e ∙ and_no (eqb (kind w) 10)
      fixed-turns false e = (
        suc (suc (suc k)),
        read-on w us (word 11 0 ∷ word 12 n ∷ conv us) k t (flown w us flying)
            ∙ to_is v (suc k) (word 11 0 ∷ word 12 n ∷ conv us)
            ∙ ap on-target (moving-words p v (suc k) (conv us))
            ∙ ended false e (suc (suc (suc k))),
      )
        where
          flying : flying_word w us ≡ true
          flying = (λ m. eq-eqb (kind w) 10 t m && (not (e m) && not (b m)))

    by_next : (w : ℕ) (us : List ℕ) (i k : ℕ) (x : Axis) (j : ℕ) (vs : List ℕ) → kind w ≡ 10
        → (b : Bool) → begins 11 us ≡ b
        → by_kind b (twos (payload w)) (suc i) us ≡ got x j vs
        → (l : ℕ) × (◌>>=◌ (signed 10) to k (conv (w ∷ us)) ≡ got (converted_axis n x) l (conv vs))
    by_next w us i k x j vs t true e q =
        let m = moving-turns (twos (payload w)) (suc i) (suc k) us x j vs q in
        let still : flying_word w us ≡ false =
        ap (λ (c : Bool). eqb (kind w) 10 && (not (eqb (payload w) 0) && not c)) e
        ∙ and_none (eqb (kind w) 10) (not (eqb (payload w) 0)) in (
          m.0,
          read-on w us (conv us) k t (copied w us still)
              ∙ to_is (twos (payload w)) (suc k) (conv us)
              ∙ ap (λ (c : Bool). by_kind c (twos (payload w)) (suc k) (conv us)) (begins-kept 11 us ∙ e)
              ∙ m.1,
        )
    by_next w us i k x j vs t false e q =
        fixed-turns w us (suc i) k x j vs t e (fixed-read w us (suc i) ∙ q) (eqb (payload w) 0) refl

    velocity-turns : Turns (λ i ws. ◌>>=◌ (signed 10) to i ws) (λ i ws. ◌>>=◌ (signed 10) to i ws) (converted_axis n)
    velocity-turns i k [] x j vs e = absurd (unread e)
    velocity-turns i k (w ∷ us) x j vs e =
        let t : kind w ≡ 10 = kind-read 10 i w us _ _ _ (before (signed 10) to i (w ∷ us) x j vs e).first in
        let after = sym (ap on-to (signed_yes 10 i w us t)) ∙ e in
        by_next w us i k x j vs t (begins 11 us) refl (sym (to_is (twos (payload w)) (suc i) us) ∙ after)
      where
        on-to : Reading ℤ → Reading Axis
        on-to r = elim r [ got v l vs ↦ to v l vs | wrong q ↦ wrong q ]

  -- ---- an axis, the axes, the job

  axis-turns : Turns axis axis (converted_axis n)
  unfolding to
  axis-turns =
      then (position 3) (position 3) id _ _ (converted_axis n) (position-turns 3 (λ e. omega arith))
      (λ p₀. then (signed 4) (signed 4) id _ _ (converted_axis n) (signed-turns 4 (λ e. omega arith))
      (λ v₀. then (field 5) (field 5) id _ _ (converted_axis n) (field-turns 5 (λ e. omega arith))
      (λ l. then (field 6) (field 6) id _ _ (converted_axis n) (field-turns 6 (λ e. omega arith))
      (λ m. then (field 7) (field 7) id _ _ (converted_axis n) (field-turns 7 (λ e. omega arith))
      (λ h. then (field 8) (field 8) id _ _ (converted_axis n) (field-turns 8 (λ e. omega arith))
      (λ b. then second_sway second_sway id _ _ (converted_axis n) sway-turns
      (λ s. then (position 9) (position 9) id _ _ (converted_axis n) (position-turns 9 (λ e. omega arith))
      (λ p. velocity-turns
      (λ g. record {
        start = record { position = p₀; velocity = v₀ };
        speed_limit = l;
        acceleration_limit = m;
        half_period = h;
        second_weight = Given b;
        second_sway = s;
        target = g;
      }) (λ g. refl) p))))))))

  axes-turns : (ns : List ℕ) → Turns (axes ns) (axes ns) (converted_axes n)
  axes-turns [] = last [] (converted_axes n)
  axes-turns (k ∷ ns) =
      then axis axis (converted_axis n) _ _ (converted_axes n) axis-turns
      (λ x. then (axes ns) (axes ns) (converted_axes n) _ _ (converted_axes n) (axes-turns ns)
      (λ xs. last (record { number = k; axis = x } ∷ xs) (converted_axes n)))

  ending-turns : (j o : Job) (h : Job → Job) → h j ≡ o → Turns (ending j) (ending o) h
  ending-turns j o h q i k [] b l vs e = absurd (unread e)
  ending-turns j o h q i k (w ∷ []) b l vs e = go (eqb (kind w) 15) (eqb (payload w) 0) refl refl e
    where
      go : (a d : Bool) → eqb (kind w) 15 ≡ a → eqb (payload w) 0 ≡ d
          → (elim (a && d) as (λ _. Reading Job) [ true ↦ got j (suc i) [] | false ↦ wrong i ]) ≡ got b l vs
          → (m : ℕ) × (ending o k (conv (w ∷ [])) ≡ got (h b) m (conv vs))
      go true true s t e = (
        suc k,
        ap (ending o k) (copied w [] (other-kind w [] (λ z. let f = eqb-true (kind w) 15 s in omega arith)))
            ∙ (λ m. elim (s m && t m) as (λ _. Reading Job) [ true ↦ got o (suc k) [] | false ↦ wrong k ])
            ∙ ap (λ (z : Job). got z (suc k) []) (sym q)
            ∙ (λ m. got (h (value_of e m)) (suc k) (conv (rest_of e m))),
      )
      go true false s t e = absurd (unread e)
      go false d s t e = absurd (unread e)
  ending-turns j o h q i k (w ∷ u ∷ ws) b l vs e = absurd (go (eqb (kind w) 15 && eqb (payload w) 0) e)
    where
      go : (a : Bool) → (elim a as (λ _. Reading Job) [ true ↦ wrong (suc i) | false ↦ wrong i ]) ≡ got b l vs → ⊥
      go true e = unread e
      go false e = unread e

  abbrev turned : Job → Job
  turned j = record { mask = j.mask; asked = j.asked; axes = converted_axes n j.axes; windows = j.windows }

  job-turns : (m : ℕ) → Turns (after_mask m) (after_mask m) turned
  job-turns m =
      then (field 2) (field 2) id _ _ turned (field-turns 2 (λ e. omega arith))
      (λ a. then (axes (set_bits m)) (axes (set_bits m)) (converted_axes n) _ _ turned (axes-turns (set_bits m))
      (λ xs. ending-turns (read_job m a xs) (read_job m a (converted_axes n xs)) turned refl))

  -- ---- refusal 14 lets the converted words pass too

  -- a word before others
  abbrev Before : ℕ → List ℕ → Type 0
  Before w [] = Unit
  Before w (u ∷ us) = bad w u ≡ false

  clean-cons : (w : ℕ) (vs : List ℕ) → Before w vs → Clean vs → Clean (w ∷ vs)
  clean-cons w [] b c = tt
  clean-cons w (u ∷ vs) b c = (b, c)

  clean-head : (w : ℕ) (vs : List ℕ) → Clean (w ∷ vs) → Before w vs
  clean-head w [] c = tt
  clean-head w (u ∷ vs) c = c.0

  before-conv : (w : ℕ) (ws : List ℕ) → Before w ws → Before w (conv ws)
  before-conv w [] b = tt
  before-conv w (u ∷ ws) b = go (flying_word u ws)
    where
      go : (t : Bool)
          → Before w (elim t as (λ _. List ℕ) [ true ↦ u ∷ word 11 0 ∷ word 12 n ∷ conv ws | false ↦ u ∷ conv ws ])
      go true = b
      go false = b

  not-14 : (w : ℕ) (vs : List ℕ) → (kind w ≡ 14 → ⊥) → Before w vs
  not-14 w [] h = tt
  not-14 w (u ∷ vs) h = ap (λ (b : Bool). b && not (long_allowed (payload w) (payload u))) (ne_eqb (kind w) 14 h)

  flying-kind : (w : ℕ) (ws : List ℕ) → flying_word w ws ≡ true → kind w ≡ 10
  flying-kind w ws e = go (eqb (kind w) 10) (not (eqb (payload w) 0) && not (begins 11 ws)) (eqb-true (kind w) 10) e
    where
      go : (a b : Bool) → (a ≡ true → kind w ≡ 10) → a && b ≡ true → kind w ≡ 10
      go true b f e = f refl
      go false b f e = absurd (false≢true e)

  clean-conv : (ws : List ℕ) → Clean ws → Clean (conv ws)
  clean-conv [] c = tt
  clean-conv (w ∷ ws) c = go (flying_word w ws) refl (clean-conv ws (clean-tail w ws c))
    where
      go : (b : Bool) → flying_word w ws ≡ b → Clean (conv ws) → Clean (conv (w ∷ ws))
      go true t h =
          subst Clean (sym (flown w ws t))
          (clean-cons w (word 11 0 ∷ word 12 n ∷ conv ws)
          (not-14 w (word 11 0 ∷ word 12 n ∷ conv ws) (λ e. let k = flying-kind w ws t in omega arith))
          (clean-cons (word 11 0) (word 12 n ∷ conv ws) refl
          (clean-cons (word 12 n) (conv ws) (not-14 (word 12 n) (conv ws) (λ e. omega (arith, soon))) h)))
      go false t h = subst Clean (sym (copied w ws t)) (clean-cons w (conv ws) (before-conv w ws (clean-head w ws c)) h)

  none_named : (i : ℕ) (ws : List ℕ) → Clean ws → first_bad_long i ws ≡ None
  none_named i [] c = refl
  none_named i (w ∷ []) c = refl
  none_named i (w ∷ u ∷ ws) c =
      ap (λ (b : Bool). elim b as (λ _. Option ℕ) [ true ↦ Some i | false ↦ first_bad_long (suc i) (u ∷ ws) ]) c.0
      ∙ none_named (suc i) (u ∷ ws) c.1

  decoded : (ws : List ℕ) (j : Job) → decode ws ≡ job j → decode (conv ws) ≡ job (turned j)
  decoded [] j e = absurd (let z : ◌≡◌ {A = ℕ} 0 1 = cc in omega arith)
  decoded (w ∷ ws) j e = go (eqb (kind w) 1) (good_mask (payload w)) refl refl e
    where
      by-long : (o : Option ℕ) (i : Job) → spelled o i ≡ job j → (o ≡ None) × (i ≡ j)
      by-long (Some p) i e = absurd (let z : ◌≡◌ {A = ℕ} 0 1 = cc in omega arith)
      by-long None i e = (refl, cc)

      by-reading : kind w ≡ 1 → good_mask (payload w) ≡ true → (r : Reading Job)
          → after_mask (payload w) 1 ws ≡ r → decided (w ∷ ws) r ≡ job j
          → decode (conv (w ∷ ws)) ≡ job (turned j)
      by-reading t m (got o i vs) q e =
          let s = by-long (first_bad_long 0 (w ∷ ws)) o e in
          let same : conv (w ∷ ws) ≡ w ∷ conv ws = copied w ws (other-kind w ws (λ z. omega arith)) in
          let read = job-turns (payload w) 1 1 ws o i vs q in
          let passes : first_bad_long 0 (w ∷ conv ws) ≡ None =
          none_named 0 (w ∷ conv ws) (subst Clean same (clean-conv (w ∷ ws) (clean 0 (w ∷ ws) s.0))) in
          ap decode same
          ∙ (λ l. elim (eq-eqb (kind w) 1 t l && m l) as
          (λ _. Decoded) [ true ↦ decided (w ∷ conv ws) (read.1 l) | false ↦ no_mask ])
          ∙ ap (λ (f : Option ℕ). spelled f (turned o)) passes
          ∙ ap (λ (z : Job). job (turned z)) s.1
      by-reading t m (wrong p) q e = absurd (let z : ◌≡◌ {A = ℕ} 0 1 = cc in omega arith)

      go : (a b : Bool) → eqb (kind w) 1 ≡ a → good_mask (payload w) ≡ b
          → (elim (a && b) as (λ _. Decoded) [
            | true ↦ decided (w ∷ ws)
                (after_mask (payload w) 1 ws)
            | false ↦ no_mask
          ])
          ≡ job j
          → decode (conv (w ∷ ws)) ≡ job (turned j)
      go true true t m e = by-reading (eqb-true (kind w) 1 t) m (after_mask (payload w) 1 ws) refl e
      go true false t m e = absurd (let z : ◌≡◌ {A = ℕ} 0 1 = cc in omega arith)
      go false b t m e = absurd (let z : ◌≡◌ {A = ℕ} 0 1 = cc in omega arith)

pub converted-words : (ws : List ℕ) (j : Job) → j.asked ≤ 4096 → decode ws ≡ job j
    → decode (converted j.asked ws) ≡ job (converted_job j)
converted-words ws j h e = decoded j.asked h ws j e
