-- Each position of the range has one spelling: `position-spelling`.
use Prim.Native.Nat.{ℕ, zero, suc, ◌+◌, ◌-◌, ◌*◌, ◌/◌, ◌%◌, ◌^◌, ◌<◌, ◌≤◌}
use native.Mathlib.Omega.{arith}
use mathlib.Core.Path.{◌≡◌, refl, sym, ap, subst, ◌∙◌}
use mathlib.Core.Bool.{Bool, true, false, not, ◌&&◌, true≢false}
use mathlib.Core.Logic.{◌⊎◌, inl, inr}
use Rattle.std.specs.Prelude.{Option, None, Some}
use mathlib.Core.List.{List, [], ◌∷◌, ◌++◌, append-nil}
use lib.Dec.{T, eqb, leb, ltb, ltb→lt, nltb→le}
use lib.ListN.{length}
use lib.IntN.{ℤ, pos, negsuc, neg_ℤ, ◌+ℤ◌, ◌*ℤ◌}
use borrow.Author.Tests.{le-leb, leb-true, eqb-true, lt-ltb, le-ltb, eq-eqb, ne_eqb}
use Rattle.whole.proofs.Differences.{whole}
use Rattle.model.specs.planning.Words.{kind, payload, twos, long_position, between, fits_word, long_allowed}
use Rattle.model.specs.planning.Words.{first_bad_long}
use Rattle.model.specs.planning.Words.{Reading, got, wrong, ◌>>=◌, give, field, signed, position_by, position}
use Rattle.model.specs.planning.Words.{word}
use Rattle.model.specs.planning.Refusals.{position_allowed}
use Rattle.theorems.specs.Spelling.{bits, high_part, low_part, position_words, SpellsPosition, PositionSpelling}
use Rattle.theorems.proofs.words.LongWrong.{bad}
use Rattle.theorems.proofs.words.Readers.{before}

-- ---- numbers

pub word-is : (w k : ℕ) → kind w ≡ k → w ≡ word k (payload w)
word-is w k e = omega arith

neg_bits : (m n : ℕ) → m + n ≡ 2 ^ 28 → 2 ^ 27 ≤ n → n < 2 ^ 28
    → (bits (neg_ℤ (pos m)) ≡ n) × (fits_word (neg_ℤ (pos m)) ≡ true)
neg_bits zero n e h k = absurd (omega arith)
neg_bits (suc m) n e h k = (omega arith, ap (λ (b : Bool). b && true) (le-leb m 134217727 (omega arith)))

-- a payload of 28 bits, and the number that it is in two's complement
twos-bits : (n : ℕ) → n < 2 ^ 28 → (bits (twos n) ≡ n) × (fits_word (twos n) ≡ true)
twos-bits n h = go (ltb n (2 ^ 27)) (ltb→lt n (2 ^ 27)) (nltb→le n (2 ^ 27))
  where
    go : (b : Bool) → (T b → n < 2 ^ 27) → (T (not b) → 2 ^ 27 ≤ n)
        → (bits (elim b as (λ _. ℤ) [ true ↦ pos n | false ↦ neg_ℤ (pos (2 ^ 28 - n)) ]) ≡ n)
        × (fits_word (elim b as (λ _. ℤ) [ true ↦ pos n | false ↦ neg_ℤ (pos (2 ^ 28 - n)) ]) ≡ true)
    go true f g = let k = f tt in (refl, le-leb n 134217727 (omega arith))
    go false f g = let k = g tt in neg_bits (2 ^ 28 - n) n (omega arith) k h

below : (a l : ℕ) → l < 2 ^ 28 → pos (2 ^ 28) *ℤ negsuc a +ℤ pos l ≡ negsuc (2 ^ 28 * a + (2 ^ 28 - suc l))
below a l h = simp whole (omega arith)

and-true : (b : Bool) → b && true ≡ b
and-true true = refl
and-true false = refl

-- a long position is taken apart again
parts : (z : ℤ) (l : ℕ) → l < 2 ^ 28 → (high_part (pos (2 ^ 28) *ℤ z +ℤ pos l) ≡ z)
    × (low_part (pos (2 ^ 28) *ℤ z +ℤ pos l) ≡ l)
parts (pos a) l h = let q : (2 ^ 28 * a + l) / 2 ^ 28 ≡ a = omega arith in (ap pos q, omega arith)
parts (negsuc a) l h =
    let n : ℕ = 2 ^ 28 * a + (2 ^ 28 - suc l) in
    let q : n / 2 ^ 28 ≡ a = omega arith in
    let r : 2 ^ 28 - suc (n % 2 ^ 28) ≡ l = omega arith in
    subst (λ (p : ℤ). (high_part p ≡ negsuc a) × (low_part p ≡ l)) (sym (below a l h)) (ap negsuc q, r)

-- a position that fits a single word is one of the range
fits-inside : (p : ℤ) → fits_word p ≡ true → position_allowed p ≡ true
fits-inside (pos n) e = let h = leb-true n 134217727 e in le-leb n 17179869183 (omega arith)
fits-inside (negsuc n) e =
    let h = leb-true n 134217727 (sym (and-true (leb n 134217727)) ∙ e) in
    ap (λ (b : Bool). b && true) (le-leb n 17179869183 (omega arith))

-- so is a long position
long-inside : (z : ℤ) (l : ℕ) → l < 2 ^ 28 → between (negsuc 63) (pos 63) z ≡ true
    → position_allowed (pos (2 ^ 28) *ℤ z +ℤ pos l) ≡ true
long-inside (pos a) l h e = let k = leb-true a 63 e in le-leb (2 ^ 28 * a + l) 17179869183 (omega arith)
long-inside (negsuc a) l h e =
    let k = leb-true a 63 (sym (and-true (leb a 63)) ∙ e) in
    ap position_allowed (below a l h)
    ∙ ap (λ (b : Bool). b && true) (le-leb (2 ^ 28 * a + (2 ^ 28 - suc l)) 17179869183 (omega arith))

-- ---- words that refusal 14 lets pass

abbrev pub Clean : List ℕ → Type 0
Clean [] = Unit
Clean (w ∷ []) = Unit
Clean (w ∷ u ∷ ws) = (bad w u ≡ false) × Clean (u ∷ ws)

pub clean : (i : ℕ) (ws : List ℕ) → first_bad_long i ws ≡ None → Clean ws
clean i [] e = tt
clean i (w ∷ []) e = tt
clean i (w ∷ u ∷ ws) e = go (bad w u) refl e (clean (suc i) (u ∷ ws))
  where
    go : (b : Bool) → bad w u ≡ b
        → ◌≡◌ {A = Option ℕ} (elim b as (λ _. Option ℕ) [ true ↦ Some i | false ↦ first_bad_long (suc i) (u ∷ ws) ])
        None
        → (first_bad_long (suc i) (u ∷ ws) ≡ None → Clean (u ∷ ws)) → Clean (w ∷ u ∷ ws)
    go true t e h = absurd (let z : ◌≡◌ {A = ℕ} 0 1 = cc in omega arith)
    go false t e h = (t, h e)

-- and no other words do
pub clean-none : (i : ℕ) (ws : List ℕ) → Clean ws → first_bad_long i ws ≡ None
clean-none i [] c = refl
clean-none i (w ∷ []) c = refl
clean-none i (w ∷ u ∷ ws) c =
    ap (λ (b : Bool). elim b as (λ _. Option ℕ) [ true ↦ Some i | false ↦ first_bad_long (suc i) (u ∷ ws) ]) c.0
    ∙ clean-none (suc i) (u ∷ ws) c.1

-- a word of another kind than 14 in front
pub clean-cons : (w : ℕ) (ws : List ℕ) → (kind w ≡ 14 → ⊥) → Clean ws → Clean (w ∷ ws)
clean-cons w [] n c = tt
clean-cons w (u ∷ ws) n c =
    (ap (λ (b : Bool). b && not (long_allowed (payload w) (payload u))) (ne_eqb (kind w) 14 n), c)

pub clean-tail : (w : ℕ) (ws : List ℕ) → Clean (w ∷ ws) → Clean ws
clean-tail w [] c = tt
clean-tail w (u ∷ ws) c = c.1

-- ---- what was read, and its words

pub value_of : {A : Type 0} {a b : A} {i j : ℕ} {us ws : List ℕ} → got a i us ≡ got b j ws → a ≡ b
value_of e = cc

pub rest_of : {A : Type 0} {a b : A} {i j : ℕ} {us ws : List ℕ} → got a i us ≡ got b j ws → us ≡ ws
rest_of e = cc

head_of : {w u : ℕ} {ws us : List ℕ} → w ∷ ws ≡ u ∷ us → w ≡ u
head_of e = cc

pub unread : {A : Type 0} {a : A} {i j : ℕ} {ws : List ℕ} → wrong i ≡ got a j ws → ⊥
unread e = let z : ◌≡◌ {A = ℕ} 0 1 = cc in omega arith

-- a field, with the size of its payload
pub field_is : (k i : ℕ) (ws : List ℕ) (n j : ℕ) (vs : List ℕ) → field k i ws ≡ got n j vs
    → (ws ≡ word k n ∷ vs) × (n < 2 ^ 28)
field_is k i [] n j vs e = absurd (unread e)
field_is k i (w ∷ ws) n j vs e = go (eqb (kind w) k) refl e
  where
    go : (b : Bool) → eqb (kind w) k ≡ b
        → (elim b as (λ _. Reading ℕ) [ true ↦ got (payload w) (suc i) ws | false ↦ wrong i ]) ≡ got n j vs
        → (w ∷ ws ≡ word k n ∷ vs) × (n < 2 ^ 28)
    go true t e =
        let p : payload w ≡ n = value_of e in
        let r : ws ≡ vs = rest_of e in
        let v : w ≡ word k n = word-is w k (eqb-true (kind w) k t) ∙ ap (word k) p in
        ((λ l. v l ∷ r l), omega (arith, p))
    go false t e = absurd (unread e)

-- a signed field, whose number fits a word
pub signed_is : (k i : ℕ) (ws : List ℕ) (z : ℤ) (j : ℕ) (vs : List ℕ) → signed k i ws ≡ got z j vs
    → (ws ≡ word k (bits z) ∷ vs) × (fits_word z ≡ true)
signed_is k i ws z j vs e =
    let b = before (field k) (λ n. give (twos n)) i ws z j vs e in
    let f = field_is k i ws b.value b.index b.rest b.first in
    let v : twos b.value ≡ z = value_of b.then in
    let t = twos-bits b.value f.1 in (
      f.0 ∙ (λ l. word k ((sym t.0 ∙ ap bits v) l) ∷ rest_of b.then l),
      ap fits_word (sym v) ∙ t.1,
    )

-- ---- a position

-- a word of kind 14 that is allowed: its payload, and a position that does not fit a single word
long_kept : (b : Bool) (w u : ℕ) → b && not (long_allowed (payload w) (payload u)) ≡ false → b ≡ true
    → (between (negsuc 63) (pos 63) (twos (payload w)) ≡ true)
    × (fits_word (long_position (payload w) (payload u)) ≡ false)
long_kept true w u e t =
    go (between (negsuc 63) (pos 63) (twos (payload w))) (fits_word (long_position (payload w) (payload u))) e
  where
    go : (a f : Bool) → not (a && not f) ≡ false → (a ≡ true) × (f ≡ false)
    go true true e = absurd (true≢false e)
    go true false e = (refl, refl)
    go false f e = absurd (true≢false e)
long_kept false w u e t = absurd (true≢false (sym t))

by-fit : ℕ → ℤ → Bool → List ℕ
by-fit k p b = elim b [ true ↦ word k (bits p) ∷ [] | false ↦ word 14 (bits (high_part p)) ∷ word k (low_part p) ∷ [] ]

words-by : (k : ℕ) (p : ℤ) (b : Bool) → fits_word p ≡ b → by-fit k p b ≡ position_words k p
unfolding by-fit
words-by k p b e = ap (by-fit k p) (sym e)

-- a position that was read, with its range
pub position-is : (k i : ℕ) (ws : List ℕ) (p : ℤ) (j : ℕ) (vs : List ℕ) → Clean ws → position k i ws ≡ got p j vs
    → (ws ≡ position_words k p ++ vs) × (position_allowed p ≡ true)
unfolding by-fit
position-is k i [] p j vs c e = absurd (unread e)
position-is k i (w ∷ ws) p j vs c e = go (eqb (kind w) 14) refl e
  where
    long : (us : List ℕ) → eqb (kind w) 14 ≡ true → Clean (w ∷ us)
        → ◌>>=◌ (field k) (λ l. give (long_position (payload w) l)) (suc i) us ≡ got p j vs
        → (w ∷ us ≡ position_words k p ++ vs) × (position_allowed p ≡ true)
    long [] t c e = absurd (unread e)
    long (u ∷ us) t c e =
        let b = before (field k) (λ l. give (long_position (payload w) l)) (suc i) (u ∷ us) p j vs e in
        let f = field_is k (suc i) (u ∷ us) b.value b.index b.rest b.first in
        let v : long_position (payload w) b.value ≡ p = value_of b.then in
        let d = parts (twos (payload w)) b.value f.1 in
        let h : payload w ≡ bits (high_part p) =
        sym (twos-bits (payload w) (omega arith)).0 ∙ ap bits (sym d.0 ∙ ap high_part v) in
        let l : b.value ≡ low_part p = sym d.1 ∙ ap low_part v in
        let first : u ≡ word k b.value = head_of f.0 in
        let same : payload u ≡ b.value = omega (arith, first, f.1) in
        let kept = long_kept (eqb (kind w) 14) w u c.0 t in
        let fits : fits_word p ≡ false =
        ap fits_word (sym v) ∙ ap (λ (l : ℕ). fits_word (long_position (payload w) l)) (sym same) ∙ kept.1 in (
          (λ q. (word-is w 14 (eqb-true (kind w) 14 t) ∙ ap (word 14) h) q
              ∷ (f.0 ∙ (λ q. word k (l q) ∷ rest_of b.then q)) q)
              ∙ ap (λ (l : List ℕ). l ++ vs) (words-by k p false fits),
          ap position_allowed (sym v) ∙ long-inside (twos (payload w)) b.value f.1 kept.0,
        )

    on-low : Reading ℕ → Reading ℤ
    on-low r = elim r [ got a l us ↦ ◌>>=◌ (field k) (λ b. give (long_position a b)) l us | wrong q ↦ wrong q ]

    go : (b : Bool) → eqb (kind w) 14 ≡ b → position_by b k i (w ∷ ws) ≡ got p j vs
        → (w ∷ ws ≡ position_words k p ++ vs) × (position_allowed p ≡ true)
    go false t e =
        let s = signed_is k i (w ∷ ws) p j vs e in
        (s.0 ∙ ap (λ (l : List ℕ). l ++ vs) (words-by k p true s.1), fits-inside p s.1)
    go true t e =
        let read : field 14 i (w ∷ ws) ≡ got (payload w) (suc i) ws =
        ap (λ (b : Bool). elim b as (λ _. Reading ℕ) [ true ↦ got (payload w) (suc i) ws | false ↦ wrong i ]) t in
        long ws t c (sym (ap on-low read) ∙ e)

-- ---- the words of a position are read as it

pub kind-of : (k n : ℕ) → n < 2 ^ 28 → kind (word k n) ≡ k
kind-of k n h = omega arith

pub payload-of : (k n : ℕ) → n < 2 ^ 28 → payload (word k n) ≡ n
payload-of k n h = omega arith

-- a number that fits a single word, from its bits
pub bits-twos : (z : ℤ) → fits_word z ≡ true → (twos (bits z) ≡ z) × (bits z < 2 ^ 28)
bits-twos (pos n) e =
    let h = leb-true n 134217727 e in (
      ap (λ (b : Bool). elim b as (λ _. ℤ) [ true ↦ pos n | false ↦ neg_ℤ (pos (2 ^ 28 - n)) ])
          (lt-ltb n (2 ^ 27) (omega arith)),
      omega arith,
    )
bits-twos (negsuc n) e =
    let h = leb-true n 134217727 (sym (and-true (leb n 134217727)) ∙ e) in
    let m : ℕ = 2 ^ 28 - suc n in
    let q : 2 ^ 28 - m ≡ suc n = omega arith in (
      ap (λ (b : Bool). elim b as (λ _. ℤ) [ true ↦ pos m | false ↦ neg_ℤ (pos (2 ^ 28 - m)) ])
          (le-ltb m (2 ^ 27) (omega arith))
          ∙ ap (λ (l : ℕ). neg_ℤ (pos l)) q,
      omega arith,
    )

low_small : (p : ℤ) → low_part p < 2 ^ 28
low_small (pos n) = omega arith
low_small (negsuc n) = omega arith

-- a number put together from its parts
joined : (p : ℤ) → pos (2 ^ 28) *ℤ high_part p +ℤ pos (low_part p) ≡ p
joined (pos n) = let q : 2 ^ 28 * (n / 2 ^ 28) + n % 2 ^ 28 ≡ n = omega arith in ap pos q
joined (negsuc n) =
    let q : 2 ^ 28 * (n / 2 ^ 28) + (2 ^ 28 - suc (2 ^ 28 - suc (n % 2 ^ 28))) ≡ n = omega arith in
    below (n / 2 ^ 28) (2 ^ 28 - suc (n % 2 ^ 28)) (omega arith) ∙ ap negsuc q

-- the high part of a position of the range
high_small : (p : ℤ) → position_allowed p ≡ true
    → (between (negsuc 63) (pos 63) (high_part p) ≡ true) × (fits_word (high_part p) ≡ true)
high_small (pos n) e =
    let h = leb-true n 17179869183 e in
    (le-leb (n / 2 ^ 28) 63 (omega arith), le-leb (n / 2 ^ 28) 134217727 (omega arith))
high_small (negsuc n) e =
    let h = leb-true n 17179869183 (sym (and-true (leb n 17179869183)) ∙ e) in (
      ap (λ (b : Bool). b && true) (le-leb (n / 2 ^ 28) 63 (omega arith)),
      ap (λ (b : Bool). b && true) (le-leb (n / 2 ^ 28) 134217727 (omega arith)),
    )

pub field-yes : (k i n : ℕ) (vs : List ℕ) → n < 2 ^ 28 → field k i (word k n ∷ vs) ≡ got n (suc i) vs
field-yes k i n vs h =
    (λ q. elim (eq-eqb (kind (word k n)) k (kind-of k n h) q) as (λ _. Reading ℕ) [
      | true ↦ got (payload-of k n h q) (suc i) vs
      | false ↦ wrong i
    ])

on-signed : Reading ℕ → Reading ℤ
on-signed r = elim r [ got a j vs ↦ got (twos a) j vs | wrong p ↦ wrong p ]

on-long : ℕ → Reading ℕ → Reading ℤ
on-long a r = elim r [ got b j vs ↦ got (long_position a b) j vs | wrong p ↦ wrong p ]

on-high : ℕ → Reading ℕ → Reading ℤ
on-high k r = elim r [ got a j vs ↦ ◌>>=◌ (field k) (λ b. give (long_position a b)) j vs | wrong p ↦ wrong p ]

-- words of a position, wherever they stand: they are read as it, refusal 14 lets them pass, and
-- their first word is of kind k or 14
pub record Stands (k : ℕ) (p : ℤ) (us : List ℕ) : Type 0 where
  pub read : (i : ℕ) (vs : List ℕ) → position k i (us ++ vs) ≡ got p (i + length us) vs
  pub pass : (vs : List ℕ) → Clean vs → Clean (us ++ vs)
  pub first : (vs : List ℕ) → (w : ℕ) × ((ws : List ℕ) × ((us ++ vs ≡ w ∷ ws) × ((kind w ≡ 14) ⊎ (kind w ≡ k))))

module _ (k : ℕ) (apart : k ≡ 14 → ⊥) (p : ℤ) (inside : position_allowed p ≡ true) where
  one_word : fits_word p ≡ true → Stands k p (word k (bits p) ∷ [])
  unfolding on-signed
  one_word e =
      let b = bits-twos p e in
      let n : ℕ = bits p in
      let is : kind (word k n) ≡ k = kind-of k n b.1 in
      let short : kind (word k n) ≡ 14 → ⊥ = λ z. apart (sym is ∙ z) in
      record {
        read =
            λ i vs.
            let next : suc i ≡ i + 1 = omega arith in
            ap (λ (t : Bool). position_by t k i (word k n ∷ vs)) (ne_eqb (kind (word k n)) 14 short)
            ∙ ap on-signed (field-yes k i n vs b.1)
            ∙ (λ q. got (b.0 q) (next q) vs);
        pass = λ vs c. clean-cons (word k n) vs short c;
        first = λ vs. (word k n, (vs, (refl, inr is)));
      }

  two-words : fits_word p ≡ false → Stands k p (word 14 (bits (high_part p)) ∷ word k (low_part p) ∷ [])
  unfolding on-long on-high
  two-words e =
      let s = high_small p inside in
      let b = bits-twos (high_part p) s.1 in
      let n : ℕ = bits (high_part p) in
      let m : ℕ = low_part p in
      let is : long_position n m ≡ p = ap (λ (z : ℤ). pos (2 ^ 28) *ℤ z +ℤ pos m) b.0 ∙ joined p in
      let fits : between (negsuc 63) (pos 63) (twos n) ≡ true = ap (between (negsuc 63) (pos 63)) b.0 ∙ s.0 in
      let passes : long_allowed n m ≡ true = (λ q. fits q && not ((ap fits_word is ∙ e) q)) in
      let good : bad (word 14 n) (word k m) ≡ false =
      (λ q. eqb (kind (word 14 n)) 14 && not (long_allowed (payload-of 14 n b.1 q) (payload-of k m (low_small p) q)))
      ∙ (λ q. eq-eqb (kind (word 14 n)) 14 (kind-of 14 n b.1) q && not (passes q)) in
      record {
        read =
            λ i vs.
            let next : suc (suc i) ≡ i + 2 = omega arith in
            ap (λ (t : Bool). position_by t k i (word 14 n ∷ word k m ∷ vs))
            (eq-eqb (kind (word 14 n)) 14 (kind-of 14 n b.1))
            ∙ ap (on-high k) (field-yes 14 i n (word k m ∷ vs) b.1)
            ∙ ap (on-long n) (field-yes k (suc i) m vs (low_small p))
            ∙ (λ q. got (is q) (next q) vs);
        pass = λ vs c. (good, clean-cons (word k m) vs (λ z. apart (sym (kind-of k m (low_small p)) ∙ z)) c);
        first = λ vs. (word 14 n, (word k m ∷ vs, (refl, inl (kind-of 14 n b.1))));
      }

  pub stands : Stands k p (position_words k p)
  unfolding by-fit
  stands = go (fits_word p) refl
    where
      go : (b : Bool) → fits_word p ≡ b → Stands k p (by-fit k p b)
      go true e = one_word e
      go false e = two-words e

  spelled-so : SpellsPosition k p (position_words k p)
  spelled-so =
      let us : List ℕ = position_words k p in
      let nil = append-nil us in
      record {
        read = ap (position k 0) (sym nil) ∙ stands.read 0 []
            ∙ ap (λ (n : ℕ). got p n []) (let z : 0 + length us ≡ length us = omega arith in z);
        allowed = clean-none 0 us (subst Clean nil (stands.pass [] tt));
      }

pub position-spelling : PositionSpelling
position-spelling k either p =
    record {
      spelled = λ h. spelled-so k (apart either) p h;
      only = λ ws s. (read_is ws s).0 ∙ append-nil (position_words k p);
      inside = λ ws s. (read_is ws s).1;
    }
  where
    apart : (k ≡ 3) ⊎ (k ≡ 9) → k ≡ 14 → ⊥
    apart (inl e) z = omega arith
    apart (inr e) z = omega arith

    read_is : (ws : List ℕ) → SpellsPosition k p ws → (ws ≡ position_words k p ++ []) × (position_allowed p ≡ true)
    read_is ws s = position-is k 0 ws p (length ws) [] (clean 0 ws s.allowed) s.read
