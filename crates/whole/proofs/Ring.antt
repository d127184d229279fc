-- A solver for identities of the ring ℤ. The atoms are listed, and `search` writes both
-- sides as expressions over them:
--     square : (a b : ℤ) → (a +ℤ b) *ℤ (a +ℤ b) ≡ a *ℤ a +ℤ pos 2 *ℤ (a *ℤ b) +ℤ b *ℤ b
--     square a b = same (a ∷ b ∷ []) (search pol depth 20 fits 9000) tt
-- Two expressions have one value where their normal forms are the same. A normal form is a list of
-- monomials, each a coefficient and the sorted list of its variables. That the list is sorted is no
-- part of the proof: only what it evaluates to is.
use mathlib.Core.Path.{◌≡◌, refl, sym, ap, ◌∙◌}
use mathlib.Core.Bool.{Bool, true, false, ◌&&◌}
use mathlib.Core.List.{List, [], ◌∷◌}
use Prim.Native.Nat.{ℕ, zero, suc}
use native.Mathlib.Omega.{arith}
use lib.IntN.{ℤ, pos, negsuc, neg_ℤ, ◌+ℤ◌, ◌*ℤ◌, +ℤ_assoc, +ℤ_idl, *ℤ_comm, zero-*ℤ}
use lib.Dec.{T, eqb, eqb→eq, ltb}
use Rattle.whole.proofs.Tests.{both}
use Rattle.whole.proofs.Differences.{whole, all₁, all₃, all₄}
use Rattle.whole.proofs.Laws.{*ℤ-assoc, *ℤ-+ℤ, +ℤ-*ℤ, one-*ℤ}

infixl 6 ◌:+◌
infixl 7 ◌:*◌
pub data Ex : Type 0 where
  var : ℕ → Ex
  con : ℤ → Ex
  ◌:+◌ : Ex → Ex → Ex
  ◌:*◌ : Ex → Ex → Ex
  neg : Ex → Ex

-- a variable's value
abbrev pub at : List ℤ → ℕ → ℤ
at [] n = pos 0
at (x ∷ ρ) zero = x
at (x ∷ ρ) (suc n) = at ρ n

abbrev pub value : List ℤ → Ex → ℤ
value ρ (var n) = at ρ n
value ρ (con z) = z
value ρ (a :+ b) = value ρ a +ℤ value ρ b
value ρ (a :* b) = value ρ a *ℤ value ρ b
value ρ (neg a) = neg_ℤ (value ρ a)

-- ---- the normal form
pub data Poly : Type 0 where
  nil : Poly
  mono : ℤ → List ℕ → Poly → Poly

abbrev same_vars : List ℕ → List ℕ → Bool
same_vars [] [] = true
same_vars [] (y ∷ ys) = false
same_vars (x ∷ xs) [] = false
same_vars (x ∷ xs) (y ∷ ys) = eqb x y && same_vars xs ys

-- an order of monomials; any would do
abbrev earlier : List ℕ → List ℕ → Bool
earlier [] [] = false
earlier [] (y ∷ ys) = true
earlier (x ∷ xs) [] = false
earlier (x ∷ xs) (y ∷ ys) = elim (eqb x y) [ true ↦ earlier xs ys | false ↦ ltb x y ]

-- a variable into a sorted list of variables
abbrev insert : ℕ → List ℕ → List ℕ
insert v [] = v ∷ []
insert v (w ∷ ws) = let r = insert v ws in elim (ltb w v) [ true ↦ w ∷ r | false ↦ v ∷ w ∷ ws ]

abbrev merge : List ℕ → List ℕ → List ℕ
merge [] n = n
merge (v ∷ m) n = insert v (merge m n)

-- a monomial in front, unless its coefficient is 0
abbrev front : ℤ → List ℕ → Poly → Poly
front (pos zero) m p = p
front (pos (suc k)) m p = mono (pos (suc k)) m p
front (negsuc k) m p = mono (negsuc k) m p

-- one monomial into a polynomial
abbrev put : Bool → Bool → ℤ → List ℕ → ℤ → List ℕ → Poly → Poly → Poly
put true l c m d n p r = front (c +ℤ d) n p
put false true c m d n p r = mono c m (mono d n p)
put false false c m d n p r = mono d n r

abbrev plus_mono : ℤ → List ℕ → Poly → Poly
plus_mono c m nil = front c m nil
plus_mono c m (mono d n p) = let r = plus_mono c m p in put (same_vars m n) (earlier m n) c m d n p r

abbrev plus : Poly → Poly → Poly
plus nil q = q
plus (mono c m p) q = plus_mono c m (plus p q)

-- a monomial times a polynomial, onto another
abbrev times_mono : ℤ → List ℕ → Poly → Poly → Poly
times_mono c m nil s = s
times_mono c m (mono d n p) s = plus_mono (c *ℤ d) (merge m n) (times_mono c m p s)

abbrev times : Poly → Poly → Poly
times nil q = nil
times (mono c m p) q = times_mono c m q (times p q)

abbrev pub norm : Ex → Poly
norm (var n) = mono (pos 1) (n ∷ []) nil
norm (con z) = front z [] nil
norm (a :+ b) = plus (norm a) (norm b)
norm (a :* b) = times (norm a) (norm b)
norm (neg a) = times_mono (negsuc 0) [] (norm a) nil

abbrev same_coefficient : ℤ → ℤ → Bool
same_coefficient (pos a) (pos b) = eqb a b
same_coefficient (pos a) (negsuc b) = false
same_coefficient (negsuc a) (pos b) = false
same_coefficient (negsuc a) (negsuc b) = eqb a b

abbrev pub same_poly : Poly → Poly → Bool
same_poly nil nil = true
same_poly nil (mono d n q) = false
same_poly (mono c m p) nil = false
same_poly (mono c m p) (mono d n q) = same_coefficient c d && (same_vars m n && same_poly p q)

-- ---- what it evaluates to
module _ (ρ : List ℤ) where
  abbrev product : List ℕ → ℤ
  product [] = pos 1
  product (v ∷ m) = at ρ v *ℤ product m

  abbrev sum : Poly → ℤ
  sum nil = pos 0
  sum (mono c m p) = c *ℤ product m +ℤ sum p

  left_comm : (x y z : ℤ) → x *ℤ (y *ℤ z) ≡ y *ℤ (x *ℤ z)
  left_comm = all₃ _ (λ a b c d e f. simp whole (omega arith))

  insert-is : (v : ℕ) (m : List ℕ) → product (insert v m) ≡ at ρ v *ℤ product m
  insert-is v [] = refl
  insert-is v (w ∷ m) = go (ltb w v) (insert-is v m)
    where
      go : (b : Bool) → product (insert v m) ≡ at ρ v *ℤ product m
          → product (elim b [ true ↦ w ∷ insert v m | false ↦ v ∷ w ∷ m ]) ≡ at ρ v *ℤ (at ρ w *ℤ product m)
      go true h = ap (λ (z : ℤ). at ρ w *ℤ z) h ∙ left_comm (at ρ w) (at ρ v) (product m)
      go false h = refl

  merge-is : (m n : List ℕ) → product (merge m n) ≡ product m *ℤ product n
  merge-is [] n = sym (one-*ℤ (product n))
  merge-is (v ∷ m) n = insert-is v (merge m n) ∙ ap (λ (z : ℤ). at ρ v *ℤ z) (merge-is m n)
      ∙ sym (*ℤ-assoc (at ρ v) (product m) (product n))

  front-is : (c : ℤ) (m : List ℕ) (p : Poly) → sum (front c m p) ≡ c *ℤ product m +ℤ sum p
  front-is (pos zero) m p = sym (ap (λ (z : ℤ). z +ℤ sum p) (zero-*ℤ (product m)) ∙ +ℤ_idl (sum p))
  front-is (pos (suc k)) m p = refl
  front-is (negsuc k) m p = refl

  same_vars-is : (m n : List ℕ) → T (same_vars m n) → m ≡ n
  same_vars-is [] [] t = refl
  same_vars-is [] (y ∷ ys) t = absurd t
  same_vars-is (x ∷ xs) [] t = absurd t
  same_vars-is (x ∷ xs) (y ∷ ys) t = let p = both (eqb x y) (same_vars xs ys) t in
      λ i. eqb→eq x y p.0 i ∷ same_vars-is xs ys p.1 i

  -- the law of `put`: one monomial into a polynomial, r being the rest with it put in
  join : (c d m p : ℤ) → (c +ℤ d) *ℤ m +ℤ p ≡ c *ℤ m +ℤ (d *ℤ m +ℤ p)
  join = all₄ _ (λ a b c d e f g h. simp whole (omega arith))

  swap : (x y p : ℤ) → y +ℤ (x +ℤ p) ≡ x +ℤ (y +ℤ p)
  swap = all₃ _ (λ a b c d e f. simp whole (omega arith))

  put_is : (b l : Bool) (c : ℤ) (m : List ℕ) (d : ℤ) (n : List ℕ) (p r : Poly) → (T b → m ≡ n)
      → sum r ≡ c *ℤ product m +ℤ sum p
      → sum (put b l c m d n p r) ≡ c *ℤ product m +ℤ (d *ℤ product n +ℤ sum p)
  put_is true l c m d n p r e h =
      front-is (c +ℤ d) n p
      ∙ join c d (product n) (sum p)
      ∙ ap (λ (k : List ℕ). c *ℤ product k +ℤ (d *ℤ product n +ℤ sum p)) (sym (e tt))
  put_is false true c m d n p r e h = refl
  put_is false false c m d n p r e h =
      ap (λ (z : ℤ). d *ℤ product n +ℤ z) h ∙ swap (c *ℤ product m) (d *ℤ product n) (sum p)

  plus_mono-is : (c : ℤ) (m : List ℕ) (p : Poly) → sum (plus_mono c m p) ≡ c *ℤ product m +ℤ sum p
  plus_mono-is c m nil = front-is c m nil
  plus_mono-is c m (mono d n p) =
      put_is (same_vars m n) (earlier m n) c m d n p (plus_mono c m p) (same_vars-is m n) (plus_mono-is c m p)

  plus-is : (p q : Poly) → sum (plus p q) ≡ sum p +ℤ sum q
  plus-is nil q = sym (+ℤ_idl (sum q))
  plus-is (mono c m p) q =
      plus_mono-is c m (plus p q)
      ∙ ap (λ (z : ℤ). c *ℤ product m +ℤ z) (plus-is p q)
      ∙ sym (+ℤ_assoc (c *ℤ product m) (sum p) (sum q))

  across : (c d m n p s : ℤ) → (c *ℤ d) *ℤ (m *ℤ n) +ℤ ((c *ℤ m) *ℤ p +ℤ s) ≡ (c *ℤ m) *ℤ (d *ℤ n +ℤ p) +ℤ s
  across c d m n p s = simp (*ℤ-+ℤ, *ℤ-assoc, left_comm, +ℤ_assoc)

  times_mono-is : (c : ℤ) (m : List ℕ) (p s : Poly) → sum (times_mono c m p s) ≡ (c *ℤ product m) *ℤ sum p +ℤ sum s
  times_mono-is c m nil s =
      sym (ap (λ (z : ℤ). z +ℤ sum s) (*ℤ_comm (c *ℤ product m) (pos 0) ∙ zero-*ℤ (c *ℤ product m)) ∙ +ℤ_idl (sum s))
  times_mono-is c m (mono d n p) s =
      plus_mono-is (c *ℤ d) (merge m n) (times_mono c m p s)
      ∙ ap (λ (z : ℤ). (c *ℤ d) *ℤ z +ℤ sum (times_mono c m p s)) (merge-is m n)
      ∙ ap (λ (z : ℤ). (c *ℤ d) *ℤ (product m *ℤ product n) +ℤ z) (times_mono-is c m p s)
      ∙ across c d (product m) (product n) (sum p) (sum s)

  times-is : (p q : Poly) → sum (times p q) ≡ sum p *ℤ sum q
  times-is nil q = sym (zero-*ℤ (sum q))
  times-is (mono c m p) q =
      times_mono-is c m q (times p q)
      ∙ ap (λ (z : ℤ). (c *ℤ product m) *ℤ sum q +ℤ z) (times-is p q)
      ∙ sym (+ℤ-*ℤ (c *ℤ product m) (sum p) (sum q))

  one-mono : (x : ℤ) → pos 1 *ℤ (x *ℤ pos 1) +ℤ pos 0 ≡ x
  one-mono = all₁ _ (λ a b. simp whole (omega arith))

  lit-mono : (x : ℤ) → x *ℤ pos 1 +ℤ pos 0 ≡ x
  lit-mono = all₁ _ (λ a b. simp whole (omega arith))

  neg-mono : (x : ℤ) → negsuc 0 *ℤ x +ℤ pos 0 ≡ neg_ℤ x
  neg-mono = all₁ _ (λ a b. simp whole (omega arith))

  norm-is : (e : Ex) → sum (norm e) ≡ value ρ e
  norm-is (var n) = one-mono (at ρ n)
  norm-is (con z) = front-is z [] nil ∙ lit-mono z
  norm-is (a :+ b) = plus-is (norm a) (norm b) ∙ (λ i. norm-is a i +ℤ norm-is b i)
  norm-is (a :* b) = times-is (norm a) (norm b) ∙ (λ i. norm-is a i *ℤ norm-is b i)
  norm-is (neg a) = times_mono-is (negsuc 0) [] (norm a) nil ∙ neg-mono (sum (norm a)) ∙ ap neg_ℤ (norm-is a)

  same_coefficient-is : (c d : ℤ) → T (same_coefficient c d) → c ≡ d
  same_coefficient-is (pos a) (pos b) t = ap pos (eqb→eq a b t)
  same_coefficient-is (pos a) (negsuc b) t = absurd t
  same_coefficient-is (negsuc a) (pos b) t = absurd t
  same_coefficient-is (negsuc a) (negsuc b) t = ap negsuc (eqb→eq a b t)

  same_poly-is : (p q : Poly) → T (same_poly p q) → p ≡ q
  same_poly-is nil nil t = refl
  same_poly-is nil (mono d n q) t = absurd t
  same_poly-is (mono c m p) nil t = absurd t
  same_poly-is (mono c m p) (mono d n q) t =
      let h = both (same_coefficient c d) (same_vars m n && same_poly p q) t in
      let k = both (same_vars m n) (same_poly p q) h.1 in
      λ i. mono (same_coefficient-is c d h.0 i) (same_vars-is m n k.0 i) (same_poly-is p q k.1 i)

  pub ring : (l r : Ex) → T (same_poly (norm l) (norm r)) → value ρ l ≡ value ρ r
  ring l r t = sym (norm-is l) ∙ ap sum (same_poly-is (norm l) (norm r) t) ∙ norm-is r

-- ---- an expression with the value z, found by `search`
pub record Pol (ρ : List ℤ) (z : ℤ) : Type 0 where
  pub ex : Ex
  pub is : value ρ ex ≡ z

pub record Var (ρ : List ℤ) (z : ℤ) : Type 0 where
  pub ix : ℕ
  pub is : at ρ ix ≡ z

abbrev pub here : {z : ℤ} {ρ : List ℤ} → Var (z ∷ ρ) z
here = record { ix = 0; is = refl }

abbrev pub there : {y z : ℤ} {ρ : List ℤ} → Var ρ z → Var (y ∷ ρ) z
there v = record { ix = suc v.ix; is = v.is }

abbrev pub p-var : {ρ : List ℤ} {z : ℤ} → Var ρ z → Pol ρ z
p-var v = record { ex = var v.ix; is = v.is }

-- a numeral is a constant; `pos n` with n a variable is not, and is listed as an atom
abbrev pub p-pos : {ρ : List ℤ} {n : ℕ} → T (eqb n n) → Pol ρ (pos n)
p-pos {n = n} t = record { ex = con (pos n); is = refl }

abbrev pub p-negsuc : {ρ : List ℤ} {n : ℕ} → T (eqb n n) → Pol ρ (negsuc n)
p-negsuc {n = n} t = record { ex = con (negsuc n); is = refl }

pub numeral : T true
numeral = tt

abbrev pub p_add : (ρ : List ℤ) (x y : ℤ) → Pol ρ x → Pol ρ y → Pol ρ (x +ℤ y)
p_add ρ x y p q = record { ex = p.ex :+ q.ex; is = λ i. p.is i +ℤ q.is i }

abbrev pub p_mul : (ρ : List ℤ) (x y : ℤ) → Pol ρ x → Pol ρ y → Pol ρ (x *ℤ y)
p_mul ρ x y p q = record { ex = p.ex :* q.ex; is = λ i. p.is i *ℤ q.is i }

abbrev pub p-neg : (ρ : List ℤ) (x : ℤ) → Pol ρ x → Pol ρ (neg_ℤ x)
p-neg ρ x p = record { ex = neg p.ex; is = ap neg_ℤ p.is }

-- both sides of an equation
pub record Two (ρ : List ℤ) (x y : ℤ) : Type 0 where
  pub left : Pol ρ x
  pub right : Pol ρ y

abbrev pub two : (ρ : List ℤ) (x y : ℤ) → Pol ρ x → Pol ρ y → Two ρ x y
two ρ x y p q = record { left = p; right = q }

pub ruleset pol = (two, p-pos, p-negsuc, numeral, p_add, p_mul, p-neg, p-var, here, there)

pub same : (ρ : List ℤ) {x y : ℤ} → (t : Two ρ x y) → T (same_poly (norm t.left.ex) (norm t.right.ex)) → x ≡ y
same ρ t e = sym t.left.is ∙ ring ρ t.left.ex t.right.ex e ∙ t.right.is
