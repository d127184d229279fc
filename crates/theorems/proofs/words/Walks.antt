-- Walks over words, which find only whether they are of a form of `Grammar.antt` or which word
-- is the first wrong one: what a walk finds is so (`after-mask-judges`), and there is one first
-- wrong word only (`one-first`).
use Prim.Native.Nat.{ℕ, zero, suc, ◌+◌, ◌≤◌, ◌<◌}
use native.Mathlib.Omega.{arith}
use mathlib.Core.Path.{◌≡◌, refl, sym, ap, subst, ◌∙◌}
use mathlib.Core.Bool.{Bool, true, false, ◌&&◌, true≢false}
use Rattle.std.specs.Prelude.{Option, None, Some}
use mathlib.Core.List.{List, [], ◌∷◌, ◌++◌}
use mathlib.Core.Logic.{◌⊎◌, inl, inr}
use lib.Dec.{eqb}
use lib.ListN.{length, take, drop, take-append-drop}
use borrow.Author.Tests.{eq-eqb, eqb-true}
use Rattle.model.specs.planning.Job.{set_bits}
use Rattle.model.specs.planning.Words.{kind, payload, word}
use Rattle.theorems.specs.Grammar.{Form, OfKind, Either, PositionForm, SwayForm, MovingForm, AxisForm}
use Rattle.theorems.specs.Grammar.{AxesForm, EndForm, AfterMask, Begins, FirstWrong}

-- ---- walks over words: only whether they are of a form, or the index of the first wrong one

abbrev pub Walk : Type 0
Walk = ℕ → List ℕ → Option ℕ

abbrev pub done : Walk
done i ws = None

-- a word of kind k, and then c
unfoldable pub of_kind : ℕ → Walk → Walk
of_kind k c i [] = Some i
of_kind k c i (w ∷ ws) = elim (eqb (kind w) k) [ true ↦ c (suc i) ws | false ↦ Some i ]

-- a where a word of kind k comes next, else b
unfoldable pub either : ℕ → Walk → Walk → Walk
either k a b i [] = b i []
either k a b i (w ∷ ws) = elim (eqb (kind w) k) [ true ↦ a i (w ∷ ws) | false ↦ b i (w ∷ ws) ]

unfoldable pub ends : Walk
ends i [] = Some i
ends i (w ∷ []) = elim (eqb (kind w) 15 && eqb (payload w) 0) [ true ↦ None | false ↦ Some i ]
ends i (w ∷ u ∷ ws) = elim (eqb (kind w) 15 && eqb (payload w) 0) [ true ↦ Some (suc i) | false ↦ Some i ]

-- ---- what a walk finds is so

abbrev pub Judged : Form → ℕ → List ℕ → Option ℕ → Type 0
Judged f i ws None = f ws
Judged f i ws (Some p) = (k : ℕ) × ((p ≡ i + k) × FirstWrong f ws k)

pub record Judges (c : Walk) (f : Form) : Type 0 where
  pub judged : (i : ℕ) (ws : List ℕ) → Judged f i ws (c i ws)
  -- there are words of the form
  pub some-are : Begins f []

kind-of : (k : ℕ) → kind (word k 0) ≡ k
kind-of k = omega arith

module _ (k : ℕ) (c : Walk) (f : Form) (j : Judges c f) where
  of-kind-are : Begins (OfKind k f) []
  of-kind-are = (word k 0 ∷ j.some-are.0, (kind-of k, j.some-are.1))

  later : (i w : ℕ) (ws : List ℕ) → kind w ≡ k → (o : Option ℕ) → Judged f (suc i) ws o
      → Judged (OfKind k f) i (w ∷ ws) o
  later i w ws e None h = (e, h)
  later i w ws e (Some p) (q, (is, h)) =
      (suc q, (omega (arith, is), record { before = (h.before.0, (e, h.before.1)); here = by h.here }))
    where
      by : ((q < length ws) × (Begins f (take (suc q) ws) → ⊥)) ⊎ ((q ≡ length ws) × (f ws → ⊥))
          → ((suc q < suc (length ws)) × (Begins (OfKind k f) (w ∷ take (suc q) ws) → ⊥))
          ⊎ ((suc q ≡ suc (length ws)) × (OfKind k f (w ∷ ws) → ⊥))
      by (inl (l, n)) = inl (omega (arith, l), λ b. n (b.0, b.1.1))
      by (inr (l, n)) = inr (ap suc l, λ b. n b.1)

  of-kind : Judges (of_kind k c) (OfKind k f)
  unfolding of_kind
  of-kind = record { judged = go; some-are = of-kind-are }
    where
      at : (i w : ℕ) (ws : List ℕ) (b : Bool) → eqb (kind w) k ≡ b
          → Judged (OfKind k f) i (w ∷ ws) (elim b as (λ _. Option ℕ) [ true ↦ c (suc i) ws | false ↦ Some i ])
      at i w ws true e = later i w ws (eqb-true (kind w) k e) (c (suc i) ws) (j.judged (suc i) ws)
      at i w ws false e = (
        0,
        (
          omega arith,
          record {
            before = of-kind-are;
            here = inl (omega arith, λ b. true≢false (sym (eq-eqb (kind w) k b.1.0) ∙ e));
          },
        ),
      )

      go : (i : ℕ) (ws : List ℕ) → Judged (OfKind k f) i ws (of_kind k c i ws)
      go i [] = (0, (omega arith, record { before = of-kind-are; here = inr (refl, λ b. b) }))
      go i (w ∷ ws) = at i w ws (eqb (kind w) k) refl

-- no list of a form begins with a word of kind k
abbrev Shuns : ℕ → Form → Type 0
Shuns k f = (w : ℕ) (ws : List ℕ) → kind w ≡ k → f (w ∷ ws) → ⊥

other-kind : (k l : ℕ) (f : Form) → (k ≡ l → ⊥) → Shuns k (OfKind l f)
other-kind k l f n w ws e h = n (sym e ∙ h.0)

other-either : (k : ℕ) (f g : Form) → Shuns k f → Shuns k g → Shuns k (Either f g)
other-either k f g a b w ws e (inl h) = a w ws e h
other-either k f g a b w ws e (inr h) = b w ws e h

-- a word of kind k decides between two forms, of which only the first begins with one
module _ (k : ℕ) (a b : Walk) (f g : Form) (ja : Judges a (OfKind k f)) (jb : Judges b g) (apart : Shuns k g) where
  first-form : (i w : ℕ) (ws : List ℕ) → kind w ≡ k → (o : Option ℕ) → Judged (OfKind k f) i (w ∷ ws) o
      → Judged (Either (OfKind k f) g) i (w ∷ ws) o
  first-form i w ws e None h = inl h
  first-form i w ws e (Some p) (q, (is, h)) =
      (q, (is, record { before = (h.before.0, inl h.before.1); here = by h.here }))
    where
      by : ((q < suc (length ws)) × (Begins (OfKind k f) (w ∷ take q ws) → ⊥))
          ⊎ ((q ≡ suc (length ws)) × (OfKind k f (w ∷ ws) → ⊥))
          → ((q < suc (length ws)) × (Begins (Either (OfKind k f) g) (w ∷ take q ws) → ⊥))
          ⊎ ((q ≡ suc (length ws)) × (Either (OfKind k f) g (w ∷ ws) → ⊥))
      by (inl (l, n)) = inl (l, λ t. none_of t.0 t.1)
        where
          none_of : (vs : List ℕ) → Either (OfKind k f) g (w ∷ (take q ws ++ vs)) → ⊥
          none_of vs (inl t) = n (vs, t)
          none_of vs (inr t) = apart w (take q ws ++ vs) e t
      by (inr (l, n)) = inr (l, none_of)
        where
          none_of : Either (OfKind k f) g (w ∷ ws) → ⊥
          none_of (inl t) = n t
          none_of (inr t) = apart w ws e t

  second-form : (i w : ℕ) (ws : List ℕ) → (kind w ≡ k → ⊥) → (o : Option ℕ) → Judged g i (w ∷ ws) o
      → Judged (Either (OfKind k f) g) i (w ∷ ws) o
  second-form i w ws e None h = inr h
  second-form i w ws e (Some p) (q, (is, h)) =
      (q, (is, record { before = (h.before.0, inr h.before.1); here = by h.here }))
    where
      by : ((q < suc (length ws)) × (Begins g (w ∷ take q ws) → ⊥)) ⊎ ((q ≡ suc (length ws)) × (g (w ∷ ws) → ⊥))
          → ((q < suc (length ws)) × (Begins (Either (OfKind k f) g) (w ∷ take q ws) → ⊥))
          ⊎ ((q ≡ suc (length ws)) × (Either (OfKind k f) g (w ∷ ws) → ⊥))
      by (inl (l, n)) = inl (l, λ t. none_of t.0 t.1)
        where
          none_of : (vs : List ℕ) → Either (OfKind k f) g (w ∷ (take q ws ++ vs)) → ⊥
          none_of vs (inl t) = e t.0
          none_of vs (inr t) = n (vs, t)
      by (inr (l, n)) = inr (l, none_of)
        where
          none_of : Either (OfKind k f) g (w ∷ ws) → ⊥
          none_of (inl t) = e t.0
          none_of (inr t) = n t

  no_words : (i : ℕ) (o : Option ℕ) → Judged g i [] o → Judged (Either (OfKind k f) g) i [] o
  no_words i None h = inr h
  no_words i (Some p) (q, (is, h)) =
      (q, (is, record { before = (h.before.0, inr h.before.1); here = by h.here }))
    where
      by : ((q < 0) × (Begins g [] → ⊥)) ⊎ ((q ≡ 0) × (g [] → ⊥))
          → ((q < 0) × (Begins (Either (OfKind k f) g) [] → ⊥)) ⊎ ((q ≡ 0) × (Either (OfKind k f) g [] → ⊥))
      by (inl (l, n)) = absurd (omega (arith, l))
      by (inr (l, n)) = inr (l, none_of)
        where
          none_of : Either (OfKind k f) g [] → ⊥
          none_of (inl t) = t
          none_of (inr t) = n t

  of_either : Judges (either k a b) (Either (OfKind k f) g)
  unfolding either
  of_either = record { judged = go; some-are = (jb.some-are.0, inr jb.some-are.1) }
    where
      at : (i w : ℕ) (ws : List ℕ) (t : Bool) → eqb (kind w) k ≡ t
          → Judged (Either (OfKind k f) g) i (w ∷ ws)
          (elim t as (λ _. Option ℕ) [ true ↦ a i (w ∷ ws) | false ↦ b i (w ∷ ws) ])
      at i w ws true e = first-form i w ws (eqb-true (kind w) k e) (a i (w ∷ ws)) (ja.judged i (w ∷ ws))
      at i w ws false e =
          second-form i w ws (λ s. true≢false (sym (eq-eqb (kind w) k s) ∙ e)) (b i (w ∷ ws)) (jb.judged i (w ∷ ws))

      go : (i : ℕ) (ws : List ℕ) → Judged (Either (OfKind k f) g) i ws (either k a b i ws)
      go i [] = no_words i (b i []) (jb.judged i [])
      go i (w ∷ ws) = at i w ws (eqb (kind w) k) refl

-- the end word
ends-judges : Judges ends EndForm
unfolding ends
ends-judges = record { judged = go; some-are = are }
  where
    are : Begins EndForm []
    are = (word 15 0 ∷ [], (kind-of 15, (refl, refl)))

    is-end : (w : ℕ) (a b : Bool) → eqb (kind w) 15 ≡ a → eqb (payload w) 0 ≡ b → a && b ≡ true
        → (kind w ≡ 15) × (payload w ≡ 0)
    is-end w true true s t e = (eqb-true (kind w) 15 s, eqb-true (payload w) 0 t)
    is-end w true false s t e = absurd (true≢false (sym e))
    is-end w false b s t e = absurd (true≢false (sym e))

    no_end : (w : ℕ) → eqb (kind w) 15 && eqb (payload w) 0 ≡ false → kind w ≡ 15 → payload w ≡ 0 → ⊥
    no_end w e s t =
        true≢false (sym (ap (λ (a : Bool). a && eqb (payload w) 0) (eq-eqb (kind w) 15 s) ∙ eq-eqb (payload w) 0 t) ∙ e)

    one : (i w : ℕ) (t : Bool) → eqb (kind w) 15 && eqb (payload w) 0 ≡ t
        → Judged EndForm i (w ∷ []) (elim t as (λ _. Option ℕ) [ true ↦ None | false ↦ Some i ])
    one i w true e = let h = is-end w (eqb (kind w) 15) (eqb (payload w) 0) refl refl e in (h.0, (h.1, refl))
    one i w false e =
        (0, (omega arith, record { before = are; here = inl (omega arith, λ b. no_end w e b.1.0 b.1.1.0) }))

    more : (i w u : ℕ) (ws : List ℕ) (t : Bool) → eqb (kind w) 15 && eqb (payload w) 0 ≡ t
        → Judged EndForm i (w ∷ u ∷ ws) (elim t as (λ _. Option ℕ) [ true ↦ Some (suc i) | false ↦ Some i ])
    more i w u ws true e =
        let h = is-end w (eqb (kind w) 15) (eqb (payload w) 0) refl refl e in (
          1,
          (
            omega arith,
            record { before = ([], (h.0, (h.1, refl))); here = inl (omega arith, λ b. full b.0 b.1.1.1) },
          ),
        )
      where
        full : (vs : List ℕ) → (u ∷ vs) ≡ [] → ⊥
        full vs e = let z : ◌≡◌ {A = ℕ} 0 1 = cc in omega arith
    more i w u ws false e =
        (0, (omega arith, record { before = are; here = inl (omega arith, λ b. no_end w e b.1.0 b.1.1.0) }))

    go : (i : ℕ) (ws : List ℕ) → Judged EndForm i ws (ends i ws)
    go i [] = (0, (omega arith, record { before = are; here = inr (refl, λ b. b) }))
    go i (w ∷ []) = one i w (eqb (kind w) 15 && eqb (payload w) 0) refl
    go i (w ∷ u ∷ ws) = more i w u ws (eqb (kind w) 15 && eqb (payload w) 0) refl

-- ---- the words of a job

abbrev pub position_walk : ℕ → Walk → Walk
position_walk k c = either 14 (of_kind 14 (of_kind k c)) (of_kind k c)

abbrev pub sway_walk : Walk → Walk
sway_walk c = either 13 (of_kind 13 c) c

abbrev moving_walk : Walk → Walk
moving_walk c = either 11 (of_kind 11 (of_kind 12 c)) c

unfoldable pub axis_walk : Walk → Walk
axis_walk c =
    position_walk 3
    (of_kind 4 (of_kind 5
    (of_kind 6 (of_kind 7 (of_kind 8 (sway_walk (position_walk 9 (of_kind 10 (moving_walk c)))))))))

unfoldable pub axes_walk : List ℕ → Walk → Walk
axes_walk [] c = c
axes_walk (n ∷ ns) c = axis_walk (axes_walk ns c)

unfoldable pub after_mask_walk : ℕ → Walk
after_mask_walk m = of_kind 2 (axes_walk (set_bits m) ends)

position-judges : (k : ℕ) (c : Walk) (f : Form) → (14 ≡ k → ⊥) → Judges c f
    → Judges (position_walk k c) (PositionForm k f)
position-judges k c f n j =
    let one = of-kind k c f j in
    of_either 14 _ _ (OfKind k f) (OfKind k f) (of-kind 14 (of_kind k c) (OfKind k f) one) one (other-kind 14 k f n)

position-shuns : (l k : ℕ) (f : Form) → (l ≡ 14 → ⊥) → (l ≡ k → ⊥) → Shuns l (PositionForm k f)
position-shuns l k f a b =
    other-either l (OfKind 14 (OfKind k f)) (OfKind k f) (other-kind l 14 (OfKind k f) a) (other-kind l k f b)

sway-judges : (c : Walk) (f : Form) → Shuns 13 f → Judges c f → Judges (sway_walk c) (SwayForm f)
sway-judges c f n j = of_either 13 (of_kind 13 c) c f f (of-kind 13 c f j) j n

moving-judges : (c : Walk) (f : Form) → Shuns 11 f → Judges c f → Judges (moving_walk c) (MovingForm f)
moving-judges c f n j = of_either 11 (of_kind 11 (of_kind 12 c)) c (OfKind 12 f) f
    (of-kind 11 (of_kind 12 c) (OfKind 12 f) (of-kind 12 c f j)) j n

axis-judges : (c : Walk) (f : Form) → Shuns 11 f → Judges c f → Judges (axis_walk c) (AxisForm f)
unfolding axis_walk
axis-judges c f n j =
    position-judges 3 _ _ (λ e. omega (arith, e))
    (of-kind 4 _ _ (of-kind 5 _ _ (of-kind 6 _ _ (of-kind 7 _ _ (of-kind 8 _ _
    (sway-judges _ (PositionForm 9 (OfKind 10 (MovingForm f)))
    (position-shuns 13 9 (OfKind 10 (MovingForm f)) (λ e. omega (arith, e)) (λ e. omega (arith, e)))
    (position-judges 9 _ _ (λ e. omega (arith, e)) (of-kind 10 _ _ (moving-judges c f n j)))))))))

axes-shun : (ns : List ℕ) → Shuns 11 (AxesForm ns EndForm)
axes-shun [] w ws e h = let a : kind w ≡ 15 = h.0 in omega arith
axes-shun (n ∷ ns) w ws e h = position-shuns 11 3 _ (λ e. omega (arith, e)) (λ e. omega (arith, e)) w ws e h

axes-judges : (ns : List ℕ) → Judges (axes_walk ns ends) (AxesForm ns EndForm)
unfolding axes_walk
axes-judges [] = ends-judges
axes-judges (n ∷ ns) = axis-judges (axes_walk ns ends) (AxesForm ns EndForm) (axes-shun ns) (axes-judges ns)

pub after-mask-judges : (m : ℕ) → Judges (after_mask_walk m) (AfterMask m)
unfolding after_mask_walk
after-mask-judges m = of-kind 2 (axes_walk (set_bits m) ends) (AxesForm (set_bits m) EndForm) (axes-judges (set_bits m))

-- ---- there is one first wrong word only, and none in words of the form

module _ (f : Form) (ws : List ℕ) where
  -- what begins a list of the form, begins it with fewer words too
  fewer : (p q : ℕ) (us : List ℕ) (g : Form) → p ≤ q → Begins g (take q us) → Begins g (take p us)
  fewer zero q us g h b = (take q us ++ b.0, b.1)
  fewer (suc p) zero us g h b = absurd (omega (arith, h))
  fewer (suc p) (suc q) [] g h b = b
  fewer (suc p) (suc q) (u ∷ us) g h b = fewer p q us (λ vs. g (u ∷ vs)) (omega (arith, h)) b

  all-begin : (p : ℕ) → f ws → Begins f (take p ws)
  all-begin p h = (drop p ws, subst f (sym (take-append-drop p ws)) h)

  pub none-wrong : (p : ℕ) → f ws → FirstWrong f ws p → ⊥
  none-wrong p h w = by w.here
    where
      by : ((p < length ws) × (Begins f (take (suc p) ws) → ⊥)) ⊎ ((p ≡ length ws) × (f ws → ⊥)) → ⊥
      by (inl (l, n)) = n (all-begin (suc p) h)
      by (inr (l, n)) = n h

  not-before : (p q : ℕ) → FirstWrong f ws p → FirstWrong f ws q → p < q → ⊥
  not-before p q a b l = by a.here b.here
    where
      by : ((p < length ws) × (Begins f (take (suc p) ws) → ⊥)) ⊎ ((p ≡ length ws) × (f ws → ⊥))
          → ((q < length ws) × (Begins f (take (suc q) ws) → ⊥)) ⊎ ((q ≡ length ws) × (f ws → ⊥)) → ⊥
      by (inl (i, n)) y = n (fewer (suc p) q ws f (omega (arith, l)) b.before)
      by (inr (i, n)) (inl (k, m)) = omega (arith, i, k, l)
      by (inr (i, n)) (inr (k, m)) = omega (arith, i, k, l)

  pub one-first : (p q : ℕ) → FirstWrong f ws p → FirstWrong f ws q → p ≡ q
  one-first p q a b =
      let h : p < q → ⊥ = not-before p q a b in
      let k : q < p → ⊥ = not-before q p b a in
      omega (arith, h, k)
