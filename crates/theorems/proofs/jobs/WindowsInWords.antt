-- Windows: the decisions say what the method's words say. An arrival that fits: `in-windows`,
-- `windows-in`; refusal 13: `windows-wrong`, `windows-right`.
use Prim.Native.Nat.{ℕ, zero, suc, ◌+◌, ◌≤◌, ◌<◌}
use mathlib.Core.Path.{◌≡◌, refl, sym, subst}
use mathlib.Core.Bool.{Bool, true, false, ◌&&◌, false≢true}
use mathlib.Core.List.{List, [], ◌∷◌}
use Rattle.std.specs.Prelude.{Option, None, Some, IfSome, IsSomeAnd}
use mathlib.Core.Logic.{◌⊎◌, inl, inr}
use native.Mathlib.Omega.{arith}
use lib.Dec.{T, eqb, leb, ltb, leb→le, ltb→lt}
use Rattle.std.specs.Prelude.{slice_get}
use borrow.Author.Tests.{ltb-true, ltb-false, leb-true, leb-false, eqb-true, eqb-false, le-leb, lt-ltb}
use Rattle.whole.proofs.Tests.{both, and, true-T}
use Rattle.whole.proofs.Elements.{none-some}
use Rattle.model.specs.declared.Window.{Window}
use Rattle.model.specs.declared.Windows.{Windows}
use Rattle.model.specs.planning.Windows.{fits_window, fits_one, in_windows, in_order_after, first_wrong_window}
use Rattle.model.specs.planning.Windows.{windows_refused}
use Rattle.theorems.specs.Windows.{FitsOne, InOrder, FirstWrongWindow, WindowsWrong, WindowsRight, empty, too_many}
use Rattle.model.specs.planning.Windows.{refused13, brought}
use Rattle.theorems.specs.Windows.{long_dwell, wrong_window}

-- ---- one window, the one before it having closed at tick c

abbrev Right : ℕ → Window → Type 0
Right c w = (w.opening < w.closing) × (c ≤ w.opening)

abbrev Wrong : ℕ → Window → Type 0
Wrong c w = (w.closing ≤ w.opening) ⊎ (w.opening < c)

right_is : (c : ℕ) (w : Window) → in_order_after c w ≡ true → Right c w
right_is c w e = go (ltb w.opening w.closing) (leb c w.opening)
    (ltb-true w.opening w.closing) (leb-true c w.opening) e
  where
    go : (a b : Bool) → (a ≡ true → w.opening < w.closing) → (b ≡ true → c ≤ w.opening) → a && b ≡ true → Right c w
    go true b f g e = (f refl, g e)
    go false b f g e = absurd (false≢true e)

wrong-is : (c : ℕ) (w : Window) → in_order_after c w ≡ false → Wrong c w
wrong-is c w e = go (ltb w.opening w.closing) (leb c w.opening)
    (ltb-false w.opening w.closing) (leb-false c w.opening) e
  where
    go : (a b : Bool) → (a ≡ false → w.closing ≤ w.opening)
        → (b ≡ false → w.opening < c) → a && b ≡ false → Wrong c w
    go true b f g e = inr (g e)
    go false b f g e = inl (f refl)

-- ---- an arrival that fits

module _ (n dwell : ℕ) where
  fits-is : (w : Window) → T (fits_window n dwell w) → (w.opening ≤ n) × (n < w.closing) × (n + dwell ≤ w.closing)
  fits-is w t =
      let a = both (leb w.opening n) (ltb n w.closing && leb (n + dwell) w.closing) t in
      let b = both (ltb n w.closing) (leb (n + dwell) w.closing) a.1 in
      (leb→le w.opening n a.0, ltb→lt n w.closing b.0, leb→le (n + dwell) w.closing b.1)

  is-fits : (w : Window) → w.opening ≤ n → n < w.closing → n + dwell ≤ w.closing → T (fits_window n dwell w)
  is-fits w a b c =
      and (leb w.opening n) (ltb n w.closing && leb (n + dwell) w.closing) (true-T (le-leb w.opening n a))
      (and (ltb n w.closing) (leb (n + dwell) w.closing) (true-T (lt-ltb n w.closing b))
      (true-T (le-leb (n + dwell) w.closing c)))

  one-is : (l : List Window) → T (fits_one n dwell l) → FitsOne n dwell l
  one-is [] t = absurd t
  one-is (w ∷ l) t = go (fits_window n dwell w) (fits-is w) t (one-is l)
    where
      go : (b : Bool) → (T b → (w.opening ≤ n) × (n < w.closing) × (n + dwell ≤ w.closing))
          → T (elim b as (λ _. Bool) [ true ↦ true | false ↦ fits_one n dwell l ])
          → (T (fits_one n dwell l) → FitsOne n dwell l) → FitsOne n dwell (w ∷ l)
      go true f t h = let r = f tt in
          record { index = 0; window = w; here = refl; opened = r.0; below = r.1; stays = r.2 }
      go false f t h =
          let r : FitsOne n dwell l = h t in
          record {
            index = suc r.index;
            window = r.window;
            here = r.here;
            opened = r.opened;
            below = r.below;
            stays = r.stays;
          }

  is_one : (l : List Window) (k : ℕ) (v : Window) → slice_get l k ≡ Some v
      → T (fits_window n dwell v) → T (fits_one n dwell l)
  is_one [] k v e t = absurd (none-some e)
  is_one (w ∷ l) zero v e t =
      go (fits_window n dwell w) (let s : v ≡ w = cc in subst (λ (u : Window). T (fits_window n dwell u)) s t)
    where
      go : (b : Bool) → T b → T (elim b as (λ _. Bool) [ true ↦ true | false ↦ fits_one n dwell l ])
      go true t = tt
      go false t = absurd t
  is_one (w ∷ l) (suc k) v e t = go (fits_window n dwell w) (is_one l k v e t)
    where
      go : (b : Bool) → T (fits_one n dwell l) → T (elim b as (λ _. Bool) [ true ↦ true | false ↦ fits_one n dwell l ])
      go true h = tt
      go false h = h

pub in-windows : (w : Option Windows) (n : ℕ) → T (in_windows w n) → IfSome w (λ v. FitsOne n v.dwell (brought v))
in-windows None n t = tt
in-windows (Some w) n t = one-is n w.dwell (brought w) t

pub windows-in : (w : Option Windows) (n : ℕ) → IfSome w (λ v. FitsOne n v.dwell (brought v)) → T (in_windows w n)
windows-in None n f = tt
windows-in (Some w) n r =
    is_one n w.dwell (brought w) r.index r.window r.here (is-fits n w.dwell r.window r.opened r.below r.stays)

-- ---- one window after the other

-- a window in order, and those after it
in_order : (c : ℕ) (w : Window) (l : List Window) → Right c w → (k : ℕ) (v : Window) → slice_get (w ∷ l) k ≡ Some v
    → ((m : ℕ) → suc m ≡ k → slice_get l m ≡ Some v → InOrder w.closing l m v) → InOrder c (w ∷ l) k v
in_order c w l r zero v e h = let s : w ≡ v = cc in
    subst (InOrder c (w ∷ l) 0) s (record { closes = r.0; follows = r.1 })
in_order c w l r (suc k) v e h = let o = h k refl e in record { closes = o.closes; follows = o.follows }

pub none-wrong : (i c : ℕ) (l : List Window) → first_wrong_window i c l ≡ None → (k : ℕ) (v : Window)
    → slice_get l k ≡ Some v → InOrder c l k v
none-wrong i c [] e = λ k v q. absurd (none-some q)
none-wrong i c (w ∷ l) e = go (in_order_after c w) (right_is c w) e (none-wrong (suc i) w.closing l)
  where
    go : (b : Bool) → (b ≡ true → Right c w)
        → ◌≡◌ {A = Option ℕ}
        (elim b as (λ _. Option ℕ) [ true ↦ first_wrong_window (suc i) w.closing l | false ↦ Some i ]) None
        → (first_wrong_window (suc i) w.closing l ≡ None → (k : ℕ) (v : Window)
        → slice_get l k ≡ Some v → InOrder w.closing l k v)
        → (k : ℕ) (v : Window) → slice_get (w ∷ l) k ≡ Some v → InOrder c (w ∷ l) k v
    go true f e h = λ k v q. in_order c w l (f refl) k v q (λ m s p. h e m v p)
    go false f e h = absurd (none-some (sym e))

-- the first wrong window of those from index i on, counted from there
first-wrong : (i c : ℕ) (l : List Window) (p : ℕ) → first_wrong_window i c l ≡ Some p
    → (q : ℕ) × ((p ≡ i + q) × FirstWrongWindow c l q)
first-wrong i c [] p e = absurd (none-some e)
first-wrong i c (w ∷ l) p e =
    go (in_order_after c w) (right_is c w) (wrong-is c w) e (first-wrong (suc i) w.closing l p)
  where
    later : Right c w → (q : ℕ) → FirstWrongWindow w.closing l q → FirstWrongWindow c (w ∷ l) (suc q)
    later r q f =
        record {
          window = f.window;
          here = f.here;
          wrong = f.wrong;
          before = λ k v h e. in_order c w l r k v e (λ m s p. f.before m v (omega arith) p);
        }

    go : (b : Bool) → (b ≡ true → Right c w) → (b ≡ false → Wrong c w)
        → ◌≡◌ {A = Option ℕ}
        (elim b as (λ _. Option ℕ) [ true ↦ first_wrong_window (suc i) w.closing l | false ↦ Some i ]) (Some p)
        → (first_wrong_window (suc i) w.closing l ≡ Some p
        → (q : ℕ) × ((p ≡ suc i + q) × FirstWrongWindow w.closing l q))
        → (q : ℕ) × ((p ≡ i + q) × FirstWrongWindow c (w ∷ l) q)
    go true f g e h = let r = h e in let s : p ≡ suc i + r.0 = r.1.0 in
        (suc r.0, (omega arith, later (f refl) r.0 r.1.1))
    go false f g e h =
        let s : i ≡ p = cc in (
          zero,
          (
            omega arith,
            record { window = w; here = refl; wrong = g refl; before = λ k v q e. absurd (omega arith) },
          ),
        )

-- ---- the refusal

positive : (n : ℕ) → (n ≡ 0 → ⊥) → 1 ≤ n
positive zero h = absurd (h refl)
positive (suc n) h = omega arith

module _ (w : Windows) where
  -- by the tests of the count and the dwell
  by : Bool → Bool → Option ℕ
  by a b = elim a [ true ↦ Some 0 | false ↦ elim b [ true ↦ first_wrong_window 0 0 (brought w) | false ↦ Some 32 ] ]

  wrong : (a b c : Bool) (p : ℕ) → eqb w.count 0 ≡ a → leb w.count 32 ≡ b → leb w.dwell 4096 ≡ c
      → by a (b && c) ≡ Some p → WindowsWrong w p
  unfolding by
  wrong true b c p e f g h = let s : 0 ≡ p = cc in subst (WindowsWrong w) s (empty (eqb-true w.count 0 e))
  wrong false true true p e f g h =
      let r = first-wrong 0 0 (brought w) p h in
      let s : r.0 ≡ p = omega (arith, r.1.0) in
      let n = eqb-false w.count 0 e in
      subst (WindowsWrong w) s
      (wrong_window r.0 (positive w.count n) (leb-true w.count 32 f) (leb-true w.dwell 4096 g) r.1.1)
  wrong false true false p e f g h =
      let s : 32 ≡ p = cc in
      let n = eqb-false w.count 0 e in
      subst (WindowsWrong w) s
      (long_dwell (positive w.count n) (leb-true w.count 32 f) (leb-false w.dwell 4096 g))
  wrong false false c p e f g h = let s : 32 ≡ p = cc in subst (WindowsWrong w) s (too_many (leb-false w.count 32 f))

  right : (a b c : Bool) → eqb w.count 0 ≡ a → leb w.count 32 ≡ b → leb w.dwell 4096 ≡ c
      → by a (b && c) ≡ None → WindowsRight w
  unfolding by
  right true b c e f g h = absurd (none-some (sym h))
  right false true true e f g h =
      let n = eqb-false w.count 0 e in
      record {
        not_empty = positive w.count n;
        few = leb-true w.count 32 f;
        dwell = leb-true w.dwell 4096 g;
        each = none-wrong 0 0 (brought w) h;
      }
  right false true false e f g h = absurd (none-some (sym h))
  right false false c e f g h = absurd (none-some (sym h))

  wrong-place : (p : ℕ) → windows_refused w ≡ Some p → WindowsWrong w p
  unfolding by
  wrong-place p e = wrong (eqb w.count 0) (leb w.count 32) (leb w.dwell 4096) p refl refl refl e

  right-windows : windows_refused w ≡ None → WindowsRight w
  unfolding by
  right-windows e = right (eqb w.count 0) (leb w.count 32) (leb w.dwell 4096) refl refl refl e

pub windows-wrong : (w : Option Windows) (p : ℕ) → refused13 w ≡ Some p → IsSomeAnd w (λ v. WindowsWrong v p)
windows-wrong None p e = absurd (none-some e)
windows-wrong (Some w) p e = wrong-place w p e

pub windows-right : (w : Option Windows) → refused13 w ≡ None → IfSome w WindowsRight
windows-right None e = tt
windows-right (Some w) e = right-windows w e
