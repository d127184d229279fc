-- Searching the ticks of each window in turn, from a first one on and before another, finds the
-- least of these that fits a window and passes: `searched-is`. Windows in order do not overlap, so
-- that a tick of a later window is later.
use Prim.Native.Nat.{ℕ, suc, ◌+◌, ◌-◌, ◌<◌, ◌≤◌}
use native.Mathlib.Omega.{arith}
use mathlib.Core.Path.{◌≡◌, refl, sym, ap, ap₂, ◌∙◌}
use mathlib.Core.Bool.{Bool, true, false, ◌&&◌, false≢true}
use Rattle.std.specs.Prelude.{Option, None, Some}
use mathlib.Core.List.{List, [], ◌∷◌}
use lib.Dec.{eqb, leb}
use lib.ListN.{length, get_or, drop}
use Rattle.whole.proofs.Elements.{none-some}
use Rattle.model.specs.declared.Window.{Window}
use Rattle.model.specs.declared.Windows.{Windows}
use Rattle.model.specs.planning.Windows.{brought, fits_window, fits_one, in_order_after, first_wrong_window}
use Rattle.model.specs.planning.Windows.{windows_refused}
use Rattle.model.specs.planning.Windows.{refused13, in_windows}
use Rattle.model.specs.planning.Outcome.{least_from}
use Rattle.theorems.proofs.jobs.WindowsInWords.{none-wrong}
use Rattle.windows.specs.Ticks.{first_tick, after_last}
use Rattle.windows.proofs.Ticks.{Fit, fit_is, fit-ticks, ticks-fit}
use Rattle.windows.proofs.Listed.{no_window}
use lib.Seq.{drop-cons}
use native.Mathlib.Numerals.{add-one}
use Rattle.theorems.proofs.jobs.LeastTick.{Least, Result, result, one-result}
use Rattle.arrival.specs.Arrivals.{searched}

-- ---- windows in order, the one before them having closed at tick c

pub record Ordered (i c : ℕ) (w : Window) (l : List Window) : Type 0 where
  pub closes : w.opening < w.closing
  pub follows : c ≤ w.opening
  pub later : first_wrong_window (suc i) w.closing l ≡ None

ordered : (i c : ℕ) (w : Window) (l : List Window) → first_wrong_window i c (w ∷ l) ≡ None → Ordered i c w l
ordered i c w l e =
    let r = none-wrong i c (w ∷ l) e 0 w refl in
    record { closes = r.closes; follows = r.follows; later = go (in_order_after c w) e }
  where
    go : (b : Bool) → ◌≡◌ {A = Option ℕ}
        (elim b as (λ _. Option ℕ) [ true ↦ first_wrong_window (suc i) w.closing l | false ↦ Some i ]) None
        → first_wrong_window (suc i) w.closing l ≡ None
    go true e = e
    go false e = absurd (none-some (sym e))

module _ (test : ℕ → Bool) (first end dwell : ℕ) where
  -- a tick that fits one of them is at c or later
  after : (i c : ℕ) (l : List Window) → first_wrong_window i c l ≡ None → (n : ℕ) → fits_one n dwell l ≡ true → c ≤ n
  after i c [] e n f = absurd (false≢true f)
  after i c (w ∷ l) e n f =
      let o = ordered i c w l e in
      go (fits_window n dwell w) (fit_is n dwell w) o f (after (suc i) w.closing l o.later n)
    where
      go : (b : Bool) → (b ≡ true → Fit n dwell w) → Ordered i c w l
          → (elim b as (λ _. Bool) [ true ↦ true | false ↦ fits_one n dwell l ]) ≡ true
          → (fits_one n dwell l ≡ true → w.closing ≤ n) → c ≤ n
      go true g o f h = let k = g refl in omega (arith, k.opened, o.follows)
      go false g o f h = let k = h f in omega (arith, o.closes, o.follows)

  abbrev both : List Window → ℕ → Bool
  both l n = fits_one n dwell l && test n

  -- ---- the first window, and those after it

  module _ (w : Window) (l : List Window) where
    -- a tick that fits one of them and passes: in the first window, or in one of the later ones
    of-first : (Q : Type 0) (n : ℕ) → both (w ∷ l) n ≡ true → (fits_window n dwell w ≡ true → test n ≡ true → Q)
        → (fits_window n dwell w ≡ false → both l n ≡ true → Q) → Q
    of-first Q n e f g = go (fits_window n dwell w) refl e
      where
        go : (b : Bool) → fits_window n dwell w ≡ b
            → (elim b as (λ _. Bool) [ true ↦ true | false ↦ fits_one n dwell l ]) && test n ≡ true → Q
        go true p e = f p e
        go false p e = g p e

    in-first : (n : ℕ) → fits_window n dwell w ≡ true → test n ≡ true → both (w ∷ l) n ≡ true
    in-first n e t = λ i. (elim (e i) as (λ _. Bool) [ true ↦ true | false ↦ fits_one n dwell l ]) && t i

    in-later : (n : ℕ) → both l n ≡ true → both (w ∷ l) n ≡ true
    in-later n e = go (fits_window n dwell w) (fits_one n dwell l) (test n) e
      where
        go : (b c t : Bool) → c && t ≡ true → (elim b as (λ _. Bool) [ true ↦ true | false ↦ c ]) && t ≡ true
        go true true t e = e
        go true false t e = absurd (false≢true e)
        go false c t e = e

    fits-of : (n : ℕ) → both l n ≡ true → fits_one n dwell l ≡ true
    fits-of n e = go (fits_one n dwell l) e
      where
        go : (c : Bool) → c && test n ≡ true → c ≡ true
        go true e = refl
        go false e = absurd (false≢true e)

    abbrev count : ℕ
    count = after_last dwell end w - first_tick first w

    -- found in the first window
    found : (n : ℕ) → ((k : ℕ) → both l k ≡ true → w.closing ≤ k) → Least test (first_tick first w) count n
        → Least (both (w ∷ l)) first (end - first) n
    found n far r =
        let t = ticks-fit first end n dwell w r.first (omega (arith, r.last, r.first)) in
        let f = fit_is n dwell w t.2 in
        record {
          first = t.0;
          last = omega (arith, t.0, t.1);
          passes = in-first n t.2 r.passes;
          least = λ k a b e.
              of-first ⊥ k e
              (λ p q. let s = fit-ticks first end k dwell w a (omega (arith, t.1)) p in r.least k s.0 b q)
              (λ p q. let s = far k q in omega (arith, f.within));
        }

    missed : Result test (first_tick first w) count None → (k : ℕ) → first ≤ k → k < end
        → fits_window k dwell w ≡ true → test k ≡ true → ⊥
    missed r k a b p q = let s = fit-ticks first end k dwell w a b p in r k s.0 (omega (arith, s.1, s.0)) q

    -- not found there
    onward : (o : Option ℕ) → Result test (first_tick first w) count None → Result (both l) first (end - first) o
        → Result (both (w ∷ l)) first (end - first) o
    onward None none_here h = λ k a b e. of-first ⊥ k e (missed none_here k a (omega arith)) (λ p q. h k a b q)
    onward (Some n) none_here h =
        record {
          first = h.first;
          last = h.last;
          passes = in-later n h.passes;
          least = λ k a b e. of-first ⊥ k e (missed none_here k a (omega (arith, h.first, h.last)))
              (λ p q. h.least k a b q);
        }

  -- ---- all windows

  searched-least : (i c : ℕ) (l : List Window) → first_wrong_window i c l ≡ None
      → Result (both l) first (end - first) (searched test first end dwell l)
  searched-least i c [] e = λ k a b f. absurd (false≢true f)
  searched-least i c (w ∷ l) e =
      let o = ordered i c w l e in
      go (least_from test (first_tick first w) (count w l)) (result test (first_tick first w) (count w l)) o.later
      (searched-least (suc i) w.closing l o.later)
    where
      go : (o : Option ℕ) → Result test (first_tick first w) (count w l) o
          → first_wrong_window (suc i) w.closing l ≡ None
          → Result (both l) first (end - first) (searched test first end dwell l)
          → Result (both (w ∷ l)) first (end - first)
          (elim o as (λ _. Option ℕ) [ Some n ↦ Some n | None ↦ searched test first end dwell l ])
      go None r s h = onward w l (searched test first end dwell l) r h
      go (Some n) r s h = found w l n (λ k q. after (suc i) w.closing l s k (fits-of w l k q)) r

  pub searched-is : (l : List Window) → first_wrong_window 0 0 l ≡ None
      → searched test first end dwell l ≡ least_from (λ n. fits_one n dwell l && test n) first (end - first)
  searched-is l e =
      let c = end - first in
      one-result (both l) first c (searched test first end dwell l) (least_from (both l) first c)
      (searched-least 0 0 l e) (result (both l) first c)

-- ---- what a loop over windows has before it

module _ (test : ℕ → Bool) (first end dwell : ℕ) (list : List Window) (i : ℕ) (inside : i < length list) where
  abbrev others : List Window
  others = drop (i + 1) list

  abbrev window : Window
  window = get_or list i no_window

  by-window : Option ℕ → Option ℕ
  by-window o = elim o [ Some n ↦ Some n | None ↦ searched test first end dwell others ]

  -- window i, its first tick being a and the one after its last b
  module _ (a b : ℕ) (from : a ≡ first_tick first window) (last : b ≡ after_last dwell end window) where
    opened : searched test first end dwell (drop i list) ≡ by-window (least_from test a (b - a))
    unfolding by-window
    opened =
        ap (searched test first end dwell) (drop-cons list i no_window inside
        ∙ ap (λ (j : ℕ). window ∷ drop j list) (sym (add-one i)))
        ∙ ap₂ (λ (k m : ℕ). by-window (least_from test k (m - k))) (sym from) (sym last)

    pub in_window : (n : ℕ) → Some n ≡ least_from test a (b - a)
        → searched test first end dwell (drop i list) ≡ Some n
    unfolding by-window
    in_window n is = opened ∙ ap by-window (sym is)

    pub past-window : None ≡ least_from test a (b - a)
        → searched test first end dwell (drop i list) ≡ searched test first end dwell others
    unfolding by-window
    past-window is = opened ∙ ap by-window (sym is)

-- ---- with windows and without

in_order : (w : Windows) → windows_refused w ≡ None → first_wrong_window 0 0 (brought w) ≡ None
in_order w e = by_count (eqb w.count 0) (leb w.count 32 && leb w.dwell 4096) e
  where
    by_count : (a b : Bool)
        → ◌≡◌ {A = Option ℕ} (elim a as (λ _. Option ℕ) [
          | true ↦ Some 0
          | false ↦ elim b as (λ _. Option ℕ) [ true ↦ first_wrong_window 0 0 (brought w) | false ↦ Some 32 ]
        ]) None
        → first_wrong_window 0 0 (brought w) ≡ None
    by_count true b e = absurd (none-some (sym e))
    by_count false true e = e
    by_count false false e = absurd (none-some (sym e))

and-true : (b : Bool) → b && true ≡ b
and-true true = refl
and-true false = refl

pub with-windows : (w : Windows) (first end : ℕ) → refused13 (Some w) ≡ None
    → searched (λ n. true) first end w.dwell (brought w) ≡ least_from (in_windows (Some w)) first (end - first)
with-windows w first end e =
    searched-is (λ n. true) first end w.dwell (brought w) (in_order w e)
    ∙ (λ i. least_from (λ n. and-true (fits_one n w.dwell (brought w)) i) first (end - first))
