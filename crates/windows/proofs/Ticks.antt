-- The ticks from a first one on and before another that fit one window are those from `first_tick`
-- on and before `after_last`: `ticks-fit`, `fit-ticks`.
use Prim.Native.Nat.{ℕ, ◌+◌, ◌-◌, ◌≤◌, ◌<◌, min}
use native.Mathlib.Omega.{arith}
use mathlib.Core.Path.{◌≡◌, refl}
use mathlib.Core.Bool.{Bool, true, false, cond, ◌&&◌, false≢true}
use lib.Dec.{eqb, leb, ltb}
use borrow.Author.Tests.{ltb-true, ltb-false, leb-true, eqb-true, eqb-false, le-leb, lt-ltb}
use Rattle.model.specs.declared.Window.{Window}
use Rattle.model.specs.planning.Windows.{fits_window}
use Rattle.windows.specs.Ticks.{first_tick, after_last}

-- what an arrival that fits has
pub record Fit (n dwell : ℕ) (w : Window) : Type 0 where
  pub opened : w.opening ≤ n
  pub within : n < w.closing
  pub stays : n + dwell ≤ w.closing

pub fit_is : (n dwell : ℕ) (w : Window) → fits_window n dwell w ≡ true → Fit n dwell w
fit_is n dwell w e =
    go (leb w.opening n) (ltb n w.closing) (leb (n + dwell) w.closing)
    (leb-true w.opening n) (ltb-true n w.closing) (leb-true (n + dwell) w.closing) e
  where
    go : (a b c : Bool) → (a ≡ true → w.opening ≤ n) → (b ≡ true → n < w.closing)
        → (c ≡ true → n + dwell ≤ w.closing)
        → a && (b && c) ≡ true → Fit n dwell w
    go true true c f g h e = record { opened = f refl; within = g refl; stays = h e }
    go true false c f g h e = absurd (false≢true e)
    go false b c f g h e = absurd (false≢true e)

is-fit : (n dwell : ℕ) (w : Window) → Fit n dwell w → fits_window n dwell w ≡ true
is-fit n dwell w f = λ i. le-leb w.opening n f.opened i
    && (lt-ltb n w.closing f.within i && le-leb (n + dwell) w.closing f.stays i)

-- ---- the ticks of a window

module _ (first after n dwell : ℕ) (w : Window) where
  pub fit-ticks : first ≤ n → n < after → fits_window n dwell w ≡ true
      → (first_tick first w ≤ n) × (n < after_last dwell after w)
  fit-ticks h k e =
      let f = fit_is n dwell w e in (
        omega (arith, f.opened),
        go (eqb dwell 0) (ltb w.closing dwell)
            (ltb-true w.closing dwell) f.within f.stays,
      )
    where
      go : (a b : Bool) → (b ≡ true → w.closing < dwell) → n < w.closing → n + dwell ≤ w.closing
          → n < cond a (min w.closing after) (cond b 0 (min (w.closing - dwell + 1) after))
      go true b f p q = omega arith
      go false true f p q = absurd (let z = f refl in omega arith)
      go false false f p q = omega arith

  pub ticks-fit : first_tick first w ≤ n → n < after_last dwell after w
      → (first ≤ n) × (n < after) × (fits_window n dwell w ≡ true)
  ticks-fit h k =
      let s = go (eqb dwell 0) (ltb w.closing dwell) (eqb-true dwell 0) (eqb-false dwell 0)
      (ltb-false w.closing dwell) k in
      (omega arith, s.0, is-fit n dwell w (record { opened = omega arith; within = s.1; stays = s.2 }))
    where
      go : (a b : Bool) → (a ≡ true → dwell ≡ 0) → (a ≡ false → dwell ≡ 0 → ⊥) → (b ≡ false → dwell ≤ w.closing)
          → n < cond a (min w.closing after) (cond b 0 (min (w.closing - dwell + 1) after))
          → (n < after) × (n < w.closing) × (n + dwell ≤ w.closing)
      go true b f g p k = let z = f refl in (omega arith, omega arith, omega arith)
      go false true f g p k = absurd (omega arith)
      go false false f g p k =
          let z = p refl in
          (omega arith, some-dwell dwell (g refl) (omega arith), omega arith)
        where
          some-dwell : (d : ℕ) → (d ≡ 0 → ⊥) → n + d ≤ w.closing → n < w.closing
          some-dwell d z h = omega (arith, z)

-- no tick before `first`
pub first_above : (first : ℕ) (w : Window) → first ≤ first_tick first w
first_above first w = omega arith
