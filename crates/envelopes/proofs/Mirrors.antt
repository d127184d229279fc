-- A leg with every velocity negated: a list makes the one exactly where its negative makes the
-- other.
use Prim.Native.Nat.{ℕ, zero, suc, ◌^◌, ◌≤◌, ◌<◌}
use mathlib.Core.Path.{◌≡◌, refl, sym, ap, subst, ◌∙◌}
use mathlib.Core.Bool.{Bool, true, false}
use mathlib.Core.List.{[], ◌∷◌}
use lib.Dec.{T}
use lib.IntN.{ℤ, pos, neg_ℤ, nat_abs, ◌+ℤ◌, ◌-ℤ◌, ◌*ℤ◌, neg_ℤ-neg_ℤ}
use Rattle.whole.proofs.Laws.{nat_abs-neg}
use Rattle.whole.proofs.Ring.{pol, same}
use Rattle.model.specs.planning.Leg.{Leg, Feasible, travelled, feasible}
use Rattle.theorems.proofs.legs.FeasibleIsExistence.{feasible-is}
use Rattle.envelopes.proofs.EnvelopeSums.{mirrored}

pub same_truth : (a b : Bool) → (T a → T b) → (T b → T a) → a ≡ b
same_truth true true f g = refl
same_truth true false f g = absurd (f tt)
same_truth false true f g = absurd (g tt)
same_truth false false f g = refl

travelled-neg : (w : ℕ → ℤ) (n : ℕ) → travelled (λ k. neg_ℤ (w k)) n ≡ neg_ℤ (travelled w n)
travelled-neg w zero = refl
travelled-neg w (suc n) =
    ap (λ (z : ℤ). z +ℤ (pos 2 *ℤ neg_ℤ (w n) +ℤ (neg_ℤ (w (suc n)) -ℤ neg_ℤ (w n)))) (travelled-neg w n)
    ∙ law (travelled w n) (w n) (w (suc n))
  where
    law : (t x y : ℤ) → neg_ℤ t +ℤ (pos 2 *ℤ neg_ℤ x +ℤ (neg_ℤ y -ℤ neg_ℤ x)) ≡ neg_ℤ (t +ℤ (pos 2 *ℤ x +ℤ (y -ℤ x)))
    law t x y = same (t ∷ x ∷ y ∷ []) (search pol depth 20 fits 9000) tt

pub apart-neg : (x y : ℤ) → nat_abs (neg_ℤ y -ℤ neg_ℤ x) ≡ nat_abs (y -ℤ x)
apart-neg x y = ap nat_abs (law x y) ∙ nat_abs-neg (y -ℤ x)
  where
    law : (x y : ℤ) → neg_ℤ y -ℤ neg_ℤ x ≡ neg_ℤ (y -ℤ x)
    law x y = same (x ∷ y ∷ []) (search pol depth 20 fits 9000) tt

negated : (g : Leg) (d : ℤ) → Feasible g d → Feasible (mirrored g) (neg_ℤ d)
negated g d (w, m) = (
  λ k. neg_ℤ (w k),
  record {
    starts = ap neg_ℤ m.starts;
    ends = ap neg_ℤ m.ends;
    speeds = λ k h. subst (λ (n : ℕ). n ≤ g.speed_limit) (sym (nat_abs-neg (w k))) (m.speeds k h);
    changes = λ k h. subst (λ (n : ℕ). n ≤ g.acceleration_limit) (sym (apart-neg (w k) (w (suc k)))) (m.changes k h);
    travels = travelled-neg w g.ticks ∙ ap neg_ℤ m.travels;
  },
)

twice-mirrored : (g : Leg) → mirrored (mirrored g) ≡ g
twice-mirrored g =
    λ i.
    record {
      ticks = g.ticks;
      start = neg_ℤ-neg_ℤ g.start i;
      end = neg_ℤ-neg_ℤ g.end i;
      speed_limit = g.speed_limit;
      acceleration_limit = g.acceleration_limit;
    }

pub feasible-mirrored : (g : Leg) (d : ℤ) → 0 < g.ticks → 0 < g.acceleration_limit → g.speed_limit ≤ 2 ^ 37
    → feasible g d ≡ feasible (mirrored g) (neg_ℤ d)
feasible-mirrored g d some strong slow =
    same_truth _ _
    (λ u. (feasible-is (mirrored g) (neg_ℤ d) some strong slow).0
    (negated g d ((feasible-is g d some strong slow).1 u)))
    (λ u. (feasible-is g d some strong slow).0
    (back (negated (mirrored g) (neg_ℤ d) ((feasible-is (mirrored g) (neg_ℤ d) some strong slow).1 u))))
  where
    back : Feasible (mirrored (mirrored g)) (neg_ℤ (neg_ℤ d)) → Feasible g d
    back f = subst (λ (z : ℤ). Feasible g z) (neg_ℤ-neg_ℤ d)
        (subst (λ (h : Leg). Feasible h (neg_ℤ (neg_ℤ d))) (twice-mirrored g) f)
