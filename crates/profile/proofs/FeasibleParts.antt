-- `feasible` in the three parts that the code tests.
use Prim.Native.Nat.{◌-◌, ◌*◌, ◌<◌}
use mathlib.Core.Path.{◌≡◌, refl, sym, subst}
use mathlib.Core.Bool.{Bool, true, false, ◌&&◌}
use lib.Dec.{T, leb, leb→le}
use lib.IntN.{ℤ, nat_abs, ◌-ℤ◌}
use lib.Signed.{le_z}
use Rattle.whole.proofs.Tests.{left, right, true-T, and_yes, leb_yes}
use Rattle.whole.specs.Integers.{sum_to}
use Rattle.theorems.proofs.legs.Envelopes.{Joined}
use Rattle.model.specs.planning.Leg.{Leg, lower, upper, required, sum_is_whole, feasible}
use Rattle.profile.specs.Profiles.{ends_allowed, sum_between}

grouped : (a b c w l h : Bool) → (a && (b && (c && (w && (l && (h && true)))))) ≡ ((a && (b && c)) && (w && (l && h)))
grouped true true true true true true = refl
grouped true true true true true false = refl
grouped true true true true false h = refl
grouped true true true false l h = refl
grouped true true false w l h = refl
grouped true false c w l h = refl
grouped false b c w l h = refl

pub feasible-parts : (g : Leg) (d : ℤ)
    → feasible g d ≡ (ends_allowed g && (sum_is_whole g d && sum_between g (required g d)))
feasible-parts g d =
    grouped (leb (nat_abs g.start) g.speed_limit) (leb (nat_abs g.end) g.speed_limit)
    (leb (nat_abs (g.end -ℤ g.start)) (g.acceleration_limit * g.ticks)) (sum_is_whole g d)
    (le_z (sum_to (lower g) (g.ticks - 1)) (required g d)) (le_z (required g d) (sum_to (upper g) (g.ticks - 1)))

-- the first part
pub ends-joined : (g : Leg) → ends_allowed g ≡ true → Joined g
ends-joined g e =
    record {
      start = leb→le (nat_abs g.start) g.speed_limit (left a (b && c) t);
      end = leb→le (nat_abs g.end) g.speed_limit (left b c (right a (b && c) t));
      apart = leb→le (nat_abs (g.end -ℤ g.start)) (g.acceleration_limit * g.ticks) (right b c (right a (b && c) t));
    }
  where
    a : Bool
    a = leb (nat_abs g.start) g.speed_limit

    b : Bool
    b = leb (nat_abs g.end) g.speed_limit

    c : Bool
    c = leb (nat_abs (g.end -ℤ g.start)) (g.acceleration_limit * g.ticks)

    t : T (a && (b && c))
    t = true-T e

pub joined-ends : (g : Leg) → Joined g → ends_allowed g ≡ true
joined-ends g j = sym (and_yes _ _ (leb_yes j.start) (and_yes _ _ (leb_yes j.end) (sym (leb_yes j.apart))))

-- what is asked of a leg holds of the fields that it is the view of
pub joined-by : {g h : Leg} → g ≡ h → ends_allowed h ≡ true → Joined g
joined-by e q = ends-joined _ (subst (λ (l : Leg). ends_allowed l ≡ true) (sym e) q)

pub steep-by : {g h : Leg} → g ≡ h → 0 < h.acceleration_limit → 0 < g.acceleration_limit
steep-by e q = subst (λ (l : Leg). 0 < l.acceleration_limit) (sym e) q
