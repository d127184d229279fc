-- Rule 5, for every leg that can be made: the list chosen meets rule 4, the cruise is the largest c
-- whose sum does not exceed the required sum, and the remainder is what that sum leaves of it.
use Prim.Native.Nat.{ℕ, suc, ◌+◌, ◌-◌, ◌^◌, ◌≤◌, ◌<◌}
use mathlib.Core.Path.{◌≡◌, refl, sym, ap, ap₂, ◌∙◌, subst}
use mathlib.Core.List.{List, [], ◌∷◌}
use mathlib.Core.Logic.{⊎_elim}
use native.Mathlib.Omega.{arith}
use lib.Dec.{T}
use lib.ListN.{length, get_or, length-append}
use lib.IntN.{ℤ, pos, ◌+ℤ◌, ◌-ℤ◌, ◌*ℤ◌}
use lib.Signed.{◌≤ℤ◌, ◌<ℤ◌, yes_non_neg, pos-nat_abs}
use Rattle.whole.specs.Integers.{sum_to}
use Rattle.whole.proofs.Differences.{whole, all₁}
use Rattle.whole.proofs.Laws.{≤ℤ-trans, ≤ℤ-total, <ℤ-weaken, add-sub, sub-nonneg}
use Rattle.whole.proofs.Ring.{pol, same}
use Rattle.whole.proofs.Rounding.{twice_half}
use Rattle.model.specs.planning.Leg.{Leg, Meets, feasible, travelled, sum_at, cruise, IsCruise, required}
use Rattle.model.specs.planning.Leg.{twice_required, raised, remainder, chosen}
use Rattle.theorems.proofs.legs.Envelopes.{Joined, highest-sum}
use Rattle.theorems.proofs.legs.CruiseIsLargest.{sum_at-mono}
use Rattle.theorems.proofs.legs.RaisedList.{along, along-end, along-speed, along-change, along-sum, total, Kept}
use Rattle.theorems.proofs.legs.RaisedList.{raised-total, raised-length, raised-kept}
use Rattle.theorems.proofs.legs.FeasibleTests.{feasible-joined, feasible-even, feasible-below, feasible-cruise}
use Rattle.theorems.proofs.motions.Travel.{travelled-is}

pub chosen-length : (g : Leg) (s : ℤ) → 0 < g.ticks → length (chosen g s) ≡ g.ticks
chosen-length g s some =
    length-append middle (g.end ∷ [])
    ∙ plain (length middle) g.ticks (raised-length g (cruise g s) (g.ticks - 1) 1 (remainder g s)) some
  where
    middle : List ℤ
    middle = raised g (cruise g s) (g.ticks - 1) 1 (remainder g s)

    plain : (a k : ℕ) → a ≡ k - 1 → 0 < k → a + 1 ≡ k
    plain a k e h = omega arith

module _ (g : Leg) (δ : ℤ) (range : g.speed_limit ≤ 2 ^ 37) (t : T (feasible g δ)) where
  abbrev S : ℤ
  S = required g δ

  pub cruise-largest : IsCruise g S (cruise g S)
  cruise-largest = feasible-cruise g δ t range

  pub remainder-left : sum_at g (cruise g S) +ℤ pos (remainder g S) ≡ S
  remainder-left =
      ap (λ (z : ℤ). sum_at g (cruise g S) +ℤ z) (pos-nat_abs (S -ℤ sum_at g (cruise g S)) (yes_non_neg fits))
      ∙ add-sub (sum_at g (cruise g S)) S
    where
      fits : pos 0 ≤ℤ (S -ℤ sum_at g (cruise g S))
      fits = sub-nonneg (sum_at g (cruise g S)) S cruise-largest.fits

module _ (g : Leg) (δ : ℤ) (some : 0 < g.ticks)
    (hA : 0 < g.acceleration_limit) (range : g.speed_limit ≤ 2 ^ 37) (t : T (feasible g δ)) where
  -- the required sum, its cruise, what the cruise leaves of the sum, and the
  -- number of ticks between the ends
  abbrev s : ℤ
  s = required g δ

  c : ℤ
  c = cruise g s

  left : ℕ
  left = remainder g s

  abbrev n : ℕ
  n = g.ticks - 1

  joined : Joined g
  joined = feasible-joined g δ t

  C : IsCruise g s c
  unfolding c
  C = cruise-largest g δ range t

  left_is : sum_at g c +ℤ pos left ≡ s
  unfolding c left
  left_is = remainder-left g δ range t

  -- at c + 1 the sum is enough: c is the largest that does not exceed it, or the speed limit, where
  -- the upper envelope's sum is enough
  enough : s ≤ℤ sum_at g (c +ℤ pos 1)
  enough =
      ⊎_elim (λ (q : (c +ℤ pos 1) ≤ℤ pos g.speed_limit). larger q) top (≤ℤ-total (c +ℤ pos 1) (pos g.speed_limit))
    where
      beyond : (c : ℤ) → (c +ℤ pos 1) ≤ℤ c → ⊥
      beyond = all₁ _ (λ a b. simp whole (omega arith))

      larger : (c +ℤ pos 1) ≤ℤ pos g.speed_limit → s ≤ℤ sum_at g (c +ℤ pos 1)
      larger q = ⊎_elim
          (λ (f : sum_at g (c +ℤ pos 1) ≤ℤ s). absurd (beyond c (C.largest (c +ℤ pos 1) q f))) <ℤ-weaken
          (≤ℤ-total (sum_at g (c +ℤ pos 1)) s)

      top : pos g.speed_limit <ℤ (c +ℤ pos 1) → s ≤ℤ sum_at g (c +ℤ pos 1)
      top q =
          ≤ℤ-trans (subst (λ (z : ℤ). s ≤ℤ z) (sym (highest-sum g joined)) (feasible-below g δ t))
          (sum_at-mono g (pos g.speed_limit) (c +ℤ pos 1) (<ℤ-weaken q))

  -- the velocities of ticks 1 to T − 1
  middle : List ℤ
  middle = raised g c n 1 left

  shape : suc n ≡ g.ticks
  shape = omega arith

  middle-length : length middle ≡ n
  unfolding middle
  middle-length = raised-length g c n 1 left

  middle-total : total middle ≡ s
  unfolding middle
  middle-total = raised-total g c n left (subst (λ (z : ℤ). z ≤ℤ sum_at g (c +ℤ pos 1)) (sym left_is) enough) ∙ left_is

  kept : Kept g.speed_limit g.acceleration_limit g.start middle g.end
  unfolding middle
  kept = raised-kept g c joined hA n left shape

  -- the list with its ends, as a function of the tick
  w : ℕ → ℤ
  w = along g.start middle g.end

  meets : Meets g δ w
  unfolding w
  meets =
      record {
        starts = refl;
        ends = end_of;
        speeds = λ k h. along-speed g.speed_limit g.acceleration_limit g.start middle g.end kept k
            (omega (arith, middle-length));
        changes = λ k h. along-change g.speed_limit g.acceleration_limit g.start middle g.end kept k
            (omega (arith, middle-length));
        travels = travels-is;
      }
    where
      sum_of : sum_to w n ≡ s
      sum_of = subst (λ (k : ℕ). sum_to w k ≡ s) middle-length (along-sum g.start middle g.end ∙ middle-total)

      last_of : w (suc n) ≡ g.end
      last_of = subst (λ (k : ℕ). w (suc k) ≡ g.end) middle-length (along-end g.start middle g.end)

      end_of : w g.ticks ≡ g.end
      end_of = ap w (sym shape) ∙ last_of

      travels-is : travelled w g.ticks ≡ δ
      travels-is =
          ap (travelled w) (sym shape)
          ∙ travelled-is w n
          ∙ ap₂ (λ (a b : ℤ). g.start +ℤ pos 2 *ℤ a +ℤ b) sum_of last_of
          ∙ ap (λ (a : ℤ). g.start +ℤ a +ℤ g.end) (twice_half (twice_required g δ) (feasible-even g δ t))
          ∙ same (g.start ∷ g.end ∷ δ ∷ []) (search pol depth 20 fits 9000) tt

  pub chosen-meets : Meets g δ (λ k. get_or (g.start ∷ chosen g (required g δ)) k (pos 0))
  unfolding w middle c left
  chosen-meets = meets
