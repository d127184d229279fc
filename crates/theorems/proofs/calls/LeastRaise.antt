-- The least raise of a limit: what it says (`raise-is`), and that there is none where the highest
-- limit is not enough (`raise-missing`).
use Prim.Native.Nat.{ℕ, zero, suc, ◌+◌, ◌-◌, ◌≤◌, ◌<◌}
use mathlib.Core.Path.{◌≡◌, refl, sym, subst, ◌∙◌}
use mathlib.Core.Bool.{Bool, true, false, false≢true}
use Rattle.std.specs.Prelude.{Option, None, Some}
use mathlib.Core.Logic.{◌↔◌}
use native.Mathlib.Omega.{arith}
use lib.Dec.{T}
use Rattle.whole.proofs.Tests.{T_true, true-T}
use Rattle.model.specs.declared.Axis.{Axis}
use Rattle.model.specs.declared.Limit.{Limit}
use Rattle.model.specs.declared.Limit.TheVariants.{Acceleration, Speed}
use Rattle.model.specs.planning.Quantities.{speed_limit, acceleration_limit, finer}
use Rattle.model.specs.planning.Motion.{Reachable, reachable}
use Rattle.theorems.specs.GivenWeights.{with_weight}
use Rattle.model.specs.planning.Outcome.{least_from}
use Rattle.model.specs.planning.Refusals.{Passed}
use Rattle.model.specs.calls.Raises.{limit_of, highest, with_limit, raise_of}
use Rattle.theorems.specs.Raises.{RaiseIs, raise, no_raise}
use Rattle.theorems.proofs.jobs.PassedAxis.{speed-limit, some-acceleration, acceleration-limit}
use Rattle.theorems.proofs.jobs.Verdict.{reach-is}
use Rattle.theorems.proofs.jobs.LeastTick.{Result, result, one-result}
use Rattle.theorems.proofs.legs.WiderLimits.{wider-decided, wider-passes}

-- ---- one limit alone, within its range

limit-range : (q : Limit) (x : Axis) → Passed x → limit_of q x ≤ highest q
limit-range Acceleration x p = acceleration-limit x p
limit-range Speed x p = speed-limit x p

-- an axis with a higher limit has passed too
limit-passes : (q : Limit) (x : Axis) → Passed x → (k : ℕ) → limit_of q x ≤ k → k ≤ highest q
    → Passed (with_limit q k x)
limit-passes Acceleration x p k a b = wider-passes x (speed_limit x) k (omega arith) a p (speed-limit x p) b
limit-passes Speed x p k a b = wider-passes x k (acceleration_limit x) a (omega arith) p b (acceleration-limit x p)

-- with the limit as it is
own-limit : (q : Limit) (x : Axis) → with_limit q (limit_of q x) x ≡ x
own-limit Acceleration x = refl
own-limit Speed x = refl

module _ (q : Limit) (x : Axis) (n : ℕ) (p : Passed x) where
  abbrev test : ℕ → Bool
  test k = reachable (with_limit q k x) n

  -- a limit that is enough stays enough when it is raised
  rises : (a b : ℕ) → limit_of q x ≤ a → a ≤ b → b ≤ highest q → test a ≡ true → test b ≡ true
  rises a b h k m e = T_true (test b) (go q (limit-passes q x p a h (omega arith)) k m (true-T e))
    where
      go : (q : Limit) → Passed (with_limit q a x) → a ≤ b → b ≤ highest q → T (reachable (with_limit q a x) n)
          → T (reachable (with_limit q b x) n)
      go Acceleration s k m = wider-decided (with_limit Acceleration a x) (speed_limit x) b (omega arith) k n
          (some-acceleration _ s) (speed-limit x p)
      go Speed s k m =
          wider-decided (with_limit Speed a x) b (acceleration_limit x) k (omega arith) n (some-acceleration _ s) m

  -- ---- what the definition tries

  abbrev tried : ℕ → Bool
  tried r = test (limit_of q x + r)

  abbrev most : ℕ
  most = highest q - limit_of q x

  -- the highest of the range is not enough
  pub raise-missing : reachable (with_limit q (highest q) x) n ≡ false → raise_of q x n ≡ None
  unfolding raise_of
  raise-missing short =
      one-result tried 1 most (least_from tried 1 most) None (result tried 1 most)
      (λ i h k e. false≢true
      (sym short ∙ rises (limit_of q x + i) (highest q) (omega arith) (omega (arith, range)) (omega arith) e))
    where
      range : limit_of q x ≤ highest q
      range = limit-range q x p

  -- ---- what the least raise says

  abbrev Enough : ℕ → Type 0
  Enough k = Reachable (with_limit q k x) n

  decided : (k : ℕ) → limit_of q x ≤ k → k ≤ highest q → Enough k ↔ T (test k)
  decided k a b = reach-is (with_limit q k x) n (limit-passes q x p k a b)

  pub raise-is : (Reachable x n → ⊥)
      → RaiseIs (λ k. Reachable (with_limit q k x) n) (limit_of q x) (highest q) (raise_of q x n)
  unfolding raise_of
  raise-is misses = go (least_from tried 1 most) (result tried 1 most)
    where
      range : limit_of q x ≤ highest q
      range = limit-range q x p

      -- a raise by 0 leaves the limit as it is
      short : (i : ℕ) → i ≡ 0 → Enough (limit_of q x + i) → ⊥
      short i z e =
          let own : limit_of q x + i ≡ limit_of q x = omega arith in
          misses (subst (λ (y : Axis). Reachable y n) (own-limit q x) (subst Enough own e))

      -- what the definition tries, in the words of rule 4
      no_test : (i : ℕ) → limit_of q x + i ≤ highest q → (tried i ≡ true → ⊥) → Enough (limit_of q x + i) → ⊥
      no_test i h f e = f (T_true (tried i) ((decided (limit_of q x + i) (omega arith) h).0 e))

      go : (o : Option ℕ) → Result tried 1 most o
          → RaiseIs (λ k. Reachable (with_limit q k x) n) (limit_of q x) (highest q) o
      go None f = no_raise nowhere
        where
          nowhere : (i : ℕ) → limit_of q x + i ≤ highest q → Enough (limit_of q x + i) → ⊥
          nowhere zero h = short 0 refl
          nowhere (suc i) h = no_test (suc i) h (f (suc i) (omega arith) (omega arith))
      go (Some r) f =
          let within : limit_of q x + r ≤ highest q = omega (arith, range, f.last) in
          raise r f.first within
          ((decided (limit_of q x + r) (omega arith) within).1 (true-T f.passes)) (below within)
        where
          below : limit_of q x + r ≤ highest q → (i : ℕ) → i < r → Enough (limit_of q x + i) → ⊥
          below w zero h = short 0 refl
          below w (suc i) h = no_test (suc i) (omega arith) (f.least (suc i) (omega arith) h)

-- ---- damping as measured: the same raise with the number B given

pub raise-with-weight : (q : Limit) (x : Axis) (n : ℕ) → raise_of q (with_weight x) n ≡ raise_of q x n
unfolding raise_of finer
raise-with-weight Acceleration x n = refl
raise-with-weight Speed x n = refl
