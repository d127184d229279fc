-- The least limit above the one that an axis has is its least raise; and the raises of
-- an axis are those of its task.
use Prim.Native.Nat.{ℕ, suc, ◌+◌, ◌-◌, ◌≤◌, ◌<◌}
use native.Mathlib.Omega.{arith}
use mathlib.Core.Path.{◌≡◌, sym, ap, ap₂, ◌∙◌}
use mathlib.Core.Bool.{Bool, false, false≢true}
use Rattle.std.specs.Prelude.{Option, None, Some}
use lib.Dec.{ltb}
use Rattle.whole.proofs.Tests.{and_no, ltb_no}
use Rattle.model.specs.declared.Axis.{Axis}
use Rattle.model.specs.declared.Limit.{Limit}
use Rattle.model.specs.declared.Limit.TheVariants.{Acceleration, Speed}
use Rattle.model.specs.planning.Quantities.{delay, speed_limit, acceleration_limit}
use Rattle.model.specs.planning.Motion.{reachable}
use Rattle.model.specs.planning.Outcome.{least_from}
use Rattle.model.specs.planning.Refusals.{Passed}
use Rattle.model.specs.calls.Raises.{limit_of, highest, with_limit, raise_of}
use Rattle.theorems.proofs.calls.LeastRaise.{raise-missing}
use Rattle.theorems.proofs.jobs.LeastTick.{Result, result, one-result}
use Rattle.theorems.proofs.jobs.PassedAxis.{speed-limit, some-acceleration}
use Rattle.whole.specs.Candidates.{Next}
use Rattle.least_limit.specs.declared.Task.{Task}
use Rattle.least_limit.specs.Limits.{limit_in, enough, enough_with}
use Rattle.least_limit.specs.Tasks.{TaskIs}
use Rattle.raises.specs.LeastRaises.{least_raise}

-- ---- a task

module _ (q : Limit) (t : Task) (r : ℕ) (n : Next (enough_with q t) (suc (limit_in q t)) (highest q) r) where
  abbrev current : ℕ
  current = limit_in q t

  abbrev tried : ℕ → Bool
  tried k = enough_with q t (current + k)

  abbrev most : ℕ
  most = highest q - current

  only : (o : Option ℕ) → Result tried 1 most o → o ≡ least_from tried 1 most
  only o h = one-result tried 1 most o (least_from tried 1 most) h (result tried 1 most)

  pub found : r ≤ highest q → Some (r - current) ≡ least_raise q t
  unfolding least_raise
  found h =
      only (Some (r - current))
      (record {
        first = omega (arith, n.low);
        last = omega (arith, n.low);
        passes = ap (enough_with q t) {x = current + (r - current)} {y = r} (omega (arith, n.low)) ∙ n.passed h;
        least = λ i a b e. false≢true (sym (n.missed (current + i) (omega arith) (omega arith)) ∙ e);
      })

  pub not_found : limit_in q t ≤ highest q → highest q < r → None ≡ least_raise q t
  unfolding least_raise
  not_found l h =
      only None (λ i a b e. false≢true (sym (n.missed (current + i) (omega arith) (omega arith)) ∙ e))

-- ---- an axis

-- two tests that agree on the candidates
same-least : (f g : ℕ → Bool) (k count : ℕ) → ((i : ℕ) → k ≤ i → i < k + count → f i ≡ g i)
    → least_from f k count ≡ least_from g k count
same-least f g k count e = one-result g k count (least_from f k count) (least_from g k count)
    (go (least_from f k count) (result f k count)) (result g k count)
  where
    go : (o : Option ℕ) → Result f k count o → Result g k count o
    go None h = λ i a b t. h i a b (e i a b ∙ t)
    go (Some n) h =
        record {
          first = h.first;
          last = h.last;
          passes = sym (e n h.first h.last) ∙ h.passes;
          least = λ i a b t. h.least i a b (e i a (omega (arith, h.last)) ∙ t);
        }

module _ (q : Limit) (x : Axis) (n : ℕ) (p : Passed x) where
  -- no limit is enough for an arrival that is not after the delay
  pub too-early : n ≤ delay x → raise_of q x n ≡ None
  too-early h = raise-missing q x n p (early q)
    where
      early : (q : Limit) → reachable (with_limit q (highest q) x) n ≡ false
      early Acceleration = sym (and_no (ltb (delay x) n) _ (ltb_no h))
      early Speed = sym (and_no (ltb (delay x) n) _ (ltb_no h))

  pub of-task : (t : Task) → TaskIs x n t → least_raise q t ≡ raise_of q x n
  unfolding least_raise raise_of
  of-task t is = go q
    where
      go : (q : Limit) → least_from (λ r. enough_with q t (limit_in q t + r)) 1 (highest q - limit_in q t)
          ≡ least_from (λ r. reachable (with_limit q (limit_of q x + r) x) n) 1 (highest q - limit_of q x)
      go Acceleration =
          ap₂ (λ (l a : ℕ). least_from (λ r. enough t l (a + r)) 1 (65536 - a)) is.speed is.acceleration
          ∙ same-least _ _ 1 (65536 - acceleration_limit x)
          (λ i h k. sym (is.decides (speed_limit x) (acceleration_limit x + i) (speed-limit x p) (omega arith)))
      go Speed =
          ap₂ (λ (l a : ℕ). least_from (λ r. enough t (l + r) a) 1 (1048576 - l)) is.speed is.acceleration
          ∙ same-least _ _ 1 (1048576 - speed_limit x)
          (λ i h k. sym (is.decides (speed_limit x + i) (acceleration_limit x) (omega arith) (some-acceleration x p)))
