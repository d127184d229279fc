use Prim.Native.Nat.{ℕ, ◌+◌, ◌*◌, ◌≤◌, ◌<◌}
use mathlib.Core.Path.{◌≡◌, refl, sym, subst, ap, ap₂, ◌∙◌}
use native.Mathlib.Omega.{arith}
use native.Mathlib.Nat.{mul_comm, mul-le-mul_left}
use Rattle.std.specs.Prelude.{min, max}
use Rattle.std.specs.Int.{div_ceil}
use Rattle.model.specs.declared.Limit.{Limit}
use Rattle.model.specs.declared.Limit.TheVariants.{Acceleration, Speed}
use Rattle.least_limit.specs.declared.Task.{Task}
use Rattle.std.proofs.lemmas.Grind.{div_ceil_times}
use Rattle.least_limit.specs.Limits.{limit_in, need, unit, TaskRanged, FirstAllowed}
use Rattle.least_limit.proofs.Cases.{by-min, by-max}
use Rattle.least_limit.proofs.first_allowed.Goals as goal

mul-positive : (a b : ℕ) → 0 < a → 0 < b → 0 < a * b
mul-positive a b h k = let most = mul-le-mul_left a (let e : 1 ≤ b = k in e) in omega (arith, most, h)

-- l is the least with n within u times it
enough : (n u l r : ℕ) → n ≤ l * u → l ≤ r → n ≤ u * r
enough n u l r h k = omega (arith, h, mul-le-mul_left u k, mul_comm u l)

short : (n u l k : ℕ) → l * u < n + u → k < l → u * k < n
short n u l k h i =
    let more : k + 1 ≤ l = omega (arith, i) in
    let most = mul-le-mul_left u more in
    omega (arith, h, most, mul_comm u l)

some-unit : (q : Limit) (t : Task) → TaskRanged t → 0 < unit q t
some-unit Acceleration t r = mul-positive t.steps t.ticks r.one r.some
some-unit Speed t r = r.one

module _ (q : Limit) (t : Task) (after : ℕ) (lim : limit_in q t < after) (some : 0 < unit q t) where
  n : ℕ
  n = need q t

  u : ℕ
  u = unit q t

  l : ℕ
  l = div_ceil n u

  next : ℕ
  next = limit_in q t + 1

  -- of a value from the least on that the ends allow and from the next on, which is one of the two
  allowed : (r : ℕ) → l ≤ r → next ≤ r → ((k : ℕ) → next ≤ k → k < r → k < l) → (s : ℕ) → s ≤ r → s ≤ after
      → limit_in q t < s → (s < after → s ≡ r) → FirstAllowed q t after s
  unfolding n u l next
  allowed r h i below s m o p e = record {
    low = p;
    high = o;
    enough = λ z. enough (need q t) (unit q t) l s (div_ceil_times (need q t) (unit q t) some).0
        (omega (arith, h, e z));
    short = λ k a b. short (need q t) (unit q t) l k (div_ceil_times (need q t) (unit q t) some).1
        (below k (omega (arith, a)) (omega (arith, b, m)));
  }

  first-is : FirstAllowed q t after (min (max l next) after)
  unfolding n u l next
  first-is =
      by-max (λ r. FirstAllowed q t after (min r after)) l next
      (λ h. capped l (omega arith) h (λ k a b. b))
      (λ h. capped next h (omega arith) (λ k a b. absurd (omega arith)))
    where
      capped : (r : ℕ) → l ≤ r → next ≤ r → ((k : ℕ) → next ≤ k → k < r → k < l) → FirstAllowed q t after (min r after)
      capped r h i below = by-min (FirstAllowed q t after) r after
          (λ k. allowed r h i below r (omega arith) k (omega (arith, i)) (λ z. refl))
          (λ k. allowed r h i below after k (omega arith) lim (λ z. absurd (omega arith)))

pub returns : goal.returns
unfolding l n u next
returns c =
    let a = c.args in
    let some = some-unit a.limit a.t c.requires.task_ranged in
    subst (FirstAllowed a.limit a.t a.after)
    (sym (c.min.ensures
    ∙ ap (λ (m : ℕ). min m a.after)
    (c.max.ensures
    ∙ ap₂ max (c.div_ceil-least.ensures ∙ ap₂ div_ceil c.need.ensures c.unit.ensures)
    (ap (λ (k : ℕ). k + 1) c.limit_in-next.ensures))))
    (first-is a.limit a.t a.after c.requires.t_bound some)
