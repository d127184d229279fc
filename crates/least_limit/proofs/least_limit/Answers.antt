use Prim.Native.Nat.{ℕ, suc, ◌*◌, ◌≤◌, ◌<◌}
use mathlib.Core.Path.{◌≡◌, sym, ap, ◌∙◌}
use mathlib.Core.Bool.{false}
use mathlib.Core.Logic.{◌⊎◌, inl, inr}
use native.Mathlib.Omega.{arith}
use lib.Dec.{leb}
use Rattle.whole.proofs.Tests.{lt-or-le}
use Rattle.model.specs.declared.Limit.{Limit}
use Rattle.whole.specs.Candidates.{Next}
use Rattle.least_limit.specs.declared.Task.{Task}
use Rattle.least_limit.specs.Limits as limits
use Rattle.least_limit.proofs.FallsShort.{not-allowed, other-short}
use Rattle.least_limit.proofs.least_limit.Goals as goal

-- the values before the first that allows the ends, and those that are searched
all-missed : (q : Limit) (t : Task) (after first last r : ℕ) → limits.FirstAllowed q t after first
    → Next (limits.enough_with q t) first last r
    → (k : ℕ) → suc (limits.limit_in q t) ≤ k → k < r → limits.enough_with q t k ≡ false
all-missed q t after first last r f n k h l = go (lt-or-le k first)
  where
    go : (k < first) ⊎ (first ≤ k) → limits.enough_with q t k ≡ false
    go (inl u) = not-allowed t q k (f.short k h u)
    go (inr u) = n.missed k u l

pub returns-then-not-allows : goal.returns-then-not-allows
returns-then-not-allows c =
    let a = c.args in
    let no =
    sym (c.allows.ensures
    ∙ ap (λ (q : Limit). leb (limits.need q a.t) (limits.unit q a.t * limits.limit_in q a.t)) c.other.ensures)
    ∙ c.if-not-allows.true in
    record {
      low = omega (arith, c.requires.t_bound);
      high = omega arith;
      missed = λ k h l. other-short a.t a.limit k no;
      passed = λ h. absurd (omega arith);
    }

pub returns : goal.returns
returns c =
    let a = c.args in
    let f = c.first_allowed-first.ensures in
    let first = c.first_allowed-first.result in
    let r = c.least_from.ensures in
    record {
      low = omega (arith, f.low, r.low);
      high = omega (arith, r.high);
      missed = all-missed a.limit a.t _ first _ c.least_from.result f r;
      passed = λ h. r.passed (omega arith);
    }
