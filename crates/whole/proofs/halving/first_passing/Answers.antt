use Prim.Native.Nat.{ℕ, ◌+◌, ◌≤◌, ◌<◌}
use mathlib.Core.Path.{◌≡◌, sym, ap, subst, ◌∙◌}
use mathlib.Core.Bool.{Bool, true, false}
use mathlib.Core.Logic.{inl, inr}
use native.Mathlib.Omega.{arith}
use lib.Dec.{T}
use Rattle.whole.specs.Candidates.{Next, LastingTo}
use Rattle.whole.proofs.Tests.{T_true, T_false, lt-or-le}
use Rattle.whole.proofs.halving.first_passing.Goals as goal

-- the candidate after one that fails, where that one or one past the last is next
after : (test : ℕ → Bool) (first last r : ℕ) → first ≤ r → r ≤ last → LastingTo test first last → test r ≡ false
    → (r + 1 ≤ last → test (r + 1) ≡ true) → Next test first last (r + 1)
after test first last r from to on e passed =
    record { low = omega arith; high = omega arith; missed = missed; passed = passed }
  where
    missed : (k : ℕ) → first ≤ k → k < r + 1 → test k ≡ false
    missed k p q = T_false (test k) (λ t. subst T (sym (on k r p (omega arith) to (T_true (test k) t)) ∙ e) tt)

pub returns-clause-next : goal.returns-clause-next
returns-clause-next g c test first told e from on =
    let a = c.args in
    let n = c.failing_near.ensures in
    let r = c.failing_near.result in
    let k = n.near.0 in
    let next : k ≡ r + 1 = omega (arith, n.near.1, n.near.2) in
    let failed : test r ≡ false =
    elim (lt-or-le a.failing r) [
      | inl h ↦ sym (told r false h n.high (n.failed h))
      | inr h ↦ (let same : r ≡ a.failing = omega (arith, n.low) in ap test same ∙ e)
    ] in
    after test first a.last r (omega (arith, n.low)) n.high on failed
    (λ l.
    let to : k ≤ a.last = omega arith in
    sym (ap test next) ∙ sym (told k true (omega (arith, n.low, n.near.1)) to (n.near.4 to)))
