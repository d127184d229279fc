use Prim.Native.Nat.{ℕ, ◌-◌}
use mathlib.Core.Path.{◌≡◌, sym, ap, ◌∙◌}
use mathlib.Core.Bool.{true}
use lib.IntN.{ℤ, pos, neg_ℤ}
use lib.Signed.{le_z}
use Rattle.whole.proofs.Bounds.{exactly, computed, le_is}
use Rattle.whole.proofs.Tests.{and_no, and_yes}
use Rattle.whole.specs.Integers.{sum_to}
use Rattle.model.specs.planning.Leg.{Leg, sum_at, lower, upper}
use Rattle.theorems.proofs.legs.Envelopes.{lowest-sum, highest-sum}
use Rattle.profile.specs.Profiles.{ends_allowed}
use Rattle.profile.proofs.FeasibleParts.{ends-joined}
use Rattle.cruise.proofs.Required.sum_between.Goals as goal

low : (p : Leg) (s : ℤ) {c : ℤ} → c ≡ neg_ℤ (pos p.speed_limit)
    → le_z (sum_at p c) s ≡ le_z (sum_to (lower p) (p.ticks - 1)) s
low p s e = λ i. le_z ((ap (sum_at p) e ∙ lowest-sum p) i) s

high : (p : Leg) (s : ℤ) {c : ℤ} → ends_allowed p ≡ true → c ≡ pos p.speed_limit
    → le_z s (sum_at p c) ≡ le_z s (sum_to (upper p) (p.ticks - 1))
high p s ends e = λ i. le_z s ((ap (sum_at p) e ∙ highest-sum p (ends-joined p ends)) i)

pub returns-then-lowest-self : goal.returns-then-lowest-self
returns-then-lowest-self g c =
    let p = c.args.self.now.profile in
    let s = c.args.self.now.sum in
    let fast = ap (λ (l : Leg). l.speed_limit) c.p.view_is in
    and_yes _ _
    (sym (low p s (exactly (search computed depth 9) tt ∙ ap (λ (n : ℕ). neg_ℤ (pos n)) fast)) ∙ sym
    (le_is (search computed depth 9) tt)
    ∙ c.if-lowest-self.true)
    (le_is (search computed depth 9) tt
    ∙ high p s c.args.self.now.joinable.ends
    (exactly (search computed depth 9) tt ∙ ap (λ (l : Leg). pos l.speed_limit) c.p-then-lowest-self.view_is))

pub returns-else-lowest-self : goal.returns-else-lowest-self
returns-else-lowest-self g c =
    let p = c.args.self.now.profile in
    let s = c.args.self.now.sum in
    let fast = ap (λ (l : Leg). l.speed_limit) c.p.view_is in
    c.if-lowest-self.false
    ∙ and_no _ _
    (sym (low p s (exactly (search computed depth 9) tt ∙ ap (λ (n : ℕ). neg_ℤ (pos n)) fast)) ∙ sym
    (le_is (search computed depth 9) tt)
    ∙ c.if-lowest-self.false)
