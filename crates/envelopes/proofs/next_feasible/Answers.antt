use Prim.Native.Nat.{ℕ, ◌-◌}
use mathlib.Core.Path.{sym, ap, subst, subst₂}
use mathlib.Core.Bool.{Bool, ◌&&◌}
use native.Mathlib.Omega.{arith}
use lib.IntN.{ℤ, pos, ◌+ℤ◌, ◌*ℤ◌}
use mir.Syntax.{w64}
use mir.Val.{to_z, of_z}
use Rattle.whole.specs.Candidates.{Next, Lasting}
use Rattle.whole.proofs.Bounds.{back-id}
use Rattle.model.specs.planning.Leg.{Leg}
use Rattle.profile.specs.Profiles.{ends_allowed, sum_between}
use Rattle.envelopes.specs.Sums.{with_ticks}
use Rattle.envelopes.proofs.NextTicks.{far-missed, next-later}
use Rattle.envelopes.proofs.next_feasible.Goals as goal

-- a number as the code has it
abbrev code : ℤ → ℤ
code z = to_z w64 (of_z w64 z)

-- the test of a sum that is s at n ticks and changes by d a tick
abbrev test : ℕ → Leg → ℤ → ℤ → ℕ → Bool
test n g s d t = ends_allowed (with_ticks g t) && sum_between (with_ticks g t) (s +ℤ pos (t - n) *ℤ d)

pub next_lasting-requires-clause-lasting : goal.next_lasting-requires-clause-lasting
next_lasting-requires-clause-lasting c =
    let a = c.args in
    let n = c.p.inside.ticks in
    let ticks = ap (λ (l : Leg). l.ticks) c.p.view_is in
    let r = c.near_tick-first.result in
    let x = back-id c.ranges.sum in
    let y = back-id c.ranges.change in
    subst (λ (p : Leg). Lasting (test n p (code a.sum) (code a.change)) p.ticks) (sym c.with_ticks.ensures)
    (subst₂ (λ (s d : ℤ). Lasting (test n a.p s d) r) (sym x) (sym y)
    (subst (λ (n : ℕ). Lasting (test n a.p a.sum a.change) r) (sym ticks)
    (λ j k h l e. c.requires.lasting j k (omega (arith, c.near_tick-first.ensures.low)) l e)))

pub returns : goal.returns
returns c =
    let a = c.args in
    let n = a.p.ticks in
    let g = a.p in
    let ticks = ap (λ (l : Leg). l.ticks) c.p.view_is in
    let r = c.near_tick-first in
    let q = c.next_lasting.result in
    let x = back-id c.ranges.sum in
    let y = back-id c.ranges.change in
    next-later (test n g a.sum a.change) n a.last r.result r.ensures.low
    (λ k h l. far-missed g r.result r.ensures _ k h l) q
    (subst₂ (λ (s d : ℤ). Next (test n g s d) r.result a.last q) x y
    (subst₂ (λ (n : ℕ) (p : Leg). Next (test n p (code a.sum) (code a.change)) p.ticks a.last q)
    ticks c.with_ticks.ensures c.next_lasting.ensures))
