use Prim.Native.Nat.{ℕ, ◌≤◌, ◌<◌}
use mathlib.Core.Path.{◌≡◌, sym, ap, subst, ◌∙◌}
use mathlib.Core.Bool.{false}
use native.Mathlib.Numerals.{add-one}
use native.Mathlib.Omega.{arith}
use lib.IntN.{pos}
use mir.Syntax.{w64}
use mir.Val.{to_z, of_z}
use Rattle.whole.proofs.Bounds.{exactly, exact, computed}
use Rattle.model.specs.planning.Leg.{Leg}
use Rattle.theorems.proofs.legs.Envelopes.{Joined}
use Rattle.profile.specs.Profiles.{Ranged, Joinable}
use Rattle.envelopes.specs.Sums.{envelope_sums_at, stepped, SumsRanged, with_ticks, between}
use Rattle.profile.proofs.FeasibleParts.{ends-joined}
use Rattle.envelopes.proofs.EnvelopeSums.{more-ticks, step_is, sums-ranged}
use Rattle.envelopes.proofs.NextTicks.{between_is, missed-next}
use Rattle.std.proofs.Common.{rules}
use Rattle.envelopes.proofs.next_between.Goals as goal
use Rattle.envelopes.proofs.next_between.Goals.{else-loop-t-test, then-loop-t-test+else-within_sums+else-t-stop}

joined : (p : Leg) → Joinable p → (t : ℕ) → p.ticks ≤ t → Joined (with_ticks p t)
joined p j t h = more-ticks p t (ends-joined p j.ends) h

pub returns-then-within_sums : goal.returns-then-within_sums
returns-then-within_sums c =
    let a = c.args in
    let l = c.loop-t in
    let tested =
    c.within_sums.ensures
    ∙ between_is a.sought a.p l.t (joined a.p c.requires.joinable l.t l.invariant.low)
    l.sums l.invariant.are _ (exactly (search exact depth 9) tt) in
    record {
      low = l.invariant.low;
      high = omega (arith, c.loop-t-test.true, c.min-stop.ensures);
      missed = l.invariant.missed;
      passed = λ h. sym tested ∙ c.if-within_sums.true;
    }

pub step-sums-requires-clause-sums_ranged : goal.step-sums-requires-clause-sums_ranged
step-sums-requires-clause-sums_ranged c =
    let a = c.args in
    let q = c.requires in
    let r = subst Ranged c.p.view_is c.p.invariant in
    let l = c.loop-t in
    let longer = joined a.p q.joinable l.t l.invariant.low in
    let ranged = sums-ranged (with_ticks a.p l.t) longer q.joinable.acceleration r.speed_limit
    r.acceleration_limit in
    subst SumsRanged (sym l.invariant.are)
    (ranged (omega (arith, c.loop-t-test.true, c.min-stop.ensures, q.last_bound)))

pub loop-t-preserved : goal.loop-t-preserved
loop-t-preserved c =
    let a = c.args in
    let q = c.requires in
    let l = c.loop-t in
    let g = a.p in
    let j = joined a.p q.joinable l.t l.invariant.low in
    let some : 0 < l.t = omega (arith, l.invariant.low, q.joinable.some) in
    let speed-is : to_z w64 (of_z w64 c.signed-speed.result) ≡ pos a.p.speed_limit =
    exactly (search computed depth 9) tt
    ∙ ap (λ (l : Leg). pos l.speed_limit) c.p.view_is in
    let steep-is : to_z w64 (of_z w64 c.signed-steep.result) ≡ pos a.p.acceleration_limit =
    exactly (search computed depth 9) tt ∙ ap (λ (l : Leg). pos l.acceleration_limit) c.p.view_is in
    let tested =
    c.within_sums.ensures
    ∙ between_is a.sought g l.t j l.sums l.invariant.are _ (exactly (search exact depth 9) tt) in
    record {
      low = omega (arith, l.invariant.low);
      are =
          c.step-sums.ensures
          ∙ (λ i. stepped (speed-is i) (steep-is i) (l.invariant.are i))
          ∙ step_is (with_ticks g l.t) j q.joinable.acceleration some
          ∙ ap (λ (n : ℕ). envelope_sums_at (with_ticks g n)) (sym (add-one l.t));
      missed = missed-next (between a.sought g) a.p.ticks l.t l.invariant.missed
          (sym tested ∙ c.if-within_sums.false);
    }

-- the stretch is behind, and its last candidate missed
pub returns : goal.returns
returns c =
    let a = c.args in
    let q = c.requires in
    let l = c.loop-t in
    let g = a.p in
    let first = ap (λ (l : Leg). l.ticks) c.p.view_is in
    let missed : between a.sought g c.min-stop.result ≡ false =
    elim c.loop-t-test.branch [
      | else-loop-t-test w ↦ l.invariant.missed _ (omega (arith, c.min-stop.ensures, q.ticks_le_last, first))
          (omega (arith, w.loop-t-test.false))
      | then-loop-t-test+else-within_sums+else-t-stop w ↦ (
          let at : l.t ≡ c.min-stop.result = omega (arith, w, w.loop-t-test.true) in
          let tested =
          w.within_sums.ensures
          ∙ between_is a.sought g l.t (joined a.p q.joinable l.t l.invariant.low)
          l.sums l.invariant.are _ (exactly (search exact depth 9) tt) in
          ap (between a.sought g) (sym at) ∙ sym tested ∙ w.if-within_sums.false)
    ] in
    c.first_passing.ensures.next (between a.sought g) a.p.ticks (λ k b low high p. search rules) missed
    (omega (arith, c.min-stop.ensures, q.ticks_le_last, first)) (λ j k h l m e. q.lasting j k h l e)
