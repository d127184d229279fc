use Prim.Native.Nat.{ℕ, suc, ◌+◌}
use mathlib.Core.Path.{◌≡◌, ap, ◌∙◌}
use native.Mathlib.Numerals.{add-one}
use lib.IntN.{pos, neg_ℤ}
use mir.Syntax.{w64}
use mir.Val.{to_z, of_z}
use Rattle.whole.proofs.Bounds.{exactly, computed}
use Rattle.model.specs.planning.Leg.{Leg, sum_at}
use Rattle.theorems.proofs.legs.Envelopes.{lowest-sum, highest-sum}
use Rattle.envelopes.specs.Sums.{peak_of, trough_of}
use Rattle.profile.proofs.FeasibleParts.{ends-joined}
use Rattle.envelopes.proofs.EnvelopeSums.{sums_same}
use Rattle.envelopes.proofs.sums.envelope_sums.Goals as goal

pub returns : goal.returns
returns c =
    let p = c.p.inside in
    let q = c.requires in
    let g = c.args.p in
    let n = p.acceleration_limit in
    let t = p.ticks in
    let ws = c.p.invariant.start in
    let we = c.p.invariant.end in
    let s : to_z w64 (of_z w64 p.start) ≡ p.start = exactly (search computed depth 9) tt in
    let e : to_z w64 (of_z w64 p.end) ≡ p.end = exactly (search computed depth 9) tt in
    let lowest-is : to_z w64 (of_z w64 c.negative.result) ≡ neg_ℤ (pos g.speed_limit) =
    exactly (search computed depth 9) tt ∙ ap (λ (l : Leg). neg_ℤ (pos l.speed_limit)) c.p.view_is in
    let highest-is : to_z w64 (of_z w64 c.signed.result) ≡ pos g.speed_limit =
    exactly (search computed depth 9) tt ∙ ap (λ (l : Leg). pos l.speed_limit) c.p-2.view_is in
    let trough : (u : ℕ)
    → trough_of n (to_z w64 (of_z w64 p.start)) (to_z w64 (of_z w64 p.end)) u
    ≡ trough_of g.acceleration_limit g.start g.end u =
    λ u. (λ i. trough_of n (s i) (e i) u)
    ∙ ap (λ (l : Leg). trough_of l.acceleration_limit l.start l.end u) c.p.view_is in
    let peak : (u : ℕ)
    → peak_of n (to_z w64 (of_z w64 p.start)) (to_z w64 (of_z w64 p.end)) u
    ≡ peak_of g.acceleration_limit g.start g.end u =
    λ u. (λ i. peak_of n (s i) (e i) u)
    ∙ ap (λ (l : Leg). peak_of l.acceleration_limit l.start l.end u) c.p.view_is in
    let now = ap (λ (l : Leg). l.ticks) c.p.view_is in
    let later = add-one t ∙ ap suc now in
    sums_same
    (exactly (search computed depth 9) tt ∙ ap (sum_at g) lowest-is ∙ lowest-sum g)
    (exactly (search computed depth 9) tt ∙ ap (sum_at g) highest-is ∙ highest-sum g (ends-joined g q.ends))
    (exactly (search computed depth 9) tt ∙ trough t ∙ ap (trough_of g.acceleration_limit g.start g.end) now)
    (exactly (search computed depth 9) tt ∙ trough (t + 1) ∙ ap (trough_of g.acceleration_limit g.start g.end) later)
    (exactly (search computed depth 9) tt ∙ peak t ∙ ap (peak_of g.acceleration_limit g.start g.end) now)
    (exactly (search computed depth 9) tt ∙ peak (t + 1) ∙ ap (peak_of g.acceleration_limit g.start g.end) later)
