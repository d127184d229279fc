use native.Mathlib.Omega.{arith}
use mathlib.Core.Path.{◌≡◌, sym, ap, ◌∙◌}
use lib.ListN.{length, take, length-set}
use lib.Seq.{take-length}
use Rattle.model.specs.calls.Tour.{leg_axes}
use lib.IntN.{pos}
use Rattle.stops.specs.Parts.{no_limits}
use Rattle.stops.proofs.LegLists.{legs-next, legs-long}
use Rattle.stops.proofs.leg_axes.Goals as goal

pub loop-i-preserved : goal.loop-i-preserved
loop-i-preserved c =
    let h = c.loop-i in
    let a = c.args in
    let v = h.invariant in
    let x = c.leg_axis in
    let legs = legs-long a.limits a.here a.there 6 v.limits v.starts v.ends in
    record {
      limits = v.limits;
      starts = v.starts;
      ends = v.ends;
      long = length-set h.axes h.i x.result ∙ v.long;
      front =
          legs-next a.limits a.here a.there h.axes h.i x.result no_limits (pos 0) (pos 0)
          (omega (arith, v.limits)) (omega (arith, v.starts))
          (omega (arith, v.ends)) (omega (arith, legs)) (omega (arith, v.long)) x.ensures v.front;
    }

pub returns : goal.returns
returns c =
    let h = c.loop-i in
    let a = c.args in
    let v = h.invariant in
    let g = leg_axes a.limits a.here a.there in
    let legs = legs-long a.limits a.here a.there 6 v.limits v.starts v.ends in
    let all : h.i ≡ length h.axes = omega (arith, v.long) in
    let both : h.i ≡ length g = omega (arith, legs) in
    sym (take-length h.axes)
    ∙ ap (λ k. take k h.axes) (sym all)
    ∙ v.front
    ∙ ap (λ k. take k g) both
    ∙ take-length g
